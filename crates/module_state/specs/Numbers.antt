-- "Numbers a call can answer"
use Rattle.std.specs.Prelude.{ℕ, ◌≡◌, Bool, true, cond, ◌||◌, eqb, leb}

abbrev pub done : ℕ
done = 0

abbrev pub argument : ℕ
argument = 1

abbrev pub session : ℕ
session = 2

abbrev pub no_version : ℕ
no_version = 3

abbrev pub version : ℕ
version = 4

abbrev pub credential : ℕ
credential = 5

abbrev pub no_process : ℕ
no_process = 6

abbrev pub already_active : ℕ
already_active = 7

abbrev pub verdict : ℕ
verdict = 8

abbrev pub out_of_turn : ℕ
out_of_turn = 9

abbrev pub not_granted : ℕ
not_granted = 10

abbrev pub full : ℕ
full = 11

abbrev pub name_taken : ℕ
name_taken = 12

abbrev pub spent : ℕ
spent = 13

abbrev pub message : ℕ
message = 14

abbrev pub room : ℕ
room = 15

-- order 7: "18 when a user claim gets the third answer"
abbrev pub only_elevated : ℕ
only_elevated = 18

-- all of them, and no others
abbrev pub is_known : ℕ → Bool
is_known n = leb n room || eqb n only_elevated

pub record IsKnown (n : ℕ) : Type 0 where
  pub is : is_known n ≡ true

-- "Each is given exactly on its condition, at its place in the order."
infix 25 ◌when◌
infix 25 ◌unless◌
infixr 20 ◌▸◌
-- a number on its condition; 0 says that the condition does not hold
unfoldable pub ◌when◌ : ℕ → Bool → ℕ
n when b = cond b n done

unfoldable pub ◌unless◌ : ℕ → Bool → ℕ
n unless b = cond b done n

-- a number, or where that is 0 the next: in a row of tests, the number of the first whose condition holds
unfoldable pub ◌▸◌ : ℕ → ℕ → ℕ
n ▸ m = cond (eqb n done) m n
