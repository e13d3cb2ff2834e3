-- No message is missing, and none is there that Tables 16 and 17 have not. Assumes nothing.
use Prim.Native.Nat.{ℕ, zero, suc}
use mathlib.Core.Path.{◌≡◌, refl, sym, ap, ◌∙◌}
use mathlib.Core.Bool.{Bool, true, false, true≢false}
use mathlib.Core.List.{List, [], ◌∷◌, ◌++◌, map}
use lib.Dec.{eqb}
use lib.ListN.{get_or, replicate}
use Rattle.lists.specs.Lists.{any, select, padded}
use Rattle.message_formats.specs.declared.Shape.{Shape}
use Rattle.message_formats.specs.declared.Shape.TheVariants.{NoMessage}
use Rattle.message_formats.specs.declared.Rest.{Rest}
use Rattle.message_formats.specs.declared.Rest.TheVariants.{Exactly, Said, SaidTo, Parts, Never}
use Rattle.message_formats.specs.Formats.{rest_of}
use Rattle.message_formats.proofs.ByName.{Line, message_lines, piece_lines}
use Rattle.lists.specs.Each.{Each, each_nil, each-cons}
use Rattle.lists.proofs.Each.{each-imp}
use Rattle.message_codes.specs.Codes.{Meaning, find, operations, errors, requests, responses, shape_of, pieces, piece_of}

abbrev pub table-16 : List ℕ
table-16 = 0x81 ∷ 0x82 ∷ 0x83 ∷ 0x84 ∷ 0x85 ∷ 0x86 ∷ 0x87 ∷ 0x88 ∷ 0x89 ∷ 0x8a ∷ 0x8b ∷ 0x8c ∷ 0x8d ∷ 0x8e ∷ 0x8f ∷ []

abbrev pub table-17 : List ℕ
table-17 = 0x01 ∷ 0x02 ∷ 0x03 ∷ 0x04 ∷ 0x05 ∷ 0x06 ∷ 0x07 ∷ 0x08 ∷ 0x09 ∷ 0x0a ∷ 0x0b ∷ 0x0c ∷ 0x0d ∷ 0x0e ∷ 0x0f ∷ 0x7f ∷ []

-- the lists have their codes, in their order
pub requests-all : (chooser : ℕ) → map (λ (e : Meaning). e.code) (requests chooser) ≡ table-16
unfolding requests
requests-all chooser = refl

pub responses-all : (chooser : ℕ) → map (λ (e : Meaning). e.code) (responses chooser) ≡ table-17
unfolding responses
responses-all chooser = refl

-- of the shapes, that of no message alone never ends
abbrev pub ends : Rest → Bool
ends (Exactly n) = true
ends (Said at) = true
ends (SaidTo at most) = true
ends (Parts part at) = true
ends Never = false

is-message : (shape : Shape) → ends (rest_of shape) ≡ true → shape ≡ NoMessage → ⊥
unfolding rest_of
is-message shape h e = true≢false (sym h ∙ ap (λ l. ends (rest_of l)) e)

-- and each is a message, where the chooser is 1: a change, and the first error
pub none-missing : Each (λ (code : ℕ). shape_of code 1 ≡ NoMessage → ⊥) (table-16 ++ table-17)
unfolding rest_of shape_of find operations errors requests responses
none-missing = each-imp (λ code. is-message (shape_of code 1)) all where
  all : Each (λ (code : ℕ). ends (rest_of (shape_of code 1)) ≡ true) (table-16 ++ table-17)
  all = search (each_nil, each-cons) depth 34

-- ---- by computation: what the bytes 0 to 255 are, and that each line of the messages by name has its shape
abbrev pub bytes_from : ℕ → ℕ → List ℕ
bytes_from n zero = []
bytes_from n (suc m) = n ∷ bytes_from (suc n) m

abbrev pub codes : List ℕ
codes = bytes_from 0 256

abbrev pub is_one : Shape → Bool
is_one shape = ends (rest_of shape)

pub record Codes : Type 0 where
  -- no other byte is the code of a message; of SET_CRED_ID_PARAMS, SET_AUTH_POLICY and AUTH_ERROR no other is an operation or an error
  pub codes-are : select (λ (code : ℕ). is_one (shape_of code 1)) codes ≡ table-17 ++ table-16
  pub credential-operations : select (λ (n : ℕ). is_one (shape_of 0x83 n)) codes ≡ 1 ∷ 2 ∷ 3 ∷ []
  pub policy-operations : select (λ (n : ℕ). is_one (shape_of 0x85 n)) codes ≡ 1 ∷ 2 ∷ 3 ∷ []
  pub errors-are : select (λ (n : ℕ). is_one (shape_of 0x7f n)) codes ≡ 1 ∷ 2 ∷ 3 ∷ 4 ∷ 5 ∷ 6 ∷ 7 ∷ 8 ∷ 9 ∷ 0x0a ∷ 0x0b ∷ 0xff ∷ []
  -- every code has a line, and every line its shape
  pub lines-all : map (λ (code : ℕ). any (λ (l : Line). eqb l.code code) message_lines) (table-16 ++ table-17) ≡ replicate 31 true
  pub message-shapes : map (λ (l : Line). shape_of l.code (get_or l.values 0 0)) message_lines ≡ map (λ (l : Line). l.shape) message_lines
  pub piece-shapes : map (λ (l : Line). piece_of l.code) piece_lines ≡ map (λ (l : Line). l.shape) piece_lines

pub computed : Codes
unfolding any select padded rest_of find operations errors requests responses shape_of pieces piece_of
computed =
    record {
      codes-are = refl;
      credential-operations = refl;
      policy-operations = refl;
      errors-are = refl;
      lines-all = refl;
      message-shapes = refl;
      piece-shapes = refl;
    }
