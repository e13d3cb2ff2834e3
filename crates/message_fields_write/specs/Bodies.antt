-- A body is the fields of a message or of a piece, and the bytes that follow them: which bytes are written, and what a writer answers.
use Rattle.std.specs.Prelude.{ℕ, ◌+◌, Bool, cond, List, ◌++◌, eqb, ltb, length, Result}
use Rattle.module_state.specs.Numbers as No
use Rattle.module_state.specs.Numbers.{◌when◌, ◌unless◌, ◌▸◌}
use Rattle.module_state.specs.Refusals.{number_of, place_in}
use Rattle.module_state.specs.declared.Refusal.{Refusal}
use Rattle.message_formats.specs.declared.Shape.{Shape}
use Rattle.message_fields.specs.Fields.{fields, head_long, field_bytes}

unfoldable pub body_bytes : Shape → List ℕ → List ℕ → List ℕ
body_bytes shape values rest = field_bytes (fields shape) values ++ rest

unfoldable pub body_long : Shape → List ℕ → ℕ
body_long shape rest = head_long shape + length rest

-- of so many bytes, where what was handed in can be carried or not: the room (15) is asked before what a message can carry (14)
unfoldable pub number_for : ℕ → Bool → List ℕ → ℕ
number_for long carried old =
    No.room when ltb (length old) long
    ▸ No.message unless carried

-- what is handed out: where the number is another than 0, everything stays as it was
unfoldable pub given : {A : Type 0} → ℕ → A → A → A
given number value before = cond (eqb number No.done) value before

-- the number, and how many bytes were written: 0 where it is refused
pub record Written : Type 0 where
  pub number : ℕ
  pub long : ℕ

unfoldable pub written : ℕ → ℕ → Written
written number long = record { number = number; long = given number long 0 }

-- as the code answers it
abbrev pub written_in : Result ℕ Refusal → Written
written_in answer = record { number = number_of answer; long = place_in answer }
