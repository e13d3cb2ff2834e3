-- The messages of 004 clause 9.2: which bytes are one, and what is read from them.
use Rattle.std.specs.Prelude.{ℕ, ◌+◌, Bool, cond, ◌&&◌, List, leb, length, get_or, drop, replicate, Option, Some, None, Result, Ok, Err}
use Rattle.module_state.specs.Numbers as No
use Rattle.module_state.specs.Refusals.{refusal_number}
use Rattle.module_state.specs.declared.Refusal.{Refusal}
use Rattle.message_formats.specs.declared.Shape.{Shape}
use Rattle.message_formats.specs.Formats.{rest_of}
use Rattle.message_fields.specs.Fields.{value_count, fields, are_allowed, head_long, values_of}
use Rattle.message_pieces.specs.Pieces.{fits_rest}
use Rattle.message_codes.specs.Codes.{shape_of}
use Rattle.message_read.specs.declared.MessageRead.{MessageRead}

-- the code is byte 0; byte 1 is reserved and "ignored on reading"; the fields begin behind it
abbrev pub fields_at : ℕ
fields_at = 2

-- the first of them is the operation or the error that the shape of some codes goes by
unfoldable pub shape_in : List ℕ → Shape
shape_in message = shape_of (get_or message 0 0) (get_or message fields_at 0)

-- the code and the reserved byte, and the fields
unfoldable pub head_of : Shape → ℕ
head_of shape = fields_at + head_long shape

unfoldable pub message_values : List ℕ → List ℕ
message_values message = values_of (shape_in message) (drop fields_at message)

-- none is: a wrong code, another length than the fields and counts say, a count that runs past the end, a value that 004 reserves in a field that enumerates
unfoldable pub is_message : List ℕ → Bool
is_message message =
    leb (head_of (shape_in message)) (length message)
    && are_allowed (fields (shape_in message)) (message_values message)
    && fits_rest (rest_of (shape_in message)) (message_values message) (drop (head_of (shape_in message)) message)

-- what a message says: what its fields say, and where the bytes or parts that follow them begin
unfoldable pub said_by : List ℕ → Option MessageRead
said_by message =
    cond (is_message message)
    (Some (record { values = message_values message; rest = head_of (shape_in message) }))
    None

-- what is answered: the number, and what the message says; where it is refused, zeros
pub record MessageAnswer : Type 0 where
  pub number : ℕ
  pub values : List ℕ
  pub rest : ℕ

abbrev pub refused : MessageAnswer
refused = record { number = No.message; values = replicate value_count 0; rest = 0 }

unfoldable pub read_message : List ℕ → MessageAnswer
read_message message =
    cond (is_message message)
    (record { number = No.done; values = message_values message; rest = head_of (shape_in message) })
    refused

-- as the code answers it
abbrev pub answer_in : Result MessageRead Refusal → MessageAnswer
answer_in (Ok read) = record { number = No.done; values = read.values; rest = read.rest }
answer_in (Err refusal) = record { number = refusal_number refusal; values = replicate value_count 0; rest = 0 }
