-- What was written is read: what that says of a message, of a piece, and of a buffer that a writer was lent.
use Rattle.std.specs.Prelude.{ℕ, ◌+◌, ◌≡◌, List, map, length, get_or, take, drop, Some}
use Rattle.lists.specs.Lists.{join}
use Rattle.module_state.specs.Numbers as No
use Rattle.message_formats.specs.declared.Shape.{Shape}
use Rattle.message_formats.specs.declared.Part.{Part}
use Rattle.message_fields.specs.Fields.{head_long}
use Rattle.message_pieces.specs.Pieces.{piece_in}
use Rattle.message_fields_write.specs.Bodies.{body_bytes, body_long}
use Rattle.message_write.specs.Written.{shape_for, message_bytes, message_long, write_number, written_over, write_piece_number}
use Rattle.message_read.specs.Messages.{head_of, read_message}
use Rattle.entries_round_trip.specs.Parts.{PartHeld, part_bytes, parts_in}

-- the message is read with this code and these values, and behind its fields stand these bytes
pub record ReadsAs (code : ℕ) (values rest message : List ℕ) : Type 0 where
  pub code_is : get_or message 0 0 ≡ code
  pub answer : read_message message ≡ record { number = No.done; values = values; rest = head_of (shape_for code values) }
  pub behind : drop (read_message message).rest message ≡ rest

-- and the bytes are these parts, as many as the value at a place says
pub record ListReadsAs (code : ℕ) (values : List ℕ) (part : Part) (at : ℕ) (l : List PartHeld) (message : List ℕ) : Type 0 where
  pub read : ReadsAs code values (join (map (part_bytes part) l)) message
  pub parts : parts_in part (get_or (read_message message).values at 0) (drop (read_message message).rest message) ≡ l

-- a piece at the front of bytes is read with these values, and behind its fields stand these bytes
pub record PieceReadsAs (shape : Shape) (values rest b : List ℕ) : Type 0 where
  pub answer : piece_in shape b ≡ Some (record { values = values; rest = head_long shape; long = head_long shape + length rest })
  pub behind : take (length rest) (drop (head_long shape) b) ≡ rest

-- ---- what a writer leaves in the buffer that it was lent: of a message, and of a piece
unfoldable pub buffer_after : ℕ → List ℕ → List ℕ → List ℕ → List ℕ
buffer_after code values rest old = written_over (write_number code values rest old) (message_long code values rest) (message_bytes code values rest) old

unfoldable pub buffer_after_piece : Shape → List ℕ → List ℕ → List ℕ → List ℕ
buffer_after_piece shape values rest old = written_over (write_piece_number shape values rest old) (body_long shape rest) (body_bytes shape values rest) old
