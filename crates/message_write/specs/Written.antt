-- The messages of 004 clause 9.2 and the pieces of their lists: which bytes are written, and what the writers answer.
use Rattle.std.specs.Prelude.{ℕ, ◌+◌, Bool, ◌&&◌, List, ◌∷◌, eqb, length, get_or}
use Rattle.rows.specs.Rows.{over}
use Rattle.message_formats.specs.declared.Shape.{Shape}
use Rattle.message_formats.specs.Formats.{rest_of}
use Rattle.message_fields.specs.Fields.{fields, are_allowed}
use Rattle.message_fields_write.specs.Bodies.{body_bytes, body_long, number_for, given}
use Rattle.message_pieces.specs.Pieces.{rest_long, fits_rest}
use Rattle.message_codes.specs.Codes.{shape_of}
use Rattle.message_read.specs.Messages.{head_of}

-- what was lent holds the bytes at its front, or what it held
unfoldable pub written_over : ℕ → ℕ → List ℕ → List ℕ → List ℕ
written_over number long bytes old = given number (over 0 long bytes old) old

-- ---- a message: the shape goes by the first value
unfoldable pub shape_for : ℕ → List ℕ → Shape
shape_for code values = shape_of code (get_or values 0 0)

-- reserved bytes and bits are written zero
unfoldable pub message_bytes : ℕ → List ℕ → List ℕ → List ℕ
message_bytes code values rest = code ∷ 0 ∷ body_bytes (shape_for code values) values rest

unfoldable pub message_long : ℕ → List ℕ → List ℕ → ℕ
message_long code values rest = head_of (shape_for code values) + length rest

-- values and bytes that a message can carry
unfoldable pub carries : ℕ → List ℕ → List ℕ → Bool
carries code values rest = are_allowed (fields (shape_for code values)) values && fits_rest (rest_of (shape_for code values)) values rest

unfoldable pub write_number : ℕ → List ℕ → List ℕ → List ℕ → ℕ
write_number code values rest old = number_for (message_long code values rest) (carries code values rest) old

-- ---- a piece
unfoldable pub carries_piece : Shape → List ℕ → List ℕ → Bool
carries_piece shape values rest = are_allowed (fields shape) values && eqb (length rest) (rest_long (rest_of shape) values)

unfoldable pub write_piece_number : Shape → List ℕ → List ℕ → List ℕ → ℕ
write_piece_number shape values rest old = number_for (body_long shape rest) (carries_piece shape values rest) old
