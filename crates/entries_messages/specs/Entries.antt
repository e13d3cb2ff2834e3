-- The entries that read and write the messages of 004 clause 9.2 and the pieces of their lists: what they answer, and what they hand out.
use Rattle.std.specs.Prelude.{ℕ, ◌≡◌, Bool, ◌&&◌, List, eqb, ltb, length}
use Rattle.rows.specs.Bytes.{byte_of}
use Rattle.module_state.specs.Numbers as No
use Rattle.module_state.specs.Numbers.{◌unless◌, ◌▸◌}
use Rattle.message_fields.specs.Fields.{value_count}
use Rattle.message_fields_write.specs.Bodies.{given}
use Rattle.message_pieces.specs.Pieces.{is_piece}
use Rattle.message_codes.specs.Codes.{piece_of}
use Rattle.message_write.specs.Written.{write_number, write_piece_number, written_over}
use Rattle.message_read.specs.Messages.{read_message}

-- ---- what is lent and handed in: seven values, and the kind of a piece
unfoldable pub are_seven : List ℕ → Bool
are_seven values = eqb (length values) value_count

abbrev pub kinds : ℕ
kinds = 5

unfoldable pub is_piece_argument : ℕ → List ℕ → Bool
is_piece_argument kind values = ltb kind kinds && are_seven values

-- ---- the numbers. A code over 255 is read as 255, which no message has
unfoldable pub read_message_number : List ℕ → List ℕ → ℕ
read_message_number message values =
    No.argument unless are_seven values
    ▸ (read_message message).number

unfoldable pub write_message_number : ℕ → List ℕ → List ℕ → List ℕ → ℕ
write_message_number code values rest old =
    No.argument unless are_seven values
    ▸ write_number (byte_of code) values rest old

unfoldable pub read_piece_number : ℕ → List ℕ → List ℕ → ℕ
read_piece_number kind bytes values =
    No.argument unless is_piece_argument kind values
    ▸ No.message unless is_piece (piece_of kind) bytes

unfoldable pub put_piece_number : ℕ → List ℕ → List ℕ → List ℕ → ℕ
put_piece_number kind values rest old =
    No.argument unless is_piece_argument kind values
    ▸ write_piece_number (piece_of kind) values rest old

-- ---- what is handed out

pub record ReadEntry (number : ℕ) (said : List ℕ) (at : ℕ) (values : List ℕ) (rest answer : ℕ) (values₁ : List ℕ) (rest₁ : ℕ) : Type 0 where
  pub number_is : answer ≡ number
  pub values-are : values₁ ≡ given number said values
  pub rest-is : rest₁ ≡ given number at rest

pub record PieceEntry (number : ℕ) (said : List ℕ) (at long : ℕ) (values : List ℕ) (rest next answer : ℕ) (values₁ : List ℕ) (rest₁ next₁ : ℕ) : Type 0 where
  pub number_is : answer ≡ number
  pub values-are : values₁ ≡ given number said values
  pub rest-is : rest₁ ≡ given number at rest
  pub next-is : next₁ ≡ given number long next

pub record WriteEntry (number long : ℕ) (bytes old : List ℕ) (written answer : ℕ) (new : List ℕ) (written₁ : ℕ) : Type 0 where
  pub number_is : answer ≡ number
  pub bytes-are : new ≡ written_over number long bytes old
  pub written_is : written₁ ≡ given number long written
