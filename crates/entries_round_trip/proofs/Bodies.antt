-- Fields and what follows them, of a message and of a piece: what was written is read, whatever bytes come behind. Assumes nothing.
use Prim.Native.Nat.{ℕ, ◌+◌, ◌≤◌}
use mathlib.Core.Path.{◌≡◌, refl, sym, ◌∙◌}
use mathlib.Core.Bool.{true}
use mathlib.Core.List.{List, ◌++◌, append_assoc}
use native.Mathlib.Omega.{arith}
use lib.Dec.{eqb}
use borrow.Author.Tests.{eqb-true, le-leb}
use lib.ListN.{length, get_or, take, drop, length-append}
use lib.Seq.{take_at, drop_at}
use Rattle.lists.proofs.Tests.{and_left, and_right, and_both}
use Rattle.message_formats.specs.declared.Shape.{Shape}
use Rattle.message_formats.specs.Formats.{rest_of}
use Rattle.message_fields.specs.Fields.{fields, are_allowed, field_bytes, values_of, head_long}
use Rattle.message_fields.proofs.Laws.{length_fields, bytes-length}
use Rattle.message_pieces.specs.Pieces.{rest_long, piece_long, is_piece, piece_in}
use Rattle.message_codes.proofs.Laws.{FirstByte}
use Rattle.message_fields_write.specs.Bodies.{body_bytes}
use Rattle.message_write.specs.Written.{carries_piece}
use Rattle.entries_round_trip.specs.RoundTrip.{PieceReadsAs}
use Rattle.entries_round_trip.proofs.Fields.{values-back, first_field, first_byte}

-- ---- fields whose values may stand in them, and any bytes
module _ (shape : Shape) (values rest : List ℕ) where
  head-long : length (field_bytes (fields shape) values) ≡ head_long shape
  unfolding head_long
  head-long = bytes-length (fields shape) values

  pub body-long : length (body_bytes shape values rest) ≡ head_long shape + length rest
  unfolding body_bytes
  body-long = rw (length-append, head-long)

  pub body-rest : drop (head_long shape) (body_bytes shape values rest) ≡ rest
  unfolding body_bytes
  body-rest = drop_at (field_bytes (fields shape) values) rest (head_long shape) head-long

  module _ (seven : length values ≡ 7) (allowed : are_allowed (fields shape) values ≡ true) where
    pub body-values : (y : List ℕ) → values_of shape (body_bytes shape values rest ++ y) ≡ values
    unfolding values_of body_bytes
    body-values y =
        rw (append_assoc (field_bytes (fields shape) values) rest y)
        (values-back (fields shape) values (rest ++ y) (seven ∙ sym (length_fields shape)) allowed)

    pub body-first : FirstByte shape → get_or (body_bytes shape values rest) 0 0 ≡ get_or values 0 0
    unfolding body_bytes
    body-first w =
        first_byte (fields shape) values rest (rw (first_field shape) w) (omega (arith, length_fields shape)) allowed

-- ---- a piece
module _ (shape : Shape) (values rest y : List ℕ) (seven : length values ≡ 7) (carried : carries_piece shape values rest ≡ true) where
  allowed : are_allowed (fields shape) values ≡ true
  unfolding carries_piece
  allowed = and_left (are_allowed (fields shape) values) (eqb (length rest) (rest_long (rest_of shape) values)) carried

  pub piece-said : length rest ≡ rest_long (rest_of shape) values
  unfolding carries_piece
  piece-said = eqb-true (length rest) (rest_long (rest_of shape) values) (and_right (are_allowed (fields shape) values) (eqb (length rest) (rest_long (rest_of shape) values)) carried)

  pub piece-values : values_of shape (body_bytes shape values rest ++ y) ≡ values
  piece-values = body-values shape values rest seven allowed y

  pub piece-long : piece_long shape (body_bytes shape values rest ++ y) ≡ head_long shape + length rest
  unfolding piece_long
  piece-long = rw (piece-values, piece-said)

  room : head_long shape + length rest ≤ length (body_bytes shape values rest ++ y)
  room = rw (length-append, body-long shape values rest) (omega arith)

  pub piece-taken : is_piece shape (body_bytes shape values rest ++ y) ≡ true
  unfolding is_piece
  piece-taken = rw (piece-long, piece-values) (and_both (le-leb (head_long shape + length rest) (length (body_bytes shape values rest ++ y)) room) allowed)

  -- the bytes behind its fields, and those behind it
  pub piece-rest : take (length rest) (drop (head_long shape) (body_bytes shape values rest ++ y)) ≡ rest
  unfolding body_bytes
  piece-rest =
      rw (append_assoc (field_bytes (fields shape) values) rest y, drop_at (field_bytes (fields shape) values) (rest ++ y) (head_long shape) (head-long shape values rest))
      (take_at rest y (length rest) refl)

  pub piece-behind : drop (piece_long shape (body_bytes shape values rest ++ y)) (body_bytes shape values rest ++ y) ≡ y
  piece-behind = rw piece-long (drop_at (body_bytes shape values rest) y (head_long shape + length rest) (body-long shape values rest))

  pub piece-is-read : PieceReadsAs shape values rest (body_bytes shape values rest ++ y)
  unfolding piece_in
  piece-is-read = record { answer = rw (piece-taken, piece-values, piece-long); behind = piece-rest }
