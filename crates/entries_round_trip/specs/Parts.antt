-- The parts of a list, as what their pieces hold: written one after the other, and read one by one.
use Rattle.std.specs.Prelude.{ℕ, zero, suc, ◌≡◌, true, List, [], ◌∷◌, ◌++◌, length, take, drop}
use Rattle.message_formats.specs.declared.Shape.{Shape}
use Rattle.message_formats.specs.declared.Part.{Part}
use Rattle.message_formats.specs.Formats.{rest_of}
use Rattle.message_fields.specs.Fields.{values_of, head_long}
use Rattle.message_pieces.specs.Pieces.{rest_long, first, second, behind, part_long}
use Rattle.message_fields_write.specs.Bodies.{body_bytes}
use Rattle.message_write.specs.Written.{carries_piece}

-- what a piece holds: the values of its fields, and the bytes behind them
pub record PieceHeld : Type 0 where
  pub values : List ℕ
  pub rest : List ℕ

pub record PartHeld : Type 0 where
  pub front : PieceHeld
  pub back : PieceHeld

-- ---- written
unfoldable pub piece_bytes : Shape → PieceHeld → List ℕ
piece_bytes shape piece = body_bytes shape piece.values piece.rest

unfoldable pub part_bytes : Part → PartHeld → List ℕ
part_bytes part held = piece_bytes (first part) held.front ++ piece_bytes (second part) held.back

-- what a piece can carry: seven values, each of which may stand in its field, and as many bytes as they say
pub record PieceCarried (shape : Shape) (piece : PieceHeld) : Type 0 where
  pub seven : length piece.values ≡ 7
  pub carried : carries_piece shape piece.values piece.rest ≡ true

pub record PartCarried (part : Part) (held : PartHeld) : Type 0 where
  pub front : PieceCarried (first part) held.front
  pub back : PieceCarried (second part) held.back

-- ---- read
unfoldable pub piece_held_in : Shape → List ℕ → PieceHeld
piece_held_in shape b =
    record { values = values_of shape b; rest = take (rest_long (rest_of shape) (values_of shape b)) (drop (head_long shape) b) }

unfoldable pub part_held_in : Part → List ℕ → PartHeld
part_held_in part b = record { front = piece_held_in (first part) b; back = piece_held_in (second part) (behind part b) }

-- so many parts, one after the other
unfoldable pub parts_in : Part → ℕ → List ℕ → List PartHeld
parts_in part zero b = []
parts_in part (suc n) b = part_held_in part b ∷ parts_in part n (drop (part_long part b) b)
