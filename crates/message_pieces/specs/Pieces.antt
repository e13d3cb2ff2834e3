-- What follows the fields of a message: bytes, or the parts of a list. A part is one piece or two, each with fields and the bytes that they say.
use Rattle.std.specs.Prelude.{ℕ, zero, suc, ◌+◌, Bool, false, cond, ◌&&◌, List, eqb, leb, length, get_or, drop, Option, Some, None}
use Rattle.message_formats.specs.declared.Shape.{Shape}
use Rattle.message_formats.specs.declared.Shape.TheVariants.{Plain, VersionPiece, ProcessPiece, OwnerPiece, PolicyPiece, ResetPiece}
use Rattle.message_formats.specs.declared.Part.{Part}
use Rattle.message_formats.specs.declared.Part.TheVariants.{VersionEntry, ProcessInfo, Owner, Policy, ResetElement}
use Rattle.message_formats.specs.declared.Rest.{Rest}
use Rattle.message_formats.specs.declared.Rest.TheVariants.{Exactly, Said, SaidTo, Parts, Never}
use Rattle.message_formats.specs.Formats.{rest_of}
use Rattle.message_fields.specs.Fields.{fields, head_long, values_of, are_allowed}
use Rattle.message_pieces.specs.declared.Piece.{Piece}

-- ---- a piece at the front of bytes

-- how many bytes follow the fields of a piece
unfoldable pub rest_long : Rest → List ℕ → ℕ
rest_long (Exactly n) values = n
rest_long (Said at) values = get_or values at 0
rest_long (SaidTo at limit) values = 0
rest_long (Parts part at) values = 0
rest_long Never values = 0

unfoldable pub piece_long : Shape → List ℕ → ℕ
piece_long shape b = head_long shape + rest_long (rest_of shape) (values_of shape b)

-- "the length before the fields"
unfoldable pub is_piece : Shape → List ℕ → Bool
is_piece shape b = leb (piece_long shape b) (length b) && are_allowed (fields shape) (values_of shape b)

-- none where no piece stands
unfoldable pub piece_in : Shape → List ℕ → Option Piece
piece_in shape b =
    cond (is_piece shape b)
    (Some (record { values = values_of shape b; rest = head_long shape; long = piece_long shape b }))
    None

-- ---- a part at the front of bytes: its first piece, and the one behind it, which has no bytes where the part is one piece
unfoldable pub first : Part → Shape
first VersionEntry = VersionPiece
first ProcessInfo = ProcessPiece
first Owner = OwnerPiece
first Policy = OwnerPiece
first ResetElement = OwnerPiece

unfoldable pub second : Part → Shape
second VersionEntry = Plain
second ProcessInfo = Plain
second Owner = Plain
second Policy = PolicyPiece
second ResetElement = ResetPiece

-- the bytes behind the first piece
unfoldable pub behind : Part → List ℕ → List ℕ
behind part b = drop (piece_long (first part) b) b

unfoldable pub is_part : Part → List ℕ → Bool
is_part part b = is_piece (first part) b && is_piece (second part) (behind part b)

unfoldable pub part_long : Part → List ℕ → ℕ
part_long part b = piece_long (first part) b + piece_long (second part) (behind part b)

-- what is answered of it: how long it is, none where it is none
unfoldable pub part_in : Part → List ℕ → Option ℕ
part_in part b = cond (is_part part b) (Some (part_long part b)) None

-- so many parts, one after the other, and nothing behind them
unfoldable pub are_parts : Part → ℕ → List ℕ → Bool
are_parts part zero b = eqb (length b) 0
are_parts part (suc n) b = is_part part b && are_parts part n (drop (part_long part b) b)

-- ---- what follows the fields of a message, up to its end
unfoldable pub fits_rest : Rest → List ℕ → List ℕ → Bool
fits_rest (Exactly n) values b = eqb (length b) n
fits_rest (Said at) values b = eqb (length b) (get_or values at 0)
fits_rest (SaidTo at limit) values b = leb (get_or values at 0) (length b) && leb (length b) limit
fits_rest (Parts part at) values b = are_parts part (get_or values at 0) b
fits_rest Never values b = false
