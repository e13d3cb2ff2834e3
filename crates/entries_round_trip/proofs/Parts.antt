-- Lists: the parts that were written are read, one by one, and nothing is left behind them. Assumes nothing.
use Prim.Native.Nat.{ℕ}
use mathlib.Core.Path.{◌≡◌, refl}
use mathlib.Core.Bool.{true}
use mathlib.Core.List.{List, ◌++◌, map, append_assoc}
use lib.ListN.{length, get_or, drop}
use lib.Seq.{drop-drop}
use Rattle.lists.specs.Each.{Each, each_nil, each-cons}
use Rattle.lists.specs.Lists.{join}
use Rattle.lists.proofs.Tests.{and_both}
use Rattle.message_formats.specs.declared.Shape.{Shape}
use Rattle.message_formats.specs.declared.Part.{Part}
use Rattle.message_formats.specs.declared.Rest.TheVariants.{Parts}
use Rattle.message_formats.specs.Formats.{rest_of}
use Rattle.message_fields.specs.Fields.{fields, are_allowed}
use Rattle.message_pieces.specs.Pieces.{piece_long, is_piece, first, second, behind, is_part, part_long, are_parts, fits_rest}
use Rattle.message_write.specs.Written.{shape_for, message_bytes, carries}
use Rattle.entries_round_trip.specs.Parts.{PieceHeld, PartHeld, piece_bytes, part_bytes, PieceCarried, PartCarried, piece_held_in, part_held_in, parts_in}
use Rattle.entries_round_trip.specs.RoundTrip.{ReadsAs, ListReadsAs}
use Rattle.entries_round_trip.proofs.Bodies.{piece-values, piece-said, piece-taken, piece-rest, piece-behind}
use Rattle.entries_round_trip.proofs.Messages.{written-is-read}

-- ---- a piece, whatever comes behind it
module _ (shape : Shape) (piece : PieceHeld) (y : List ℕ) (c : PieceCarried shape piece) where
  taken : is_piece shape (piece_bytes shape piece ++ y) ≡ true
  unfolding piece_bytes
  taken = piece-taken shape piece.values piece.rest y c.seven c.carried

  passed : drop (piece_long shape (piece_bytes shape piece ++ y)) (piece_bytes shape piece ++ y) ≡ y
  unfolding piece_bytes
  passed = piece-behind shape piece.values piece.rest y c.seven c.carried

  held_back : piece_held_in shape (piece_bytes shape piece ++ y) ≡ piece
  unfolding piece_bytes piece_held_in
  held_back =
      rw (piece-values shape piece.values piece.rest y c.seven c.carried, ← piece-said shape piece.values piece.rest y c.seven c.carried, piece-rest shape piece.values piece.rest y c.seven c.carried)

-- ---- a part
module _ (part : Part) (held : PartHeld) (y : List ℕ) (c : PartCarried part held) where
  abbrev later : List ℕ
  later = piece_bytes (second part) held.back ++ y

  whole : part_bytes part held ++ y ≡ piece_bytes (first part) held.front ++ later
  unfolding part_bytes
  whole = append_assoc (piece_bytes (first part) held.front) (piece_bytes (second part) held.back) y

  first-passed : drop (piece_long (first part) (part_bytes part held ++ y)) (part_bytes part held ++ y) ≡ later
  first-passed = rw whole (passed (first part) held.front later c.front)

  behind-is : behind part (part_bytes part held ++ y) ≡ later
  unfolding behind
  behind-is = first-passed

  part-taken : is_part part (part_bytes part held ++ y) ≡ true
  unfolding is_part
  part-taken =
      rw (behind-is, taken (second part) held.back y c.back, whole, taken (first part) held.front later c.front)

  part-back : part_held_in part (part_bytes part held ++ y) ≡ held
  unfolding part_held_in
  part-back =
      rw (behind-is, held_back (second part) held.back y c.back, whole, held_back (first part) held.front later c.front)

  part-behind : drop (part_long part (part_bytes part held ++ y)) (part_bytes part held ++ y) ≡ y
  unfolding part_long
  part-behind =
      rw (behind-is, ← drop-drop (piece_long (second part) later) (piece_long (first part) (part_bytes part held ++ y)) (part_bytes part held ++ y), first-passed)
      (passed (second part) held.back y c.back)

-- ---- a list of parts
module _ (part : Part) where
  abbrev list_bytes : List PartHeld → List ℕ
  list_bytes l = join (map (part_bytes part) l)

  pub parts-taken : {l : List PartHeld} → Each (PartCarried part) l → are_parts part (length l) (list_bytes l) ≡ true
  unfolding are_parts join
  parts-taken each_nil = refl
  parts-taken (each-cons {x} {l} c w) = rw (part-taken part x (list_bytes l) c, part-behind part x (list_bytes l) c) (parts-taken w)

  pub parts-back : {l : List PartHeld} → Each (PartCarried part) l → parts_in part (length l) (list_bytes l) ≡ l
  unfolding parts_in join
  parts-back each_nil = refl
  parts-back (each-cons {x} {l} c w) = rw (part-back part x (list_bytes l) c, part-behind part x (list_bytes l) c, parts-back w)

-- ---- a message with a list: its count and each part are read as they were written
module _ (code : ℕ) (values : List ℕ) (part : Part) (at : ℕ) (l : List PartHeld) (listed : rest_of (shape_for code values) ≡ Parts part at) (counted : get_or values at 0 ≡ length l) (w : Each (PartCarried part) l) (allowed : are_allowed (fields (shape_for code values)) values ≡ true) where
  pub list-carried : carries code values (list_bytes part l) ≡ true
  unfolding carries fits_rest
  list-carried = and_both allowed (rw (listed, counted) (parts-taken part w))

  pub list-is-read : length values ≡ 7 → ListReadsAs code values part at l (message_bytes code values (list_bytes part l))
  list-is-read seven =
      let read : ReadsAs code values (list_bytes part l) (message_bytes code values (list_bytes part l)) = written-is-read code values (list_bytes part l) seven list-carried in
      record {
        read = read;
        parts = rw (read.behind, read.answer, counted) (parts-back part w);
      }
