-- The listing messages are written as every message is, and so they are read. Assumes nothing.
use Prim.Native.Nat.{ℕ, ◌%◌, ◌<◌, ◌≤◌}
use mathlib.Core.Path.{◌≡◌, refl, sym}
use mathlib.Core.Bool.{true}
use mathlib.Core.List.{List, [], ◌∷◌, map, append-nil}
use native.Mathlib.Omega.{arith}
use lib.Dec.{leb}
use borrow.Author.Tests.{le-leb}
use lib.ListN.{length, length-map}
use Rattle.lists.specs.Each.{Each, each_nil, each-cons}
use Rattle.lists.specs.Lists.{join, padded}
use Rattle.lists.proofs.Tests.{and_both}
use Rattle.rows.specs.Bytes.{bytes_of}
use Rattle.names.specs.Names.{type_number, row_bytes}
use Rattle.names.specs.declared.Row.{Row}
use Rattle.names.specs.declared.RowType.{RowType}
use Rattle.names.specs.declared.RowType.TheVariants.{ActiveUser, ActiveElevation, SavedUser}
use Rattle.names.proofs.Laws.{RowFits}
use Rattle.calls.specs.Listing.{listing}
use Rattle.listing_messages.specs.Wire.{head, request}
use Rattle.message_formats.specs.declared.Field.{Field}
use Rattle.message_formats.specs.declared.Shape.{Shape}
use Rattle.message_formats.specs.declared.Shape.TheVariants.{OneCredential, ProcessList}
use Rattle.message_formats.specs.declared.Part.TheVariants.{ProcessInfo}
use Rattle.message_formats.specs.Formats.{between, form_of, is_allowed, fields_of, rest_of}
use Rattle.message_fields.specs.Fields.{fields, are_allowed, field_bytes}
use Rattle.message_pieces.specs.Pieces.{rest_long, first, second, fits_rest}
use Rattle.message_codes.specs.Codes.{find, requests, responses, shape_of}
use Rattle.message_fields_write.specs.Bodies.{body_bytes}
use Rattle.message_write.specs.Written.{shape_for, message_bytes, carries, carries_piece}
use Rattle.entries_round_trip.specs.Listing.{one_value, row_held}
use Rattle.entries_round_trip.specs.Parts.{piece_bytes, part_bytes, PartCarried}
use Rattle.entries_round_trip.specs.RoundTrip.{ReadsAs, ListReadsAs}
use Rattle.entries_round_trip.proofs.Messages.{written-is-read}
use Rattle.entries_round_trip.proofs.Parts.{list-carried, list-is-read}

-- ---- written: the same bytes
pub request-is : (credential : ℕ) → request credential ≡ message_bytes 0x8e (one_value credential) []
unfolding request head message_bytes body_bytes shape_for shape_of find requests fields padded fields_of field_bytes form_of bytes_of
request-is credential = refl

pub listing-is : (l : List Row) → listing l ≡ message_bytes 0x0e (one_value (length l)) (join (map row_bytes l))
unfolding listing message_bytes body_bytes shape_for shape_of find responses fields padded fields_of field_bytes form_of bytes_of
listing-is l = refl

-- a number of two bytes alone: every one of them may stand there
pub one-allowed : (shape : Shape) (f : Field) (n : ℕ) → form_of f ≡ between 2 0 65535 → fields_of shape ≡ f ∷ [] → n < 65536 → are_allowed (fields shape) (one_value n) ≡ true
unfolding fields padded are_allowed is_allowed form_of
one-allowed shape f n two one h = rw (one, two, le-leb 0 n (omega arith), le-leb n 65535 (omega arith))

pub request-carried : (credential : ℕ) → credential < 65536 → carries 0x8e (one_value credential) [] ≡ true
unfolding carries shape_for shape_of find requests rest_of fits_rest form_of fields_of
request-carried credential h = and_both (one-allowed OneCredential _ credential refl refl h) refl

-- what they promised stays promised: the request that is written is read with its credential
pub request-is-read : (credential : ℕ) → credential < 65536 → ReadsAs 0x8e (one_value credential) [] (request credential)
request-is-read credential h = rw (request-is credential) (written-is-read 0x8e (one_value credential) [] refl (request-carried credential h))

-- ---- the rows are the parts of a list
type-byte : (kind : RowType) → type_number kind % 256 ≡ type_number kind
type-byte ActiveUser = refl
type-byte ActiveElevation = refl
type-byte SavedUser = refl

pub row_is : (row : Row) → row_bytes row ≡ part_bytes ProcessInfo (row_held row)
unfolding row_held part_bytes piece_bytes first second body_bytes fields padded fields_of field_bytes form_of bytes_of
row_is row = rw (type-byte row.kind, append-nil row.name.bytes)

pub rows_are : (l : List Row) → join (map row_bytes l) ≡ join (map (part_bytes ProcessInfo) (map row_held l))
unfolding join
rows_are [] = refl
rows_are (row ∷ l) = rw (← row_is row, ← rows_are l)

type-low : (kind : RowType) → leb (type_number kind) 2 ≡ true
type-low ActiveUser = refl
type-low ActiveElevation = refl
type-low SavedUser = refl

row_carried : (row : Row) → RowFits row → PartCarried ProcessInfo (row_held row)
unfolding row_held carries_piece first second rest_of rest_long fields padded fields_of are_allowed is_allowed form_of
row_carried row v =
    record {
      front = record {
        seven = refl;
        carried = rw (le-leb 0 row.credential.0 (omega arith), le-leb row.credential.0 65535 (omega (arith, v.credential)), le-leb 0 (type_number row.kind) (omega arith), type-low row.kind, v.name);
      };
      back = record { seven = refl; carried = refl };
    }

rows-carried : {l : List Row} → Each RowFits l → Each (PartCarried ProcessInfo) (map row_held l)
rows-carried each_nil = each_nil
rows-carried (each-cons {x} {l} v w) = each-cons (row_carried x v) (rows-carried w)

module _ (l : List Row) (w : Each RowFits l) (small : length l ≤ 65535) where
  pub listing-is-read : ListReadsAs 0x0e (one_value (length l)) ProcessInfo 0 (map row_held l) (listing l)
  unfolding shape_for shape_of find responses rest_of form_of fields_of
  listing-is-read =
      rw (listing-is l, rows_are l)
      (list-is-read 0x0e (one_value (length l)) ProcessInfo 0 (map row_held l) refl (sym (length-map l row_held)) (rows-carried w) (one-allowed ProcessList _ (length l) refl refl (omega arith)) refl)

  pub listing-carried : carries 0x0e (one_value (length l)) (join (map row_bytes l)) ≡ true
  unfolding shape_for shape_of find responses rest_of form_of fields_of
  listing-carried =
      rw (rows_are l)
      (list-carried 0x0e (one_value (length l)) ProcessInfo 0 (map row_held l) refl (sym (length-map l row_held)) (rows-carried w) (one-allowed ProcessList _ (length l) refl refl (omega arith)))
