-- What follows the fields of a message is one of a few kinds; for each, what has to be handed to the writer for the message to be read. Lists are in `Parts`.
-- Assumes nothing.
use Prim.Native.Nat.{ℕ, ◌+◌, ◌<◌, ◌≤◌}
use mathlib.Core.Path.{◌≡◌, refl}
use mathlib.Core.Bool.{true}
use mathlib.Core.List.{List, ◌∷◌, ◌++◌}
use native.Mathlib.Omega.{arith}
use borrow.Author.Tests.{le-leb, eq-eqb}
use lib.ListN.{length, get_or, replicate, length-append}
use Rattle.lists.specs.Lists.{padded}
use Rattle.lists.proofs.Tests.{and_both}
use Rattle.message_formats.specs.declared.Rest.TheVariants.{Exactly, Said, SaidTo}
use Rattle.message_formats.specs.Formats.{form_of, is_allowed, fields_of, rest_of}
use Rattle.message_fields.specs.Fields.{fields, are_allowed}
use Rattle.message_pieces.specs.Pieces.{fits_rest}
use Rattle.message_codes.specs.Codes.{find, errors, responses, shape_of}
use Rattle.message_write.specs.Written.{shape_for, message_bytes, carries}
use Rattle.entries_round_trip.specs.RoundTrip.{ReadsAs}
use Rattle.entries_round_trip.proofs.Messages.{written-is-read}

module _ (code : ℕ) (values rest : List ℕ) (seven : length values ≡ 7) (allowed : are_allowed (fields (shape_for code values)) values ≡ true) where
  fitting-is-read : fits_rest (rest_of (shape_for code values)) values rest ≡ true → ReadsAs code values rest (message_bytes code values rest)
  unfolding carries
  fitting-is-read h = written-is-read code values rest seven (and_both allowed h)

  -- a fixed shape: so many bytes, most often none
  pub fixed-is-read : (n : ℕ) → rest_of (shape_for code values) ≡ Exactly n → length rest ≡ n → ReadsAs code values rest (message_bytes code values rest)
  unfolding fits_rest
  fixed-is-read n kind e = fitting-is-read (rw kind (eq-eqb (length rest) n e))

  -- as many bytes as a value says
  pub said-is-read : (at : ℕ) → rest_of (shape_for code values) ≡ Said at → length rest ≡ get_or values at 0 → ReadsAs code values rest (message_bytes code values rest)
  unfolding fits_rest
  said-is-read at kind e = fitting-is-read (rw kind (eq-eqb (length rest) (get_or values at 0) e))

  -- at least as many, and at most a number
  pub said-to-is-read : (at limit : ℕ) → rest_of (shape_for code values) ≡ SaidTo at limit → get_or values at 0 ≤ length rest → length rest ≤ limit → ReadsAs code values rest (message_bytes code values rest)
  unfolding fits_rest
  said-to-is-read at limit kind low high =
      fitting-is-read (rw kind (and_both (le-leb (get_or values at 0) (length rest) low) (le-leb (length rest) limit high)))

-- the error of a vendor: the length of its id is said, and the id and what follows it are read
module _ (told : ℕ) (id more : List ℕ) (small : told < 256) (short : length id + length more ≤ 31) where
  abbrev error_values : List ℕ
  error_values = 0xff ∷ told ∷ length id ∷ replicate 4 0

  pub vendor-error-is-read : ReadsAs 0x7f error_values (id ++ more) (message_bytes 0x7f error_values (id ++ more))
  unfolding shape_for shape_of find responses errors fields padded fields_of are_allowed is_allowed form_of rest_of
  vendor-error-is-read =
      let long : length (id ++ more) ≡ length id + length more = length-append id more in
      said-to-is-read 0x7f error_values (id ++ more) refl
      (rw (le-leb 0 told (omega arith), le-leb told 255 (omega arith), le-leb 0 (length id) (omega arith), le-leb (length id) 255 (omega arith)))
      2 31 refl (omega arith) (omega arith)
