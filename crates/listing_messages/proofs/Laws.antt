-- What callers cite: reading what was written gives the same, and the reserved byte makes no difference.
-- Assumes nothing.
use Prim.Native.Nat.{ℕ, ◌*◌, ◌<◌, ◌≤◌}
use mathlib.Core.Path.{◌≡◌, refl, ap, ◌∙◌}
use mathlib.Core.Bool.{true}
use mathlib.Core.List.{List, [], ◌∷◌, map, append-nil}
use native.Mathlib.Omega.{arith}
use borrow.Author.Tests.{eq-eqb, lt-ltb, le-ltb}
use lib.Dec.{eqb, ltb}
use lib.ListN.{length, get_or, drop}
use lib.Seq.{drop-drop}
use Rattle.rows.specs.Bytes.{bytes_of, number_at}
use Rattle.rows.specs.Rows.{every}
use Rattle.rows.specs.Rows as R
use Rattle.lists.specs.Lists.{join}
use Rattle.rows.proofs.Bytes.{number_in}
use Rattle.rows.proofs.Rows.{array_long, array_row, array-fits}
use Rattle.lists.specs.Each.{Each}
use Rattle.lists.proofs.Each.{each_at}
use Rattle.lists.proofs.Tests.{and_both}
use Rattle.names.specs.Names.{row_length, row_bytes, is_row, zero_row}
use Rattle.names.specs.declared.Row.{Row}
use Rattle.names.proofs.Laws.{RowFits, row-codec}
use Rattle.module_state.specs.Numbers.{◌unless◌}
use Rattle.module_state.proofs.Laws.{pass, unless-true, unless-false}
use Rattle.calls.specs.Listing.{head_number_size, head_length, auth_processes, message_length, listing}
use Rattle.listing_messages.specs.Wire.{head, is_headed, head_number, get_auth_processes, request, request_number, read_request, row_part, is_listing, count_number, read_count, row_number, read_row_at}

-- ---- "Byte 1 is reserved: .. ignored on reading": whichever byte stands there, a message is read alike
module _ (code byte other : ℕ) (rest : List ℕ) where
  pub request-reserved : read_request (code ∷ byte ∷ rest) ≡ read_request (code ∷ other ∷ rest)
  unfolding read_request request_number is_headed head_number number_at
  request-reserved = refl

  part_same : (at : ℕ) → row_part (code ∷ byte ∷ rest) at ≡ row_part (code ∷ other ∷ rest) at
  unfolding row_part
  part_same at = rw (← drop-drop (at * row_length) head_length (code ∷ byte ∷ rest), ← drop-drop (at * row_length) head_length (code ∷ other ∷ rest))

  number_same : count_number (code ∷ byte ∷ rest) ≡ count_number (code ∷ other ∷ rest)
  unfolding count_number is_listing is_headed head_number number_at
  number_same = refl

  pub count-reserved : read_count (code ∷ byte ∷ rest) ≡ read_count (code ∷ other ∷ rest)
  unfolding read_count head_number number_at
  count-reserved = rw number_same

  pub row-reserved : (at : ℕ) → read_row_at (code ∷ byte ∷ rest) at ≡ read_row_at (code ∷ other ∷ rest) at
  unfolding read_row_at row_number head_number number_at
  row-reserved at = rw (number_same, part_same at)

-- ---- the request
pub length-request : (credential : ℕ) → length (request credential) ≡ head_length
unfolding request head bytes_of
length-request credential = refl

request-number : (credential : ℕ) → credential < 65536 → head_number (request credential) ≡ credential
unfolding request head head_number
request-number credential h = rw append-nil at (number_in head_number_size credential (get_auth_processes ∷ 0 ∷ []) [] h)

pub request-back : (credential : ℕ) → credential < 65536 → read_request (request credential) ≡ record { number = 0; credential = credential }
unfolding read_request request_number is_headed request head bytes_of ◌unless◌
request-back credential h = ap (λ (c : ℕ). record { number = 0; credential = c }) (request-number credential h)

-- ---- the response
code_is : (rows : List Row) → get_or (listing rows) 0 0 ≡ auth_processes
unfolding listing
code_is rows = refl

module _ (rows : List Row) (g : Each RowFits rows) where
  pub length-listing : length (listing rows) ≡ message_length (length rows)
  unfolding listing message_length bytes_of
  length-listing = omega (arith, array_long row-codec g)

  -- the part of each row holds it
  part-back : (at : ℕ) → at < length rows → row_part (listing rows) at ≡ row_bytes (get_or rows at zero_row)
  unfolding row_part listing bytes_of
  part-back at h = rw (← drop-drop (at * row_length) head_length (listing rows)) (rw append-nil at (array_row row-codec [] g at zero_row h))

  row_fits : (at : ℕ) → at < length rows → RowFits (get_or rows at zero_row)
  row_fits at h = each_at at zero_row h g

  module _ (small : length rows ≤ 65535) where
    count-is : head_number (listing rows) ≡ length rows
    unfolding head_number listing
    count-is = number_in head_number_size (length rows) (auth_processes ∷ 0 ∷ []) (join (map row_bytes rows)) (omega arith)

    taken : is_listing (listing rows) ≡ true
    unfolding is_listing is_headed listing bytes_of
    taken = and_both (and_both long code) each
      where
        long : eqb (length (listing rows)) (message_length (head_number (listing rows))) ≡ true
        long = eq-eqb (length (listing rows)) (message_length (head_number (listing rows))) (rw count-is length-listing)

        code : eqb (get_or (listing rows) 0 0) auth_processes ≡ true
        code = eq-eqb (get_or (listing rows) 0 0) auth_processes (code_is rows)

        each : every is_row (R.rows (head_number (listing rows)) row_length (drop head_length (listing rows))) ≡ true
        each = rw count-is (rw append-nil at (array-fits row-codec [] g))

    numbered : count_number (listing rows) ≡ 0
    unfolding count_number
    numbered = unless-true 14 taken

    -- "It answers with the count"
    pub count-back : read_count (listing rows) ≡ record { number = 0; count = length rows }
    unfolding read_count
    count-back = rw (numbered, count-is)

    asked : (at : ℕ) → row_number (listing rows) at ≡ 1 unless ltb at (length rows)
    unfolding row_number
    asked at = rw count-is (pass (1 unless ltb at (length rows)) numbered)

    -- "and with the row at a place"
    pub row-at-back : (at : ℕ) → at < length rows → read_row_at (listing rows) at ≡ record { number = 0; row = get_or rows at zero_row }
    unfolding read_row_at
    row-at-back at h =
        let none : row_number (listing rows) at ≡ 0 = asked at ∙ unless-true 1 (lt-ltb at (length rows) h) in
        rw (none, part-back at h, row-codec.back (get_or rows at zero_row) (row_fits at h))

    pub row-past-back : (at : ℕ) → length rows ≤ at → read_row_at (listing rows) at ≡ record { number = 1; row = zero_row }
    unfolding read_row_at
    row-past-back at h =
        let one : row_number (listing rows) at ≡ 1 = asked at ∙ unless-false 1 (le-ltb at (length rows) h) in
        rw one
