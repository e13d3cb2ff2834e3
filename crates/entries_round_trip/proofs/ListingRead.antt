-- The listing messages are read as every message is: on all bytes with their codes the two readers answer the same. Assumes nothing.
use Prim.Native.Nat.{ℕ, zero, suc, ◌+◌, ◌-◌, ◌*◌, ◌<◌, ◌≤◌, min}
use mathlib.Core.Path.{◌≡◌, refl, sym, ap, ◌∙◌}
use mathlib.Core.Bool.{Bool, true, false, ◌&&◌, and-true, and-false, and_assoc}
use mathlib.Core.List.{List, [], ◌∷◌}
use native.Mathlib.Nat.{zero-add}
use native.Mathlib.Omega.{arith}
use lib.Dec.{eqb, leb}
use borrow.Author.Tests.{lt-ltb, le-leb, eq-eqb, eqb-true, leb-true}
use lib.ListN.{length, get_or, take, drop, length-take, length-drop}
use lib.Seq.{get_or-take, drop-drop}
use Rattle.lists.specs.Lists.{padded}
use Rattle.lists.proofs.Tests.{split, and_left, and_right, and_both}
use Rattle.rows.specs.Bytes.{Bytes, number_of, number_at}
use Rattle.rows.specs.Rows.{rows, every}
use Rattle.rows.proofs.Bytes.{bytes_drop, number-one, number-low}
use Rattle.rows.proofs.Rows.{row-passes}
use Rattle.names.specs.Names.{is_row, row_from}
use Rattle.names.proofs.Laws.{row-shaped, type-forth}
use Rattle.module_state.specs.Numbers as No
use Rattle.module_state.specs.Numbers.{◌unless◌, ◌▸◌}
use Rattle.module_state.proofs.Laws.{clear-unless}
use Rattle.calls.specs.Listing.{message_length}
use Rattle.listing_messages.specs.Wire.{is_headed, head_number, request_number, read_request, is_listing, count_number, read_count, row_part, row_number, read_row_at}
use Rattle.listing_messages.specs.Wire.{CountRead}
use Rattle.message_formats.specs.declared.Field.{Field}
use Rattle.message_formats.specs.declared.Shape.{Shape}
use Rattle.message_formats.specs.declared.Shape.TheVariants.{OneCredential, ProcessList}
use Rattle.message_formats.specs.declared.Part.TheVariants.{ProcessInfo}
use Rattle.message_formats.specs.Formats.{between, form_of, meant, is_allowed, fields_of, rest_of}
use Rattle.message_fields.specs.Fields.{fields, long_of, values_in, are_allowed, values_of, head_long}
use Rattle.message_pieces.specs.Pieces.{rest_long, piece_long, is_piece, first, second, behind, is_part, part_long, are_parts, fits_rest}
use Rattle.message_codes.specs.Codes.{find, requests, responses, shape_of}
use Rattle.message_read.specs.Messages.{shape_in, head_of, message_values, is_message, read_message}
use Rattle.entries_round_trip.specs.Listing.{one_value, row_held}
use Rattle.entries_round_trip.specs.Parts.{PartHeld, piece_held_in, part_held_in, parts_in}
use Rattle.entries_round_trip.proofs.Listing.{one-allowed}

-- two tests that tell each other
same_test : (s t : Bool) → (s ≡ true → t ≡ true) → (t ≡ true → s ≡ true) → s ≡ t
same_test true t f g = sym (f refl)
same_test false true f g = g refl
same_test false false f g = refl

-- what both begin with: a number of two bytes, which every two bytes say
module _ (shape : Shape) (f : Field) (two : form_of f ≡ between 2 0 65535) (one : fields_of shape ≡ f ∷ []) (b : List ℕ) where
  one-value : values_of shape (drop 2 b) ≡ one_value (head_number b)
  unfolding values_of fields padded values_in meant form_of head_number number_at number_of
  one-value = rw (one, two)

  one-head : head_of shape ≡ 4
  unfolding head_of head_long fields padded long_of form_of
  one-head = rw (one, two)

  one-message : Bytes b → shape_in b ≡ shape → is_message b ≡ (leb 4 (length b) && fits_rest (rest_of shape) (one_value (head_number b)) (drop 4 b))
  unfolding is_message message_values head_number
  one-message h e =
      rw (e, one-value, one-head, one-allowed shape f (head_number b) two one (number-low 2 2 b h), and-true)

-- "the length before the fields": four bytes and as many more
exact : (n more : ℕ) → (leb 4 n && eqb (n - 4) more) ≡ eqb n (4 + more)
exact n more = same_test (leb 4 n && eqb (n - 4) more) (eqb n (4 + more)) forth back
  where
    forth : (leb 4 n && eqb (n - 4) more) ≡ true → eqb n (4 + more) ≡ true
    forth e =
        let low : 4 ≤ n = leb-true 4 n (and_left (leb 4 n) (eqb (n - 4) more) e) in
        let same : n - 4 ≡ more = eqb-true (n - 4) more (and_right (leb 4 n) (eqb (n - 4) more) e) in
        eq-eqb n (4 + more) (omega arith)

    back : eqb n (4 + more) ≡ true → (leb 4 n && eqb (n - 4) more) ≡ true
    back e =
        let same : n ≡ 4 + more = eqb-true n (4 + more) e in
        and_both (le-leb 4 n (omega arith)) (eq-eqb (n - 4) more (omega arith))

-- a row as a part
module _ (b : List ℕ) where
  row-long : leb 51 (length b) ≡ eqb (length (take 51 b)) 51
  row-long =
      rw (length-take 51 b)
      (same_test (leb 51 (length b)) (eqb (min 51 (length b)) 51)
      (λ e. let low : 51 ≤ length b = leb-true 51 (length b) e in eq-eqb (min 51 (length b)) 51 (omega arith))
      (λ e. let same : min 51 (length b) ≡ 51 = eqb-true (min 51 (length b)) 51 e in le-leb 51 (length b) (omega arith)))

  process-long : part_long ProcessInfo b ≡ 51
  unfolding part_long piece_long head_long fields padded fields_of long_of form_of rest_of rest_long first second
  process-long = refl

  process-part : Bytes b → is_part ProcessInfo b ≡ is_row (take 51 b)
  unfolding is_part is_piece is_row piece_long head_long values_of fields padded fields_of long_of values_in are_allowed is_allowed meant form_of rest_of rest_long first second number_at number_of
  process-part h =
      let small : number_of (take 2 b) < 65536 = number-low 2 0 b h in
      let one : number_of (take 1 (drop 2 b)) ≡ get_or b 2 0 = number-one 2 b in
      rw (le-leb 0 (number_of (take 2 b)) (omega arith), le-leb (number_of (take 2 b)) 65535 (omega arith), one, le-leb 0 (get_or b 2 0) (omega arith), le-leb 0 (length (behind ProcessInfo b)) (omega arith), row-long, get_or-take 51 b 2 0 (omega arith))
      (simp and-true)

rows-parts : (n : ℕ) (b : List ℕ) → Bytes b → are_parts ProcessInfo n b ≡ (eqb (length b) (51 * n) && every is_row (rows n 51 b))
unfolding are_parts rows every
rows-parts zero b h = rw and-true
rows-parts (suc n) b h =
    rw (process-part b h, process-long b, rows-parts n (drop 51 b) (bytes_drop 51 b h), length-drop)
    (split (is_row (take 51 b))
    (λ t. rw (t, longer (row-shaped (take 51 b) t).long))
    (λ t. rw (t, and-false)))
  where
    longer : length (take 51 b) ≡ 51 → eqb (length b - 51) (51 * n) ≡ eqb (length b) (51 * suc n)
    longer e =
        let low : 51 ≤ length b = leb-true 51 (length b) (row-long b ∙ eq-eqb (length (take 51 b)) 51 e) in
        same_test (eqb (length b - 51) (51 * n)) (eqb (length b) (51 * suc n))
        (λ t. eq-eqb (length b) (51 * suc n) (omega (arith, eqb-true (length b - 51) (51 * n) t)))
        (λ t. eq-eqb (length b - 51) (51 * n) (omega (arith, eqb-true (length b) (51 * suc n) t)))

-- the parts are the rows
row-held : (b : List ℕ) → is_row (take 51 b) ≡ true → row_held (row_from (take 51 b)) ≡ part_held_in ProcessInfo b
unfolding row_held part_held_in piece_held_in values_of head_long fields padded fields_of long_of values_in meant form_of rest_of rest_long first second number_at number_of
row-held b e = by b (row-shaped (take 51 b) e).long (row-shaped (take 51 b) e).typed
  where
    by : (b : List ℕ) → length (take 51 b) ≡ 51 → get_or (take 51 b) 2 0 ≤ 2 → row_held (row_from (take 51 b)) ≡ part_held_in ProcessInfo b
    by [] h k = absurd (omega arith)
    by (x ∷ []) h k = absurd (omega arith)
    by (x ∷ y ∷ []) h k = absurd (omega arith)
    by (x ∷ y ∷ z ∷ rest) h k = rw (type-forth z k, zero-add z)

part_at : (n at : ℕ) (b : List ℕ) (none : PartHeld) → at < n → get_or (parts_in ProcessInfo n b) at none ≡ part_held_in ProcessInfo (drop (at * 51) b)
unfolding parts_in
part_at zero at b none h = absurd (omega arith)
part_at (suc n) zero b none h = refl
part_at (suc n) (suc at) b none h =
    let e : 51 + at * 51 ≡ suc at * 51 = omega arith in
    rw (process-long b, part_at n at (drop 51 b) none (omega arith), drop-drop (at * 51) 51 b, e)

module _ (b : List ℕ) (h : Bytes b) where
  module _ (code : get_or b 0 0 ≡ 0x8e) where
    request-shape : shape_in b ≡ OneCredential
    unfolding shape_in shape_of find requests
    request-shape = rw code

    request-message : is_message b ≡ is_headed 0x8e 4 b
    unfolding is_headed fits_rest rest_of form_of fields_of
    request-message =
        one-message OneCredential _ refl refl b h request-shape
        ∙ rw (code, length-drop, exact (length b) 0, and-true)

    pub request-as : read_request b ≡ record { number = (read_message b).number; credential = get_or (read_message b).values 0 0 }
    unfolding read_request request_number read_message message_values ◌unless◌ form_of fields_of
    request-as =
        split (is_headed 0x8e 4 b)
        (λ t. rw (request-message, t, request-shape, one-value OneCredential _ refl refl b))
        (λ t. rw (request-message, t))

  module _ (code : get_or b 0 0 ≡ 0x0e) where
    listing-shape : shape_in b ≡ ProcessList
    unfolding shape_in shape_of find responses
    listing-shape = rw code

    listing-message : is_message b ≡ is_listing b
    unfolding is_listing is_headed message_length fits_rest rest_of form_of fields_of
    listing-message =
        one-message ProcessList _ refl refl b h listing-shape
        ∙ rw (code, rows-parts (head_number b) (drop 4 b) (bytes_drop 4 b h), length-drop, ← exact (length b) (51 * head_number b))
        (simp (and-true, and_assoc))

    pub count-as : read_count b ≡ record { number = (read_message b).number; count = get_or (read_message b).values 0 0 }
    unfolding read_count count_number read_message message_values ◌unless◌ form_of fields_of
    count-as =
        split (is_listing b)
        (λ t. rw (listing-message, t, listing-shape, one-value ProcessList _ refl refl b))
        (λ t. rw (listing-message, t))

    module _ (done : (read_message b).number ≡ No.done) where
      taken : is_listing b ≡ true
      unfolding read_count count_number
      taken = clear-unless No.message _ (is_listing b) (ap (λ (r : CountRead). r.number) count-as ∙ done)

      answered : read_message b ≡ record { number = No.done; values = one_value (head_number b); rest = 4 }
      unfolding read_message message_values form_of fields_of
      answered = rw (listing-message, taken, listing-shape, one-value ProcessList _ refl refl b, one-head ProcessList _ refl refl b)

      rows_pass : every is_row (rows (head_number b) 51 (drop 4 b)) ≡ true
      unfolding is_listing
      rows_pass = and_right (is_headed 0x0e (message_length (head_number b)) b) (every is_row (rows (head_number b) 51 (drop 4 b))) taken

      -- the row at a place is the part there
      pub row_as : (at : ℕ) (none : PartHeld) → at < head_number b → row_held (read_row_at b at).row ≡ get_or (parts_in ProcessInfo (get_or (read_message b).values 0 0) (drop (read_message b).rest b)) at none
      unfolding read_row_at row_number count_number row_part ◌unless◌ ◌▸◌
      row_as at none low =
          rw (answered, part_at (head_number b) at (drop 4 b) none low, drop-drop (at * 51) 4 b, taken, lt-ltb at (head_number b) low)
          (row-held (drop (4 + at * 51) b) (row-passes is_row (head_number b) 51 4 b rows_pass at low))
