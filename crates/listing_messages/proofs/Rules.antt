-- The laws that close the needs of this crate's functions by `search rules`: each premise is as a place's record has it.
-- Assumes nothing.
use Prim.Native.Nat.{ℕ, ◌+◌, ◌-◌, ◌*◌, ◌/◌, ◌%◌, ◌<◌, ◌≤◌}
use mathlib.Core.Path.{◌≡◌, sym, ap, ◌∙◌}
use mathlib.Core.Bool.{Bool, true, false}
use mathlib.Core.List.{List, [], ◌∷◌}
use native.Mathlib.Omega.{arith}
use borrow.Author.Rules.{rules as std_rules}
use borrow.Author.Tests.{eq-eqb, ne_eqb, lt-ltb, le-ltb, eqb-true}
use lib.Dec.{eqb, ltb}
use lib.ListN.{length, get_or, take, drop, length-drop}
use lib.Seq.{take_all}
use Rattle.rows.specs.Bytes.{bytes_of, number_at}
use Rattle.rows.specs.Rows.{rows, every, over}
use Rattle.rows.proofs.Over.{over-short}
use Rattle.rows.proofs.Rows.{row-passes}
use Rattle.lists.proofs.Tests.{split, and_left, and_right}
use Rattle.names.specs.Names.{row_length, is_row, row_from, read_row, zero_row}
use Rattle.names.proofs.Laws.{row_read}
use Rattle.module_state.specs.Numbers.{◌unless◌}
use Rattle.module_state.proofs.Laws.{stop, pass, when_true, when_false, unless-true, unless-false}
use Rattle.calls.specs.Listing.{head_number_at, head_number_size, head_length, auth_processes, message_length}
use Rattle.listing_messages.specs.Wire.{head, is_headed, head_number, request, get_auth_processes, request_number, read_request, request_room, row_part, is_listing, count_number, read_count, row_number, read_row_at, RequestRead, CountRead, RowAnswer, row_in}
use Rattle.names.specs.declared.Row.{Row}
use Rattle.module_state.specs.declared.Refusal.{Refusal}
use Rattle.module_state.specs.declared.Refusal.TheVariants as Why
use Rattle.std.specs.Prelude.{Option, Some, Result}
use Rattle.std.specs.List.{list_all}
use Rattle.std.specs.Option.{ok_or}
use Rattle.module_state.specs.Refusals.{refusal_number}
use Rattle.module_state.proofs.Refusals.{refusal-some}
use Rattle.std.specs.Simd.{first_chunks}
use Rattle.rows.proofs.Chunks.{chunks_rows, all_every}

-- ---- what both messages begin with
module _ (code long : ℕ) (message : List ℕ) where
  pub headed-code : {x : ℕ} → length message ≡ long → x ≡ get_or message 0 0 → eqb x code ≡ is_headed code long message
  unfolding is_headed
  headed-code h e = rw (e, eq-eqb (length message) long h)

  pub headed-length : (length message ≡ long → ⊥) → eqb (length message) long ≡ is_headed code long message
  unfolding is_headed
  headed-length h = rw (ne_eqb (length message) long h)

pub head-number : (message : List ℕ) {n : ℕ} → n ≡ number_at head_number_size head_number_at message → n ≡ head_number message
unfolding head_number
head-number message e = e

pub head-put : (old : List ℕ) (code n : ℕ) {x new : List ℕ} → x ≡ n % 256 ∷ n / 256 % 256 ∷ [] → new ≡ over 0 4 (code ∷ 0 ∷ get_or x 0 0 ∷ get_or x 1 0 ∷ []) old → new ≡ over 0 head_length (head code n) old
unfolding head bytes_of
head-put old code n e q = q ∙ rw e

pub over-stays : (at n : ℕ) (bytes old : List ℕ) → length old < at + n → old ≡ over at n bytes old
over-stays at n bytes old h = sym (over-short at n bytes old h)

-- ---- the request
module _ (message : List ℕ) {b : Bool} (e : b ≡ is_headed get_auth_processes head_length message) where
  pub request-refused : b ≡ false → ◌≡◌ {A = RequestRead} (record { number = 14; credential = 0 }) (read_request message)
  unfolding read_request request_number
  request-refused t = rw (unless-false 14 (sym e ∙ t))

  pub request-got : {n : ℕ} → b ≡ true → n ≡ head_number message → ◌≡◌ {A = RequestRead} (record { number = 0; credential = n }) (read_request message)
  unfolding read_request request_number
  request-got t q = rw (unless-true 14 (sym e ∙ t), q)

module _ (old : List ℕ) where
  pub room-short : length old < head_length → 15 ≡ request_room old
  unfolding request_room
  room-short h = sym (when_true 15 (lt-ltb (length old) head_length h))

  pub room-enough : head_length ≤ length old → 0 ≡ request_room old
  unfolding request_room
  room-enough h = sym (when_false 15 (le-ltb (length old) head_length h))

  pub request-put : (credential : ℕ) {new : List ℕ} → new ≡ over 0 head_length (head get_auth_processes credential) old → new ≡ over 0 head_length (request credential) old
  unfolding request
  request-put credential e = e

-- ---- the response
module _ (message : List ℕ) {n : ℕ} {a : Bool} (c : n ≡ head_number message) (e : a ≡ is_headed auth_processes (head_length + row_length * n) message) where
  headed : a ≡ is_headed auth_processes (message_length (head_number message)) message
  unfolding message_length
  headed = e ∙ rw c

  listing-long : a ≡ true → length message ≡ head_length + row_length * n
  unfolding is_headed
  listing-long t = eqb-true (length message) (head_length + row_length * n) (and_left (eqb (length message) (head_length + row_length * n)) (eqb (get_or message 0 0) auth_processes) (sym e ∙ t))

  pub listing-reach : a ≡ true → head_length ≤ length message
  listing-reach t = omega (arith, listing-long t)

  pub listing-rows : {b : Bool} {parts : List (List ℕ)} → a ≡ true
      → parts ≡ first_chunks row_length (length (take (length message - head_length) (drop head_length message)) / row_length) (take (length message - head_length) (drop head_length message))
      → b ≡ list_all is_row parts → b ≡ is_listing message
  unfolding is_listing
  listing-rows t l q =
      let w : take (length message - head_length) (drop head_length message) ≡ drop head_length message = take_all (length message - head_length) (drop head_length message) (simp length-drop (omega arith)) in
      let k : length (drop head_length message) / row_length ≡ n = simp length-drop (omega (arith, listing-long t)) in
      q ∙ rw (l, w, sym headed ∙ t, k, c, all_every, chunks_rows)

  pub listing-not : a ≡ false → false ≡ is_listing message
  unfolding is_listing
  listing-not t = rw (sym headed ∙ t)

module _ (message : List ℕ) {b : Bool} (e : b ≡ is_listing message) where
  pub count-refused : b ≡ false → ◌≡◌ {A = CountRead} (record { number = 14; count = 0 }) (read_count message)
  unfolding read_count count_number
  count-refused t = rw (unless-false 14 (sym e ∙ t))

  pub count-got : {n : ℕ} → b ≡ true → n ≡ head_number message → ◌≡◌ {A = CountRead} (record { number = 0; count = n }) (read_count message)
  unfolding read_count count_number
  count-got t q = rw (unless-true 14 (sym e ∙ t), q)

-- ---- what a response is that is taken
module _ (message : List ℕ) where
  count-done : is_listing message ≡ true → count_number message ≡ 0
  unfolding count_number
  count-done t = unless-true 14 t

  count-fourteen : is_listing message ≡ false → count_number message ≡ 14
  unfolding count_number
  count-fourteen t = unless-false 14 t

  row-stop : (at : ℕ) → count_number message ≡ 14 → row_number message at ≡ 14
  unfolding row_number
  row-stop at e = stop (1 unless ltb at (head_number message)) (λ z. omega arith) ∙ e

  module _ (t : is_listing message ≡ true) where
    taken-headed : is_headed auth_processes (message_length (head_number message)) message ≡ true
    unfolding is_listing
    taken-headed = and_left (is_headed auth_processes (message_length (head_number message)) message) (every is_row (rows (head_number message) row_length (drop head_length message))) t

    taken-long : length message ≡ head_length + row_length * head_number message
    unfolding is_headed message_length
    taken-long =
        eqb-true (length message) (head_length + row_length * head_number message)
        (and_left (eqb (length message) (head_length + row_length * head_number message)) (eqb (get_or message 0 0) auth_processes) taken-headed)

    taken-row : (at : ℕ) → at < head_number message → is_row (row_part message at) ≡ true
    unfolding is_listing row_part
    taken-row at h =
        row-passes is_row (head_number message) row_length head_length message
        (and_right (is_headed auth_processes (message_length (head_number message)) message) (every is_row (rows (head_number message) row_length (drop head_length message))) t)
        at h

-- ---- a row of the response, by what `read_count` answered
module _ (message : List ℕ) where
  numbered : {counted : CountRead} → counted ≡ read_count message → counted.number ≡ count_number message
  unfolding read_count
  numbered e = ap (λ (x : CountRead). x.number) e

  counting : {counted : CountRead} → counted ≡ read_count message → count_number message ≡ 0 → counted.count ≡ head_number message
  unfolding read_count
  counting e z = ap (λ (x : CountRead). x.count) e ∙ rw z

module _ (message : List ℕ) (at : ℕ) where
  pub row-refused : (why : Refusal) → ◌≡◌ {A = CountRead} (record { number = refusal_number why; count = 0 }) (read_count message) → ◌≡◌ {A = RowAnswer} (record { number = refusal_number why; row = zero_row }) (read_row_at message at)
  unfolding read_row_at
  row-refused why e =
      let n : refusal_number why ≡ count_number message = numbered message e in
      let fourteen : count_number message ≡ 14 =
      split (is_listing message) (λ t. absurd (refusal-some why (n ∙ count-done message t))) (λ t. count-fourteen message t)
      in
      rw (n, fourteen, row-stop message at fourteen)

  module _ {counted count : ℕ} (e : ◌≡◌ {A = CountRead} (record { number = 0; count = counted }) (read_count message)) (h : count ≡ counted) where
    none : count_number message ≡ 0
    none = sym (numbered message e)

    listed : is_listing message ≡ true
    listed = split (is_listing message) (λ t. t) (λ t. absurd (omega (arith, none, count-fourteen message t)))

    counts : count ≡ head_number message
    counts = h ∙ counting message e none

    asked : row_number message at ≡ 1 unless ltb at (head_number message)
    unfolding row_number
    asked = pass (1 unless ltb at (head_number message)) none

    pub row-past : count ≤ at → ◌≡◌ {A = RowAnswer} (record { number = 1; row = zero_row }) (read_row_at message at)
    unfolding read_row_at
    row-past k =
        let one : row_number message at ≡ 1 = asked ∙ unless-false 1 (le-ltb at (head_number message) (omega (arith, counts))) in
        rw one

    module _ (k : at < count) where
      pub row_inside : head_length + at * row_length + row_length ≤ length message
      row_inside = omega (arith, counts, taken-long message listed)

      pub row-answer : {o : Option Row} {r : Result Row Refusal} → o ≡ read_row (take (head_length + at * row_length + row_length - (head_length + at * row_length)) (drop (head_length + at * row_length) message)) → r ≡ ok_or o Why.Message → row_in r ≡ read_row_at message at
      unfolding read_row_at row_part
      row-answer {o} q w =
          let here : row_number message at ≡ 0 = asked ∙ unless-true 1 (lt-ltb at (head_number message) (omega (arith, counts))) in
          let whole : head_length + at * row_length + row_length - (head_length + at * row_length) ≡ row_length = omega arith in
          let read : o ≡ Some (row_from (row_part message at)) = q ∙ rw whole (row_read (row_part message at) (taken-row message listed at (omega (arith, counts)))) in
          rw (w, read, here)

pub ruleset rules = (std_rules, headed-code, headed-length, head-number, head-put, over-stays, request-refused, request-got, room-short, room-enough, request-put, listing-reach, listing-not, count-refused, count-got, row-refused, row_inside)
