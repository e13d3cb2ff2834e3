-- The laws that close the needs of this crate's functions by `search rules`: each premise is as a place's record has it.
-- Assumes nothing.
use Prim.Native.Nat.{ℕ, zero, suc, min, ◌+◌, ◌-◌, ◌*◌, ◌/◌, ◌<◌, ◌≤◌}
use mathlib.Core.Path.{◌≡◌, refl, sym, ap, ◌∙◌}
use mathlib.Core.Bool.{Bool, true, false, ◌&&◌}
use mathlib.Core.List.{List, [], ◌∷◌, ◌++◌}
use native.Mathlib.Omega.{arith}
use native.Mathlib.Nat.{add-zero}
use borrow.Author.Rules.{rules as std_rules}
use borrow.Author.Tests.{eqb-true, eqb-false, eq-eqb, ne_eqb, le-leb, lt-leb}
use lib.Bits.{bit_or}
use lib.Dec.{eqb, leb}
use lib.ListN.{length, take, drop, get_or, drop_of_length-le, length-drop}
use lib.Seq.{drop-cons, drop-drop, take_all}
use Rattle.rows.specs.Bytes.{is_zero, number_of, number_at}
use Rattle.lists.proofs.Lists.{length-mapped}
use Rattle.lists.proofs.Tests.{split}
use Rattle.rows.specs.Rows.{rows, every}
use Rattle.rows.proofs.Bytes.{part-front}
use Rattle.rows.proofs.Rows.{rows_take}
use Rattle.rows.proofs.Loops.{or-zero, and_assoc, and-true, and-false}
use Rattle.std.specs.List.{list_all}
use Rattle.std.specs.Simd.{first_chunks}
use Rattle.rows.proofs.Chunks.{chunks_rows, all_every, rows_front}
use Rattle.table.specs.Table.{places}
use Rattle.module_state.specs.Module.{session_count, credential_count, word_size}
use Rattle.state_layout.specs.Layout.{last_phase, set_flag, flag_at, word_at, second_at, credential_size, place_size, session_size, credentials_at, count_at, places_at, state_length, session_fits, grants_fit, count_in, rest_is_free, owners_fit}
use Rattle.state_layout.proofs.Parts.{grants-part}

-- ---- tests in another order
twice : (a b c : Bool) → ((a && b) && (a && c)) ≡ (a && (b && c))
twice true b c = refl
twice false b c = refl

by_parts : (d x t y r : Bool) → (d && ((x && t) && (y && r))) ≡ ((d && x) && y && (t && r))
by_parts true true t true r = refl
by_parts true true t false r = and-false t
by_parts true false t y r = refl
by_parts false x t y r = refl

-- ---- zero bytes, those of a first part with those of a second
module _ {A : Type 0} (f : A → Bool) where
  every_front : (a : ℕ) (x : List A) → (every f (take a x) && every f x) ≡ every f x
  unfolding every
  every_front zero x = refl
  every_front (suc a) [] = refl
  every_front (suc a) (y ∷ x) = twice (f y) (every f (take a x)) (every f x) ∙ ap (λ (b : Bool). f y && b) (every_front a x)

  -- a front and a rest that leave nothing out
  every-covered : (a b : ℕ) (x : List A) → b ≤ a → every f x ≡ (every f (take a x) && every f (drop b x))
  unfolding every
  every-covered a zero x h = sym (every_front a x)
  every-covered zero (suc b) x h = absurd (omega arith)
  every-covered (suc a) (suc b) [] h = refl
  every-covered (suc a) (suc b) (y ∷ x) h =
      ap (λ (t : Bool). f y && t) (every-covered a b x (omega arith)) ∙ sym (and_assoc (f y) (every f (take a x)) (every f (drop b x)))

-- two parts of one length, the first from a place on and the second to the end, which leave nothing out between them
pub record Parted (s : List ℕ) (first part second d i : ℕ) : Type 0 where
  pub low : i ≤ part
  pub inside : first + part ≤ length s
  pub end : second + part ≡ length s
  pub rest : every is_zero (drop first s) ≡ (is_zero d && (every is_zero (take (part - i) (drop (first + i) s)) && every is_zero (drop (second + i) s)))

-- the code's constants
abbrev block : ℕ
block = 32

abbrev blocks : ℕ
blocks = 2 * block

abbrev round_up : ℕ
round_up = blocks - 1

-- the parts' length, from the place n on
abbrev part_of : ℕ → ℕ
part_of n = (state_length - (places_at + n * place_size) + round_up) / blocks * block

part-fits : (n : ℕ) → n ≤ places → part_of n ≤ state_length - (places_at + n * place_size)
part-fits n h =
    split (eqb n places)
    (λ e. rw (eqb-true n places e) (omega arith))
    (λ e.
    split (eqb n 11)
    (λ f. rw (eqb-true n 11 f) (omega arith))
    (λ f. let few : n ≤ 10 = omega (arith, eqb-false n places e, eqb-false n 11 f) in omega arith))

pub parted-begin : (s : List ℕ) (n : ℕ) → length s ≡ state_length → n ≤ places → Parted s (places_at + n * place_size) ((state_length - (places_at + n * place_size) + round_up) / blocks * block) (state_length - (state_length - (places_at + n * place_size) + round_up) / blocks * block) 0 0
parted-begin s n h k =
    let first : ℕ = places_at + n * place_size in
    let part : ℕ = part_of n in
    let fits : part ≤ state_length - first = part-fits n k in
    let all : part - 0 ≡ part = omega arith in
    let e : state_length - part + 0 ≡ first + (state_length - part - first) = omega arith in
    let l : state_length - part - first ≤ part = omega arith in
    record {
      low = omega arith;
      inside = omega arith;
      end = omega arith;
      rest = rw (add-zero, all, e, ← drop-drop (state_length - part - first) first s) (every-covered is_zero part (state_length - part - first) (drop first s) l);
    }

pub parted-on : {s : List ℕ} {first part second d i : ℕ} → Parted s first part second d i → i < part → Parted s first part second (bit_or (bit_or d (get_or s (first + i) 0)) (get_or s (second + i) 0)) (i + 1)
unfolding every
parted-on {s} {first} {part} {second} {d} {i} v h =
    let x : ℕ = get_or s (first + i) 0 in
    let y : ℕ = get_or s (second + i) 0 in
    let p : first + i < length s = omega (arith, v.inside) in
    let q : second + i < length s = omega (arith, v.end) in
    let l : part - i ≡ suc (part - (i + 1)) = omega arith in
    let m : suc (first + i) ≡ first + (i + 1) = omega arith in
    let n : suc (second + i) ≡ second + (i + 1) = omega arith in
    let t : every is_zero (take (part - i) (drop (first + i) s)) ≡ (is_zero x && every is_zero (take (part - (i + 1)) (drop (first + (i + 1)) s))) = rw (l, drop-cons s (first + i) 0 p, m) in
    let r : every is_zero (drop (second + i) s) ≡ (is_zero y && every is_zero (drop (second + (i + 1)) s)) =
    ap (every is_zero) (drop-cons s (second + i) 0 q) ∙ ap (λ (j : ℕ). is_zero y && every is_zero (drop j s)) n
    in
    record {
      low = omega arith;
      inside = v.inside;
      end = v.end;
      rest =
          v.rest
          ∙ rw (t, r, or-zero (bit_or d x) y, or-zero d x) (by_parts (is_zero d) (is_zero x) (every is_zero (take (part - (i + 1)) (drop (first + (i + 1)) s))) (is_zero y) (every is_zero (drop (second + (i + 1)) s)));
    }

pub parted-all : {s : List ℕ} {first part second d i : ℕ} → Parted s first part second d i → part ≤ i → eqb d 0 ≡ every is_zero (drop first s)
unfolding every
parted-all {s} {first} {part} {second} {d} {i} v h =
    let e : part - i ≡ 0 = omega arith in
    let l : length s ≤ second + i = omega (arith, v.end) in
    sym (v.rest ∙ rw (e, drop_of_length-le s l) (and-true (is_zero d)))

-- ---- the count, and the places that stand
pub standing-rows : (b : List ℕ) {f n k : ℕ} {l : List (List ℕ)} → f ≡ get_or b count_at 0 → n ≡ min f places → l ≡ first_chunks place_size k (take (state_length - places_at) (drop places_at b)) → k ≡ places → take n l ≡ rows (min (count_in b) places) place_size (drop places_at b)
unfolding count_in
standing-rows b {f} {n} {k} e m g h =
    let low : min (get_or b count_at 0) places ≤ places = omega arith in
    rw (m, e, g, h, chunks_rows, rows_front places place_size (state_length - places_at) (drop places_at b) (omega arith)) (rows_take (min (get_or b count_at 0) places) places place_size (drop places_at b) low)

-- ---- what is behind them
pub rest-short : (b : List ℕ) → (length b ≡ state_length → ⊥) → false ≡ rest_is_free b
unfolding rest_is_free
rest-short b n = rw (ne_eqb (length b) state_length n)

module _ (b : List ℕ) (h : length b ≡ state_length) where
  pub rest-many : places < get_or b count_at 0 → false ≡ rest_is_free b
  unfolding rest_is_free count_in
  rest-many k = rw (eq-eqb (length b) state_length h, lt-leb (get_or b count_at 0) places k)

  pub rest-free : get_or b count_at 0 ≤ places → {z : Bool} → z ≡ every is_zero (drop (places_at + get_or b count_at 0 * place_size) b) → z ≡ rest_is_free b
  unfolding rest_is_free count_in
  rest-free k i = i ∙ rw (eq-eqb (length b) state_length h, le-leb (get_or b count_at 0) places k)

-- ---- a credential's row
zero-digits : (x n : ℕ) → is_zero (n * 256 + x) ≡ (is_zero x && is_zero n)
zero-digits zero zero = refl
zero-digits zero (suc n) = ne_eqb (suc n * 256 + 0) 0 (λ e. omega arith) ∙ sym (ne_eqb (suc n) 0 (λ e. omega arith))
zero-digits (suc x) n = ne_eqb (n * 256 + suc x) 0 (λ e. omega arith) ∙ rw (ne_eqb (suc x) 0 (λ e. omega arith))

-- a number is zero exactly where its bytes are
zero_number : (l : List ℕ) → is_zero (number_of l) ≡ every is_zero l
unfolding number_of every
zero_number [] = refl
zero_number (x ∷ l) = zero-digits x (number_of l) ∙ ap (λ (b : Bool). is_zero x && b) (zero_number l)

every-both : (x y : List ℕ) → every is_zero (x ++ y) ≡ (every is_zero x && every is_zero y)
unfolding every
every-both [] y = refl
every-both (a ∷ x) y = rw (every-both x y) (sym (and_assoc (is_zero a) (every is_zero x) (every is_zero y)))

module _ (x : List ℕ) where
  pub grants-high : set_flag < get_or x flag_at 0 → false ≡ grants_fit x
  unfolding grants_fit
  grants-high h = rw (lt-leb (get_or x flag_at 0) set_flag h)

  pub grants-on : get_or x flag_at 0 ≡ set_flag → true ≡ grants_fit x
  unfolding grants_fit
  grants-on e = rw e

  module _ (h : get_or x flag_at 0 ≤ set_flag) (n : get_or x flag_at 0 ≡ set_flag → ⊥) {w : ℕ} (e : w ≡ number_at word_size word_at x) where
    -- the words of one that is not provisioned: the first, and what is behind it
    words-tested : (eqb w 0 && every is_zero (drop second_at x)) ≡ grants_fit x
    unfolding grants_fit number_at
    words-tested =
        let word : eqb (number_of (take word_size (drop word_at x))) 0 ≡ every is_zero (take word_size (drop word_at x)) = zero_number (take word_size (drop word_at x)) in
        rw (e, le-leb (get_or x flag_at 0) set_flag h, ne_eqb (get_or x flag_at 0) set_flag n, word)
        (sym (every-both (take word_size (drop word_at x)) (drop second_at x)) ∙ ap (every is_zero) (part-front word_size word_at x))

    pub grants-word : (w ≡ 0 → ⊥) → false ≡ grants_fit x
    grants-word z = rw (ne_eqb w 0 z) at words-tested

    pub grants-off : length x ≡ credential_size → w ≡ 0 → {s : ℕ} → s ≡ number_at word_size second_at x → eqb s 0 ≡ grants_fit x
    unfolding number_at
    grants-off l z q =
        let few : length (drop second_at x) ≤ word_size = simp length-drop (omega arith) in
        let second : eqb (number_of (drop second_at x)) 0 ≡ every is_zero (drop second_at x) = zero_number (drop second_at x) in
        rw (q, take_all word_size (drop second_at x) few) (second ∙ rw (eq-eqb w 0 z) at words-tested)

-- ---- the sessions and the credentials, of a slice of a state's length
phases : (n : ℕ) (b : List ℕ) → n ≤ length b → list_all (λ (x : ℕ). leb x last_phase) (take n b) ≡ every session_fits (rows n session_size b)
unfolding rows every session_fits
phases zero b h = refl
phases (suc n) [] h = absurd (omega arith)
phases (suc n) (x ∷ b) h = ap (λ (t : Bool). leb x last_phase && t) (phases n b (omega arith))

module _ (b : List ℕ) (h : length b ≡ state_length) {p : Bool} (e : p ≡ list_all (λ (x : ℕ). leb x last_phase) (take session_count b)) where
  tested : p ≡ every session_fits (rows session_count session_size b)
  tested = e ∙ phases session_count b (omega arith)

  pub owners-sessions : p ≡ false → p ≡ owners_fit b
  unfolding owners_fit
  owners-sessions t = rw (eq-eqb (length b) state_length h, ← tested, t)

  pub owners-credentials : p ≡ true → {m : ℕ} → m ≡ credential_count → {q : Bool} → q ≡ list_all grants_fit (first_chunks credential_size m (take (count_at - credentials_at) (drop credentials_at b))) → q ≡ owners_fit b
  unfolding owners_fit
  owners-credentials t l f =
      f ∙ rw (eq-eqb (length b) state_length h, ← tested, t, l, all_every, chunks_rows, rows_front credential_count credential_size (count_at - credentials_at) (drop credentials_at b) (omega arith))

pub owners-short : (b : List ℕ) → (length b ≡ state_length → ⊥) → false ≡ owners_fit b
unfolding owners_fit
owners-short b n = rw (ne_eqb (length b) state_length n)

pub ruleset rules = (std_rules, length-mapped, parted-begin, parted-on, parted-all, standing-rows, rest-short, rest-many, rest-free, grants-high, grants-on, grants-word, grants-off, grants-part, owners-short, owners-sessions, owners-credentials)
