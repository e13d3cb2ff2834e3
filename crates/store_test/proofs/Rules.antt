-- The laws that close the needs of this crate's functions by `search rules`: each premise is as a place's record has it.
-- Assumes nothing.
use Prim.Native.Nat.{ℕ, suc, ◌+◌, ◌-◌, ◌*◌, ◌<◌, ◌≤◌}
use mathlib.Core.Path.{◌≡◌, refl, sym, ◌∙◌}
use mathlib.Core.Bool.{Bool, true, false, not, ◌&&◌}
use mathlib.Core.List.{List, [], ◌∷◌}
use native.Mathlib.Numerals.{add-one}
use native.Mathlib.Omega.{arith}
use borrow.Author.Rules.{rules as std_rules}
use borrow.Author.Tests.{eq-eqb, ne_eqb, le-leb, lt-leb, not-true, not-false}
use lib.Bits.{bit_or}
use lib.Dec.{eqb, leb}
use lib.ListN.{length, take, drop, get_or, drop_of_length-le}
use lib.Seq.{drop-cons}
use Rattle.lists.proofs.Lists.{length-mapped}
use Rattle.rows.specs.Bytes.{is_zero, number_at}
use Rattle.rows.specs.Rows.{every}
use Rattle.rows.proofs.Loops.{or-zero, and-true, and_assoc, RowsTo, rows-begin, rows_on, rows-fail, rows_all}
use Rattle.module_state.specs.Module.{credential_count}
use Rattle.module_state.specs.declared.Grants.{Grants}
use Rattle.state_layout.specs.Layout.{set_flag}
use Rattle.store_layout.specs.Store.{parameters_size, head_fits, each_fits, fits}
use Rattle.store_layout.specs.Layout.{head_size, heads_at, owned_at, parameters_at, store_length, head_fits_in, room_fits_in, rooms_fit, heads_in, rooms_in, is_store}
use Rattle.store_layout.specs.declared.Head.{Head}
use Rattle.store_layout.specs.declared.Heads.{Heads}
use Rattle.store_read.specs.Reads.{head_in}
use Rattle.store_read.proofs.Rules.{part_in}
use Rattle.store_layout.proofs.Parts.{heads-length, rooms-length, head_at, room_at}

-- ---- the heads
pub heads-all : {s : List ℕ} {i : ℕ} → RowsTo head_fits_in credential_count head_size heads_at s i → credential_count ≤ i → true ≡ every head_fits_in (heads_in s)
unfolding heads_in
heads-all v h = rows_all v h

module _ {s p : List ℕ} {i : ℕ} {b : Bool} (v : RowsTo head_fits_in credential_count head_size heads_at s i) (h : i < credential_count) (e : b ≡ head_fits_in p) (t : p ≡ head_in s i) where
  head-here : b ≡ head_fits_in (take (heads_at + i * head_size + head_size - (heads_at + i * head_size)) (drop (heads_at + i * head_size) s))
  unfolding head_in
  head-here = let m : heads_at + i * head_size + head_size - (heads_at + i * head_size) ≡ head_size = omega arith in e ∙ rw (t, m)

  pub heads-on : not b ≡ false → RowsTo head_fits_in credential_count head_size heads_at s (i + 1)
  heads-on q = rows_on v h head-here q

  pub heads-fail : not b ≡ true → false ≡ every head_fits_in (heads_in s)
  unfolding heads_in
  heads-fail q = rows-fail v h head-here q

-- ---- a room: zero bytes from a place on, with no exit
pub record ClearTo (room : List ℕ) (from d i : ℕ) : Type 0 where
  pub rest : every is_zero (drop from room) ≡ (is_zero d && every is_zero (drop i room))

pub clear-begin : (room : List ℕ) (from : ℕ) → ClearTo room from 0 from
clear-begin room from = record { rest = refl }

module _ {room : List ℕ} {from d i : ℕ} (v : ClearTo room from d i) where
  pub clear-on : i < length room → ClearTo room from (bit_or d (get_or room i 0)) (i + 1)
  unfolding every
  clear-on h =
      record {
        rest = v.rest ∙ rw (drop-cons room i 0 h, or-zero d (get_or room i 0), add-one) (sym (and_assoc (is_zero d) (is_zero (get_or room i 0)) (every is_zero (drop (suc i) room))));
      }

  pub clear-all : length room ≤ i → eqb d 0 ≡ every is_zero (drop from room)
  unfolding every
  clear-all h = sym (v.rest ∙ rw (drop_of_length-le room h) (and-true (is_zero d)))

-- ---- two lists tested together, one element of each at a time: the first i passed. `all` is the test of them all, `one` that of two
module _ {A B : Type 0} where
  pub record Together (one : A → B → Bool) (all : List A → List B → Bool) : Type 0 where
    pub none : (ys : List B) → all [] ys ≡ true
    pub more : (x : A) (xs : List A) (y : B) (ys : List B) → all (x ∷ xs) (y ∷ ys) ≡ (one x y && all xs ys)

  pub record BothTo (all : List A → List B → Bool) (xs : List A) (ys : List B) (i : ℕ) : Type 0 where
    pub same : length xs ≡ length ys
    pub rest : all xs ys ≡ all (drop i xs) (drop i ys)

  both-begin : (all : List A → List B → Bool) (xs : List A) (ys : List B) → length xs ≡ length ys → BothTo all xs ys 0
  both-begin all xs ys h = record { same = h; rest = refl }

  module _ {one : A → B → Bool} {all : List A → List B → Bool} (t : Together one all) {xs : List A} {ys : List B} {i : ℕ} (v : BothTo all xs ys i) where
    both-all : length xs ≤ i → true ≡ all xs ys
    both-all h = sym (v.rest ∙ rw (drop_of_length-le xs h) (t.none (drop i ys)))

    module _ (a : A) (b : B) (h : i < length xs) {p : Bool} (e : p ≡ one (get_or xs i a) (get_or ys i b)) where
      ahead : all xs ys ≡ (p && all (drop (suc i) xs) (drop (suc i) ys))
      ahead =
          let k : i < length ys = omega (arith, v.same) in
          v.rest ∙ rw (drop-cons xs i a h, drop-cons ys i b k, e) (t.more (get_or xs i a) (drop (suc i) xs) (get_or ys i b) (drop (suc i) ys))

      both-on : not p ≡ false → BothTo all xs ys (i + 1)
      both-on q = record { same = v.same; rest = ahead ∙ rw (not-false p q, add-one) }

      both-fail : not p ≡ true → false ≡ all xs ys
      both-fail q = sym (ahead ∙ rw (not-true p q))

-- the rooms, each with its head
rooms-together : Together room_fits_in rooms_fit
unfolding rooms_fit
rooms-together = record { none = λ ys. refl; more = λ x xs y ys. refl }

pub record RoomsTo (s : List ℕ) (i : ℕ) : Type 0 where
  pub passed : BothTo rooms_fit (heads_in s) (rooms_in s) i

pub rooms-begin : (s : List ℕ) → RoomsTo s 0
rooms-begin s = record { passed = both-begin rooms_fit (heads_in s) (rooms_in s) (heads-length s ∙ sym (rooms-length s)) }

module _ {s : List ℕ} {i : ℕ} (v : RoomsTo s i) where
  pub rooms-all : credential_count ≤ i → true ≡ rooms_fit (heads_in s) (rooms_in s)
  rooms-all h = both-all rooms-together v.passed (omega (arith, heads-length s))

  module _ (h : i < credential_count) {head : List ℕ} {p : Bool}
      (e : p ≡ room_fits_in head (take (parameters_at + i * parameters_size + parameters_size - (parameters_at + i * parameters_size)) (drop (parameters_at + i * parameters_size) s)))
      (t : head ≡ head_in s i) where
    here : p ≡ room_fits_in (get_or (heads_in s) i []) (get_or (rooms_in s) i [])
    unfolding head_in
    here =
        let n : parameters_at + i * parameters_size + parameters_size - (parameters_at + i * parameters_size) ≡ parameters_size = omega arith in
        e ∙ rw (t, n, head_at s i h, room_at s i h)

    inside : i < length (heads_in s)
    inside = omega (arith, heads-length s)

    pub rooms-on : not p ≡ false → RoomsTo s (i + 1)
    rooms-on q = record { passed = both-on rooms-together v.passed [] [] inside here q }

    pub rooms-fail : not p ≡ true → false ≡ rooms_fit (heads_in s) (rooms_in s)
    rooms-fail q = both-fail rooms-together v.passed [] [] inside here q

-- ---- the whole
module _ (s : List ℕ) where
  pub store_other : (length s ≡ store_length → ⊥) → false ≡ is_store s
  unfolding is_store
  store_other n = rw (ne_eqb (length s) store_length n)

  module _ (h : length s ≡ store_length) {x : Bool} where
    pub store-owned : set_flag < get_or s owned_at 0 → x ≡ false → x ≡ is_store s
    unfolding is_store
    store-owned k e = e ∙ rw (eq-eqb (length s) store_length h, lt-leb (get_or s owned_at 0) set_flag k)

    module _ (k : get_or s owned_at 0 ≤ set_flag) {p : Bool} (e : p ≡ every head_fits_in (heads_in s)) (f : x ≡ p) where
      heads : x ≡ every head_fits_in (heads_in s)
      heads = f ∙ e

      pub store-heads : x ≡ false → x ≡ is_store s
      unfolding is_store
      store-heads n = n ∙ rw (eq-eqb (length s) store_length h, le-leb (get_or s owned_at 0) set_flag k, ← heads, n)

      pub store-rooms : x ≡ true → {q : Bool} → q ≡ rooms_fit (heads_in s) (rooms_in s) → q ≡ is_store s
      unfolding is_store
      store-rooms n g = g ∙ rw (eq-eqb (length s) store_length h, le-leb (get_or s owned_at 0) set_flag k, ← heads, n)

-- ---- a head beside a credential's grants
each-together : Together head_fits each_fits
unfolding each_fits
each-together = record { none = λ ys. refl; more = λ x xs y ys. refl }

pub record FitsTo (l : List Grants) (each : List Head) (i : ℕ) : Type 0 where
  pub passed : BothTo each_fits l each i

pub fits-begin : (l : List Grants) (each : List Head) → length l ≡ credential_count → length each ≡ credential_count → FitsTo l each 0
fits-begin l each h k = record { passed = both-begin each_fits l each (h ∙ sym k) }

module _ (l : List Grants) (n : length l ≡ credential_count) where
  pub fits_all : (heads : Heads) {i : ℕ} → FitsTo l heads.each i → credential_count ≤ i → true ≡ fits l heads
  unfolding fits
  fits_all heads v h = both-all each-together v.passed (omega arith)

  module _ (a : Grants) (b : Head) {p : Bool} where
    pub fits_on : {each : List Head} {i : ℕ} → FitsTo l each i → i < credential_count → p ≡ head_fits (get_or l i a) (get_or each i b) → not p ≡ false → FitsTo l each (i + 1)
    fits_on v h e q = record { passed = both-on each-together v.passed a b (omega arith) e q }

    pub fits-fail : (heads : Heads) {i : ℕ} → FitsTo l heads.each i → i < credential_count → p ≡ head_fits (get_or l i a) (get_or heads.each i b) → not p ≡ true → false ≡ fits l heads
    unfolding fits
    fits-fail heads v h e q = both-fail each-together v.passed a b (omega arith) e q

pub ruleset rules = (std_rules, length-mapped, part_in, rows-begin, heads-on, heads-all, heads-fail, clear-begin, clear-on, clear-all, rooms-begin, rooms-all, rooms-on, rooms-fail, store_other, store-owned, store-heads, store-rooms, fits-begin, fits_all, fits_on, fits-fail)
