-- The laws that close the needs of this crate's functions by `search rules`: each premise is as a place's record has it.
-- Assumes nothing.
use Prim.Native.Nat.{ℕ, ◌+◌, ◌-◌, ◌*◌, ◌<◌, ◌≤◌}
use mathlib.Core.Path.{◌≡◌, refl, sym, ap, ◌∙◌}
use mathlib.Core.Bool.{false}
use mathlib.Core.List.{List, [], ◌∷◌, map}
use native.Mathlib.Omega.{arith}
use borrow.Author.Rules.{rules as std_rules}
use borrow.Author.Tests.{le-leb, lt-leb, lt-ltb, le-ltb}
use lib.Dec.{eqb}
use lib.ListN.{length, take, drop, get_or, set, replicate, length-take, get_or-eq_default}
use lib.Seq.{length-take-le, take_all, take-take}
use Rattle.lists.specs.Each.{Each, each-cons}
use Rattle.lists.proofs.Tests.{below}
use Rattle.lists.proofs.Lists.{length-mapped, get_d-same}
use Rattle.rows.specs.Bytes.{number_at}
use Rattle.rows.specs.Rows.{over}
use Rattle.rows.proofs.Over.{over_none, over-length}
use Rattle.rows.proofs.Loops.{FilledBy, filled-begin, filled_next, filled-done}
use Rattle.names.specs.declared.Credential.{Credential}
use Rattle.module_state.specs.Module.{credential_count}
use Rattle.state_layout.specs.Layout.{set_flag}
use Rattle.store_layout.specs.Store.{nothing, parameters_size, head_of, no_head, held_of, heads_of}
use Rattle.store_layout.specs.Layout.{lock_at, length_at, length_size, head_size, heads_at, owned_at, parameters_at, store_length, length_in, held_from, helds_from, heads_in, rooms_in, store_of}
use Rattle.store_layout.specs.declared.Head.{Head}
use Rattle.store_layout.specs.declared.Heads.{Heads}
use Rattle.store_layout.proofs.Parts.{store-in, store-not-in, heads-length, rooms-length, rooms-whole, head_at, room_at, helds-length, held_at}
use Rattle.store_read.specs.Reads.{head_in, head_part, length_from, head_from, parameters_over}

-- ---- a head
module _ (x : List ℕ) {n : ℕ} (e : n ≡ number_at length_size length_at x) where
  pub length-within : n ≤ parameters_size → n ≡ length_from x
  unfolding length_from length_in
  length-within h = rw (← e, le-leb n parameters_size h)

  pub length-past : parameters_size < n → parameters_size ≡ length_from x
  unfolding length_from length_in
  length-past h = rw (← e, lt-leb n parameters_size h)

pub head_read : (x : List ℕ) {f n : ℕ} → f ≡ get_or x lock_at 0 → n ≡ length_from x → ◌≡◌ {A = Head} (record { locked = eqb f set_flag; length = n }) (head_from x)
unfolding head_from
head_read x e q = rw (e, q)

pub part_in : (s : List ℕ) (i : ℕ) {p : List ℕ} → p ≡ head_part s i → i < credential_count → p ≡ head_in s i
unfolding head_part
part_in s i e h = e ∙ rw (lt-ltb i credential_count h)

pub part_inside : (s : List ℕ) (i : ℕ) {p : List ℕ} → i < credential_count → p ≡ head_in s i → p ≡ head_part s i
unfolding head_part
part_inside s i h e = e ∙ rw (lt-ltb i credential_count h)

pub part_outside : (s : List ℕ) (i : ℕ) → credential_count ≤ i → [] ≡ head_part s i
unfolding head_part
part_outside s i h = rw (le-ltb i credential_count h)

pub heads_next : {s p : List ℕ} {out₀ out : List Head} {i : ℕ} {x : Head} → FilledBy head_from credential_count head_size heads_at s out₀ out i → i < credential_count → x ≡ head_from p → p ≡ head_in s i
    → FilledBy head_from credential_count head_size heads_at s out₀ (set out i x) (i + 1)
unfolding head_in
heads_next {i = i} v h e q =
    let k : heads_at + i * head_size + head_size - (heads_at + i * head_size) ≡ head_size = omega arith in
    filled_next v h (e ∙ rw (q, k))

pub heads_done : {s : List ℕ} {out₀ out : List Head} {i : ℕ} → FilledBy head_from credential_count head_size heads_at s out₀ out i → credential_count ≤ i → out ≡ map head_from (heads_in s)
unfolding heads_in
heads_done v h = filled-done v h

-- what a head says of its room
length-held : (head room : List ℕ) → length room ≡ parameters_size → length (take (length_in head) room) ≡ length_from head
unfolding length_from
length-held head room h =
    below parameters_size (length_in head)
    (λ k.
    let all : length room ≤ length_in head = omega arith in
    rw (lt-leb (length_in head) parameters_size k, take_all (length_in head) room all) h)
    (λ k. rw (le-leb (length_in head) parameters_size k) (length-take-le (length_in head) room (omega arith)))

heads-held : (heads rooms : List (List ℕ)) → length heads ≡ length rooms → Each (λ r. length r ≡ parameters_size) rooms → map head_of (helds_from heads rooms) ≡ map head_from heads
unfolding helds_from held_from head_from
heads-held [] rooms e v = refl
heads-held (x ∷ heads) [] e v = absurd (omega arith)
heads-held (x ∷ heads) (y ∷ rooms) e (each-cons h v) = rw (length-held x y h, heads-held heads rooms (omega arith) v)

-- ---- the heads of a slice
pub heads-other : (s : List ℕ) {h : Head} → (length s ≡ store_length → ⊥) → h ≡ no_head → ◌≡◌ {A = Heads} (record { owned = false; each = replicate credential_count h }) (heads_of (store_of s))
unfolding heads_of
heads-other s n e = rw (e, store-not-in s n)

pub heads-read : (s : List ℕ) {l : List Head} → length s ≡ store_length → l ≡ map head_from (heads_in s) → ◌≡◌ {A = Heads} (record { owned = eqb (get_or s owned_at 0) set_flag; each = l }) (heads_of (store_of s))
unfolding heads_of
heads-read s h e =
    let same : length (heads_in s) ≡ length (rooms_in s) = heads-length s ∙ sym (rooms-length s) in
    rw (store-in s h, e, heads-held (heads_in s) (rooms_in s) same (rooms-whole s h))

-- ---- the parameters of a credential
pub length-room : (x : List ℕ) {n : ℕ} → n ≡ length_from x → n ≤ parameters_size
unfolding length_from
length-room x {n} e =
    below parameters_size (length_in x)
    (λ k. let q : n ≡ parameters_size = e ∙ rw (lt-leb (length_in x) parameters_size k) in omega arith)
    (λ k. let q : n ≡ length_in x = e ∙ rw (le-leb (length_in x) parameters_size k) in omega arith)

module _ (s : List ℕ) (c : Credential) (old : List ℕ) where
  none-held : held_of (store_of s) c ≡ nothing → old ≡ parameters_over (held_of (store_of s) c).parameters old
  none-held e = rw e (sym (over_none 0 old))

  pub copy-other : (length s ≡ store_length → ⊥) → old ≡ parameters_over (held_of (store_of s) c).parameters old
  unfolding held_of
  copy-other n = none-held (rw (store-not-in s n) (get_d-same credential_count c.0 nothing))

  module _ (h : length s ≡ store_length) where
    same : length (heads_in s) ≡ length (rooms_in s)
    same = heads-length s ∙ sym (rooms-length s)

    pub copy-nowhere : credential_count ≤ c.0 → old ≡ parameters_over (held_of (store_of s) c).parameters old
    unfolding held_of
    copy-nowhere k =
        let past : length (helds_from (heads_in s) (rooms_in s)) ≤ c.0 = omega (arith, helds-length (heads_in s) (rooms_in s) same, heads-length s) in
        none-held (rw (store-in s h) (get_or-eq_default (helds_from (heads_in s) (rooms_in s)) nothing past))

    module _ (k : c.0 < credential_count) {n : ℕ} (e : n ≡ length_from (head_in s c.0)) where
      abbrev room : List ℕ
      room = drop (parameters_at + c.0 * parameters_size) s

      held-is : (held_of (store_of s) c).parameters ≡ take n room
      unfolding held_of held_from head_in length_from
      held-is =
          let i : c.0 < length (heads_in s) = omega (arith, heads-length s) in
          let l : ℕ = length_in (head_in s c.0) in
          let q : (held_of (store_of s) c).parameters ≡ take l (take parameters_size room) =
          rw (store-in s h, held_at (heads_in s) (rooms_in s) c.0 same i, head_at s c.0 k, room_at s c.0 k)
          in
          below parameters_size l
          (λ p.
          let all : length (take parameters_size room) ≤ l = simp length-take (omega arith) in
          q ∙ rw (e, lt-leb l parameters_size p, take_all l (take parameters_size room) all))
          (λ p. q ∙ rw (e, le-leb l parameters_size p, take-take l parameters_size room p))

      pub copy-inside : {new : List ℕ} → new ≡ over 0 (length (take (parameters_at + c.0 * parameters_size + n - (parameters_at + c.0 * parameters_size)) room)) (take (parameters_at + c.0 * parameters_size + n - (parameters_at + c.0 * parameters_size)) room) old
          → new ≡ parameters_over (held_of (store_of s) c).parameters old
      copy-inside p = let m : parameters_at + c.0 * parameters_size + n - (parameters_at + c.0 * parameters_size) ≡ n = omega arith in p ∙ rw (m, held-is)

pub copy-same : (bytes old : List ℕ) {new : List ℕ} → new ≡ over 0 (length bytes) bytes old → length new ≡ length old
copy-same bytes old p = ap length p ∙ over-length 0 (length bytes) bytes old refl

pub ruleset rules = (std_rules, length-mapped, length-within, length-past, head_read, part_in, part_inside, part_outside, filled-begin, heads_next, heads_done, heads-other, heads-read, length-room, copy-other, copy-nowhere, copy-inside, copy-same)
