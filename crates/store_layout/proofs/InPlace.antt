-- A part of a store changed where it lies: a slice that holds a store then holds the store with that part changed. Every other byte stays.
-- Assumes nothing.
use Prim.Native.Nat.{ℕ, suc, ◌+◌, ◌*◌, ◌<◌, ◌≤◌}
use mathlib.Core.Path.{◌≡◌, refl, sym, ap, ◌∙◌}
use mathlib.Core.Bool.{Bool, true, false}
use mathlib.Core.List.{List, [], ◌∷◌, ◌++◌, map, append_assoc, append-nil}
use native.Mathlib.Numerals.{add-one}
use native.Mathlib.Omega.{arith}
use borrow.Author.Tests.{eq-eqb, le-leb, lt-leb}
use lib.ListN.{length, take, drop, get_or, set, length-append, length-map, length-set, get_or-map, get_or-eq_default, take-append-drop}
use lib.Seq.{length-take-le, take-suc, drop-cons, set_out, map-set_same, take-suc-set, drop-set-lt, append_snoc}
use Rattle.lists.specs.Each.{Each}
use Rattle.lists.specs.Lists.{join}
use Rattle.lists.proofs.Each.{each_at, each_set}
use Rattle.lists.proofs.Tests.{below}
use Rattle.rows.specs.Bytes.{Bytes}
use Rattle.rows.specs.Rows.{over}
use Rattle.rows.proofs.Over.{over-middle}
use Rattle.rows.proofs.Rows.{each_take, map-take, join-at, join-set}
use Rattle.names.specs.declared.Credential.{Credential}
use Rattle.module_state.specs.Module.{credential_count, is_credential, last_credential}
use Rattle.state_layout.specs.Layout.{flag_number}
use Rattle.store_layout.specs.Store.{Held, nothing, Store, held_of, head_of, heads_of, length_of, parameters_size, with_owned, with_held, cleared, without_held}
use Rattle.store_layout.specs.Layout.{head_size, owned_at, owned_size, heads_at, parameters_at, store_length, held_bytes, store_bytes, store_of, is_store, head_place, room_place, can_write, owned_written, head_written, room_written, held_written, cleared_from}
use Rattle.store_layout.specs.Facts.{FormedHeld, FormedStore}
use Rattle.store_layout.specs.declared.Head.{Head}
use Rattle.store_layout.proofs.Written.{room-length}
use Rattle.store_layout.proofs.Laws.{Whole, held_room, join-long, heads-whole, held-rooms-whole, bytes-long, heads-long, store-back, store-written, one_form, store-formed}

-- ---- a slice that holds a store: the bytes of one of the right form
pub record HoldsStore (b : List ℕ) (s : Store) : Type 0 where
  pub formed : FormedStore s
  pub bytes : b ≡ store_bytes s

pub holds-store : (b : List ℕ) → is_store b ≡ true → Bytes b → HoldsStore b (store_of b)
holds-store b e g = record { formed = store-formed b e g; bytes = sym (one_form b e g) }

module _ {b : List ℕ} {s : Store} (v : HoldsStore b s) where
  pub holds_read : store_of b ≡ s
  holds_read = ap store_of v.bytes ∙ store-back v.formed

  pub holds_test : is_store b ≡ true
  holds_test = ap is_store v.bytes ∙ store-written v.formed

  holds-long : length b ≡ store_length
  holds-long = ap length v.bytes ∙ bytes-long v.formed

-- ---- a row in the middle, by another one
module _ {A : Type 0} (enc : A → List ℕ) (k : ℕ) (l : List A) (w : Each (Whole k) (map enc l)) (i : ℕ) (h : i < length l) (d : A) where
  row-front : length (join (map enc (take i l))) ≡ i * k
  row-front =
      let inside : i ≤ length (map enc l) = omega (arith, length-map l enc) in
      rw (← map-take enc i l) (join-long k (each_take i w) ∙ rw (length-take-le i (map enc l) inside))

  row-long : length (enc (get_or l i d)) ≡ k
  row-long =
      let inside : i < length (map enc l) = omega (arith, length-map l enc) in
      rw (← get_or-map enc l i d) (each_at i (enc d) inside w)

  row-in-place : (at : ℕ) (before after : List ℕ) (a : A) → length before ≡ at → over (at + i * k) k (enc a) (before ++ (join (map enc l) ++ after)) ≡ before ++ (join (map enc (set l i a)) ++ after)
  row-in-place at before after a e =
      let x : List ℕ = join (map enc (take i l)) in
      let y : List ℕ = join (map enc (drop (suc i) l)) in
      let front : length (before ++ x) ≡ at + i * k = rw (length-append, row-front, e) in
      let glue : (o : List ℕ) → before ++ ((x ++ (o ++ y)) ++ after) ≡ (before ++ x) ++ (o ++ (y ++ after)) = λ o. simp append_assoc in
      rw (join-at enc l i h d, join-set enc l i h a, glue (enc (get_or l i d)), glue (enc a))
      (over-middle (at + i * k) k (before ++ x) (enc (get_or l i d)) (y ++ after) (enc a) front row-long)

-- ---- ownership
pub holds-owned : {b : List ℕ} {s : Store} → HoldsStore b s → (owned : Bool) → HoldsStore (owned_written b owned) (with_owned s owned)
unfolding owned_written store_bytes
holds-owned {b} {s} v owned =
    record {
      formed = record { all = v.formed.all; each = v.formed.each };
      bytes =
          rw (eq-eqb (length b) store_length (holds-long v), v.bytes)
          (over-middle owned_at owned_size [] (flag_number s.owned ∷ []) (join (map held_bytes s.held) ++ join (map held_room s.held)) (flag_number owned ∷ []) refl refl);
    }

-- ---- what is held of a credential
can-write : (b : List ℕ) (c : Credential) → length b ≡ store_length → c.0 < credential_count → can_write b c ≡ true
unfolding can_write is_credential
can-write b c h k = let l : c.0 ≤ last_credential = omega arith in rw (eq-eqb (length b) store_length h, le-leb c.0 last_credential l)

can-not : (b : List ℕ) (c : Credential) → length b ≡ store_length → credential_count ≤ c.0 → can_write b c ≡ false
unfolding can_write is_credential
can-not b c h k = let l : last_credential < c.0 = omega arith in rw (eq-eqb (length b) store_length h, lt-leb c.0 last_credential l)

module _ {s : Store} (f : FormedStore s) (c : Credential) (k : c.0 < credential_count) (h : Held) where
  abbrev owned : ℕ
  owned = flag_number s.owned

  inside : c.0 < length s.held
  inside = rw f.all k

  head-placed : (rooms : List ℕ) → over (head_place c) head_size (held_bytes h) (owned ∷ (join (map held_bytes s.held) ++ rooms)) ≡ owned ∷ (join (map held_bytes (set s.held c.0 h)) ++ rooms)
  head-placed rooms = row-in-place held_bytes head_size s.held (heads-whole s.held) c.0 inside nothing heads_at (owned ∷ []) rooms h refl

  room-placed : over (room_place c) parameters_size (held_room h) (store_bytes s) ≡ owned ∷ (join (map held_bytes s.held) ++ join (map held_room (set s.held c.0 h)))
  unfolding store_bytes
  room-placed =
      let front : length (owned ∷ join (map held_bytes s.held)) ≡ parameters_at = omega (arith, heads-long f) in
      simp append-nil at (row-in-place held_room parameters_size s.held (held-rooms-whole f.each) c.0 inside nothing parameters_at (owned ∷ join (map held_bytes s.held)) [] h front)

module _ {b : List ℕ} {s : Store} (v : HoldsStore b s) (c : Credential) where
  -- of what is no credential nothing is held, and nothing is written
  held-nowhere : (h : Held) → credential_count ≤ c.0 → with_held s c h ≡ s
  held-nowhere h k = let past : length s.held ≤ c.0 = omega (arith, v.formed.all) in rw (set_out s.held c.0 h past)

  module _ (h : Held) (f : FormedHeld h) where
    held-formed : FormedStore (with_held s c h)
    held-formed = record { all = length-set s.held c.0 h ∙ v.formed.all; each = each_set c.0 h v.formed.each f }

    held-bytes : c.0 < credential_count → held_written b c h ≡ store_bytes (with_held s c h)
    unfolding held_written head_written room_written store_bytes
    held-bytes k =
        let long : length (room_written b c h.parameters) ≡ store_length = room-length b c h.parameters ∙ holds-long v in
        let room : room_written b c h.parameters ≡ flag_number s.owned ∷ (join (map held_bytes s.held) ++ join (map held_room (set s.held c.0 h))) =
        rw (can-write b c (holds-long v) k, le-leb (length h.parameters) parameters_size f.few, v.bytes) (room-placed v.formed c k h)
        in
        rw (can-write (room_written b c h.parameters) c long k, room) (head-placed v.formed c k h (join (map held_room (set s.held c.0 h))))

    held-left : credential_count ≤ c.0 → held_written b c h ≡ b
    unfolding held_written head_written room_written
    held-left k = rw (can-not b c (holds-long v) k, can-not b c (holds-long v) k)

    pub holds-held : HoldsStore (held_written b c h) (with_held s c h)
    holds-held =
        below c.0 credential_count
        (λ k. record { formed = held-formed; bytes = held-bytes k })
        (λ k. rw (held-left k, held-nowhere h k) v)

-- ---- its lock, the parameters as they stand
pub nothing-formed : FormedHeld nothing
nothing-formed = record { few = omega arith; bytes = λ i. omega arith }

pub held-of-formed : {s : Store} → FormedStore s → (c : Credential) → FormedHeld (held_of s c)
unfolding held_of
held-of-formed {s} f c =
    below c.0 (length s.held)
    (λ k. each_at c.0 nothing k f.each)
    (λ k. rw (get_or-eq_default s.held nothing k) nothing-formed)

abbrev pub relocked : Store → Credential → Bool → Held
relocked s c locked = record { locked = locked; parameters = (held_of s c).parameters }

-- the head that is written for it: the length is that of the heads
abbrev pub relocked_head : Store → Credential → Bool → Head
relocked_head s c locked = record { locked = locked; length = length_of (heads_of s) c }

length-stands : (s : Store) (c : Credential) → length_of (heads_of s) c ≡ length (held_of s c).parameters
unfolding length_of heads_of held_of
length-stands s c = ap (λ (h : Head). h.length) (get_or-map head_of s.held c.0 nothing)

module _ {b : List ℕ} {s : Store} (v : HoldsStore b s) (c : Credential) (locked : Bool) where
  relocked-formed : FormedHeld (relocked s c locked)
  relocked-formed = let f : FormedHeld (held_of s c) = held-of-formed v.formed c in record { few = f.few; bytes = f.bytes }

  rooms-stand : map held_room (set s.held c.0 (relocked s c locked)) ≡ map held_room s.held
  unfolding held_of
  rooms-stand = map-set_same held_room s.held c.0 (relocked s c locked) nothing refl

  relocked-bytes : c.0 < credential_count → head_written b c (relocked_head s c locked) ≡ store_bytes (with_held s c (relocked s c locked))
  unfolding head_written store_bytes
  relocked-bytes k =
      rw (can-write b c (holds-long v) k, length-stands s c, v.bytes, rooms-stand) (head-placed v.formed c k (relocked s c locked) (join (map held_room s.held)))

  relocked-left : credential_count ≤ c.0 → head_written b c (relocked_head s c locked) ≡ b
  unfolding head_written
  relocked-left k = rw (can-not b c (holds-long v) k)

  pub holds-relocked : HoldsStore (head_written b c (relocked_head s c locked)) (with_held s c (relocked s c locked))
  holds-relocked =
      below c.0 credential_count
      (λ k. record { formed = held-formed v c (relocked s c locked) relocked-formed; bytes = relocked-bytes k })
      (λ k. rw (relocked-left k, held-nowhere v c (relocked s c locked) k) v)

  -- as both parts written
  pub relocked-held : head_written b c (relocked_head s c locked) ≡ held_written b c (relocked s c locked)
  relocked-held = holds-relocked.bytes ∙ sym (holds-held v c (relocked s c locked) relocked-formed).bytes

-- ---- nothing held of those whose flag is set
abbrev cleared_behind : Store → ℕ → List Bool → Store
cleared_behind s i flags = record { owned = s.owned; held = take i s.held ++ cleared flags nothing (drop i s.held) }

holds-behind : {b : List ℕ} {s : Store} (i : ℕ) (flags : List Bool) → HoldsStore b s → i + length flags ≡ credential_count → HoldsStore (cleared_from i flags b) (cleared_behind s i flags)
unfolding cleared_from cleared
holds-behind {b} {s} i [] v n = rw (take-append-drop i s.held) v
holds-behind {b} {s} i (true ∷ flags) v n =
    let k : i < length s.held = omega (arith, v.formed.all) in
    let front : take (suc i) (set s.held i nothing) ≡ take i s.held ++ (nothing ∷ []) = take-suc-set s.held i nothing k in
    let rest : drop (suc i) (set s.held i nothing) ≡ drop (suc i) s.held = drop-set-lt (suc i) s.held i nothing (omega arith) in
    rw (drop-cons s.held i nothing k, add-one)
    (rw (add-one, front, rest, append_snoc) at (holds-behind {b = held_written b (record { 0 = i }) nothing} {s = with_held s (record { 0 = i }) nothing} (i + 1) flags (holds-held v (record { 0 = i }) nothing nothing-formed) (omega arith)))
holds-behind {b} {s} i (false ∷ flags) v n =
    let k : i < length s.held = omega (arith, v.formed.all) in
    rw (drop-cons s.held i nothing k, add-one)
    (rw (add-one, take-suc s.held i nothing k, append_snoc) at (holds-behind {b = b} {s = s} (i + 1) flags v (omega arith)))

pub holds-cleared : {b : List ℕ} {s : Store} (flags : List Bool) → HoldsStore b s → length flags ≡ credential_count → HoldsStore (cleared_from 0 flags b) (without_held s flags)
holds-cleared flags v n = holds-behind 0 flags v (omega arith)
