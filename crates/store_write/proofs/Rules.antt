-- The laws that close the needs of this crate's functions by `search rules`: each premise is as a place's record has it.
-- Assumes nothing.
use Prim.Native.Nat.{ℕ, suc, ◌+◌, ◌-◌, ◌*◌, ◌/◌, ◌%◌, ◌<◌, ◌≤◌}
use mathlib.Core.Path.{◌≡◌, refl, sym, ap, ◌∙◌}
use mathlib.Core.Bool.{Bool, true, false}
use mathlib.Core.List.{List, [], ◌∷◌}
use native.Mathlib.Nat.{add-zero, mod-eq_of_lt}
use native.Mathlib.Numerals.{add-one}
use native.Mathlib.Omega.{arith}
use borrow.Author.Rules.{rules as std_rules}
use borrow.Author.Tests.{eq-eqb, ne_eqb, le-leb, lt-leb}
use borrow.Rule.Slice.PartMut.{put_mid}
use mir.Val.{bool_byte as from_bool}
use lib.Arith.{digits_div, digits_mod}
use lib.ListN.{length, take, drop, get_or, set, replicate, length-set, length-replicate, length-take, length-drop, drop_of_length-le}
use lib.Seq.{drop-cons}
use Rattle.lists.specs.Lists.{padded}
use Rattle.lists.proofs.Lists.{length-mapped}
use Rattle.rows.specs.Bytes.{bytes_of}
use Rattle.rows.specs.Rows.{over, Put}
use Rattle.rows.proofs.Bytes.{length-bytes}
use Rattle.rows.proofs.Over.{over-length, over-short, over-append, over-set, over-part, put_byte, put_next}
use Rattle.names.specs.declared.Credential.{Credential}
use Rattle.module_state.specs.Module.{credential_count, is_credential}
use Rattle.state_layout.specs.Layout.{flag_number}
use Rattle.store_layout.specs.Store.{nothing, parameters_size}
use Rattle.store_layout.specs.Layout.{lock_at, length_at, length_size, owned_at, store_length, head_bytes, room_bytes, head_place, room_place, can_write, owned_written, head_written, room_written, held_written, cleared_from}
use Rattle.store_layout.specs.declared.Head.{Head}
use Rattle.store_layout.proofs.Written.{can-length, can-low, head-length, room-length, held-length}

-- ---- a flag in a byte
pub flag-byte : (flag : Bool) → from_bool flag ≡ flag_number flag
flag-byte true = refl
flag-byte false = refl

-- ---- ownership
module _ (b : List ℕ) (owned : Bool) where
  pub owned-put : {n : ℕ} → length b ≡ store_length → n ≡ from_bool owned → set b owned_at n ≡ owned_written b owned
  unfolding owned_written
  owned-put {n} h e = let k : owned_at < length b = omega arith in over-set owned_at n b k ∙ rw (e, flag-byte owned, eq-eqb (length b) store_length h)

  pub owned-other : (length b ≡ store_length → ⊥) → b ≡ owned_written b owned
  unfolding owned_written
  owned-other n = rw (ne_eqb (length b) store_length n)

-- ---- whether a credential's part can be written
module _ (b : List ℕ) (c : Credential) where
  pub can-other : (length b ≡ store_length → ⊥) → false ≡ can_write b c
  unfolding can_write
  can-other n = rw (ne_eqb (length b) store_length n)

  pub can-credential : {t : Bool} → length b ≡ store_length → t ≡ is_credential c → t ≡ can_write b c
  unfolding can_write
  can-credential h e = e ∙ rw (eq-eqb (length b) store_length h)

-- ---- a head
module _ (b : List ℕ) (c : Credential) (h : Head) {t : Bool} (e : t ≡ can_write b c) where
  pub head-not : t ≡ false → b ≡ head_written b c h
  unfolding head_written
  head-not f = rw (← e, f)

  module _ (f : t ≡ true) where
    can : can_write b c ≡ true
    can = sym e ∙ f

    pub lock-place : head_place c + lock_at < length b
    lock-place = omega (arith, can-length b c can, can-low b c can)

    pub head-sum : head_place c + length_at < 65536
    head-sum = omega (arith, can-low b c can)

    pub head-put : {n : ℕ} {new : List ℕ} → n ≡ from_bool h.locked → new ≡ over (head_place c + length_at) length_size (bytes_of length_size h.length) (set b (head_place c + lock_at) n) → new ≡ head_written b c h
    unfolding head_written head_bytes
    head-put {n} {new} p q =
        let z : head_place c + lock_at ≡ head_place c = add-zero (head_place c) in
        let one : Put (head_place c) 1 (n ∷ []) b (set b (head_place c) n) = put_byte (head_place c) n b (rw z at lock-place) in
        let two : Put (head_place c + 1) length_size (bytes_of length_size h.length) (set b (head_place c) n) new =
        record { long = length-bytes length_size h.length; is = rw z at q }
        in
        let r : head_place c + 1 + length_size ≤ length b = omega (arith, can-length b c can, can-low b c can) in
        let f : n ≡ flag_number h.locked = p ∙ flag-byte h.locked in
        (put_next one two r).is ∙ rw (← f, can)

pub head-same : (b : List ℕ) (at n place length' : ℕ) {new : List ℕ} → new ≡ over place length_size (bytes_of length_size length') (set b at n) → length new ≡ length b
head-same b at n place length' p =
    ap length p ∙ over-length place length_size (bytes_of length_size length') (set b at n) (length-bytes length_size length') ∙ length-set b at n

-- ---- zeros
module _ (at n : ℕ) (old : List ℕ) where
  pub zeros-over : length old < n → old ≡ over at n (replicate n 0) old
  zeros-over h = sym (over-short at n (replicate n 0) old (omega arith))

  module _ (h : n ≤ length old) where
    pub zeros-short : length old - n < at → old ≡ over at n (replicate n 0) old
    zeros-short k = sym (over-short at n (replicate n 0) old (omega arith))

    pub zeros-put : at ≤ length old - n → {zeros : List ℕ} → zeros ≡ replicate (length (take (at + n - at) (drop at old))) 0 → put_mid at (at + n - at) old zeros ≡ over at n (replicate n 0) old
    zeros-put k e =
        let w : at + n - at ≡ n = omega arith in
        let r : length (take n (drop at old)) ≡ n = simp (length-take, length-drop) (omega arith) in
        rw (e, w, r) (over-part at n (replicate n 0) old (omega arith))

-- ---- a room
module _ (b : List ℕ) (c : Credential) (p : List ℕ) {t : Bool} (e : t ≡ can_write b c) where
  pub room-not : t ≡ false → b ≡ room_written b c p
  unfolding room_written
  room-not f = rw (← e, f)

  module _ (f : t ≡ true) where
    pub room-long : parameters_size < length p → b ≡ room_written b c p
    unfolding room_written
    room-long k = rw (← e, f, lt-leb (length p) parameters_size k)

    pub room-put : {mid new : List ℕ} → length p ≤ parameters_size → mid ≡ over (room_place c) (length p) p b → new ≡ over (room_place c + length p) (parameters_size - length p) (replicate (parameters_size - length p) 0) mid → new ≡ room_written b c p
    unfolding room_written room_bytes padded
    room-put k q r =
        let m : length p + (parameters_size - length p) ≡ parameters_size = omega arith in
        let room : room_place c + length p + (parameters_size - length p) ≤ length b = omega (arith, can-length b c (sym e ∙ f), can-low b c (sym e ∙ f)) in
        r ∙ rw (q, ← e, f, le-leb (length p) parameters_size k) (sym (over-append (room_place c) (length p) (parameters_size - length p) p (replicate (parameters_size - length p) 0) b refl room) ∙ rw m)

pub over-same : (at n : ℕ) (x old : List ℕ) {new : List ℕ} → length x ≡ n → new ≡ over at n x old → length new ≡ length old
over-same at n x old h p = ap length p ∙ over-length at n x old h

-- ---- what is held: the length in two bytes is that of its remainder by what they hold
length-low : (n : ℕ) → bytes_of length_size (n % 65536) ≡ bytes_of length_size n
unfolding bytes_of
length-low n =
    let high : ℕ = n / 65536 in
    let mid : ℕ = n % 65536 / 256 in
    let low : ℕ = n % 65536 % 256 in
    let m : mid < 256 = omega arith in
    let l : low < 256 = omega arith in
    let e : n ≡ (high * 256 + mid) * 256 + low = omega arith in
    let p : n % 256 ≡ low = ap (λ (x : ℕ). x % 256) e ∙ digits_mod (high * 256 + mid) l in
    let d : n / 256 ≡ high * 256 + mid = ap (λ (x : ℕ). x / 256) e ∙ digits_div (high * 256 + mid) l in
    let q : n / 256 % 256 ≡ mid = ap (λ (x : ℕ). x % 256) d ∙ digits_mod high m in
    rw (p, q, mod-eq_of_lt m)

module _ (b : List ℕ) (c : Credential) (locked : Bool) (p : List ℕ) where
  pub held-put : {mid new : List ℕ} → mid ≡ room_written b c p → new ≡ head_written mid c (record { locked = locked; length = length p % 65536 }) → new ≡ held_written b c (record { locked = locked; parameters = p })
  unfolding held_written head_written head_bytes
  held-put q r = r ∙ rw (q, length-low (length p))

-- ---- nothing held of those whose flag is set: what is still to be cleared
pub record ClearedTo (gone : List Bool) (old new : List ℕ) (i : ℕ) : Type 0 where
  pub long : length new ≡ length old
  pub rest : cleared_from 0 gone old ≡ cleared_from i (drop i gone) new

pub cleared-begin : (gone : List Bool) (old : List ℕ) → ClearedTo gone old old 0
cleared-begin gone old = record { long = refl; rest = refl }

module _ {gone : List Bool} {old new : List ℕ} {i : ℕ} (v : ClearedTo gone old new i) where
  pub cleared-length : length new ≡ length old
  cleared-length = v.long

  module _ (d : Bool) (h : i < credential_count) (n : length gone ≡ credential_count) where
    ahead : drop i gone ≡ get_or gone i d ∷ drop (i + 1) gone
    ahead = drop-cons gone i d (omega arith) ∙ rw add-one

    pub cleared-gone : {mid next : List ℕ} → get_or gone i d ≡ true → mid ≡ held_written new (record { 0 = i }) nothing → next ≡ mid → ClearedTo gone old next (i + 1)
    unfolding cleared_from
    cleared-gone e q r = rw (r, q) (record { long = held-length new (record { 0 = i }) nothing ∙ v.long; rest = v.rest ∙ rw (ahead, e) })

    pub cleared-kept : {next : List ℕ} → get_or gone i d ≡ false → next ≡ new → ClearedTo gone old next (i + 1)
    unfolding cleared_from
    cleared-kept e r = rw r (record { long = v.long; rest = v.rest ∙ rw (ahead, e) })

  pub cleared-all : credential_count ≤ i → length gone ≡ credential_count → new ≡ cleared_from 0 gone old
  unfolding cleared_from
  cleared-all h n = let k : length gone ≤ i = omega arith in sym (v.rest ∙ rw (drop_of_length-le gone k))

pub ruleset rules = (std_rules, length-mapped, flag-byte, owned-put, owned-other, can-other, can-credential, head-not, lock-place, head-sum, head-put, head-same, zeros-over, zeros-short, zeros-put, room-not, room-long, room-put, over-same, head-length, room-length, held-length, held-put, cleared-begin, cleared-length, cleared-gone, cleared-kept, cleared-all, length-bytes, length-replicate)
