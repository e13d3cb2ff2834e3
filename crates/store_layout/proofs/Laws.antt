-- Each store has one form: a slice that is a store is the bytes of what it holds, and of nothing else; a store of the right form is read back from its bytes;
-- and these are a store.
-- Assumes nothing.
use Prim.Native.Nat.{ℕ, zero, suc, ◌+◌, ◌-◌, ◌*◌, ◌<◌, ◌≤◌}
use mathlib.Core.Path.{◌≡◌, refl, sym, ◌∙◌}
use mathlib.Core.Bool.{Bool, true, false}
use mathlib.Core.List.{List, [], ◌∷◌, ◌++◌, map, append_assoc, append-nil}
use native.Mathlib.Nat.{zero-mul, suc-mul, add_comm}
use native.Mathlib.Omega.{arith}
use borrow.Author.Tests.{eqb-true, leb-true, eq-eqb, le-leb}
use lib.Dec.{eqb, leb}
use lib.ListN.{length, take, drop, get_or, replicate, length-append, length-map, length-drop, take-append-drop}
use lib.Seq.{take_at, drop_at, take-add, length-take-le}
use Rattle.lists.specs.Each.{Each, each_nil, each-cons}
use Rattle.lists.specs.Lists.{join, padded}
use Rattle.lists.proofs.Each.{each-imp₂, each_both}
use Rattle.lists.proofs.Lists.{front-padded}
use Rattle.lists.proofs.Tests.{and_left, and_right}
use Rattle.rows.specs.Bytes.{Bytes, bytes_of}
use Rattle.rows.specs.Rows.{rows, every}
use Rattle.rows.proofs.Bytes.{bytes_take, bytes_drop, number_in, number-taken, byte-front, part-front, part-last}
use Rattle.rows.proofs.Rows.{each-bytes, bytes-each, number-each, rows_whole, rows-bytes, every-each, each_append, each-replicate, zeros-are, are-zeros}
use Rattle.module_state.specs.Module.{credential_count}
use Rattle.state_layout.specs.Layout.{set_flag, flag_number}
use Rattle.store_layout.specs.Store.{Held, Store, parameters_size, head_of}
use Rattle.store_layout.specs.Layout.{lock_at, length_at, length_size, head_size, owned_at, heads_at, parameters_at, store_length, head_bytes, length_in, head_fits_in, room_bytes, room_fits_in, held_from, helds_from, rooms_fit, heads_in, rooms_in, held_bytes, store_bytes, store_of, is_store}
use Rattle.store_layout.specs.Facts.{FormedHeld, FormedStore}
use Rattle.store_layout.proofs.Parts.{store-in, heads-length, rooms-length, rooms-whole, helds-length}
use Rattle.store_layout.proofs.Written.{head-bytes-length, room-bytes-length}

-- ---- a flag
flag-back : (f : Bool) → eqb (flag_number f) set_flag ≡ f
flag-back true = refl
flag-back false = refl

flag-fits : (f : Bool) → leb (flag_number f) set_flag ≡ true
flag-fits true = refl
flag-fits false = refl

flag-forth : (x : ℕ) → x ≤ set_flag → flag_number (eqb x set_flag) ≡ x
flag-forth zero h = refl
flag-forth (suc zero) h = refl
flag-forth (suc (suc x)) h = absurd (omega arith)

-- ---- rows put together, and bytes in rows
abbrev pub Whole : ℕ → List ℕ → Type 0
Whole k r = length r ≡ k

pub join-long : (k : ℕ) {l : List (List ℕ)} → Each (Whole k) l → length (join l) ≡ length l * k
unfolding join
join-long k each_nil = sym (zero-mul k)
join-long k (each-cons {x} {l} p v) = rw (length-append, suc-mul, p, join-long k v) (add_comm k (length l * k))

rows_join : (k : ℕ) (y : List ℕ) {l : List (List ℕ)} → Each (Whole k) l → rows (length l) k (join l ++ y) ≡ l
unfolding rows join
rows_join k y each_nil = refl
rows_join k y (each-cons {x} {l} p v) = rw (append_assoc x (join l) y, take_at x (join l ++ y) k p, drop_at x (join l ++ y) k p, rows_join k y v)

join-rows : (n k : ℕ) (b : List ℕ) → join (rows n k b) ≡ take (n * k) b
unfolding rows join
join-rows zero k b = rw zero-mul
join-rows (suc n) k b =
    let m : suc n * k ≡ k + n * k = suc-mul n k ∙ add_comm (n * k) k in
    rw (join-rows n k (drop k b), m) (sym (take-add k (n * k) b))

-- ---- what is held of a credential, in its bytes
abbrev pub held_room : Held → List ℕ
held_room h = room_bytes h.parameters

module _ (h : Held) (f : FormedHeld h) where
  length-said : length_in (held_bytes h) ≡ length h.parameters
  unfolding length_in head_bytes
  length-said = rw append-nil at (number_in length_size (length h.parameters) (flag_number h.locked ∷ []) [] (omega (arith, f.few)))

  held_back : held_from (held_bytes h) (held_room h) ≡ h
  unfolding held_from head_bytes room_bytes
  held_back = rw (length-said, flag-back h.locked, front-padded parameters_size 0 h.parameters)

  head-fits : head_fits_in (held_bytes h) ≡ true
  unfolding head_fits_in head_bytes
  head-fits = rw (length-said, flag-fits h.locked) (le-leb (length h.parameters) parameters_size f.few)

  room_fits : room_fits_in (held_bytes h) (held_room h) ≡ true
  unfolding room_fits_in room_bytes padded
  room_fits = rw (length-said, drop_at h.parameters (replicate (parameters_size - length h.parameters) 0) (length h.parameters) refl) (are-zeros (parameters_size - length h.parameters))

-- of all
helds-back : {l : List Held} → Each FormedHeld l → helds_from (map held_bytes l) (map held_room l) ≡ l
unfolding helds_from
helds-back each_nil = refl
helds-back (each-cons {x} f v) = rw (held_back x f, helds-back v)

heads-fit : {l : List Held} → Each FormedHeld l → every head_fits_in (map held_bytes l) ≡ true
unfolding every
heads-fit each_nil = refl
heads-fit (each-cons {x} f v) = rw (head-fits x f) (heads-fit v)

rooms-fit : {l : List Held} → Each FormedHeld l → rooms_fit (map held_bytes l) (map held_room l) ≡ true
unfolding rooms_fit
rooms-fit each_nil = refl
rooms-fit (each-cons {x} f v) = rw (room_fits x f) (rooms-fit v)

pub heads-whole : (l : List Held) → Each (Whole head_size) (map held_bytes l)
heads-whole [] = each_nil
heads-whole (x ∷ l) = each-cons (head-bytes-length (head_of x)) (heads-whole l)

pub held-rooms-whole : {l : List Held} → Each FormedHeld l → Each (Whole parameters_size) (map held_room l)
held-rooms-whole each_nil = each_nil
held-rooms-whole (each-cons {x} f v) = each-cons (room-bytes-length x.parameters f.few) (held-rooms-whole v)

-- ---- the bytes of a store
module _ {s : Store} (f : FormedStore s) where
  abbrev head_part : List ℕ
  head_part = join (map held_bytes s.held)

  abbrev room_part : List ℕ
  room_part = join (map held_room s.held)

  heads-count : length (map held_bytes s.held) ≡ credential_count
  heads-count = length-map s.held held_bytes ∙ f.all

  rooms-count : length (map held_room s.held) ≡ credential_count
  rooms-count = length-map s.held held_room ∙ f.all

  pub heads-long : length head_part ≡ credential_count * head_size
  heads-long = join-long head_size (heads-whole s.held) ∙ rw heads-count

  rooms-long : length room_part ≡ credential_count * parameters_size
  rooms-long = join-long parameters_size (held-rooms-whole f.each) ∙ rw rooms-count

  pub bytes-long : length (store_bytes s) ≡ store_length
  unfolding store_bytes
  bytes-long = simp length-append (omega (arith, heads-long, rooms-long))

  heads-are : heads_in (store_bytes s) ≡ map held_bytes s.held
  unfolding heads_in store_bytes
  heads-are = rw heads-count at (rows_join head_size room_part (heads-whole s.held))

  rooms-are : rooms_in (store_bytes s) ≡ map held_room s.held
  unfolding rooms_in store_bytes
  rooms-are =
      let d : drop (credential_count * head_size) (head_part ++ room_part) ≡ room_part = drop_at head_part room_part (credential_count * head_size) heads-long in
      rw (d, ← append-nil room_part) (rw rooms-count at (rows_join parameters_size [] (held-rooms-whole f.each)))

  owned-is : get_or (store_bytes s) owned_at 0 ≡ flag_number s.owned
  unfolding store_bytes
  owned-is = refl

  -- what was written is read
  pub store-back : store_of (store_bytes s) ≡ s
  store-back = store-in (store_bytes s) bytes-long ∙ rw (heads-are, rooms-are, helds-back f.each, owned-is, flag-back s.owned)

  pub store-written : is_store (store_bytes s) ≡ true
  unfolding is_store
  store-written = rw (eq-eqb (length (store_bytes s)) store_length bytes-long, owned-is, flag-fits s.owned, heads-are, rooms-are, heads-fit f.each) (rooms-fit f.each)

-- they are bytes
flag-byte : (f : Bool) → flag_number f < 256
flag-byte true = omega arith
flag-byte false = omega arith

heads-bytes : (l : List Held) → Each (λ a. a < 256) (join (map held_bytes l))
unfolding join head_bytes
heads-bytes [] = each_nil
heads-bytes (x ∷ l) = each_append (each-cons (flag-byte x.locked) (number-each length_size (length x.parameters))) (heads-bytes l)

rooms-bytes : {l : List Held} → Each FormedHeld l → Each (λ a. a < 256) (join (map held_room l))
unfolding join room_bytes padded
rooms-bytes each_nil = each_nil
rooms-bytes (each-cons {x} f v) =
    let zeros : Each (λ a. a < 256) (replicate (parameters_size - length x.parameters) 0) = each-replicate (parameters_size - length x.parameters) 0 (omega arith) in
    each_append (each_append (bytes-each x.parameters f.bytes) zeros) (rooms-bytes v)

pub store-bytes : {s : Store} → FormedStore s → Bytes (store_bytes s)
unfolding store_bytes
store-bytes {s} f = each-bytes (each-cons (flag-byte s.owned) (each_append (heads-bytes s.held) (rooms-bytes f.each)))

-- ---- what a slice that is a store tells
pub record Shape (b : List ℕ) : Type 0 where
  pub long : length b ≡ store_length
  pub owned : get_or b owned_at 0 ≤ set_flag
  pub heads : every head_fits_in (heads_in b) ≡ true
  pub rooms : rooms_fit (heads_in b) (rooms_in b) ≡ true

pub shape : (b : List ℕ) → is_store b ≡ true → Shape b
unfolding is_store
shape b e =
    let e₁ = and_right (eqb (length b) store_length) _ e in
    let e₂ = and_right (leb (get_or b owned_at 0) set_flag) _ e₁ in
    record {
      long = eqb-true (length b) store_length (and_left (eqb (length b) store_length) _ e);
      owned = leb-true (get_or b owned_at 0) set_flag (and_left (leb (get_or b owned_at 0) set_flag) _ e₁);
      heads = and_left (every head_fits_in (heads_in b)) _ e₂;
      rooms = and_right (every head_fits_in (heads_in b)) _ e₂;
    }

-- a head and a room that fit are those of what they say
record GoodHead (head : List ℕ) : Type 0 where
  pub whole : Whole head_size head
  pub bytes : Bytes head
  pub fits : head_fits_in head ≡ true

record GoodRoom (room : List ℕ) : Type 0 where
  pub whole : Whole parameters_size room
  pub bytes : Bytes room

module _ {head : List ℕ} (v : GoodHead head) where
  flag-low : get_or head lock_at 0 ≤ set_flag
  unfolding head_fits_in
  flag-low = leb-true (get_or head lock_at 0) set_flag (and_left (leb (get_or head lock_at 0) set_flag) _ v.fits)

  length-low : length_in head ≤ parameters_size
  unfolding head_fits_in
  length-low = leb-true (length_in head) parameters_size (and_right (leb (get_or head lock_at 0) set_flag) _ v.fits)

  length-forth : bytes_of length_size (length_in head) ≡ drop length_at head
  unfolding length_in
  length-forth =
      let h : length_at + length_size ≡ length head = sym v.whole in
      number-taken length_size length_at head v.bytes (omega arith) ∙ part-last length_size length_at head h

  module _ {room : List ℕ} (w : GoodRoom room) where
    length_taken : length (take (length_in head) room) ≡ length_in head
    length_taken = length-take-le (length_in head) room (omega (arith, length-low, w.whole))

    head-forth : held_bytes (held_from head room) ≡ head
    unfolding held_from head_bytes
    head-forth =
        let h : lock_at < length head = omega (arith, v.whole) in
        rw (flag-forth (get_or head lock_at 0) flag-low, length_taken, length-forth) (byte-front lock_at head h)

    room-forth : room_fits_in head room ≡ true → held_room (held_from head room) ≡ room
    unfolding held_from room_fits_in room_bytes padded
    room-forth z =
        let n : length (drop (length_in head) room) ≡ parameters_size - length_in head = rw (length-drop, w.whole) in
        let q : replicate (parameters_size - length_in head) 0 ≡ drop (length_in head) room = sym (zeros-are (drop (length_in head) room) z ∙ rw n) in
        rw (length_taken, q) (take-append-drop (length_in head) room)

    held-formed : FormedHeld (held_from head room)
    unfolding held_from
    held-formed = record { few = rw length_taken length-low; bytes = bytes_take (length_in head) room w.bytes }

-- of all
record Forth (heads rooms : List (List ℕ)) : Type 0 where
  pub heads-are : map held_bytes (helds_from heads rooms) ≡ heads
  pub rooms-are : map held_room (helds_from heads rooms) ≡ rooms
  pub formed : Each FormedHeld (helds_from heads rooms)

all-forth : (heads rooms : List (List ℕ)) → length heads ≡ length rooms → Each GoodHead heads → Each GoodRoom rooms → rooms_fit heads rooms ≡ true → Forth heads rooms
unfolding helds_from rooms_fit
all-forth [] [] e v w t = record { heads-are = refl; rooms-are = refl; formed = each_nil }
all-forth [] (y ∷ rooms) e v w t = absurd (omega arith)
all-forth (x ∷ heads) [] e v w t = absurd (omega arith)
all-forth (x ∷ heads) (y ∷ rooms) e (each-cons p v) (each-cons q w) t =
    let r : Forth heads rooms = all-forth heads rooms (omega arith) v w (and_right (room_fits_in x y) (rooms_fit heads rooms) t) in
    record {
      heads-are = rw (head-forth p q, r.heads-are);
      rooms-are = rw (room-forth p q (and_left (room_fits_in x y) (rooms_fit heads rooms) t), r.rooms-are);
      formed = each-cons (held-formed p q) r.formed;
    }

module _ {b : List ℕ} (v : Shape b) (g : Bytes b) where
  good-heads : Each GoodHead (heads_in b)
  unfolding heads_in
  good-heads =
      let whole : Each (Whole head_size) (heads_in b) = rows_whole credential_count head_size (drop heads_at b) (simp length-drop (omega (arith, v.long))) in
      let bytes : Each Bytes (heads_in b) = rows-bytes credential_count head_size (drop heads_at b) (bytes_drop heads_at b g) in
      each-imp₂ (λ x p q. record { whole = p.0; bytes = p.1; fits = q }) (each_both whole bytes) (every-each head_fits_in (heads_in b) v.heads)

  good-rooms : Each GoodRoom (rooms_in b)
  unfolding rooms_in
  good-rooms =
      each-imp₂ (λ x p q. record { whole = p; bytes = q }) (rooms-whole b v.long) (rows-bytes credential_count parameters_size (drop parameters_at b) (bytes_drop parameters_at b g))

  forth : Forth (heads_in b) (rooms_in b)
  forth = all-forth (heads_in b) (rooms_in b) (heads-length b ∙ sym (rooms-length b)) good-heads good-rooms v.rooms

  -- the whole from its parts
  parts : flag_number (eqb (get_or b owned_at 0) set_flag) ∷ (join (heads_in b) ++ join (rooms_in b)) ≡ b
  unfolding heads_in rooms_in
  parts =
      let last : take (credential_count * parameters_size) (drop parameters_at b) ≡ drop parameters_at b = part-last (credential_count * parameters_size) parameters_at b (sym v.long) in
      let rest : take (credential_count * head_size) (drop heads_at b) ++ drop parameters_at b ≡ drop heads_at b = part-front (credential_count * head_size) heads_at b in
      let h : owned_at < length b = omega (arith, v.long) in
      rw (flag-forth (get_or b owned_at 0) v.owned, join-rows credential_count head_size (drop heads_at b), join-rows credential_count parameters_size (drop parameters_at b), last, rest) (byte-front owned_at b h)

-- ---- what callers cite
module _ (b : List ℕ) (e : is_store b ≡ true) (g : Bytes b) where
  -- what is read writes to the bytes that were read: each store has one form
  pub one_form : store_bytes (store_of b) ≡ b
  unfolding store_bytes
  one_form =
      let v : Shape b = shape b e in
      rw (store-in b v.long, (forth v g).heads-are, (forth v g).rooms-are) (parts v g)

  pub store-formed : FormedStore (store_of b)
  store-formed =
      let v : Shape b = shape b e in
      rw (store-in b v.long)
      (record {
        all = helds-length (heads_in b) (rooms_in b) (heads-length b ∙ sym (rooms-length b)) ∙ heads-length b;
        each = (forth v g).formed;
      })
