-- Laws of bytes written over a buffer.
-- Assumes nothing.
use Prim.Native.Nat.{ℕ, ◌+◌, ◌-◌, ◌^◌, ◌<◌, ◌≤◌}
use mathlib.Core.Path.{◌≡◌, refl, sym, ap, ◌∙◌}
use mathlib.Core.List.{List, [], ◌∷◌, ◌++◌, append-nil, append_assoc}
use native.Mathlib.Numerals.{add-one}
use native.Mathlib.Omega.{arith}
use borrow.Author.Tests.{le-leb, lt-leb}
use borrow.Rule.Slice.PartMut.{put_mid}
use lib.ListN.{length, get_or, take, drop, set, length-append, length-take, length-drop, take-append-drop, drop_of_length-le}
use lib.Seq.{length-take-le, take_at, drop_at, drop-drop, drop-cons, set_split}
use Rattle.lists.proofs.Tests.{below}
use Rattle.rows.specs.Bytes.{bytes_of, number_at}
use Rattle.rows.specs.Rows.{over, Put}
use Rattle.rows.proofs.Bytes.{length-bytes, number-back}

module _ (at n : ℕ) (bytes old : List ℕ) where
  pub over-room : at + n ≤ length old → over at n bytes old ≡ take at old ++ (bytes ++ drop (at + n) old)
  unfolding over
  over-room h = rw (le-leb (at + n) (length old) h)

  -- where there is no room, nothing is written
  pub over-short : length old < at + n → over at n bytes old ≡ old
  unfolding over
  over-short h = rw (lt-leb (at + n) (length old) h)

  -- a part that was lent, and given back with the bytes in it
  pub over-part : at + n ≤ length old → put_mid at n old bytes ≡ over at n bytes old
  over-part h = rw (drop-drop n at old) (sym (over-room h))

  module _ (e : length bytes ≡ n) where
    pub over-length : length (over at n bytes old) ≡ length old
    over-length =
        below (length old) (at + n)
        (λ h. ap length (over-short h))
        (λ h. ap length (over-room h) ∙ simp (length-append, length-take, length-drop) (omega arith))

    -- the bytes stand where they were written, and those before them and after them as they were
    module _ (h : at + n ≤ length old) where
      front : length (take at old) ≡ at
      front = length-take-le at old (omega arith)

      pub before-kept : take at (over at n bytes old) ≡ take at old
      before-kept = rw (over-room h) (take_at (take at old) (bytes ++ drop (at + n) old) at front)

      pub later-kept : drop (at + n) (over at n bytes old) ≡ drop (at + n) old
      later-kept =
          rw (over-room h, ← append_assoc (take at old) bytes)
          (drop_at (take at old ++ bytes) (drop (at + n) old) (at + n) (rw (length-append, front, e)))

      pub written_in : take n (drop at (over at n bytes old)) ≡ bytes
      written_in =
          rw (over-room h, drop_at (take at old) (bytes ++ drop (at + n) old) at front)
          (take_at bytes (drop (at + n) old) n e)

pub over_none : (at : ℕ) (old : List ℕ) → over at 0 [] old ≡ old
over_none at old =
    let e : at + 0 ≡ at = omega arith in
    below (length old) (at + 0)
    (λ h. over-short at 0 [] old h)
    (λ h. over-room at 0 [] old h ∙ rw e (take-append-drop at old))

-- one after the other
module _ (at n m : ℕ) (x y old : List ℕ) (e : length x ≡ n) (h : at + n + m ≤ length old) where
  pub over-append : over at (n + m) (x ++ y) old ≡ over (at + n) m y (over at n x old)
  over-append =
      over-room at (n + m) (x ++ y) old (omega arith)
      ∙ rw (append_assoc x y, q)
      (sym (over-room (at + n) m y (over at n x old) room ∙ rw (before, later, ← append_assoc (take at old) x)))
    where
      q : at + (n + m) ≡ at + n + m
      q = omega arith

      first : over at n x old ≡ take at old ++ (x ++ drop (at + n) old)
      first = over-room at n x old (omega arith)

      room : at + n + m ≤ length (over at n x old)
      room = rw (over-length at n x old e) h

      done : length (take at old ++ x) ≡ at + n
      done = rw (length-append, length-take-le at old (omega arith), e)

      before : take (at + n) (over at n x old) ≡ take at old ++ x
      before = rw (first, ← append_assoc (take at old) x) (take_at (take at old ++ x) (drop (at + n) old) (at + n) done)

      later : drop (at + n + m) (over at n x old) ≡ drop (at + n + m) old
      later =
          rw (first, ← append_assoc (take at old) x, ← drop-drop m (at + n) ((take at old ++ x) ++ drop (at + n) old), drop_at (take at old ++ x) (drop (at + n) old) (at + n) done)
          (drop-drop m (at + n) old)

-- one byte
pub over-set : (at v : ℕ) (old : List ℕ) → at < length old → set old at v ≡ over at 1 (v ∷ []) old
over-set at v old h =
    let k : at + 1 ≤ length old = omega arith in
    set_split old at v h ∙ rw (← add-one at) (sym (over-room at 1 (v ∷ []) old k))

-- a part in the middle, by as long a one
pub over-middle : (at n : ℕ) (x o y bytes : List ℕ) → length x ≡ at → length o ≡ n → over at n bytes (x ++ (o ++ y)) ≡ x ++ (bytes ++ y)
over-middle at n x o y bytes h e =
    let room : at + n ≤ length (x ++ (o ++ y)) = simp length-append (omega arith) in
    let t : take at (x ++ (o ++ y)) ≡ x = take_at x (o ++ y) at h in
    let d : drop (at + n) (x ++ (o ++ y)) ≡ y =
    sym (drop-drop n at (x ++ (o ++ y))) ∙ rw (drop_at x (o ++ y) at h) (drop_at o y n e)
    in
    over-room at n bytes (x ++ (o ++ y)) room ∙ rw (t, d)

pub over-whole : (n : ℕ) (bytes old : List ℕ) → length old ≡ n → over 0 n bytes old ≡ bytes
over-whole n bytes old e =
    let room : 0 + n ≤ length old = omega arith in
    let past : length old ≤ 0 + n = omega arith in
    over-room 0 n bytes old room ∙ rw (drop_of_length-le old past, append-nil bytes)

-- ---- parts written one after the other
pub put_byte : (at v : ℕ) (old : List ℕ) → at < length old → Put at 1 (v ∷ []) old (set old at v)
put_byte at v old h = record { long = refl; is = over-set at v old h }

module _ {at n : ℕ} {x old new : List ℕ} (p : Put at n x old new) where
  pub put-length : length new ≡ length old
  put-length = ap length p.is ∙ over-length at n x old p.long

  pub put_next : {m : ℕ} {y last : List ℕ} → Put (at + n) m y new last → at + n + m ≤ length old → Put at (n + m) (x ++ y) old last
  put_next {m} {y} {last} q h =
      record {
        long = length-append x y ∙ rw (p.long, q.long);
        is = q.is ∙ rw p.is (sym (over-append at n m x y old p.long h));
      }

pub put_whole : {n : ℕ} {x old new : List ℕ} → Put 0 n x old new → length old ≡ n → new ≡ x
put_whole {n} {x} {old} v h = v.is ∙ over-whole n x old h

-- the n bytes x over the old ones are the m bytes y over those that stand now: what is still to be written
pub record Left (at n : ℕ) (x old : List ℕ) (place m : ℕ) (y new : List ℕ) : Type 0 where
  pub long : length new ≡ length old
  pub room : place + m ≤ length new
  pub is : over at n x old ≡ over place m y new

pub left-all : (at n : ℕ) (x old : List ℕ) → at + n ≤ length old → Left at n x old at n x old
left-all at n x old h = record { long = refl; room = h; is = refl }

module _ {at n : ℕ} {x old : List ℕ} {place : ℕ} {new : List ℕ} where
  pub left-none : Left at n x old place 0 [] new → new ≡ over at n x old
  left-none v = sym (v.is ∙ over_none place new)

  -- the first k of them written
  pub left-next : (k m : ℕ) (y z : List ℕ) → length y ≡ k → Left at n x old place (k + m) (y ++ z) new → Left at n x old (place + k) m z (over place k y new)
  left-next k m y z e v =
      let r : place + k + m ≤ length new = omega (arith, v.room) in
      record {
        long = over-length place k y new e ∙ v.long;
        room = rw (over-length place k y new e) r;
        is = v.is ∙ over-append place k m y z new e r;
      }

  -- the first byte of them written
  pub left-byte : (m b : ℕ) (z : List ℕ) → Left at n x old place (1 + m) (b ∷ z) new → Left at n x old (place + 1) m z (set new place b)
  left-byte m b z v =
      let h : place < length new = omega (arith, v.room) in
      rw (over-set place b new h) (left-next 1 m (b ∷ []) z refl v)

-- ---- bytes written one by one: those from `done` on are still to be written
pub record BytesTo (at : ℕ) (bytes old new : List ℕ) (done : ℕ) : Type 0 where
  pub low : done ≤ length bytes
  pub remains : Left at (length bytes) bytes old (at + done) (length bytes - done) (drop done bytes) new

pub bytes-begin : (at : ℕ) (bytes old : List ℕ) → length bytes ≤ length old → at ≤ length old - length bytes → BytesTo at bytes old old 0
bytes-begin at bytes old h k =
    let p : at + 0 ≡ at = omega arith in
    let w : length bytes - 0 ≡ length bytes = omega arith in
    record { low = omega arith; remains = rw (p, w) (left-all at (length bytes) bytes old (omega arith)) }

module _ {at : ℕ} {bytes old new : List ℕ} {done : ℕ} (v : BytesTo at bytes old new done) where
  pub bytes-place : done < length bytes → at + done < length new
  bytes-place h = omega (arith, v.remains.room)

  pub bytes_on : done < length bytes → BytesTo at bytes old (set new (at + done) (get_or bytes done 0)) (done + 1)
  bytes_on h =
      let w : length bytes - done ≡ 1 + (length bytes - (done + 1)) = omega arith in
      let p : at + (done + 1) ≡ at + done + 1 = omega arith in
      let d : drop done bytes ≡ get_or bytes done 0 ∷ drop (done + 1) bytes = drop-cons bytes done 0 h ∙ rw add-one in
      record {
        low = omega arith;
        remains = rw p (left-byte (length bytes - (done + 1)) (get_or bytes done 0) (drop (done + 1) bytes) (rw (w, d) at v.remains));
      }

  pub bytes-end : length bytes ≤ done → new ≡ over at (length bytes) bytes old
  bytes-end h =
      let z : length bytes - done ≡ 0 = omega arith in
      left-none (rw (z, drop_of_length-le bytes h) at v.remains)

-- ---- a number of k bytes that was written is read there, at every width
pub number-written : (k at n : ℕ) (old : List ℕ) → n < 256 ^ k → at + k ≤ length old → number_at k at (over at k (bytes_of k n) old) ≡ n
unfolding number_at
number-written k at n old h r = rw (written_in at k (bytes_of k n) old (length-bytes k n) r) (number-back k n h)
