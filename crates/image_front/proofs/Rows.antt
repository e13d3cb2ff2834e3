-- The loops over the credentials: the mask, their words, and words written.
-- Assumes nothing.
use Rattle.std.specs.Array.{IsMapOf, MapsFrom}
use Rattle.std.specs.Fn.{Mut, Called}
use Rattle.std.specs.Int.{from_bool}
use Rattle.std.proofs.lemmas.List.{ext_get_or}
use Rattle.lists.proofs.Tests.{split}
use borrow.Author.Tests.{eqb-true, eqb-false}
use lib.Dec.{eqb}
use mir.Syntax.{w16}
use mir.Val.{Fits}
use Prim.Native.Nat.{ℕ, zero, suc, ◌+◌, ◌-◌, ◌*◌, ◌<◌, ◌≤◌}
use mathlib.Core.Path.{◌≡◌, refl, sym, ap, subst, ◌∙◌}
use mathlib.Core.Bool.{Bool, true, false, cond}
use mathlib.Core.List.{List, map}
use native.Mathlib.Omega.{arith}
use borrow.Rule.Slice.PartMut.{put_mid}
use lib.Pow.{pow_mono}
use lib.ListN.{length, get_or, drop, length-drop, length-map, get_or-map, drop_of_length-le}
use lib.Seq.{drop-cons}
use Rattle.rows.specs.Bytes.{bytes_of, bits_number}
use Rattle.rows.specs.Rows.{over, Put}
use Rattle.rows.proofs.Bytes.{length-bytes}
use Rattle.rows.proofs.Over.{over-part}
use Rattle.rows.proofs.Loops.{Wrote, wrote-begin, wrote-length, wrote-room, wrote-part, wrote_on, wrote-all}
use Rattle.module_state.specs.Module.{unprovisioned, credential_count, word_size}
use Rattle.module_state.specs.declared.Grants.{Grants}
use Rattle.image.proofs.Rows.{mask-small}
use Rattle.image.specs.Image.{words_size, numbers_bytes, mask_of}

from-is : (b : Bool) → from_bool b ≡ cond b 1 0
from-is true = refl
from-is false = refl

-- ---- the mask, from the last credential on: those from `left` on are in it
pub record Masked (l : List Grants) (mask left : ℕ) : Type 0 where
  pub low : left ≤ credential_count
  pub long : length l ≡ credential_count
  pub is : mask ≡ mask_of (drop left l)

pub masked-none : (l : List Grants) → length l ≡ credential_count → Masked l 0 credential_count
unfolding mask_of bits_number
masked-none l h =
    let past : length l ≤ credential_count = omega arith in
    record { low = omega arith; long = h; is = rw (drop_of_length-le l past) }

module _ {l : List Grants} {mask left : ℕ} (v : Masked l mask left) where
  pub masked_low : mask < 256
  masked_low =
      let few : length (drop left l) ≤ credential_count = simp length-drop (omega (arith, v.long)) in
      omega (arith, v.is, mask-small (drop left l), pow_mono few)

  module _ (h : 0 < left) {bit : ℕ} (e : bit ≡ from_bool (get_or l (left - 1) unprovisioned).provisioned) where
    pub masked-fits : Fits w16 (mask * 2 + bit)
    masked-fits = split (get_or l (left - 1) unprovisioned).provisioned (λ t. omega (arith, masked_low, rw t at e)) (λ t. omega (arith, masked_low, rw t at e))

    -- the credential before `left` comes in as the lowest bit
    pub masked_on : Masked l (mask * 2 + bit) (left - 1)
    unfolding mask_of bits_number
    masked_on =
        let inside : left - 1 < length l = omega (arith, v.low, v.long) in
        let next : suc (left - 1) ≡ left = omega arith in
        let rest : mask_of (drop (suc (left - 1)) l) ≡ mask = ap (λ (m : ℕ). mask_of (drop m l)) next ∙ sym v.is in
        record { low = omega (arith, v.low); long = v.long; is = rw (drop-cons l (left - 1) unprovisioned inside, rest, e) (ap (λ (n : ℕ). mask * 2 + n) (from-is (get_or l (left - 1) unprovisioned).provisioned)) }

  pub masked-all : left ≤ 0 → mask ≡ mask_of l
  masked-all h = let none : left ≡ 0 = omega arith in rw none at v.is

-- ---- what an array is mapped to by a closure that no call changes
module _ {F A B : Type 0} (g : Mut F (A × Unit {0}) B) (f : F) (h : A → B) (xs : List A) (d : A)
    (answers : (x : A) (y : B) (f' : F) → Called g f (x, tt) y f' → (y ≡ h x) × (f' ≡ f)) where
  mapped_from : (ys : List B) (i m : ℕ) (p : F) → p ≡ f → MapsFrom g p xs ys i m → (j : ℕ) → i ≤ j → j < i + m → get_or ys j (h d) ≡ h (get_or xs j d)
  mapped_from ys i zero p same v j low high = absurd (omega arith)
  mapped_from ys i (suc m) p same v j low high =
      let one = answers v.1 v.2 v.0 (subst (λ (c : F). Called g c (v.1, tt) v.2 v.0) same v.5) in
      split (eqb i j)
      (λ e. rw (← eqb-true i j e) (v.4.1 (h d) ∙ one.0 ∙ ap h (sym (v.3.1 d))))
      (λ e. mapped_from ys (i + 1) m v.0 one.1 v.6 j (omega (arith, eqb-false i j e)) (omega arith))

  pub mapped : {ys : List B} {n : ℕ} → length xs ≡ n → IsMapOf g f xs ys n → ys ≡ map h xs
  mapped {ys} {n} long v =
      ext_get_or (h d) ys (map h xs) (v.long ∙ sym (length-map xs h ∙ long))
      (λ j k. mapped_from ys 0 n f refl v.each j (omega arith) (omega (arith, v.long)) ∙ sym (get_or-map h xs j d))

-- ---- words written from a place on: the first i are
pub record Worded (words : List ℕ) (at : ℕ) (old new : List ℕ) (i : ℕ) : Type 0 where
  pub long : length words ≡ credential_count
  pub wrote : Wrote (bytes_of word_size) word_size at words old new i

pub worded-none : (words : List ℕ) (at : ℕ) (old : List ℕ) → length words ≡ credential_count → at + words_size ≤ length old → Worded words at old old 0
worded-none words at old h r = record { long = h; wrote = wrote-begin (bytes_of word_size) word_size at words old (rw h r) }

module _ {words : List ℕ} {at : ℕ} {old new : List ℕ} {i : ℕ} (v : Worded words at old new i) where
  pub worded-length : length new ≡ length old
  worded-length = wrote-length v.wrote

  module _ (h : i < credential_count) where
    inside : i < length words
    inside = rw v.long h

    pub worded-on : {new' : List ℕ} → new' ≡ over (at + i * word_size) word_size (bytes_of word_size (get_or words i 0)) new → Worded words at old new' (i + 1)
    worded-on {new'} p =
        let from : ℕ = at + i * word_size in
        let w : ℕ = get_or words i 0 in
        let n : from + word_size - from ≡ word_size = omega arith in
        let put : new' ≡ put_mid from (from + word_size - from) new (bytes_of word_size w) = p ∙ rw n (sym (over-part from word_size (bytes_of word_size w) new (wrote-room v.wrote inside))) in
        record {
          long = v.long;
          wrote = rw put (wrote_on v.wrote 0 inside refl (length-bytes word_size w ∙ sym (wrote-part v.wrote inside)));
        }

  pub worded-all : credential_count ≤ i → Put at words_size (numbers_bytes word_size words) old new
  unfolding numbers_bytes
  worded-all h = rw v.long at (wrote-all v.wrote (rw v.long h))
