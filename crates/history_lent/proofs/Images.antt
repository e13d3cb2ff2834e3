-- The entries of order 2, one by one: what a restore that was done leaves, what an image that was written is, and that a refusal leaves all as it was.
-- Assumes nothing.
use Prim.Native.Nat.{ℕ, ◌+◌, ◌≤◌}
use mathlib.Core.Path.{◌≡◌, ap, ◌∙◌}
use mathlib.Core.Logic.{◌≢◌}
use mathlib.Core.Bool.{true}
use mathlib.Core.List.{List}
use native.Mathlib.Nat.{zero-add}
use native.Mathlib.Omega.{arith}
use lib.Dec.{eqb, ltb}
use lib.ListN.{length, take, drop}
use borrow.Author.Tests.{ne_eqb, ltb-false}
use Rattle.lists.proofs.Tests.{split}
use Rattle.rows.specs.Bytes.{Bytes}
use Rattle.rows.specs.Rows.{over}
use Rattle.rows.proofs.Over.{written_in, later-kept}
use Rattle.module_state.specs.Numbers.{◌when◌, ◌unless◌, ◌▸◌}
use Rattle.module_state.specs.declared.State.{State}
use Rattle.module_rules.specs.Facts.{IsState}
use Rattle.state_layout.specs.Layout.{state_length, state_bytes, state_of, holds_state}
use Rattle.state_layout.proofs.Laws.{state-back, formed-wide, holds-is}
use Rattle.history.specs.Lives.{told}
use Rattle.image.specs.Image.{has_seconds, head_in, renewed, state_image, is_image, restored, cycled, image_room, lacks_room}
use Rattle.image.proofs.Laws.{long-is, image-state, renewed-is, one-image, state-image, state-restored}
use Rattle.entries_image.specs.Entries.{image_number, ImageEntry, restore_number, RestoreEntry}
use Rattle.history_resumed.proofs.Theorems.{told-cut}
use Rattle.history_lent.specs.Lent.{Slices, Since, Holds, IsImageOf, Imaged}

-- ---- a restore
restore-number : (before image : List ℕ) → 0 ≡ restore_number before image → is_image image ≡ true
unfolding restore_number ◌unless◌ ◌▸◌
restore-number before image z =
    split (is_image image) (λ i. i)
    (λ i. split (eqb (length before) state_length)
    (λ l. let c : 0 ≡ 14 = rw (l, i) at z in absurd (omega arith))
    (λ l. let c : 0 ≡ 1 = rw l at z in absurd (omega arith)))

module _ {before image after : List ℕ} (e : RestoreEntry before image 0 after) where
  pub restore-image : is_image image ≡ true
  restore-image = restore-number before image e.number_is

  pub restore-done : after ≡ state_bytes (restored image)
  restore-done = rw (← e.number_is) at e.bytes-are

pub restore-refused : {before image after : List ℕ} {n : ℕ} → RestoreEntry before image n after → n ≢ 0 → after ≡ before
restore-refused {n = n} e h = rw (← e.number_is, ne_eqb n 0 h) at e.bytes-are

-- ---- an image
pub image-refused : {state old new : List ℕ} {n long : ℕ} → ImageEntry state old n new long → n ≢ 0 → (new ≡ old) × (long ≡ 0)
image-refused {n = n} e h = (rw (← e.number_is, ne_eqb n 0 h) at e.image-is, rw (← e.number_is, ne_eqb n 0 h) at e.length-is)

image-number : (state : List ℕ) (room : ℕ) → 0 ≡ image_number state room → image_room (state_of state) ≤ room
unfolding image_number lacks_room ◌when◌ ◌unless◌ ◌▸◌
image-number state room z =
    split (ltb room (image_room (state_of state)))
    (λ l. split (holds_state state)
    (λ h. let c : 0 ≡ 15 = rw (h, l) at z in absurd (omega arith))
    (λ h. let c : 0 ≡ 1 = rw h at z in absurd (omega arith)))
    (λ l. ltb-false room (image_room (state_of state)) l)

module _ {state old new : List ℕ} {long : ℕ} (e : ImageEntry state old 0 new long) (v : IsState (state_of state)) where
  abbrev st : State
  st = state_of state

  room : 0 + image_room st ≤ length old
  room = omega (arith, image-number state (length old) e.number_is)

  whole : length (state_image st) ≡ image_room st
  whole = long-is (formed-wide v.formed)

  new_is : new ≡ over 0 (image_room st) (state_image st) old
  new_is = rw (← e.number_is) at e.image-is

  long-answered : long ≡ image_room st
  long-answered = rw (← e.number_is) at e.length-is

  pub image-written : take long new ≡ state_image st
  image-written = rw (long-answered, new_is) (written_in 0 (image_room st) (state_image st) old whole room)

  pub image-later : drop long new ≡ drop long old
  image-later = rw (long-answered, new_is) (rw zero-add at (later-kept 0 (image_room st) (state_image st) old whole room))

-- ---- of slices in which entries ended: it makes the module that the calls come to, after a power cycle, and tells of each name what was told
pub image-of : (w : Since) {last : Slices} {image : List ℕ} → IsState (state_of last.state) → Holds w last → image ≡ state_image (state_of last.state) → IsImageOf w image
image-of w {last} v h is =
    record {
      accepted = rw is (state-image v);
      restored = rw is (state-restored v ∙ ap cycled h.state);
      tells = λ name. rw is (told-cut (state_of last.state) v (told w.tell w.events) h.tells name);
    }

pub lent-imaged : (w : Since) {last : Slices} {old new : List ℕ} {long : ℕ} → Bytes last.state → Holds w last → ImageEntry last.state old 0 new long → Imaged w old new long
lent-imaged w {last} g h e =
    let v : IsState (state_of last.state) = holds-is last.state h.holds g in
    record { image = image-of w {last = last} v h (image-written e v); later-kept = image-later e v }

-- ---- a module from an image: its image is that one in the new layout; so an image of the new layout that is read and written again is the same bytes
module _ {before image after : List ℕ} (h : Bytes image) (r : RestoreEntry before image 0 after) where
  made : IsState (restored image)
  made = image-state image h (restore-image r)

  back : state_of after ≡ restored image
  back = ap state_of (restore-done r) ∙ state-back made.formed

  pub restored-image : has_seconds (head_in image).offset ≡ true → state_image (state_of after) ≡ image
  restored-image n = rw back (one-image image h (restore-image r) n)

  pub image-again : {old new : List ℕ} {long : ℕ} → ImageEntry after old 0 new long → take long new ≡ renewed image
  image-again e = image-written e (rw back made) ∙ rw back (renewed-is image h (restore-image r))
