-- A host that writes an image after each entry that changes it has, at any time, the image of the state: so a power cycle loses what it should and nothing else.
-- Assumes nothing.
use Prim.Native.Nat.{ℕ}
use mathlib.Core.Path.{◌≡◌, refl, sym, ap, ◌∙◌}
use mathlib.Core.Bool.{Bool, true, false}
use mathlib.Core.List.{List}
use lib.ListN.{length, take}
use lib.Dec.{eqb}
use borrow.Author.Tests.{eqb-false}
use Rattle.lists.proofs.Tests.{split, clash}
use Rattle.rows.specs.Bytes.{Bytes}
use Rattle.module_state.specs.Numbers.{◌unless◌}
use Rattle.module_state.specs.declared.State.{State}
use Rattle.calls.specs.Calls.{Call, ListProcesses, fresh}
use Rattle.calls.specs.Run.{step}
use Rattle.state_layout.specs.Layout.{state_of}
use Rattle.state_layout.proofs.Laws.{state-back}
use Rattle.entries_call.specs.CallEntry.{CallEntry}
use Rattle.entries_arguments.specs.Arguments.{Handed, pairs_of}
use Rattle.entries_unprotected.specs.Fresh.{can_fresh, FreshEntry}
use Rattle.history.specs.Lives.{nobody}
use Rattle.history.specs.Fits.{Fits}
use Rattle.history.proofs.Form.{state-step}
use Rattle.image.specs.Image as Image
use Rattle.image.specs.Image.{has_seconds, head_in, state_image}
use Rattle.image.proofs.Laws.{state-new}
use Rattle.history_resumed.specs.Resumed.{told_by}
use Rattle.history_resumed.specs.Changes.{changes_image}
use Rattle.history_resumed.proofs.Changes.{image-kept}
use Rattle.entries_image.specs.Entries.{ImageEntry, RestoreEntry}
use Rattle.history_lent.specs.Lent.{Slices, Made, OfWords, Entered, called, list-called, renewed, restored, Since, begun, reached, noting, Holds, cycled_since}
use Rattle.history_lent.specs.Hosted.{entry_changes, Happening, Hosted, none, unwritten, written, cycled, since_all, IsNewest}
use Rattle.history_lent.proofs.Images.{restore-refused, image-written, image-of, restored-image}
use Rattle.history_lent.proofs.Theorems.{not-fine-bytes, Goes, goes-is, goes-state, made-number, made_bytes, goes-holds, goes-restored-done, goes_on, goes-fresh, goes-again}

-- ---- an entry that is not on the list leaves the image
module _ (w : Since) (b : Slices) (g : Goes w b) where
  call-keeps : (fine : Bool) (call : Call) (n : ℕ) (after : List ℕ) → (fine ≡ true → Fits call) → CallEntry fine b.state call n after → changes_image (state_of b.state) call n ≡ false → state_image (state_of after) ≡ state_image (state_of b.state)
  call-keeps true call n after fits e h =
      let st : State = reached w in
      let left : state_of after ≡ step st call = ap state_of (made_bytes w b g e) ∙ state-back (state-step st call (fits refl) g.is).formed in
      rw (left, goes-is w b g) (image-kept st call (rw (goes-is w b g, made-number w b g e) at h))
  call-keeps false call n after fits e h = ap (λ x. state_image (state_of x)) (e.bytes-are ∙ not-fine-bytes b.state call)

fresh-refused : {before after : List ℕ} {pairs : Handed} {n : ℕ} → FreshEntry before pairs n after → eqb n 0 ≡ false → after ≡ before
unfolding ◌unless◌
fresh-refused {before} {pairs = pairs} {n = n} e h =
    split (can_fresh before pairs)
    (λ can. let z : n ≡ 0 = e.number_is ∙ rw can in clash (rw z) h)
    (λ can. e.bytes-are ∙ rw can)

entry-keeps : {b after : Slices} {entry : Made} (w : Since) → Goes w b → Entered b entry after → entry_changes b entry ≡ false → state_image (state_of after.state) ≡ state_image (state_of b.state)
entry-keeps {b} {after} w g (called {fine} {call} {n} fits e) h = call-keeps w b g fine call n after.state fits e h
entry-keeps {b} {after} w g (list-called {fine} {s} {claim} {wanted} {n} {r} e) h = call-keeps w b g fine (ListProcesses s claim wanted (length r.old)) n after.state (λ q. tt) e.entry h
entry-keeps w g (renewed fits e) h = ap (λ x. state_image (state_of x)) (fresh-refused e h)
entry-keeps w g (restored {n = n} bytes e) h = ap (λ x. state_image (state_of x)) (restore-refused e (eqb-false n 0 h))

-- ---- so the image that was written last is that of the state now, through power cycles too
newest-by : {b last : Slices} {image newest : List ℕ} {happenings : List Happening} (w : Since) → Goes w b → image ≡ state_image (state_of b.state) → Hosted b image happenings last newest → IsNewest (since_all w happenings) last newest
unfolding since_all
newest-by {b} w g is none =
    let h : Holds w b = goes-holds w b g in
    record { holds = h; bytes = is; image = image-of w {last = b} (goes-state w b g) h is }
newest-by w g is (unwritten {entry = entry} e h k) = newest-by (noting entry w) (goes_on w g e) (is ∙ sym (entry-keeps w g e h)) k
newest-by w g is (written {after = after} {entry = entry} e i k) =
    let on : Goes (noting entry w) after = goes_on w g e in
    newest-by (noting entry w) on (image-written i (goes-state (noting entry w) after on)) k
newest-by {b} w g is (cycled {slices = slices} {after = after} bytes r k) =
    let on : Goes (cycled_since w) after = goes-again w {last = b} {slices = slices} {after = after} (goes-state w b g) (goes-holds w b g) bytes is r in
    newest-by (cycled_since w) on (sym (restored-image bytes r (rw is (state-new (goes-state w b g))))) k

-- from a fresh module on, whose image is written
pub hosted-made : {before slices : Slices} {pairs : Handed} {old new : List ℕ} {long : ℕ} → OfWords pairs → FreshEntry before.state pairs 0 slices.state → ImageEntry slices.state old 0 new long → {happenings : List Happening} {last : Slices} {newest : List ℕ} → Hosted slices (take long new) happenings last newest → IsNewest (since_all (begun (fresh (pairs_of pairs)) nobody) happenings) last newest
hosted-made {before} {slices} {pairs} h e i k =
    let w : Since = begun (fresh (pairs_of pairs)) nobody in
    let g : Goes w slices = goes-fresh {before = before} {after = slices} h e in
    newest-by w g (image-written i (goes-state w slices g)) k

-- from a module on that was restored from an image of the new layout
pub hosted-restored : {before slices : Slices} {image : List ℕ} → Bytes image → has_seconds (head_in image).offset ≡ true → RestoreEntry before.state image 0 slices.state → {happenings : List Happening} {last : Slices} {newest : List ℕ} → Hosted slices image happenings last newest → IsNewest (since_all (begun (Image.restored image) (told_by image)) happenings) last newest
hosted-restored {before} {slices} {image} h n r k =
    newest-by (begun (Image.restored image) (told_by image)) (goes-restored-done before slices image h r) (sym (restored-image h r n)) k

-- and from one of either layout on, where the module's image is then written: of the old layout the flash has no image of the state until it is
pub hosted-renewed : {before slices : Slices} {image old new : List ℕ} {long : ℕ} → Bytes image → RestoreEntry before.state image 0 slices.state → ImageEntry slices.state old 0 new long → {happenings : List Happening} {last : Slices} {newest : List ℕ} → Hosted slices (take long new) happenings last newest → IsNewest (since_all (begun (Image.restored image) (told_by image)) happenings) last newest
hosted-renewed {before} {slices} {image} h r i k =
    let w : Since = begun (Image.restored image) (told_by image) in
    let g : Goes w slices = goes-restored-done before slices image h r in
    newest-by w g (image-written i (goes-state w slices g)) k
