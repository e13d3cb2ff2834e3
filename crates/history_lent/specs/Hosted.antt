-- A host through power cycles: it writes an image after each entry that changes it, the power goes at any time between, and a module is then made from the image that
-- was written last. "flash must return the newest".
use Rattle.std.specs.Prelude.{ℕ, ◌≡◌, Bool, false, List, [], ◌∷◌, eqb, length, take}
use Rattle.rows.specs.Bytes.{Bytes}
use Rattle.module_state.specs.Numbers as No
use Rattle.calls.specs.Calls.{ListProcesses}
use Rattle.state_layout.specs.Layout.{state_of}
use Rattle.image.specs.Image.{state_image}
use Rattle.history_resumed.specs.Changes.{changes_image}
use Rattle.entries_image.specs.Entries.{ImageEntry, RestoreEntry}
use Rattle.history_lent.specs.Lent.{Slices, Made, Called, Listed, Renewed, Restored, Entered, Since, noting, Holds, cycled_since, IsImageOf}

-- the entries that change an image, on the slices before them: such a call, a fresh module, and a restored one
abbrev pub entry_changes : Slices → Made → Bool
entry_changes before (Called fine call n) = changes_image (state_of before.state) call n
entry_changes before (Listed fine s claim wanted n r) = changes_image (state_of before.state) (ListProcesses s claim wanted (length r.old)) n
entry_changes before (Renewed pairs n) = eqb n No.done
entry_changes before (Restored image n) = eqb n No.done

-- what happens to a module
pub data Happening : Type 0 where
  Enters : Made → Happening
  PowerCycle : Happening

-- from slices and the image that the flash has to slices and an image
pub data Hosted : Slices → List ℕ → List Happening → Slices → List ℕ → Type 0 where
  none : {slices : Slices} {image : List ℕ} → Hosted slices image [] slices image
  -- an entry that leaves the image as it was: none is written
  unwritten : {before after last : Slices} {image newest : List ℕ} {entry : Made} {happenings : List Happening}
      → Entered before entry after → entry_changes before entry ≡ false
      → Hosted after image happenings last newest
      → Hosted before image (Enters entry ∷ happenings) last newest
  -- after every other entry one is written, and after any one may be
  written : {before after last : Slices} {image old new newest : List ℕ} {long : ℕ} {entry : Made} {happenings : List Happening}
      → Entered before entry after → ImageEntry after.state old 0 new long
      → Hosted after (take long new) happenings last newest
      → Hosted before image (Enters entry ∷ happenings) last newest
  -- the power goes, and the slices with it; a module is made from the flash's image, in whatever slice. An entry after which the power went before its image was
  -- written is none of these: its answer was told to nobody
  cycled : {before slices after last : Slices} {image newest : List ℕ} {happenings : List Happening}
      → Bytes image → RestoreEntry slices.state image 0 after.state
      → Hosted after image happenings last newest
      → Hosted before image (PowerCycle ∷ happenings) last newest

-- ---- since when it is told, and what, after such happenings
abbrev pub afterwards : Happening → Since → Since
afterwards (Enters entry) w = noting entry w
afterwards PowerCycle w = cycled_since w

unfoldable pub since_all : Since → List Happening → Since
since_all w [] = w
since_all w (one ∷ happenings) = since_all (afterwards one w) happenings

-- ---- what is to hold of the slices and the image in which they ended
pub record IsNewest (w : Since) (last : Slices) (newest : List ℕ) : Type 0 where
  pub holds : Holds w last
  -- the image that was written last is byte for byte that of the state now
  pub bytes : newest ≡ state_image (state_of last.state)
  -- so it makes the module that the calls come to, after a power cycle
  pub image : IsImageOf w newest
