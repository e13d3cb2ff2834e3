-- What an image tells of each name: "Demand 3 from then on counts from the number in the image". And what a power cycle makes of a life.
use Rattle.std.specs.Prelude.{ℕ, ◌≡◌, ◌≢◌, List, map}
use Rattle.lists.specs.Each.{Each}
use Rattle.names.specs.declared.Name.{Name}
use Rattle.history.specs.Lives.{Life, Gone, Live, Raised, SavedBy, count, down}
use Rattle.history.specs.Demand.{look}
use Rattle.image.specs.Image.{saved_in, saved_process}

-- ---- what an image tells of a name
abbrev pub told_by : List ℕ → Name → Life
told_by image name = look name (map saved_process (saved_in image))

-- of a row's name, that its process is saved, with every number below the row's taken as passed; any other name is gone
pub record FromImage (image : List ℕ) : Type 0 where
  pub rows : Each (λ r. told_by image r.name ≡ SavedBy r.owner (down r.next)) (saved_in image)
  pub numbers : Each (λ r. count (told_by image r.name) ≡ r.next) (saved_in image)
  pub others : (name : Name) → Each (λ r. r.name.bytes ≢ name.bytes) (saved_in image) → told_by image name ≡ Gone

-- ---- a power cycle: active processes are gone; saved ones stay, with every number that passed
abbrev pub cut : Life → Life
cut Gone = Gone
cut (Live s c ns) = Gone
cut (Raised s c) = Gone
cut (SavedBy c ns) = SavedBy c ns
