-- A fact of each element of a list; and of each element with each later one.
use Rattle.std.specs.Prelude.{List, [], ◌∷◌}

pub data Each {A : Type 0} (P : A → Type 0) : List A → Type 0 where
  each_nil : Each P []
  each-cons : {x : A} {l : List A} → P x → Each P l → Each P (x ∷ l)

pub data Pairs {A : Type 0} (R : A → A → Type 0) : List A → Type 0 where
  pairs-nil : Pairs R []
  pairs-cons : {x : A} {l : List A} → Each (R x) l → Pairs R l → Pairs R (x ∷ l)
