-- How large the figures of a line can be; and of a good image's words those of provisioned credentials alone count.
-- Assumes nothing.
use Rattle.std.specs.Prelude.{Some, None}
use Prim.Native.Nat.{ℕ, ◌+◌, ◌*◌, ◌≤◌}
use mathlib.Core.Path.{◌≡◌, refl, ap}
use mathlib.Core.Bool.{Bool, true, ◌&&◌}
use mathlib.Core.List.{List, [], ◌∷◌}
use native.Mathlib.Omega.{arith}
use borrow.Author.Tests.{eqb-true}
use lib.Dec.{eqb}
use lib.ListN.{length}
use Rattle.lists.specs.Lists.{select, sum}
use Rattle.lists.proofs.Tests.{split, and_left, and_right}
use Rattle.rows.specs.Rows.{rows, every}
use Rattle.table.specs.Table.{places}
use Rattle.module_state.specs.Module.{has_bit, credential_count}
use Rattle.module_state.specs.declared.Grants.{Grants}
use Rattle.image.specs.Image.{grants_in, image_in, words_fit, is_image}
use Rattle.image.proofs.Laws.{sound, image, grants-eight}
use Rattle.image_figures.specs.Figures.{class_count, classes_below, classes_held, classes_granted, figures_in, is_good, Line, line_of}
use Rattle.image_figures.specs.declared.Figures.{Figures}
use Rattle.image_figures.proofs.Classes.{classes-few}
use Rattle.image_figures.proofs.Rules.{good-is}

-- ---- how large the figures are
granted-few : (l : List Grants) → classes_granted l ≤ length l * class_count
unfolding classes_granted sum
granted-few [] = omega arith
granted-few (g ∷ l) = omega (arith, classes-few g.words.grant, granted-few l)

pub record Small (f : Figures) : Type 0 where
  pub rows_few : f.rows ≤ places
  pub classes-few : f.classes ≤ credential_count * class_count

abbrev pub SmallLine : Line → Type 0
SmallLine None = Unit
SmallLine (Some f) = Small f

pub line_small : (said image : List ℕ) → SmallLine (line_of said image)
unfolding line_of figures_in
line_small said b =
    split (is_good said b)
    (λ e. rw e (record { rows_few = (image b (good-is said b e)).head.few; classes-few = rw (grants-eight b) at (granted-few (grants_in b)) }))
    (λ e. rw e tt)

-- ---- "zero where unprovisioned": such a word holds no class
abbrev is_provisioned : Grants → Bool
is_provisioned g = g.provisioned

none-held : classes_held 0 ≡ 0
unfolding classes_held select classes_below has_bit
none-held = refl

provisioned-words : (l : List Grants) → every words_fit l ≡ true → classes_granted l ≡ classes_granted (select is_provisioned l)
unfolding classes_granted sum every select words_fit
provisioned-words [] e = refl
provisioned-words (g ∷ l) e =
    let rest = provisioned-words l (and_right (words_fit g) (every words_fit l) e) in
    let fits = and_left (words_fit g) (every words_fit l) e in
    split g.provisioned
    (λ p. rw p (ap (λ (n : ℕ). classes_held g.words.grant + n) rest))
    (λ p.
    let none : (eqb g.words.grant 0 && eqb g.words.second 0) ≡ true = rw p at fits in
    let z : g.words.grant ≡ 0 = eqb-true g.words.grant 0 (and_left (eqb g.words.grant 0) _ none) in
    rw (p, z, none-held) (omega (arith, rest)))

pub provisioned-alone : (b : List ℕ) → is_image b ≡ true → classes_granted (grants_in b) ≡ classes_granted (select is_provisioned (grants_in b))
provisioned-alone b e = unfold image_in in provisioned-words (grants_in b) (sound (image_in b) (image b e).fits).words
