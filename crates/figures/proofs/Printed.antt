-- What the program's steps print, one after another, is what document 02 says of the drawer.
-- Assumes nothing.
use Prim.Native.Nat.{ℕ, zero, suc, ◌+◌}
use mathlib.Core.Path.{◌≡◌, refl, sym, ◌∙◌}
use mathlib.Core.Bool.{true, false, cond}
use mathlib.Core.List.{List, [], ◌∷◌, ◌++◌, map, append-nil, append_assoc}
use native.Mathlib.Omega.{arith}
use borrow.Author.Tests.{eq-eqb, ne_eqb, lt-ltb, le-ltb, ltb-true, ltb-false}
use lib.Dec.{eqb, ltb}
use lib.ListN.{length, take, length-append}
use Rattle.lists.proofs.Tests.{split}
use Rattle.image_figures.specs.Figures.{line_of}
use Rattle.image_figures.specs.Figures.{Line}
use Rattle.figures.specs.Drawer.{first_sheet, after_sheet, first_sheets, lines_of, totals_of, totals_with, most_images, is_past, printed_of, step_of, After, OfSheets}
use Rattle.figures.specs.declared.Totals.{Totals}
use Rattle.figures.specs.declared.Step.{Step}
use Rattle.figures.specs.declared.Output.{Output}
use Rattle.figures.specs.declared.Output.TheVariants.{Image, Total, TooMany}

-- at most n turns of its loop, after these lines, where these bytes are left of the drawer
pub run : ℕ → List Line → List ℕ → List Output
run zero lines b = []
run (suc n) lines b =
    let next : Step = step_of (first_sheet b).said (first_sheet b).image lines in
    next.output ∷ cond next.more (run n (lines ++ (line_of (first_sheet b).said (first_sheet b).image ∷ [])) (after_sheet b)) []

-- ---- the steps
line-of : List ℕ → Line
line-of b = line_of (first_sheet b).said (first_sheet b).image

sheets-none : (n : ℕ) → first_sheets n [] ≡ []
unfolding first_sheets
sheets-none zero = refl
sheets-none (suc n) = refl

ltb-suc : (m n : ℕ) → ltb (suc m) (suc n) ≡ ltb m n
ltb-suc m n =
    split (ltb m n)
    (λ e. let h = ltb-true m n e in lt-ltb (suc m) (suc n) (omega (arith, h)) ∙ sym e)
    (λ e. let h = ltb-false m n e in le-ltb (suc m) (suc n) (omega (arith, h)) ∙ sym e)

module _ (l : List Line) where
  step-none : step_of (first_sheet []).said (first_sheet []).image l ≡ record { totals = totals_of l; output = Total (totals_of l); more = false }
  unfolding step_of first_sheet
  step-none = refl

  module _ (x : ℕ) (b : List ℕ) where
    there : eqb (length (first_sheet (x ∷ b)).said) 0 ≡ false
    unfolding first_sheet
    there = ne_eqb (suc (length (take 1 b))) 0 (λ e. omega arith)

    step_past : length l ≡ most_images → step_of (first_sheet (x ∷ b)).said (first_sheet (x ∷ b)).image l ≡ record { totals = totals_of l; output = TooMany; more = false }
    unfolding step_of
    step_past e = rw (there, eq-eqb (length l) most_images e)

    step_line : (length l ≡ most_images → ⊥) → step_of (first_sheet (x ∷ b)).said (first_sheet (x ∷ b)).image l
        ≡ record { totals = totals_with (line-of (x ∷ b)) l; output = Image (line-of (x ∷ b)); more = true }
    unfolding step_of line-of
    step_line n = rw (there, ne_eqb (length l) most_images n)

-- ---- what is left to print, after some lines
left : ℕ → List Line → List ℕ → List Output
left n l b = map Image (lines_of (first_sheets n b)) ++ (cond (ltb n (length (first_sheets (suc n) b))) TooMany (Total (totals_of (l ++ lines_of (first_sheets n b)))) ∷ [])

Left : ℕ → Type 0
Left n = (l : List Line) (b : List ℕ) → length l + n ≡ most_images → run (suc n) l b ≡ left n l b

left-none : (n : ℕ) (l : List Line) → run (suc n) l [] ≡ left n l []
unfolding run left lines_of first_sheets
left-none n l = let none : ltb n 0 ≡ false = le-ltb n 0 (omega arith) in rw (step-none l, sheets-none n, none, append-nil l)

left-zero : Left zero
unfolding Left run left lines_of first_sheets
left-zero l [] h = left-none zero l
left-zero l (x ∷ b) h = rw (step_past l x b (omega arith)) refl

left-more : (n : ℕ) → Left n → Left (suc n)
unfolding Left run left lines_of first_sheets line-of
left-more n rest l [] h = left-none (suc n) l
left-more n rest l (x ∷ b) h =
    let few : length l ≡ most_images → ⊥ = λ e. omega (arith, h, e) in
    let later = rest (l ++ (line-of (x ∷ b) ∷ [])) (after_sheet (x ∷ b)) (rw length-append (omega arith)) in
    rw (step_line l x b few, later, append_assoc l (line-of (x ∷ b) ∷ []) (lines_of (first_sheets n (after_sheet (x ∷ b)))), ltb-suc n (length (first_sheets (suc n) (after_sheet (x ∷ b)))))

left_is : (n : ℕ) → Left n
left_is zero = left-zero
left_is (suc n) = left-more n (left_is n)

pub printed-is : (b : List ℕ) → run (suc most_images) [] b ≡ printed_of b
unfolding Left printed_of is_past left
printed-is b = left_is most_images [] b (omega arith)

-- ---- no second answer meets what the program's step and its sum promise
pub after-once : {A : Type 0} {t : Totals} {f : List Line → A} {a b : A} → OfSheets t → After t f a → After t f b → a ≡ b
after-once v p q = p.is (lines_of v.read) v.are ∙ sym (q.is (lines_of v.read) v.are)
