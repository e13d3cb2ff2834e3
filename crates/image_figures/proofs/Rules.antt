-- The laws that close the needs of this crate's functions by `search rules`: each premise is as a place's record has it.
-- Assumes nothing.
use Rattle.std.specs.Prelude.{Some, None, Result, Ok, Err, is_ok, fold}
use Rattle.std.specs.Result.{result_unwrap_or}
use Prim.Native.Nat.{ℕ, ◌+◌, ◌/◌, ◌<◌, ◌≤◌, max}
use mathlib.Core.Path.{◌≡◌, refl, sym, ap, ◌∙◌}
use mathlib.Core.Bool.{true, false}
use mathlib.Core.List.{List, [], ◌∷◌, map}
use native.Mathlib.Omega.{arith}
use mir.Syntax.{w32}
use mir.Val.{Fits}
use borrow.Author.Rules.{rules as std_rules}
use borrow.Author.Tests.{eq-eqb, ne_eqb}
use lib.Dec.{eqb}
use lib.ListN.{length, drop, get_or}
use lib.Seq.{take_all}
use Rattle.lists.proofs.Tests.{split, clash, and_right}
use Rattle.rows.specs.Bytes.{number_of, number_at}
use Rattle.rows.specs.Rows.{rows}
use Rattle.rows.proofs.Loops.{and-false}
use Rattle.module_state.specs.Module.{unprovisioned, credential_count}
use Rattle.module_state.specs.declared.Grants.{Grants}
use Rattle.image.specs.declared.ImageParts.{ImageParts}
use Rattle.image.specs.Image.{saved_size, saved_next_at, head_in, grants_in, saved_from, saved_in, head_fits, is_image, image_test, SavedLie}
use Rattle.image.proofs.Rows.{SummedTo, sum-begin, sum-few, sum-next, sum_done}
use Rattle.image.proofs.Laws.{image-lies}
use Rattle.image_test.proofs.Rules.{whole-rows}
use Rattle.image_figures.proofs.Classes.{classes-counted, classes-few}
use Rattle.image_figures.specs.Figures.{largest as Figures·largest}
use Rattle.image_figures.specs.Figures.{class_count, classes_held, classes_granted, largest_next, figures_in, length_size, is_said, size_said, is_good, line_of}
use Rattle.image_figures.specs.declared.Figures.{Figures}

-- ---- the sum over the credentials: the first i are in it
abbrev pub held_by : Grants → ℕ
held_by g = classes_held g.words.grant

module _ {grants : List Grants} {s i : ℕ} (v : SummedTo held_by class_count grants s i) where
  module _ (h : i < credential_count) {held : ℕ} (e : held ≡ held_by (get_or grants i unprovisioned)) where
    held-few : held ≤ class_count
    held-few = rw e (classes-few (get_or grants i unprovisioned).words.grant)

    pub held_fits : Fits w32 (s + held)
    held_fits = omega (arith, sum-few v h e held-few)

    pub held_next : SummedTo held_by class_count grants (s + held) (i + 1)
    held_next = sum-next v h e held-few

  pub held-done : credential_count ≤ i → s ≡ classes_granted grants
  unfolding classes_granted
  held-done h = sum_done v h

-- ---- the largest next number
fold-largest : (largest : ℕ) (saved : List (List ℕ)) → fold (λ largest row. max largest (number_at 2 saved_next_at row)) largest saved ≡ max largest (largest_next (map saved_from saved))
unfolding largest_next Figures·largest saved_from
fold-largest largest [] = omega arith
fold-largest largest (row ∷ saved) = fold-largest (max largest (number_at 2 saved_next_at row)) saved ∙ omega arith

largest-is : (saved : List (List ℕ)) → fold (λ largest row. max largest (number_at 2 saved_next_at row)) 0 saved ≡ largest_next (map saved_from saved)
largest-is saved = fold-largest 0 saved ∙ omega arith

-- ---- the three figures
module _ (b : List ℕ) {parts : ImageParts} (e : image_test b ≡ Ok parts) where
  tested : is_image b ≡ true
  unfolding image_test
  tested = split (is_image b) (λ t. t) (λ t. clash (ap is_ok e) (rw t))

  parts-are : parts ≡ record { head = head_in b; grants = grants_in b }
  unfolding image_test
  parts-are = sym (ap (λ (o : Result ImageParts ImageParts). result_unwrap_or o parts) (rw tested at e))

  pub figures-all : {classes largest : ℕ} {saved : List (List ℕ)} → classes ≡ classes_granted parts.grants → saved ≡ rows (length (drop parts.head.offset b) / saved_size) saved_size (drop parts.head.offset b)
      → largest ≡ fold (λ largest row. max largest (number_at 2 saved_next_at row)) 0 saved → ◌≡◌ {A = Figures} (record { rows = parts.head.rows; classes = classes; largest = largest }) (figures_in b)
  unfolding figures_in saved_in
  figures-all {saved = saved} g s h =
      let lie : SavedLie b parts.head.offset parts.head.rows = rw parts-are (image-lies b tested) in
      let said : saved ≡ rows parts.head.rows saved_size (drop parts.head.offset b) = s ∙ ap (λ n. rows n saved_size (drop parts.head.offset b)) (whole-rows lie) in
      rw (h, largest-is saved, said, g, parts-are)

-- ---- the length, and the line
no_bytes : (b : List ℕ) → length b ≡ 0 → is_image b ≡ false
unfolding is_image head_fits head_in number_at number_of
no_bytes [] e = refl
no_bytes (x ∷ b) e = absurd (omega arith)

module _ (said : List ℕ) where
  pub size_none : (length said ≡ length_size → ⊥) → 0 ≡ size_said said
  unfolding size_said is_said
  size_none n = rw (ne_eqb (length said) length_size n)

  pub size-whole : {size : ℕ} → length said ≡ length_size → size ≡ number_at 2 0 said → size ≡ size_said said
  unfolding size_said is_said number_at
  size-whole h e = rw (eq-eqb (length said) length_size h, e, take_all 2 said (omega arith))

  module _ (image : List ℕ) where
    good-lone : is_said said ≡ false → length image ≡ size_said said → is_image image ≡ false
    unfolding size_said
    good-lone f e = no_bytes image (rw f at e)

    good-image : length image ≡ size_said said → is_image image ≡ is_good said image
    unfolding is_good
    good-image k =
        split (is_said said)
        (λ s. rw (s, eq-eqb (length image) (size_said said) k))
        (λ s. rw s (good-lone s k))

    pub good-is : is_good said image ≡ true → is_image image ≡ true
    unfolding is_good
    good-is t = and_right (eqb (length image) (size_said said)) (is_image image) (and_right (is_said said) _ t)

    module _ {size : ℕ} (e : size ≡ size_said said) where
      pub line-cut : (length image ≡ size → ⊥) → None ≡ line_of said image
      unfolding line_of is_good
      line-cut n = rw (ne_eqb (length image) (size_said said) (rw e at n), and-false (is_said said))

      module _ (k : length image ≡ size) {parts : ImageParts} where
        pub line-bad : Err parts ≡ image_test image → None ≡ line_of said image
        unfolding line_of image_test
        line-bad f = rw (← good-image (k ∙ e)) (split (is_image image) (λ t. clash (rw t) (ap is_ok (sym f))) (λ t. rw t))

        pub line-good : Ok parts ≡ image_test image → {figures : Figures} → figures ≡ figures_in image → Some figures ≡ line_of said image
        unfolding line_of
        line-good f g = rw (← good-image (k ∙ e), tested image (sym f), g)

pub ruleset rules = (std_rules, classes-counted, sum-begin, held_fits, held_next, held-done, figures-all, size_none, size-whole, line-cut, line-bad, line-good)
