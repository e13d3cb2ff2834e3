-- "count_ones on each 32-bit grant word .. proved equal to the count of set classes": the bits of a word that are set, as the kit counts them, are the
-- classes that it holds.
-- Assumes nothing.
use Prim.Native.Nat.{ℕ, zero, suc, ◌+◌, ◌*◌, ◌/◌, ◌%◌, ◌^◌, ◌<◌, ◌≤◌}
use mathlib.Core.Path.{◌≡◌, refl, sym, ap, ◌∙◌}
use mathlib.Core.Bool.{false}
use native.Mathlib.Nat.{mod-lt, mod-eq_of_lt, pow-suc, mul_comm}
use native.Mathlib.Omega.{arith}
use borrow.Author.Tests.{eqb-true, eqb-false, le-leb}
use lib.Arith.{mod-mul}
use lib.Count.{ones, ones_cat, ones-ones}
use lib.Dec.{eqb}
use lib.ListN.{length}
use lib.Pow.{pow_pos}
use Rattle.lists.specs.Lists.{select}
use Rattle.lists.proofs.Lists.{length-select}
use Rattle.lists.proofs.Tests.{split}
use Rattle.module_state.specs.Module.{has_bit}
use Rattle.image_figures.specs.Figures.{class_count, classes_below, classes_held}

no-bit : (bit : ℕ) → bit < 2 → eqb bit 1 ≡ false → bit ≡ 0
no-bit bit h f = let n : bit ≡ 1 → ⊥ = eqb-false bit 1 f in omega arith

module _ (word : ℕ) where
  -- the lowest n + 1 bits are bit n above the lowest n
  low_bits : (n : ℕ) → word % 2 ^ suc n ≡ (word / 2 ^ n % 2) * 2 ^ n + word % 2 ^ n
  low_bits n = ap (λ (m : ℕ). word % m) (pow-suc 2 n ∙ mul_comm (2 ^ n) 2) ∙ mod-mul word (omega arith) (pow_pos n)

  ones_low : (n : ℕ) → n ≤ class_count → ones (word % 2 ^ n) ≡ length (select (has_bit word) (classes_below n))
  unfolding classes_below select has_bit
  ones_low zero h = let e : word % 1 ≡ 0 = omega arith in rw e (ones-ones 0)
  ones_low (suc n) h =
      let bit : ℕ = word / 2 ^ n % 2 in
      let low : bit < 2 = mod-lt (word / 2 ^ n) (omega arith) in
      let k : n ≤ 31 = omega arith in
      let e : ones (word % 2 ^ suc n) ≡ ones bit + length (select (has_bit word) (classes_below n)) = rw (low_bits n, ones_cat n bit (word % 2 ^ n) (mod-lt word (pow_pos n)), ones_low n (omega arith)) in
      split (eqb bit 1)
      (λ t. let one : bit ≡ 1 = eqb-true bit 1 t in e ∙ rw (le-leb n 31 k, t, one, ones-ones 1) (omega arith))
      (λ f. let none : bit ≡ 0 = no-bit bit low f in e ∙ rw (le-leb n 31 k, f, none, ones-ones 0) (omega arith))

  pub classes-counted : word < 2 ^ 32 → ones word ≡ classes_held word
  unfolding classes_held
  classes-counted h = ap ones (sym (mod-eq_of_lt h)) ∙ ones_low class_count (omega arith)

classes-below : (n : ℕ) → length (classes_below n) ≡ n
unfolding classes_below
classes-below zero = refl
classes-below (suc n) = ap suc (classes-below n)

pub classes-few : (word : ℕ) → classes_held word ≤ class_count
unfolding classes_held
classes-few word = omega (arith, length-select (has_bit word) (classes_below class_count), classes-below class_count)
