-- By cases on a test, with its outcome kept; and the parts of a test that is made of two.
-- Assumes nothing.
use Prim.Native.Nat.{ℕ, ◌<◌, ◌≤◌}
use mathlib.Core.Path.{◌≡◌, refl, sym, ◌∙◌}
use mathlib.Core.Bool.{Bool, true, false, ◌&&◌, ◌||◌, true≢false}
use lib.Dec.{ltb}
use borrow.Author.Tests.{ltb-true, ltb-false}

-- `split (f x) (λ e. rw e ..) (λ e. rw e ..)`
pub split {ℓ} : {C : Type ℓ} (t : Bool) → (t ≡ true → C) → (t ≡ false → C) → C
split true g h = g refl
split false g h = h refl

-- `below a b (λ h. ..) (λ h. ..)`
pub below {ℓ} : {C : Type ℓ} (a b : ℕ) → (a < b → C) → (b ≤ a → C) → C
below a b g h = split (ltb a b) (λ e. g (ltb-true a b e)) (λ e. h (ltb-false a b e))

-- a test with two outcomes
pub clash {ℓ} : {C : Type ℓ} {t : Bool} → t ≡ true → t ≡ false → C
clash p q = absurd (true≢false (sym p ∙ q))

pub and_left : (a b : Bool) → (a && b) ≡ true → a ≡ true
and_left true b e = refl
and_left false b e = e

pub and_right : (a b : Bool) → (a && b) ≡ true → b ≡ true
and_right true b e = e
and_right false b e = clash e refl

pub and_both : {a b : Bool} → a ≡ true → b ≡ true → (a && b) ≡ true
and_both p q = rw (p, q)

pub or-false : (b : Bool) → (b || false) ≡ b
or-false true = refl
or-false false = refl
