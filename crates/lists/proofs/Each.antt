-- A fact of each element, and of each two, through every operation on a list; what stands at a place, and a place that was replaced.
-- Every other element than one is what `remove_at` leaves. Assumes nothing.
use Prim.Native.Nat.{ℕ, zero, suc, ◌<◌}
use mathlib.Core.Path.{◌≡◌, refl, ◌∙◌}
use mathlib.Core.Bool.{Bool, true, false}
use mathlib.Core.List.{List, [], ◌∷◌, ◌++◌}
use native.Mathlib.Nat.{not-suc-le-zero, le_of_suc-le-suc}
use native.Mathlib.Omega.{arith}
use lib.ListN.{length, get_or, set, length-set}
use Rattle.lists.specs.Lists.{any, first_index, reject, remove_at}
use Rattle.lists.proofs.Tests.{split, below, clash}
use Rattle.lists.proofs.Lists.{first_passes, first-inside}
use Rattle.lists.specs.Each.{Each, each_nil, each-cons, Pairs, pairs-nil, pairs-cons}

module _ {A : Type 0} where
  -- ---- an element that passes a test stands at a place
  pub record Stands (f : A → Bool) (l : List A) (d : A) (i : ℕ) : Type 0 where
    pub inside : i < length l
    pub passes : f (get_or l i d) ≡ true

  -- what a search finds
  pub found : (f : A → Bool) (l : List A) (d : A) → any f l ≡ true → Stands f l d (first_index f l)
  found f l d h =
      let inside : first_index f l < length l = first-inside f l h in
      record { inside = inside; passes = first_passes f l d inside }

  pub each-fails : (f : A → Bool) (l : List A) → any f l ≡ false → Each (λ x. f x ≡ false) l
  unfolding any
  each-fails f [] h = each_nil
  each-fails f (x ∷ xs) h = split (f x) (λ e. clash refl (rw e at h)) (λ e. each-cons e (each-fails f xs (rw e at h)))

  -- an element replaced by one that passes a test: those that passed it still do
  pub passes-set : (f : A → Bool) (l : List A) (i j : ℕ) (d y : A) → f y ≡ true → f (get_or l j d) ≡ true → f (get_or (set l i y) j d) ≡ true
  passes-set f [] i j d y e h = h
  passes-set f (x ∷ xs) zero zero d y e h = e
  passes-set f (x ∷ xs) zero (suc j) d y e h = h
  passes-set f (x ∷ xs) (suc i) zero d y e h = h
  passes-set f (x ∷ xs) (suc i) (suc j) d y e h = passes-set f xs i j d y e h

  -- replaced by one on which a function has the same value: it has it everywhere
  pub same_set : {B : Type 0} (f : A → B) (l : List A) (i j : ℕ) (d y : A) → f y ≡ f (get_or l i d) → f (get_or (set l i y) j d) ≡ f (get_or l j d)
  same_set f [] i j d y e = refl
  same_set f (x ∷ xs) zero zero d y e = e
  same_set f (x ∷ xs) zero (suc j) d y e = refl
  same_set f (x ∷ xs) (suc i) zero d y e = refl
  same_set f (x ∷ xs) (suc i) (suc j) d y e = same_set f xs i j d y e

  pub stands_set : (f : A → Bool) (l : List A) (d : A) (i j : ℕ) (y : A) → f y ≡ f (get_or l i d) → Stands f l d j → Stands f (set l i y) d j
  stands_set f l d i j y e v =
      record { inside = rw length-set v.inside; passes = same_set f l i j d y e ∙ v.passes }

  -- what passes a test that fails past the end stands in the list
  pub inside : (f : A → Bool) (l : List A) (i : ℕ) (d : A) → f d ≡ false → f (get_or l i d) ≡ true → i < length l
  inside f [] i d e h = clash h e
  inside f (x ∷ xs) zero d e h = omega arith
  inside f (x ∷ xs) (suc i) d e h = omega (arith, inside f xs i d e h)

  -- ---- Each
  pub each-imp : {P Q : A → Type 0} {l : List A} → ((x : A) → P x → Q x) → Each P l → Each Q l
  each-imp k each_nil = each_nil
  each-imp k (each-cons p h) = each-cons (k _ p) (each-imp k h)

  pub each-imp₂ : {P Q R : A → Type 0} {l : List A} → ((x : A) → P x → Q x → R x) → Each P l → Each Q l → Each R l
  each-imp₂ k each_nil j = each_nil
  each-imp₂ k (each-cons p h) (each-cons q j) = each-cons (k _ p q) (each-imp₂ k h j)

  pub each_both : {P Q : A → Type 0} {l : List A} → Each P l → Each Q l → Each (λ x. P x × Q x) l
  each_both h j = each-imp₂ (λ x p q. (p, q)) h j

  pub each_all : {P : A → Type 0} (l : List A) → ((x : A) → P x) → Each P l
  each_all [] k = each_nil
  each_all (x ∷ xs) k = each-cons (k x) (each_all xs k)

  pub each_at : {P : A → Type 0} {l : List A} (i : ℕ) (d : A) → i < length l → Each P l → P (get_or l i d)
  each_at i d h each_nil = absurd (not-suc-le-zero h)
  each_at zero d h (each-cons p q) = p
  each_at (suc i) d h (each-cons p q) = each_at i d (le_of_suc-le-suc h) q

  pub each_append : {P : A → Type 0} {l : List A} (y : A) → Each P l → P y → Each P (l ++ (y ∷ []))
  each_append y each_nil q = each-cons q each_nil
  each_append y (each-cons p h) q = each-cons p (each_append y h q)

  pub each-remove : {P : A → Type 0} {l : List A} (i : ℕ) → i < length l → Each P l → Each P (remove_at i l)
  unfolding remove_at
  each-remove i h each_nil = absurd (not-suc-le-zero h)
  each-remove zero h (each-cons p q) = q
  each-remove (suc i) h (each-cons p q) = each-cons p (each-remove i (le_of_suc-le-suc h) q)

  pub each_set : {P : A → Type 0} {l : List A} (i : ℕ) (y : A) → Each P l → P y → Each P (set l i y)
  each_set i y each_nil q = each_nil
  each_set zero y (each-cons p h) q = each-cons q h
  each_set (suc i) y (each-cons p h) q = each-cons p (each_set i y h q)

  pub each-reject : {P : A → Type 0} {l : List A} (f : A → Bool) → Each P l → Each P (reject f l)
  unfolding reject
  each-reject f each_nil = each_nil
  each-reject f (each-cons {x = x} p h) = split (f x) (λ e. rw e (each-reject f h)) (λ e. rw e (each-cons p (each-reject f h)))

  -- what is left fails the test
  pub each_left : (f : A → Bool) (l : List A) → Each (λ x. f x ≡ false) (reject f l)
  unfolding reject
  each_left f [] = each_nil
  each_left f (x ∷ xs) = split (f x) (λ e. rw e (each_left f xs)) (λ e. rw e (each-cons e (each_left f xs)))

  -- ---- Pairs
  pub pairs-imp : {R S : A → A → Type 0} {l : List A} → ((x y : A) → R x y → S x y) → Pairs R l → Pairs S l
  pairs-imp k pairs-nil = pairs-nil
  pairs-imp k (pairs-cons p h) = pairs-cons (each-imp (λ y r. k _ y r) p) (pairs-imp k h)

  pub pairs-append : {R : A → A → Type 0} {l : List A} (y : A) → Pairs R l → Each (λ x. R x y) l → Pairs R (l ++ (y ∷ []))
  pairs-append y pairs-nil k = pairs-cons each_nil pairs-nil
  pairs-append y (pairs-cons p h) (each-cons q k) = pairs-cons (each_append y p q) (pairs-append y h k)

  pub pairs-remove : {R : A → A → Type 0} {l : List A} (i : ℕ) → i < length l → Pairs R l → Pairs R (remove_at i l)
  unfolding remove_at
  pairs-remove i h pairs-nil = absurd (not-suc-le-zero h)
  pairs-remove zero h (pairs-cons p q) = q
  pairs-remove (suc i) h (pairs-cons p q) =
      pairs-cons (each-remove i (le_of_suc-le-suc h) p) (pairs-remove i (le_of_suc-le-suc h) q)

  pub pairs-reject : {R : A → A → Type 0} {l : List A} (f : A → Bool) → Pairs R l → Pairs R (reject f l)
  unfolding reject
  pairs-reject f pairs-nil = pairs-nil
  pairs-reject f (pairs-cons {x = x} p h) =
      split (f x) (λ e. rw e (pairs-reject f h)) (λ e. rw e (pairs-cons (each-reject f p) (pairs-reject f h)))

  module _ {R : A → A → Type 0} (turn : (x y : A) → R x y → R y x) where
    -- every other element stands to the one at the place as any two do
    pub pairs-rest : {l : List A} (i : ℕ) (d : A) → i < length l → Pairs R l → Each (λ x. R x (get_or l i d)) (remove_at i l)
    unfolding remove_at
    pairs-rest i d h pairs-nil = absurd (not-suc-le-zero h)
    pairs-rest zero d h (pairs-cons p q) = each-imp (λ z r. turn _ z r) p
    pairs-rest (suc i) d h (pairs-cons p q) =
        each-cons (each_at i d (le_of_suc-le-suc h) p) (pairs-rest i d (le_of_suc-le-suc h) q)

    -- the one at the place replaced by one to which every other stands so
    pub pairs_set : {l : List A} (i : ℕ) (y : A) → i < length l → Pairs R l → Each (λ x. R x y) (remove_at i l) → Pairs R (set l i y)
    unfolding remove_at
    pairs_set i y h pairs-nil k = absurd (not-suc-le-zero h)
    pairs_set zero y h (pairs-cons p q) k = pairs-cons (each-imp (λ z r. turn z y r) k) q
    pairs_set (suc i) y h (pairs-cons p q) (each-cons r k) =
        pairs-cons (each_set i y p r) (pairs_set i y (le_of_suc-le-suc h) q k)

    -- by places
    pairs_below : {l : List A} (i j : ℕ) (d : A) → i < j → j < length l → Pairs R l → R (get_or l i d) (get_or l j d)
    pairs_below i j d b h pairs-nil = absurd (not-suc-le-zero h)
    pairs_below i zero d b h (pairs-cons p q) = absurd (not-suc-le-zero b)
    pairs_below zero (suc j) d b h (pairs-cons p q) = each_at j d (le_of_suc-le-suc h) p
    pairs_below (suc i) (suc j) d b h (pairs-cons p q) = pairs_below i j d (le_of_suc-le-suc b) (le_of_suc-le-suc h) q

    pub pairs-at : {l : List A} (i j : ℕ) (d : A) → i < length l → j < length l → (i ≡ j → ⊥) → Pairs R l → R (get_or l i d) (get_or l j d)
    pairs-at i j d hi hj n v =
        below i j
        (λ b. pairs_below i j d b hj v)
        (λ b. turn _ _ (pairs_below j i d (omega arith) hi v))
