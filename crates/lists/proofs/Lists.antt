-- Laws of the functions on lists.
-- Assumes nothing.
use Prim.Native.Nat.{ℕ, zero, suc, ◌<◌, ◌≤◌}
use mathlib.Core.Path.{◌≡◌, refl, sym, ◌∙◌}
use mathlib.Core.Bool.{Bool, true, false, cond, ◌&&◌}
use mathlib.Core.List.{List, [], ◌∷◌, ◌++◌, map, append-nil}
use native.Mathlib.Omega.{arith}
use lib.ListN.{length, get_or, replicate, set, take, length-take, length-drop, drop_of_length-le, length-map, length-append, length-replicate}
use lib.Seq.{take_all, take_at}
use Rattle.lists.specs.Lists.{any, first_index, reject, select, remove_at, padded}
use Rattle.lists.proofs.Tests.{split, below, clash}

module _ {A : Type 0} where
  -- ---- first_index: at most the length; what stands there passes; nothing before it does
  pub first-low : (f : A → Bool) (l : List A) → first_index f l ≤ length l
  unfolding first_index
  first-low f [] = omega arith
  first-low f (x ∷ xs) = split (f x) (λ e. rw e (omega arith)) (λ e. rw e (omega (arith, first-low f xs)))

  pub first_passes : (f : A → Bool) (l : List A) (d : A) → first_index f l < length l → f (get_or l (first_index f l) d) ≡ true
  unfolding first_index
  first_passes f [] d h = absurd (omega arith)
  first_passes f (x ∷ xs) d h = split (f x) (λ e. rw (e, e)) (λ e. rw e (first_passes f xs d (omega (arith, rw e at h))))

  pub none_before : (f : A → Bool) (l : List A) (d : A) (k : ℕ) → k < first_index f l → f (get_or l k d) ≡ false
  unfolding first_index
  none_before f [] d k h = absurd (omega arith)
  none_before f (x ∷ xs) d zero h = split (f x) (λ e. absurd (omega (arith, rw e at h))) (λ e. e)
  none_before f (x ∷ xs) d (suc k) h =
      split (f x) (λ e. absurd (omega (arith, rw e at h))) (λ e. none_before f xs d k (omega (arith, rw e at h)))

  -- some element passes exactly where the first index is inside
  pub any-inside : (f : A → Bool) (l : List A) → first_index f l < length l → any f l ≡ true
  unfolding first_index any
  any-inside f [] h = absurd (omega arith)
  any-inside f (x ∷ xs) h = split (f x) (λ e. rw e) (λ e. rw e (any-inside f xs (omega (arith, rw e at h))))

  pub any-past : (f : A → Bool) (l : List A) → length l ≤ first_index f l → any f l ≡ false
  unfolding first_index any
  any-past f [] h = refl
  any-past f (x ∷ xs) h =
      split (f x) (λ e. absurd (omega (arith, rw e at h))) (λ e. rw e (any-past f xs (omega (arith, rw e at h))))

  pub first-inside : (f : A → Bool) (l : List A) → any f l ≡ true → first_index f l < length l
  first-inside f l h = below (first_index f l) (length l) (λ k. k) (λ past. clash h (any-past f l past))

  -- ---- one element, n times: it stands at every place, and past the end
  pub get_d-same : (n i : ℕ) (x : A) → get_or (replicate n x) i x ≡ x
  get_d-same zero i x = refl
  get_d-same (suc n) zero x = refl
  get_d-same (suc n) (suc i) x = get_d-same n i x

  -- ---- remove_at
  pub length-remove : (at : ℕ) (l : List A) → at < length l → suc (length (remove_at at l)) ≡ length l
  unfolding remove_at
  length-remove at l h = simp (length-append, length-take, length-drop) (omega arith)

  pub remove-out : (at : ℕ) (l : List A) → length l ≤ at → remove_at at l ≡ l
  unfolding remove_at
  remove-out at l h =
      let k : length l ≤ suc at = omega arith in
      rw (take_all at l h, drop_of_length-le l k, append-nil l)

  -- ---- reject
  pub length-reject : (f : A → Bool) (l : List A) → length (reject f l) ≤ length l
  unfolding reject
  length-reject f [] = omega arith
  length-reject f (x ∷ xs) =
      split (f x) (λ e. rw e (omega (arith, length-reject f xs))) (λ e. rw e (omega (arith, length-reject f xs)))

  pub reject-snoc : (f : A → Bool) (l : List A) (x : A) → reject f (l ++ (x ∷ [])) ≡ cond (f x) (reject f l) (reject f l ++ (x ∷ []))
  unfolding reject
  reject-snoc f [] x = refl
  reject-snoc f (y ∷ ys) x =
      split
      (f y)
      (λ e. rw e (reject-snoc f ys x))
      (λ e. rw (e, reject-snoc f ys x) (split (f x) (λ g. rw g) (λ g. rw g)))

  -- ---- select
  pub length-select : (f : A → Bool) (l : List A) → length (select f l) ≤ length l
  unfolding select
  length-select f [] = omega arith
  length-select f (x ∷ xs) =
      split (f x) (λ e. rw e (omega (arith, length-select f xs))) (λ e. rw e (omega (arith, length-select f xs)))

  pub select-snoc : (f : A → Bool) (l : List A) (x : A) → select f (l ++ (x ∷ [])) ≡ cond (f x) (select f l ++ (x ∷ [])) (select f l)
  unfolding select
  select-snoc f [] x = refl
  select-snoc f (y ∷ ys) x =
      split
      (f y)
      (λ e. rw (e, select-snoc f ys x) (split (f x) (λ g. rw g) (λ g. rw g)))
      (λ e. rw e (select-snoc f ys x))

  -- the elements that pass one test and then another pass both
  pub select-both : (f g : A → Bool) (l : List A) → select g (select f l) ≡ select (λ x. f x && g x) l
  unfolding select
  select-both f g [] = refl
  select-both f g (x ∷ xs) = split (f x) (λ e. rw (e, select-both f g xs)) (λ e. rw (e, select-both f g xs))

  -- they are the same where one that fails the test is replaced by such a one or removed, or all of some that fail it are; past the end there is none
  pub select-set : (f : A → Bool) (l : List A) (i : ℕ) (d y : A) → (i < length l → f (get_or l i d) ≡ false) → (i < length l → f y ≡ false)
      → select f (set l i y) ≡ select f l
  unfolding select
  select-set f [] i d y e k = refl
  select-set f (x ∷ xs) zero d y e k = rw (e (omega arith), k (omega arith))
  select-set f (x ∷ xs) (suc i) d y e k = rw (select-set f xs i d y (λ h. e (omega arith)) (λ h. k (omega arith)))

  pub select-remove : (f : A → Bool) (l : List A) (i : ℕ) (d : A) → (i < length l → f (get_or l i d) ≡ false) → select f (remove_at i l) ≡ select f l
  unfolding select remove_at
  select-remove f [] zero d e = refl
  select-remove f [] (suc i) d e = refl
  select-remove f (x ∷ xs) zero d e = rw (e (omega arith))
  select-remove f (x ∷ xs) (suc i) d e = rw (select-remove f xs i d (λ h. e (omega arith)))

  pub select-rejected : (f g : A → Bool) → ((x : A) → g x ≡ true → f x ≡ false) → (l : List A) → select f (reject g l) ≡ select f l
  unfolding select reject
  select-rejected f g k [] = refl
  select-rejected f g k (x ∷ xs) =
      split (g x) (λ e. rw (e, k x e) (select-rejected f g k xs)) (λ e. rw (e, select-rejected f g k xs))

  -- ---- padded
  pub length-padded : (n : ℕ) (z : A) (l : List A) → length l ≤ n → length (padded n z l) ≡ n
  unfolding padded
  length-padded n z l h = simp (length-append, length-replicate) (omega arith)

  pub front-padded : (n : ℕ) (z : A) (l : List A) → take (length l) (padded n z l) ≡ l
  unfolding padded
  front-padded n z l = take_at l _ (length l) refl

  -- ---- inside the list, what is said to stand past its end does not matter
  pub get_d_any : (l : List A) (i : ℕ) (d e : A) → i < length l → get_or l i d ≡ get_or l i e
  get_d_any [] i d e h = absurd (omega arith)
  get_d_any (x ∷ xs) zero d e h = refl
  get_d_any (x ∷ xs) (suc i) d e h = get_d_any xs i d e (omega arith)

-- the length of an array of structs: what a function knows is of the mapped list
pub length-mapped : {A B : Type 0} (f : A → B) (l : List A) (n : ℕ) → length (map f l) ≡ n → length l ≡ n
length-mapped f l n e = sym (length-map l f) ∙ e
