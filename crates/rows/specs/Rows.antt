-- Records in rows of as many bytes each, tests of every element and of every pair, and what a write leaves in a buffer.
use Rattle.std.specs.Prelude.{◌≡◌, ℕ, zero, suc, ◌+◌, Bool, true, cond, ◌&&◌, List, [], ◌∷◌, ◌++◌, leb, length, take, drop}

-- the first n rows of k bytes
unfoldable pub rows : ℕ → ℕ → List ℕ → List (List ℕ)
rows zero k b = []
rows (suc n) k b = take k b ∷ rows n k (drop k b)

-- every element passes
unfoldable pub every : {A : Type 0} → (A → Bool) → List A → Bool
every f [] = true
every f (x ∷ xs) = f x && every f xs

-- each element passes with each later one
unfoldable pub pairwise : {A : Type 0} → (A → A → Bool) → List A → Bool
pairwise f [] = true
pairwise f (x ∷ xs) = every (f x) xs && pairwise f xs

-- a buffer after bytes, n of them, were written over it from a place. The bytes before them and after them are not touched; a buffer that is too
-- short stays as it was
unfoldable pub over : ℕ → ℕ → List ℕ → List ℕ → List ℕ
over at n bytes old = cond (leb (at + n) (length old)) (take at old ++ (bytes ++ drop (at + n) old)) old

-- n bytes x were written from a place, and nothing else
pub record Put (at n : ℕ) (x old new : List ℕ) : Type 0 where
  pub long : length x ≡ n
  pub is : new ≡ over at n x old
