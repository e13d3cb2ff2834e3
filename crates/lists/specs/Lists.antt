-- Functions on lists that the contracts are made of. Their laws are in `proofs/Lists.antt`.
use Rattle.std.specs.Prelude.{ℕ, suc, ◌+◌, ◌-◌, Bool, false, cond, ◌||◌, List, [], ◌∷◌, ◌++◌, length, take, drop, replicate}

-- some element passes the test
unfoldable pub any : {A : Type 0} → (A → Bool) → List A → Bool
any f [] = false
any f (x ∷ xs) = f x || any f xs

-- the first index whose element passes the test, or the length where none does
unfoldable pub first_index : {A : Type 0} → (A → Bool) → List A → ℕ
first_index f [] = 0
first_index f (x ∷ xs) = cond (f x) 0 (suc (first_index f xs))

-- the elements that fail the test, in their order
unfoldable pub reject : {A : Type 0} → (A → Bool) → List A → List A
reject f [] = []
reject f (x ∷ xs) = cond (f x) (reject f xs) (x ∷ reject f xs)

-- the elements that pass the test, in their order
unfoldable pub select : {A : Type 0} → (A → Bool) → List A → List A
select f [] = []
select f (x ∷ xs) = cond (f x) (x ∷ select f xs) (select f xs)

-- lists put together
unfoldable pub join : {A : Type 0} → List (List A) → List A
join [] = []
join (x ∷ xs) = x ++ join xs

-- the list without the element at an index; without any, where the index is past the end
unfoldable pub remove_at : {A : Type 0} → ℕ → List A → List A
remove_at at l = take at l ++ drop (suc at) l

-- the list, and after it as many z as make n elements
unfoldable pub padded : {A : Type 0} → ℕ → A → List A → List A
padded n z l = l ++ replicate (n - length l) z

unfoldable pub sum : List ℕ → ℕ
sum [] = 0
sum (x ∷ xs) = x + sum xs
