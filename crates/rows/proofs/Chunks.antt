-- A slice as arrays, by std's words and by those of this crate. Assumes nothing.
use Prim.Native.Nat.{ℕ, zero, suc, ◌+◌, ◌-◌, ◌*◌, ◌≤◌}
use mathlib.Core.Path.{◌≡◌, refl, ap}
use mathlib.Core.Bool.{Bool, ◌&&◌}
use mathlib.Core.List.{List, [], ◌∷◌, map}
use native.Mathlib.Nat.{suc-mul}
use native.Mathlib.Omega.{arith}
use lib.ListN.{take, drop}
use Rattle.std.proofs.lemmas.List.{drop-take}
use Rattle.std.specs.List.{list_all}
use Rattle.std.specs.Simd.{first_chunks}
use Rattle.rows.specs.Rows.{rows, every}

pub chunks_rows : (k n : ℕ) (b : List ℕ) → first_chunks k n b ≡ rows n k b
unfolding rows
chunks_rows k zero b = refl
chunks_rows k (suc n) b = ap (λ (l : List (List ℕ)). take k b ∷ l) (chunks_rows k n (drop k b))

pub all_every : {A : Type 0} (f : A → Bool) (l : List A) → list_all f l ≡ every f l
unfolding every
all_every f [] = refl
all_every f (x ∷ l) = ap (λ (b : Bool). f x && b) (all_every f l)

pub all_map : {A B : Type 0} (f : B → Bool) (g : A → B) (l : List A) → list_all (λ x. f (g x)) l ≡ every f (map g l)
unfolding every
all_map f g [] = refl
all_map f g (x ∷ l) = ap (λ (b : Bool). f (g x) && b) (all_map f g l)

-- a front of more bytes than those of the rows
take_less : (k m : ℕ) (b : List ℕ) → k ≤ m → take k (take m b) ≡ take k b
take_less zero m b h = refl
take_less (suc k) zero b h = absurd (omega arith)
take_less (suc k) (suc m) [] h = refl
take_less (suc k) (suc m) (x ∷ b) h = ap (λ (l : List ℕ). x ∷ l) (take_less k m b (omega arith))

drop_less : (k m : ℕ) (b : List ℕ) → k ≤ m → drop k (take m b) ≡ take (m - k) (drop k b)
drop_less k m b h =
    let e : k + (m - k) ≡ m = omega arith in
    rw e at (drop-take k (m - k) b)

pub rows_front : (n k m : ℕ) (b : List ℕ) → n * k ≤ m → rows n k (take m b) ≡ rows n k b
unfolding rows
rows_front zero k m b h = refl
rows_front (suc n) k m b h =
    let enough : n * k + k ≤ m = rw (suc-mul n k) at h in
    rw (take_less k m b (omega arith), drop_less k m b (omega arith), rows_front n k (m - k) (drop k b) (omega arith))
