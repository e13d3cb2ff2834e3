-- "It is shown that no second answer satisfies it": what that means of a function's contract, over the contract itself as Rattle reads it.
-- `P` is the contract's `ensures`, `κs` the lifetimes, `a` the arguments, `x` and `y` two answers, `s` and `t` what lies behind the `&mut`
-- parameters at the end. Assumes nothing.
use Prim.Native.Nat.{ℕ}
use mathlib.Core.Path.{◌≡◌}
use mathlib.Core.List.{List}
use borrow.Fn.Kinds.{ParamKind, ResultKind, Out, ended_of, res_t, Dens}
use denote.Triple.Clauses.{AtExit}
use contract.Lifetimes.{Lfts}

-- two answers that both meet it are one
abbrev pub OneAnswer : (n : ℕ) (ps : List (ParamKind n)) (r : ResultKind n) → Out n ps r → Type 0
OneAnswer n ps r P =
    (κs : Lfts n) (a : Dens κs ps) (x y : (res_t r κs).Denot) (s t : AtExit (ended_of n ps r) κs) → P κs a x s → P κs a y t → x ≡ y

-- two contents of what was lent that both meet it are one; `content` reads it
abbrev pub OneContent : (n : ℕ) (ps : List (ParamKind n)) (r : ResultKind n) → Out n ps r → ((κs : Lfts n) → AtExit (ended_of n ps r) κs → List ℕ) → Type 0
OneContent n ps r P content =
    (κs : Lfts n) (a : Dens κs ps) (x y : (res_t r κs).Denot) (s t : AtExit (ended_of n ps r) κs) → P κs a x s → P κs a y t → content κs s ≡ content κs t

-- two answers that lend what lies somewhere, and both meet it, lend the same; `view` reads what lies there
abbrev pub OneView : (n : ℕ) (ps : List (ParamKind n)) (r : ResultKind n) → Out n ps r → {T : Type 0} → ((κs : Lfts n) → (res_t r κs).Denot → T) → Type 0
OneView n ps r P view =
    (κs : Lfts n) (a : Dens κs ps) (x y : (res_t r κs).Denot) (s t : AtExit (ended_of n ps r) κs) → P κs a x s → P κs a y t → view κs x ≡ view κs y
