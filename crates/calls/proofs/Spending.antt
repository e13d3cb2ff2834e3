-- Order 3, worked: what a refusal leaves of each kind, and the relay's attack.
-- Assumes nothing.
use Prim.Native.Nat.{ℕ}
use mathlib.Core.Path.{◌≡◌, refl}
use mathlib.Core.Bool.{true}
use mathlib.Core.List.{List, [], ◌∷◌, map}
use Rattle.table.specs.Table.{standing}
use Rattle.module_state.specs.declared.Claim.TheVariants.{Elevated}
use Rattle.calls.specs.declared.Wanted.TheVariants.{Every, Only}
use Rattle.calls.specs.Calls.{Call, Open, Select, Start, End, Record, ListProcesses, Kill, SetWord, number, left, fresh}
use Rattle.calls.proofs.Sequences.{plain, P, Q, R, pairs, name, session, credential, class, user_yes, yes', no', Step, ◌⇒◌, Answered, computed}
use Rattle.calls.proofs.Conditions.{four}

-- in that state stand P, credential 0's, R, credential 1's, the elevation Q, and name 1, which is saved. A call there is answered the number, and leaves them these
-- next numbers
pub record Leaves (call : Call) (n : ℕ) (nexts : List ℕ) : Type 0 where
  pub number_is : number four call ≡ n
  pub nexts-are : map (λ p. p.next) (standing (left four call).table) ≡ nexts

abbrev as_it_was : List ℕ
as_it_was = 0 ∷ 0 ∷ 0 ∷ 1 ∷ []

-- one more for the process of credential 0, of credential 1
abbrev spent_by0 : List ℕ
spent_by0 = 1 ∷ 0 ∷ 0 ∷ 1 ∷ []

abbrev spent_by1 : List ℕ
spent_by1 = 0 ∷ 1 ∷ 0 ∷ 1 ∷ []

pub record Spending : Type 0 where
  -- "by 5 in set word, 6 in kill, 10, 15"
  pub word-5 : Leaves (SetWord (session 0) (yes' 0 0) (credential 2) (plain 16)) 5 spent_by0
  pub kill-6 : Leaves (Kill (session 0) (yes' 0 0) (name 2)) 6 spent_by0
  pub strangers-6 : Leaves (Kill (session 0) (yes' 1 0) P) 6 spent_by1
  pub end-10 : Leaves (End (session 0) (user_yes 1 0) true) 10 spent_by1
  pub record-10 : Leaves (Record (session 0) (yes' 1 0) (class 5)) 10 spent_by1
  pub list-10 : Leaves (ListProcesses (session 0) (yes' 1 0) Every 616) 10 spent_by1
  pub word-10 : Leaves (SetWord (session 0) (yes' 1 0) (credential 0) (plain 16)) 10 spent_by1
  pub list-15 : Leaves (ListProcesses (session 0) (yes' 0 0) Every 207) 15 spent_by0
  -- under an elevated claim none
  pub elevated-5 : Leaves (SetWord (session 0) Elevated (credential 2) (plain 16)) 5 as_it_was
  pub elevated-6 : Leaves (Kill (session 0) Elevated (name 2)) 6 as_it_was
  pub elevated-10 : Leaves (Record (session 0) Elevated (class 4)) 10 as_it_was
  pub elevated-15 : Leaves (ListProcesses (session 0) Elevated Every 207) 15 as_it_was
  -- ahead of the claim, its number being the next and its verdict a yes
  pub early-1 : Leaves (Record (session 0) (yes' 1 0) (class 3)) 1 as_it_was
  pub early-list-1 : Leaves (ListProcesses (session 0) (yes' 0 0) (Only (credential 8)) 616) 1 as_it_was
  pub early-word-1 : Leaves (SetWord (session 0) (yes' 0 0) (credential 8) (plain 16)) 1 as_it_was
  pub early-2 : Leaves (Record (session 3) (yes' 1 0) (class 4)) 2 as_it_was
  pub early-3 : Leaves (Record (session 2) (yes' 1 0) (class 4)) 3 as_it_was
  -- and by the claim
  pub claim-5 : Leaves (SetWord (session 0) (yes' 2 0) (credential 2) (plain 16)) 5 as_it_was
  pub claim-6 : Leaves (Kill (session 1) (yes' 1 0) R) 6 as_it_was
  pub claim-9 : Leaves (Kill (session 0) (yes' 1 1) P) 9 as_it_was
  pub claim-8 : Leaves (Kill (session 0) (no' 1 0) P) 8 as_it_was

pub spending : Spending
unfolding computed
spending =
    record {
      word-5 = record { number_is = refl; nexts-are = refl };
      kill-6 = record { number_is = refl; nexts-are = refl };
      strangers-6 = record { number_is = refl; nexts-are = refl };
      end-10 = record { number_is = refl; nexts-are = refl };
      record-10 = record { number_is = refl; nexts-are = refl };
      list-10 = record { number_is = refl; nexts-are = refl };
      word-10 = record { number_is = refl; nexts-are = refl };
      list-15 = record { number_is = refl; nexts-are = refl };
      elevated-5 = record { number_is = refl; nexts-are = refl };
      elevated-6 = record { number_is = refl; nexts-are = refl };
      elevated-10 = record { number_is = refl; nexts-are = refl };
      elevated-15 = record { number_is = refl; nexts-are = refl };
      early-1 = record { number_is = refl; nexts-are = refl };
      early-list-1 = record { number_is = refl; nexts-are = refl };
      early-word-1 = record { number_is = refl; nexts-are = refl };
      early-2 = record { number_is = refl; nexts-are = refl };
      early-3 = record { number_is = refl; nexts-are = refl };
      claim-5 = record { number_is = refl; nexts-are = refl };
      claim-6 = record { number_is = refl; nexts-are = refl };
      claim-9 = record { number_is = refl; nexts-are = refl };
      claim-8 = record { number_is = refl; nexts-are = refl };
    }

-- "A relay kept a signed kill that had got 6, sent it after the named process had started, and it was accepted, because no number had been spent."
abbrev relayed : List Step
relayed =
    (Open (session 0) ⇒ 0)
    ∷ (Select (session 0) 0x10 ⇒ 0)
    ∷ (Start (session 0) (credential 0) P ⇒ 0)
    ∷ (Kill (session 0) (yes' 0 0) Q ⇒ 6)
    ∷ (Start (session 0) (credential 1) Q ⇒ 0)
    ∷ (Kill (session 0) (yes' 0 0) Q ⇒ 9)
    ∷ (Record (session 0) (yes' 1 0) (class 4) ⇒ 0)
    ∷ []

pub relay-refused : Answered (fresh pairs) relayed
unfolding computed
relay-refused = refl
