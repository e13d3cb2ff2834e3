-- Order 7, "Some classes only under elevation": the three answers of the lookup by the two bits, what a claim gets by them, and worked steps.
-- Assumes nothing.
use Prim.Native.Nat.{ℕ, ◌^◌}
use mathlib.Core.Path.{◌≡◌, refl}
use mathlib.Core.Logic.{◌≢◌}
use mathlib.Core.Bool.{Bool, true, false, cond, not}
use mathlib.Core.List.{List, [], ◌∷◌, map}
use native.Mathlib.Nat.{zero-div}
use lib.Dec.{eqb, leb}
use lib.ListN.{replicate}
use borrow.Author.Tests.{eq-eqb, not-true}
use Rattle.lists.proofs.Tests.{split, clash}
use Rattle.rows.specs.Rows.{every}
use Rattle.names.specs.declared.Credential.{Credential}
use Rattle.names.specs.declared.Name.{Name}
use Rattle.names.specs.declared.Session.{Session}
use Rattle.table.specs.Table.{standing}
use Rattle.table.specs.declared.Among.TheVariants.{All, Of}
use Rattle.module_state.specs.Module.{has_bit, both_words, granted, unprovisioned, lookup}
use Rattle.module_state.specs.Claim.{checked, check_of, lookup_number, grant_number}
use Rattle.module_state.specs.declared.Checked.{Checked}
use Rattle.module_state.specs.declared.Claim.{Claim}
use Rattle.module_state.specs.declared.Claim.TheVariants.{Elevated, ByUser}
use Rattle.module_state.specs.declared.Class.{Class}
use Rattle.module_state.specs.declared.Grants.{Grants}
use Rattle.module_state.specs.declared.Lookup.{Lookup}
use Rattle.module_state.specs.declared.Lookup.TheVariants.{NotGranted, Granted, OnlyElevated}
use Rattle.module_state.specs.declared.State.{State}
use Rattle.module_state.specs.declared.UserClaim.{UserClaim}
use Rattle.module_state.specs.declared.Words.{Words}
use Rattle.module_state.proofs.Laws.{by-when, by-unless, by-then}
use Rattle.calls.specs.declared.Wanted.{Wanted}
use Rattle.calls.specs.declared.Wanted.TheVariants.{Every, Only}
use Rattle.calls.specs.Calls.{Open, Drop, Select, Start, Elevate, End, Record, ListProcesses, Kill, SetWord, list_others, kill_others, set_words, reach, record_tests, list_tests, kill_tests, set_word_tests, asked, number, fresh}
use Rattle.calls.proofs.Cut.{of_check, check-passes}
use Rattle.calls.proofs.Sequences.{P, Q, R, plain, name, session, credential, class, user_yes, yes', no', Step, ◌⇒◌, Answered, after, computed}

-- ---- "The grant lookup then has three answers: no, yes, only under elevation. The last is given when both bits are set."
module _ (grants : Grants) (class : Class) where
  abbrev first : Bool
  first = has_bit grants.words.grant class

  abbrev second : Bool
  second = has_bit grants.words.second class

  -- the second bit alone is no
  pub answers-no : first ≡ false → lookup grants class ≡ NotGranted
  unfolding lookup
  answers-no e = rw e

  pub answers-yes : first ≡ true → second ≡ false → lookup grants class ≡ Granted
  unfolding lookup
  answers-yes e f = rw (e, f)

  pub answers-elevated : first ≡ true → second ≡ true → lookup grants class ≡ OnlyElevated
  unfolding lookup
  answers-elevated e f = rw (e, f)

-- ---- what a claim gets by them
module _ (u : UserClaim) where
  pub user-gets : (lookup_number (ByUser u) NotGranted ≡ 10) × (lookup_number (ByUser u) Granted ≡ 0) × (lookup_number (ByUser u) OnlyElevated ≡ 18)
  unfolding lookup_number
  user-gets = (refl, refl, refl)

pub elevated-gets : (lookup_number Elevated NotGranted ≡ 10) × (lookup_number Elevated Granted ≡ 0) × (lookup_number Elevated OnlyElevated ≡ 0)
unfolding lookup_number
elevated-gets = (refl, refl, refl)

-- ---- "in kill a class 1 marked so gives a user claim no reach beyond its own processes"; "kill answers 6": neither 10 nor 18, whatever the claim
abbrev is_not : ℕ → ℕ → Bool
is_not m n = not (eqb n m)

not_equal : {m n : ℕ} → is_not m n ≡ true → n ≢ m
not_equal {m} {n} v e = clash (eq-eqb n m e) (not-true (eqb n m) v)

module _ (st : State) (s : Session) (claim : Claim) (name : Name) where
  kill-passes : (f : ℕ → Bool) → every f of_check ≡ true → f 0 ≡ true → f 6 ≡ true → f (number st (Kill s claim name)) ≡ true
  unfolding number asked kill_tests
  kill-passes f e zero six =
      by-then (λ n. f n ≡ true) 0 _ zero (by-then (λ n. f n ≡ true) _ _ (check-passes f e st s claim) (by-unless (λ n. f n ≡ true) zero 6 _ six))

  pub kill-not-10 : number st (Kill s claim name) ≢ 10
  unfolding every
  kill-not-10 = not_equal (kill-passes (is_not 10) refl refl refl)

  pub kill-not-18 : number st (Kill s claim name) ≢ 18
  unfolding every
  kill-not-18 = not_equal (kill-passes (is_not 18) refl refl refl)

pub reach-marked : (by : Checked) (u : UserClaim) → by.claim ≡ ByUser u → lookup by.grants kill_others ≡ OnlyElevated → reach by ≡ Of by.credential
unfolding reach grant_number lookup_number
reach-marked by u c e = rw (c, e)

pub reach-elevated : (by : Checked) → by.claim ≡ Elevated → lookup by.grants kill_others ≡ OnlyElevated → reach by ≡ All
unfolding reach grant_number lookup_number
reach-elevated by c e = rw (c, e)

-- ---- "18 when a user claim gets the third answer": no call under an elevated claim is answered 18
elevated-lookup : (answer : Lookup) → is_not 18 (lookup_number Elevated answer) ≡ true
unfolding lookup_number
elevated-lookup NotGranted = refl
elevated-lookup Granted = refl
elevated-lookup OnlyElevated = refl

abbrev Passes : ℕ → Type 0
Passes n = is_not 18 n ≡ true

module _ (st : State) (s : Session) where
  abbrev by : Checked
  by = checked st s Elevated

  elevated-check : Passes by.number
  unfolding every
  elevated-check = check-passes (is_not 18) refl st s Elevated

  elevated-grant : (class : Class) → Passes (grant_number by class)
  unfolding grant_number checked check_of
  elevated-grant class = elevated-lookup (lookup by.grants class)

  pub elevated-record : (class : Class) → number st (Record s Elevated class) ≢ 18
  unfolding number asked record_tests
  elevated-record class = not_equal (by-then Passes _ _ (by-unless Passes refl 1 _ refl) (by-then Passes _ _ elevated-check (elevated-grant class)))

  pub elevated-list : (wanted : Wanted) (room : ℕ) → number st (ListProcesses s Elevated wanted room) ≢ 18
  unfolding number asked list_tests
  elevated-list wanted room =
      not_equal
      (by-then Passes _ _ (by-unless Passes refl 1 _ refl)
      (by-then Passes _ _ elevated-check
      (by-then Passes _ _ (by-unless Passes refl _ _ (elevated-grant list_others)) (by-when Passes refl 15 _ refl))))

  pub elevated-set-word : (c : Credential) (words : Words) → number st (SetWord s Elevated c words) ≢ 18
  unfolding number asked set_word_tests
  elevated-set-word c words =
      not_equal
      (by-then Passes _ _ (by-unless Passes refl 1 _ refl)
      (by-then Passes _ _ elevated-check (by-then Passes _ _ (elevated-grant set_words) (by-unless Passes refl 5 _ refl))))

-- ---- with second words zero every answer is that of before the order: bit k of the grant word alone decides
pub plain-lookup : (word : ℕ) (class : Class) → lookup (granted (plain word)) class ≡ cond (has_bit word class) Granted NotGranted
unfolding lookup has_bit
plain-lookup word class = split (leb class.0 31) (λ e. rw (e, zero-div (2 ^ class.0))) (λ e. rw e)

-- ---- worked steps. Credentials 0 (word 15), 1 (word 0x30, second word 0x60) and 2 (15 and 15) are provisioned: 1 has class 4, 5 only under elevation, and 6 not at
-- all; 2 has 0 to 3 only under elevation. P, Q and R as in document 01, session 0, the verdict yes
abbrev pairs : List Grants
pairs = granted (plain 15) ∷ granted (both_words 0x30 0x60) ∷ granted (both_words 15 15) ∷ replicate 5 unprovisioned

abbrev worked-steps : List Step
worked-steps =
    -- 1.
    (Open (session 0) ⇒ 0)
    ∷ (Select (session 0) 0x10 ⇒ 0)
    ∷ (Start (session 0) (credential 0) P ⇒ 0)
    ∷ (Start (session 0) (credential 1) R ⇒ 0)
    ∷ (Start (session 0) (credential 2) Q ⇒ 0)
    -- 2. 18 spends the number; the second bit alone is 10
    ∷ (Record (session 0) (yes' 1 0) (class 4) ⇒ 0)
    ∷ (Record (session 0) (yes' 1 1) (class 5) ⇒ 18)
    ∷ (Record (session 0) (yes' 1 1) (class 5) ⇒ 9)
    ∷ (Record (session 0) (yes' 1 2) (class 6) ⇒ 10)
    ∷ (Record (session 0) (yes' 1 3) (class 7) ⇒ 10)
    ∷ (Record (session 0) (yes' 1 4) (class 4) ⇒ 0)
    ∷ (Record (session 0) (no' 1 5) (class 5) ⇒ 8)
    ∷ (Record (session 0) (yes' 1 5) (class 3) ⇒ 1)
    -- 3. one's own rows, whatever class 0 says; 18 ahead of 15
    ∷ (ListProcesses (session 0) (yes' 2 0) (Only (credential 2)) 55 ⇒ 0)
    ∷ (ListProcesses (session 0) (yes' 2 1) (Only (credential 0)) 616 ⇒ 18)
    ∷ (ListProcesses (session 0) (yes' 2 2) Every 0 ⇒ 18)
    ∷ (ListProcesses (session 0) (yes' 2 3) (Only (credential 2)) 54 ⇒ 15)
    ∷ (ListProcesses (session 0) (yes' 1 5) (Only (credential 0)) 0 ⇒ 10)
    -- 4. a stranger's name and an unknown one
    ∷ (Kill (session 0) (yes' 2 4) P ⇒ 6)
    ∷ (Kill (session 0) (yes' 2 5) (name 1) ⇒ 6)
    ∷ (End (session 0) (user_yes 2 6) true ⇒ 18)
    -- 5. 18 ahead of 5
    ∷ (SetWord (session 0) (yes' 2 7) (credential 1) (plain 0x30) ⇒ 18)
    ∷ (SetWord (session 0) (yes' 2 8) (credential 3) (plain 0) ⇒ 18)
    ∷ (SetWord (session 0) (yes' 1 6) (credential 3) (plain 0) ⇒ 10)
    ∷ (SetWord (session 0) (yes' 0 0) (credential 3) (plain 0) ⇒ 5)
    -- 6. an elevation of 2, whose words an elevated claim is looked up in
    ∷ (Elevate (session 0) (credential 2) (name 2) true ⇒ 0)
    ∷ (SetWord (session 0) Elevated (credential 3) (plain 0) ⇒ 5)
    ∷ (SetWord (session 0) Elevated (credential 1) (both_words 0x30 0x10) ⇒ 0)
    ∷ (Record (session 0) (yes' 1 7) (class 5) ⇒ 0)
    ∷ (Record (session 0) (yes' 1 8) (class 4) ⇒ 18)
    -- 7. it is the claim that is elevated, not the session
    ∷ (ListProcesses (session 0) Elevated Every 207 ⇒ 15)
    ∷ (ListProcesses (session 0) Elevated Every 208 ⇒ 0)
    ∷ (Kill (session 0) Elevated P ⇒ 0)
    ∷ (Record (session 0) Elevated (class 5) ⇒ 10)
    ∷ (SetWord (session 0) Elevated (credential 2) (both_words 0x2f 0x2f) ⇒ 0)
    ∷ (Record (session 0) Elevated (class 5) ⇒ 0)
    ∷ (Record (session 0) (yes' 2 9) (class 5) ⇒ 18)
    -- 8.
    ∷ (Drop (session 0) ⇒ 0)
    ∷ (Record (session 0) Elevated (class 5) ⇒ 6)
    ∷ (Kill (session 0) (yes' 2 10) Q ⇒ 0)
    ∷ []

-- the numbers; the next number of R, the one process that is left; and the words that were set
pub record Elevations : Type 0 where
  pub numbers-are : Answered (fresh pairs) worked-steps
  pub nexts-are : map (λ p. p.next) (standing (after (fresh pairs) worked-steps).table) ≡ 9 ∷ []
  pub words_are : (after (fresh pairs) worked-steps).credentials ≡ granted (plain 15) ∷ granted (both_words 0x30 0x10) ∷ granted (both_words 0x2f 0x2f) ∷ replicate 5 unprovisioned

pub elevations : Elevations
unfolding computed
elevations = record { numbers-are = refl; nexts-are = refl; words_are = refl }
