-- "Calls, with the order of their checks": a table for each call. A line meets the condition of its number and, as far as conditions can stand
-- together, those of every later number as well: its number shows which is tested first. The next line mends that condition and no other,
-- until the call is accepted.
-- Assumes nothing.
use Prim.Native.Nat.{ℕ}
use mathlib.Core.Path.{refl}
use mathlib.Core.Bool.{true, false}
use mathlib.Core.List.{List, [], ◌∷◌, ◌++◌}
use Rattle.module_state.specs.declared.Claim.TheVariants.{Elevated}
use Rattle.module_state.specs.declared.State.{State}
use Rattle.calls.specs.declared.Wanted.TheVariants.{Every, Only}
use Rattle.calls.specs.Calls.{Open, Close, Select, Start, Continue, Elevate, Drop, End, Record, ListProcesses, Kill, SetWord, fresh}
use Rattle.calls.proofs.Sequences.{plain, P, Q, R, pairs, name, session, credential, class, user_yes, user_no, yes', no', Step, ◌⇒◌, Answered, after, computed}

-- ---- the state that each table begins with: sessions 0 and 1 have version 1.0, session 2 is open without one, session 3 is closed. In session 0 stand
-- P, credential 0's, R, credential 1's, and the elevation Q, credential 0's; and credential 0 has saved nine, with the names 1 to 9: twelve in all
abbrev pub saves : List ℕ → List Step
saves [] = []
saves (n ∷ ns) = (Start (session 1) (credential 0) (name n) ⇒ 0) ∷ (End (session 1) (user_yes 0 0) true ⇒ 0) ∷ saves ns

abbrev pub opening : List Step
opening =
    (Open (session 0) ⇒ 0)
    ∷ (Select (session 0) 0x10 ⇒ 0)
    ∷ (Open (session 1) ⇒ 0)
    ∷ (Select (session 1) 0x10 ⇒ 0)
    ∷ (Open (session 2) ⇒ 0)
    ∷ (Start (session 0) (credential 0) P ⇒ 0)
    ∷ (Start (session 0) (credential 1) R ⇒ 0)
    ∷ (Elevate (session 0) (credential 0) Q true ⇒ 0)
    ∷ []

abbrev pub to_twelve : List Step
to_twelve = opening ++ saves (1 ∷ 2 ∷ 3 ∷ 4 ∷ 5 ∷ 6 ∷ 7 ∷ 8 ∷ 9 ∷ [])

abbrev pub twelve : State
twelve = after (fresh pairs) to_twelve

-- ---- calls without a claim

abbrev opens : List Step
opens = (Open (session 4) ⇒ 1) ∷ (Open (session 0) ⇒ 2) ∷ (Open (session 3) ⇒ 0) ∷ []

abbrev closes : List Step
closes = (Close (session 4) ⇒ 1) ∷ (Close (session 3) ⇒ 2) ∷ (Close (session 2) ⇒ 0) ∷ (Close (session 0) ⇒ 0) ∷ []

-- a wrong version is 4 before a choice and after it
abbrev selects : List Step
selects =
    (Select (session 4) 0x20 ⇒ 1)
    ∷ (Select (session 3) 0x20 ⇒ 2)
    ∷ (Select (session 2) 0x20 ⇒ 4)
    ∷ (Select (session 2) 0x10 ⇒ 0)
    ∷ (Select (session 2) 0x20 ⇒ 4)
    ∷ (Select (session 2) 0x10 ⇒ 0)
    ∷ []

-- "5; 7 ..; 12; 11"
abbrev starts : List Step
starts =
    (Start (session 4) (credential 2) P ⇒ 1)
    ∷ (Start (session 3) (credential 8) P ⇒ 1)
    ∷ (Start (session 3) (credential 2) P ⇒ 2)
    ∷ (Start (session 2) (credential 2) P ⇒ 3)
    ∷ (Start (session 0) (credential 2) P ⇒ 5)
    ∷ (Start (session 0) (credential 0) P ⇒ 7)
    ∷ (Start (session 1) (credential 0) P ⇒ 12)
    ∷ (Start (session 1) (credential 0) (name 10) ⇒ 11)
    ∷ (Kill (session 0) (yes' 0 0) (name 1) ⇒ 0)
    ∷ (Start (session 1) (credential 0) (name 10) ⇒ 0)
    ∷ []

-- "5; 6 unless a saved process has that credential and that name; 7 as for start": 6 for an unknown name, for its own that is active, for another's
abbrev continues : List Step
continues =
    (Continue (session 4) (credential 2) P ⇒ 1)
    ∷ (Continue (session 3) (credential 8) P ⇒ 1)
    ∷ (Continue (session 3) (credential 2) P ⇒ 2)
    ∷ (Continue (session 2) (credential 2) P ⇒ 3)
    ∷ (Continue (session 0) (credential 2) P ⇒ 5)
    ∷ (Continue (session 0) (credential 0) (name 10) ⇒ 6)
    ∷ (Continue (session 0) (credential 0) P ⇒ 6)
    ∷ (Continue (session 0) (credential 1) (name 1) ⇒ 6)
    ∷ (Continue (session 0) (credential 0) (name 1) ⇒ 7)
    ∷ (Continue (session 1) (credential 0) (name 1) ⇒ 0)
    ∷ []

-- "5; 8; 7 if the session has an elevation; 12; 11"
abbrev elevates : List Step
elevates =
    (Elevate (session 4) (credential 2) P false ⇒ 1)
    ∷ (Elevate (session 3) (credential 8) P false ⇒ 1)
    ∷ (Elevate (session 3) (credential 2) P false ⇒ 2)
    ∷ (Elevate (session 2) (credential 2) P false ⇒ 3)
    ∷ (Elevate (session 0) (credential 2) P false ⇒ 5)
    ∷ (Elevate (session 0) (credential 1) P false ⇒ 8)
    ∷ (Elevate (session 0) (credential 1) P true ⇒ 7)
    ∷ (Elevate (session 1) (credential 1) P true ⇒ 12)
    ∷ (Elevate (session 1) (credential 1) (name 10) true ⇒ 11)
    ∷ (Kill (session 0) (yes' 0 0) (name 1) ⇒ 0)
    ∷ (Elevate (session 1) (credential 1) (name 10) true ⇒ 0)
    ∷ []

-- "6; removes the elevation, and the session stays open"
abbrev drops : List Step
drops =
    (Drop (session 4) ⇒ 1)
    ∷ (Drop (session 3) ⇒ 2)
    ∷ (Drop (session 2) ⇒ 3)
    ∷ (Drop (session 1) ⇒ 6)
    ∷ (Drop (session 0) ⇒ 0)
    ∷ (Drop (session 0) ⇒ 6)
    ∷ (Record (session 0) (yes' 1 0) (class 4) ⇒ 0)
    ∷ []

-- ---- calls with a claim

-- "claim; 10", the claim a user's: "5; 6 unless that credential has an active user process in that session; 13; 9; 8". For 13 see Conditions
abbrev records : List Step
records =
    (Record (session 3) (no' 2 1) (class 3) ⇒ 1)
    ∷ (Record (session 3) (no' 8 1) (class 5) ⇒ 1)
    ∷ (Record (session 4) (no' 2 1) (class 5) ⇒ 1)
    ∷ (Record (session 3) (no' 2 1) (class 5) ⇒ 2)
    ∷ (Record (session 2) (no' 2 1) (class 5) ⇒ 3)
    ∷ (Record (session 1) (no' 2 1) (class 5) ⇒ 5)
    ∷ (Record (session 1) (no' 1 1) (class 5) ⇒ 6)
    ∷ (Record (session 0) (no' 1 1) (class 5) ⇒ 9)
    ∷ (Record (session 0) (no' 1 0) (class 5) ⇒ 8)
    ∷ (Record (session 0) (yes' 1 0) (class 5) ⇒ 10)
    ∷ (Record (session 0) (yes' 1 1) (class 4) ⇒ 0)
    ∷ []

-- the same, the claim elevated: "6 unless the session has an active elevation; the credential is that process's", which gets its class 4 only then
abbrev elevated_records : List Step
elevated_records =
    (Record (session 3) Elevated (class 3) ⇒ 1)
    ∷ (Record (session 4) Elevated (class 4) ⇒ 1)
    ∷ (Record (session 3) Elevated (class 4) ⇒ 2)
    ∷ (Record (session 2) Elevated (class 4) ⇒ 3)
    ∷ (Record (session 1) Elevated (class 4) ⇒ 6)
    ∷ (Record (session 0) Elevated (class 4) ⇒ 10)
    ∷ (SetWord (session 0) Elevated (credential 0) (plain 31) ⇒ 0)
    ∷ (Record (session 0) Elevated (class 4) ⇒ 0)
    ∷ []

-- "claim; 10 if keep and class 2 is clear": credential 1 lacks class 2
abbrev ends : List Step
ends =
    (End (session 0) (user_no 8 1) true ⇒ 1)
    ∷ (End (session 0) (user_no 1 1) true ⇒ 9)
    ∷ (End (session 0) (user_no 1 0) true ⇒ 8)
    ∷ (End (session 0) (user_yes 1 0) true ⇒ 10)
    ∷ (End (session 0) (user_yes 1 1) false ⇒ 0)
    ∷ (End (session 0) (user_yes 0 0) true ⇒ 0)
    ∷ []

-- "claim; 10 if wanted differs from the claim's credential and class 0 is clear ..; 15": credential 1 lacks class 0 and has one process; an empty list
-- has 4 bytes, one of twelve rows 616
abbrev lists : List Step
lists =
    (ListProcesses (session 0) (no' 1 1) (Only (credential 8)) 0 ⇒ 1)
    ∷ (ListProcesses (session 0) (no' 1 1) (Only (credential 0)) 0 ⇒ 9)
    ∷ (ListProcesses (session 0) (no' 1 0) (Only (credential 0)) 0 ⇒ 8)
    ∷ (ListProcesses (session 0) (yes' 1 0) (Only (credential 0)) 0 ⇒ 10)
    ∷ (ListProcesses (session 0) (yes' 1 1) Every 0 ⇒ 10)
    ∷ (ListProcesses (session 0) (yes' 1 2) (Only (credential 1)) 54 ⇒ 15)
    ∷ (ListProcesses (session 0) (yes' 1 3) (Only (credential 1)) 55 ⇒ 0)
    ∷ (ListProcesses (session 0) (yes' 0 0) (Only (credential 2)) 3 ⇒ 15)
    ∷ (ListProcesses (session 0) (yes' 0 1) (Only (credential 2)) 4 ⇒ 0)
    ∷ (ListProcesses (session 0) (yes' 0 2) Every 615 ⇒ 15)
    ∷ (ListProcesses (session 0) (yes' 0 3) Every 616 ⇒ 0)
    ∷ []

-- "claim; 6 if no process that this claim may kill has the name": credential 1 lacks class 1, and P is a stranger's; credential 0 has it
abbrev kills : List Step
kills =
    (Kill (session 0) (no' 1 1) P ⇒ 9)
    ∷ (Kill (session 0) (no' 1 0) P ⇒ 8)
    ∷ (Kill (session 0) (yes' 1 0) P ⇒ 6)
    ∷ (Kill (session 0) (yes' 1 1) (name 10) ⇒ 6)
    ∷ (Kill (session 0) (yes' 0 0) (name 10) ⇒ 6)
    ∷ (Kill (session 0) (yes' 0 1) (name 1) ⇒ 0)
    ∷ (Kill (session 0) (yes' 0 2) Q ⇒ 0)
    ∷ (Kill (session 0) (yes' 0 3) R ⇒ 0)
    ∷ (Kill (session 0) (yes' 0 4) P ⇒ 0)
    ∷ []

-- "claim; 10 by class 3; 5": credential 1 lacks class 3
abbrev sets_words : List Step
sets_words =
    (SetWord (session 0) (no' 1 1) (credential 8) (plain 0) ⇒ 1)
    ∷ (SetWord (session 0) (no' 1 1) (credential 2) (plain 0) ⇒ 9)
    ∷ (SetWord (session 0) (no' 1 0) (credential 2) (plain 0) ⇒ 8)
    ∷ (SetWord (session 0) (yes' 1 0) (credential 2) (plain 0) ⇒ 10)
    ∷ (SetWord (session 0) (yes' 0 0) (credential 2) (plain 0) ⇒ 5)
    ∷ (SetWord (session 0) (yes' 0 1) (credential 1) (plain 0) ⇒ 0)
    ∷ []

pub record Orders : Type 0 where
  pub all_done : Answered (fresh pairs) to_twelve
  pub open_order : Answered twelve opens
  pub close-order : Answered twelve closes
  pub select-order : Answered twelve selects
  pub start-order : Answered twelve starts
  pub continue-order : Answered twelve continues
  pub elevate-order : Answered twelve elevates
  pub drop-order : Answered twelve drops
  pub record-order : Answered twelve records
  pub elevated-record-order : Answered twelve elevated_records
  pub end-order : Answered twelve ends
  pub list-order : Answered twelve lists
  pub kill-order : Answered twelve kills
  pub set-word-order : Answered twelve sets_words

pub orders : Orders
unfolding computed
orders =
    record {
      all_done = refl;
      open_order = refl;
      close-order = refl;
      select-order = refl;
      start-order = refl;
      continue-order = refl;
      elevate-order = refl;
      drop-order = refl;
      record-order = refl;
      elevated-record-order = refl;
      end-order = refl;
      list-order = refl;
      kill-order = refl;
      set-word-order = refl;
    }
