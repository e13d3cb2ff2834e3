-- "Numbers a call can answer": a table for each number of a call. Each has calls that meet the number's condition, and beside them the same with that
-- condition mended and no other thing changed, but for the number of a claim where the first has spent it. 14, and 15 of the request's writer, are in crate listing_messages.
-- Assumes nothing.
use Prim.Native.Nat.{ℕ}
use mathlib.Core.Path.{refl}
use mathlib.Core.Bool.{true, false}
use mathlib.Core.List.{List, [], ◌∷◌, ◌++◌}
use Rattle.names.specs.declared.Kind.TheVariants.{User}
use Rattle.table.specs.Table.{table_of}
use Rattle.module_state.specs.Module.{both_words}
use Rattle.module_state.specs.declared.Claim.TheVariants.{Elevated}
use Rattle.module_state.specs.declared.State.{State}
use Rattle.calls.specs.declared.Wanted.TheVariants.{Every, Only}
use Rattle.calls.specs.Calls.{Open, Close, Select, Start, Continue, Elevate, Drop, End, Record, ListProcesses, Kill, SetWord, with_table, user_process, fresh}
use Rattle.calls.proofs.Sequences.{plain, P, Q, R, pairs, name, session, credential, class, user_yes, user_no, yes', no', Step, ◌⇒◌, Answered, after, computed}
use Rattle.calls.proofs.Orders.{saves, opening, twelve}

-- the state that each table but that of 11 begins with: that of Orders, with one saved, name 1
abbrev to_four : List Step
to_four = opening ++ saves (1 ∷ [])

abbrev pub four : State
four = after (fresh pairs) to_four

-- 1: "handle over 3, credential over 7 (65535 is allowed as the wanted credential of a listing), class of a record under 4 or over 31"
abbrev argument : List Step
argument =
    (Open (session 4) ⇒ 1)
    ∷ (Open (session 3) ⇒ 0)
    ∷ (Start (session 1) (credential 8) (name 2) ⇒ 1)
    ∷ (Start (session 1) (credential 7) (name 2) ⇒ 5)
    ∷ (Record (session 0) (yes' 8 0) (class 4) ⇒ 1)
    ∷ (Record (session 0) (yes' 7 0) (class 4) ⇒ 5)
    ∷ (Record (session 0) (yes' 1 0) (class 3) ⇒ 1)
    ∷ (Record (session 0) (yes' 1 0) (class 32) ⇒ 1)
    ∷ (Record (session 0) (yes' 1 0) (class 4) ⇒ 0)
    ∷ (Record (session 0) (yes' 1 1) (class 31) ⇒ 10)
    ∷ (ListProcesses (session 0) (yes' 0 0) (Only (credential 8)) 616 ⇒ 1)
    ∷ (ListProcesses (session 0) (yes' 0 0) (Only (credential 7)) 616 ⇒ 0)
    ∷ (ListProcesses (session 0) (yes' 0 1) Every 616 ⇒ 0)
    ∷ (SetWord (session 0) (yes' 0 2) (credential 8) (plain 0) ⇒ 1)
    ∷ (SetWord (session 0) (yes' 0 2) (credential 7) (plain 0) ⇒ 5)
    ∷ []

-- 2: "closed, or for open: already open"
abbrev closed : List Step
closed =
    (Close (session 3) ⇒ 2)
    ∷ (Select (session 3) 0x10 ⇒ 2)
    ∷ (Drop (session 3) ⇒ 2)
    ∷ (Open (session 3) ⇒ 0)
    ∷ (Open (session 3) ⇒ 2)
    ∷ (Select (session 3) 0x10 ⇒ 0)
    ∷ (Drop (session 3) ⇒ 6)
    ∷ (Close (session 3) ⇒ 0)
    ∷ []

-- 3: open, and no version chosen. Open, close and select don't ask
abbrev no_version : List Step
no_version =
    (Start (session 2) (credential 0) (name 2) ⇒ 3)
    ∷ (Continue (session 2) (credential 0) (name 1) ⇒ 3)
    ∷ (Elevate (session 2) (credential 0) (name 3) true ⇒ 3)
    ∷ (Drop (session 2) ⇒ 3)
    ∷ (Record (session 2) (yes' 0 0) (class 4) ⇒ 3)
    ∷ (Select (session 2) 0x10 ⇒ 0)
    ∷ (Start (session 2) (credential 0) (name 2) ⇒ 0)
    ∷ (Elevate (session 2) (credential 0) (name 3) true ⇒ 0)
    ∷ (Drop (session 2) ⇒ 0)
    ∷ (Close (session 2) ⇒ 0)
    ∷ (Open (session 2) ⇒ 0)
    ∷ (Close (session 2) ⇒ 0)
    ∷ []

-- 4: "a version byte other than 0x10", "after a choice; ours before one"
abbrev version : List Step
version =
    (Select (session 2) 0x0f ⇒ 4)
    ∷ (Select (session 2) 0x11 ⇒ 4)
    ∷ (Select (session 2) 0x10 ⇒ 0)
    ∷ (Select (session 2) 0x11 ⇒ 4)
    ∷ (Select (session 2) 0x10 ⇒ 0)
    ∷ []

-- 5: "not provisioned": credential 2
abbrev unprovisioned : List Step
unprovisioned =
    (Start (session 1) (credential 2) (name 2) ⇒ 5)
    ∷ (Start (session 1) (credential 1) (name 2) ⇒ 0)
    ∷ (Continue (session 1) (credential 2) (name 1) ⇒ 5)
    ∷ (Continue (session 1) (credential 0) (name 1) ⇒ 0)
    ∷ (Elevate (session 1) (credential 2) (name 3) true ⇒ 5)
    ∷ (Elevate (session 1) (credential 1) (name 3) true ⇒ 0)
    ∷ (Record (session 0) (yes' 2 0) (class 4) ⇒ 5)
    ∷ (Record (session 0) (yes' 1 0) (class 4) ⇒ 0)
    ∷ (SetWord (session 0) (yes' 0 0) (credential 2) (plain 16) ⇒ 5)
    ∷ (SetWord (session 0) (yes' 0 1) (credential 1) (plain 16) ⇒ 0)
    ∷ []

-- 6: "none of the stated kind": the claim's, continue's, drop's and kill's. Credential 1 has no process in session 1, and P is not its own
abbrev no_process : List Step
no_process =
    (Record (session 1) (yes' 1 0) (class 4) ⇒ 6)
    ∷ (Record (session 0) (yes' 1 0) (class 4) ⇒ 0)
    ∷ (SetWord (session 1) Elevated (credential 1) (plain 16) ⇒ 6)
    ∷ (SetWord (session 0) Elevated (credential 1) (plain 16) ⇒ 0)
    ∷ (Continue (session 1) (credential 0) Q ⇒ 6)
    ∷ (Continue (session 1) (credential 0) P ⇒ 6)
    ∷ (Continue (session 1) (credential 1) (name 1) ⇒ 6)
    ∷ (Continue (session 1) (credential 0) (name 1) ⇒ 0)
    ∷ (Drop (session 1) ⇒ 6)
    ∷ (Drop (session 0) ⇒ 0)
    ∷ (Kill (session 0) (yes' 1 1) P ⇒ 6)
    ∷ (Kill (session 0) (yes' 1 2) Q ⇒ 6)
    ∷ (Kill (session 0) (yes' 1 3) R ⇒ 0)
    ∷ []

-- 7: "see start, continue, elevate"
abbrev already_active : List Step
already_active =
    (Start (session 0) (credential 0) (name 2) ⇒ 7)
    ∷ (Start (session 1) (credential 0) (name 2) ⇒ 0)
    ∷ (Continue (session 1) (credential 0) (name 1) ⇒ 7)
    ∷ (End (session 1) (user_yes 0 0) false ⇒ 0)
    ∷ (Continue (session 1) (credential 0) (name 1) ⇒ 0)
    ∷ (Elevate (session 0) (credential 1) (name 3) true ⇒ 7)
    ∷ (Elevate (session 1) (credential 1) (name 3) true ⇒ 0)
    ∷ []

-- 8: "the key unit said no"
abbrev verdict : List Step
verdict =
    (Record (session 0) (no' 1 0) (class 4) ⇒ 8)
    ∷ (Record (session 0) (yes' 1 0) (class 4) ⇒ 0)
    ∷ (End (session 0) (user_no 1 1) false ⇒ 8)
    ∷ (ListProcesses (session 0) (no' 0 0) Every 616 ⇒ 8)
    ∷ (Kill (session 0) (no' 0 0) R ⇒ 8)
    ∷ (SetWord (session 0) (no' 0 0) (credential 1) (plain 16) ⇒ 8)
    ∷ (Elevate (session 1) (credential 0) (name 3) false ⇒ 8)
    ∷ (Elevate (session 1) (credential 0) (name 3) true ⇒ 0)
    ∷ []

-- 9: "number is not the next"
abbrev out_of_turn : List Step
out_of_turn =
    (Record (session 0) (yes' 1 1) (class 4) ⇒ 9)
    ∷ (Record (session 0) (yes' 1 0) (class 4) ⇒ 0)
    ∷ (Record (session 0) (yes' 1 0) (class 4) ⇒ 9)
    ∷ (Record (session 0) (yes' 1 2) (class 4) ⇒ 9)
    ∷ (Record (session 0) (yes' 1 1) (class 4) ⇒ 0)
    ∷ []

-- 10: "class bit clear": credential 1 has class 4 alone, credential 0 the classes 0 to 3
abbrev not_granted : List Step
not_granted =
    (Record (session 0) (yes' 1 0) (class 5) ⇒ 10)
    ∷ (Record (session 0) (yes' 1 1) (class 4) ⇒ 0)
    ∷ (ListProcesses (session 0) (yes' 1 2) Every 616 ⇒ 10)
    ∷ (ListProcesses (session 0) (yes' 1 3) (Only (credential 0)) 616 ⇒ 10)
    ∷ (ListProcesses (session 0) (yes' 1 4) (Only (credential 1)) 616 ⇒ 0)
    ∷ (ListProcesses (session 0) (yes' 0 0) (Only (credential 1)) 616 ⇒ 0)
    ∷ (SetWord (session 0) (yes' 1 5) (credential 1) (plain 20) ⇒ 10)
    ∷ (End (session 0) (user_yes 1 6) true ⇒ 10)
    ∷ (SetWord (session 0) (yes' 0 1) (credential 1) (plain 20) ⇒ 0)
    ∷ (End (session 0) (user_yes 1 7) true ⇒ 0)
    ∷ []

-- 18: "when a user claim gets the third answer": credential 1 gets classes 4 and 5, the latter only under elevation; the elevation is credential 0's
abbrev only_elevated : List Step
only_elevated =
    (SetWord (session 0) (yes' 0 0) (credential 1) (both_words 0x30 0x60) ⇒ 0)
    ∷ (Record (session 0) (yes' 1 0) (class 5) ⇒ 18)
    ∷ (Record (session 0) (yes' 1 1) (class 4) ⇒ 0)
    ∷ (Record (session 0) (yes' 1 2) (class 6) ⇒ 10)
    ∷ (SetWord (session 0) (yes' 0 1) (credential 0) (both_words 0x2f 0x2f) ⇒ 0)
    ∷ (Record (session 0) (yes' 0 2) (class 5) ⇒ 18)
    ∷ (ListProcesses (session 0) (yes' 0 3) Every 0 ⇒ 18)
    ∷ (SetWord (session 0) (yes' 0 4) (credential 7) (plain 0) ⇒ 18)
    ∷ (End (session 0) (user_yes 0 5) true ⇒ 18)
    ∷ (Record (session 0) Elevated (class 5) ⇒ 0)
    ∷ (ListProcesses (session 0) Elevated Every 208 ⇒ 0)
    ∷ (SetWord (session 0) Elevated (credential 1) (plain 0x30) ⇒ 0)
    ∷ (Record (session 0) (yes' 1 3) (class 5) ⇒ 0)
    ∷ []

-- 11: "12 processes stand"; begun with these
abbrev full : List Step
full =
    (Start (session 1) (credential 0) (name 10) ⇒ 11)
    ∷ (Elevate (session 1) (credential 0) (name 10) true ⇒ 11)
    ∷ (Kill (session 0) (yes' 0 0) (name 1) ⇒ 0)
    ∷ (Start (session 1) (credential 0) (name 10) ⇒ 0)
    ∷ (Elevate (session 1) (credential 0) (name 11) true ⇒ 11)
    ∷ []

-- 12: "equals a name in the table": an active user's, an elevation's, a saved one's; "A name may be given again once its process is removed"
abbrev name_taken : List Step
name_taken =
    (Start (session 1) (credential 0) R ⇒ 12)
    ∷ (Start (session 1) (credential 0) Q ⇒ 12)
    ∷ (Start (session 1) (credential 0) (name 1) ⇒ 12)
    ∷ (Elevate (session 1) (credential 0) R true ⇒ 12)
    ∷ (Kill (session 0) (yes' 0 0) R ⇒ 0)
    ∷ (Elevate (session 1) (credential 0) R true ⇒ 0)
    ∷ []

-- 13: "next number is 65,535", ahead of 9 and 8. R, credential 1's, has come to that next number; P, credential 0's, stands beside it
abbrev came_to : ℕ → State
came_to next =
    with_table four
    (table_of (user_process (session 0) (credential 0) P ∷ record { credential = credential 1; kind = User; session = session 0; next = next; name = R } ∷ []))

-- "Number 65,534 in turn: 0. Then every number: 13." "A spent process can't end itself: a kill under another claim .. removes it."
abbrev spent : List Step
spent =
    (Record (session 0) (no' 1 0) (class 5) ⇒ 9)
    ∷ (Record (session 0) (yes' 1 65534) (class 4) ⇒ 0)
    ∷ (Record (session 0) (no' 1 0) (class 5) ⇒ 13)
    ∷ (Record (session 0) (yes' 1 65534) (class 4) ⇒ 13)
    ∷ (Record (session 0) (yes' 1 65535) (class 4) ⇒ 13)
    ∷ (End (session 0) (user_yes 1 65535) false ⇒ 13)
    ∷ (Kill (session 0) (yes' 0 0) R ⇒ 0)
    ∷ (Start (session 0) (credential 1) R ⇒ 0)
    ∷ (Record (session 0) (yes' 1 0) (class 4) ⇒ 0)
    ∷ []

-- order 3: 65,534 refused with 10 is spent as well
abbrev spent_refused : List Step
spent_refused =
    (Record (session 0) (yes' 1 65534) (class 5) ⇒ 10)
    ∷ (Record (session 0) (yes' 1 65534) (class 4) ⇒ 13)
    ∷ (Record (session 0) (yes' 1 65535) (class 4) ⇒ 13)
    ∷ (Record (session 0) (yes' 1 0) (class 4) ⇒ 13)
    ∷ (End (session 0) (user_yes 1 65535) false ⇒ 13)
    ∷ []

-- ".. or the closing of its session"
abbrev spent_closed : List Step
spent_closed = (Start (session 1) (credential 0) R ⇒ 12) ∷ (Close (session 0) ⇒ 0) ∷ (Start (session 1) (credential 0) R ⇒ 0) ∷ []

-- 15 of the list call: "response buffer too short". Four rows have 208 bytes
abbrev room : List Step
room =
    (ListProcesses (session 0) (yes' 0 0) Every 207 ⇒ 15)
    ∷ (ListProcesses (session 0) (yes' 0 1) Every 208 ⇒ 0)
    ∷ []

pub record Conditions : Type 0 where
  pub all_done : Answered (fresh pairs) to_four
  pub number-1 : Answered four argument
  pub number-2 : Answered four closed
  pub number-3 : Answered four no_version
  pub number-4 : Answered four version
  pub number-5 : Answered four unprovisioned
  pub number-6 : Answered four no_process
  pub number-7 : Answered four already_active
  pub number-8 : Answered four verdict
  pub number-9 : Answered four out_of_turn
  pub number-10 : Answered four not_granted
  pub number-11 : Answered twelve full
  pub number-12 : Answered four name_taken
  pub number-13 : Answered (came_to 65534) spent
  pub spent-refused : Answered (came_to 65534) spent_refused
  pub spent-closed : Answered (came_to 65535) spent_closed
  pub number-15 : Answered four room
  pub number-18 : Answered four only_elevated

pub conditions : Conditions
unfolding computed
conditions =
    record {
      all_done = refl;
      number-1 = refl;
      number-2 = refl;
      number-3 = refl;
      number-4 = refl;
      number-5 = refl;
      number-6 = refl;
      number-7 = refl;
      number-8 = refl;
      number-9 = refl;
      number-10 = refl;
      number-11 = refl;
      number-12 = refl;
      number-13 = refl;
      spent-refused = refl;
      spent-closed = refl;
      number-15 = refl;
      number-18 = refl;
    }
