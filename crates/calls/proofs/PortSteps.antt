-- Order 10, "A second management port": worked steps on both ports, as one table, under one statement. `of p s` is session s of port p.
-- Assumes nothing.
use Prim.Native.Nat.{ℕ}
use mathlib.Core.Path.{◌≡◌, refl}
use mathlib.Core.Bool.{true}
use mathlib.Core.List.{List, [], ◌∷◌, ◌++◌, map}
use lib.ListN.{replicate}
use Rattle.names.specs.declared.Kind.TheVariants.{User}
use Rattle.names.specs.declared.Name.{Name}
use Rattle.names.specs.declared.Session.{Session}
use Rattle.table.specs.Table.{standing, size}
use Rattle.table.specs.declared.Process.{Process}
use Rattle.module_state.specs.Module.{granted, unprovisioned}
use Rattle.module_state.specs.declared.Claim.TheVariants.{Elevated}
use Rattle.module_state.specs.declared.Grants.{Grants}
use Rattle.module_state.specs.declared.Phase.{Phase}
use Rattle.module_state.specs.declared.Phase.TheVariants.{Closed, Opened, Chosen}
use Rattle.calls.specs.declared.Wanted.TheVariants.{Every, Only}
use Rattle.calls.specs.Listing.{rows_of}
use Rattle.calls.specs.Calls.{Open, Close, Drop, Select, Start, Continue, Elevate, End, Record, ListProcesses, Kill, user_process, elevation, one_more, fresh}
use Rattle.calls.proofs.Sequences.{P, Q, R, plain, name, of, credential, class, user_yes, yes', Step, ◌⇒◌, Answered, after, computed}

-- credentials 0 (word 15), 1 (word 16) and 2 to 5 (word 0) are provisioned. The claims are user claims where a step does not say, and the verdict is yes
abbrev pairs : List Grants
pairs = granted (plain 15) ∷ granted (plain 16) ∷ (replicate 4 (granted (plain 0)) ++ replicate 2 unprovisioned)

-- 1. "a port over 1 is 1", and a handle over 3 on either port: 0.4 is not 1.0
abbrev opened : List Step
opened =
    (Open (of 2 0) ⇒ 1)
    ∷ (Open (of 0 4) ⇒ 1)
    ∷ (Open (of 0 7) ⇒ 1)
    ∷ (Open (of 1 4) ⇒ 1)
    ∷ (Open (of 1 0) ⇒ 0)
    ∷ (Open (of 1 0) ⇒ 2)
    ∷ (Open (of 0 0) ⇒ 0)
    ∷ []

abbrev listed : List Step
listed =
    -- 2. each session has its own version
    (Select (of 1 0) 0x10 ⇒ 0)
    ∷ (Start (of 0 0) (credential 0) P ⇒ 3)
    ∷ (Select (of 0 0) 0x10 ⇒ 0)
    ∷ (Start (of 0 1) (credential 0) P ⇒ 2)
    -- 3. "Names are unique over both ports"; "The limit of one user process is per port, session and credential"
    ∷ (Start (of 0 0) (credential 0) P ⇒ 0)
    ∷ (Start (of 1 0) (credential 0) P ⇒ 12)
    ∷ (Start (of 1 0) (credential 0) Q ⇒ 0)
    ∷ (Start (of 1 0) (credential 0) R ⇒ 7)
    ∷ (Start (of 0 0) (credential 0) R ⇒ 7)
    -- 4. a claim is made under the process of its own port and session
    ∷ (Start (of 0 0) (credential 1) R ⇒ 0)
    ∷ (Record (of 1 0) (yes' 1 0) (class 4) ⇒ 6)
    ∷ (Record (of 0 0) (yes' 1 0) (class 4) ⇒ 0)
    -- 5. rows of both ports; another process, another count
    ∷ (ListProcesses (of 1 0) (yes' 0 0) Every 156 ⇒ 15)
    ∷ (ListProcesses (of 1 0) (yes' 0 1) Every 157 ⇒ 0)
    ∷ (ListProcesses (of 0 0) (yes' 0 0) (Only (credential 0)) 106 ⇒ 0)
    ∷ []

abbrev continued : List Step
continued =
    -- 6. a kill finds the name on the other port
    (Kill (of 1 0) (yes' 0 2) R ⇒ 0)
    ∷ (Record (of 0 0) (yes' 1 1) (class 4) ⇒ 6)
    -- 7. one elevation "per port and session"
    ∷ (Elevate (of 0 0) (credential 0) R true ⇒ 0)
    ∷ (Elevate (of 0 0) (credential 0) (name 1) true ⇒ 7)
    ∷ (Elevate (of 1 0) (credential 0) R true ⇒ 12)
    ∷ (Elevate (of 1 0) (credential 0) (name 1) true ⇒ 0)
    ∷ (Drop (of 1 0) ⇒ 0)
    ∷ (ListProcesses (of 1 0) Elevated Every 616 ⇒ 6)
    ∷ (ListProcesses (of 0 0) Elevated (Only (credential 0)) 616 ⇒ 0)
    -- 8. "A saved process may be continued on either port."
    ∷ (End (of 1 0) (user_yes 0 3) true ⇒ 0)
    ∷ (Continue (of 0 0) (credential 0) Q ⇒ 7)
    ∷ (Open (of 0 1) ⇒ 0)
    ∷ (Select (of 0 1) 0x10 ⇒ 0)
    ∷ (Continue (of 0 1) (credential 0) Q ⇒ 0)
    ∷ []

-- 9. "close touches only its own port's sessions"
abbrev closed : List Step
closed =
    (Start (of 1 0) (credential 0) P ⇒ 12)
    ∷ (Start (of 1 0) (credential 0) (name 2) ⇒ 0)
    ∷ (Close (of 0 0) ⇒ 0)
    ∷ []

-- 10. "12 places serve both"
abbrev filled : List Step
filled =
    (Open (of 0 0) ⇒ 0)
    ∷ (Select (of 0 0) 0x10 ⇒ 0)
    ∷ (Start (of 0 0) (credential 0) (name 3) ⇒ 0)
    ∷ (Start (of 0 0) (credential 1) (name 4) ⇒ 0)
    ∷ (Start (of 0 0) (credential 2) (name 5) ⇒ 0)
    ∷ (Start (of 0 0) (credential 3) (name 6) ⇒ 0)
    ∷ (Start (of 0 0) (credential 4) (name 7) ⇒ 0)
    ∷ (Start (of 0 0) (credential 5) (name 8) ⇒ 0)
    ∷ (Start (of 0 1) (credential 1) (name 9) ⇒ 0)
    ∷ (Start (of 0 1) (credential 2) (name 10) ⇒ 0)
    ∷ (Start (of 0 1) (credential 3) (name 11) ⇒ 0)
    ∷ (Start (of 0 1) (credential 4) (name 12) ⇒ 0)
    ∷ []

abbrev emptied : List Step
emptied =
    -- 11. "So one port can meet 11 or 12 because of the other"
    (Start (of 1 0) (credential 1) (name 50) ⇒ 11)
    ∷ (Start (of 1 0) (credential 1) Q ⇒ 12)
    ∷ (Elevate (of 1 0) (credential 0) (name 50) true ⇒ 11)
    ∷ (Kill (of 0 0) (yes' 0 0) (name 4) ⇒ 0)
    ∷ (Start (of 1 0) (credential 1) (name 50) ⇒ 0)
    ∷ (Start (of 1 0) (credential 2) (name 51) ⇒ 11)
    -- 12.
    ∷ (Close (of 1 0) ⇒ 0)
    ∷ []

-- ---- up to which step
abbrev to-5 : List Step
to-5 = opened ++ listed

abbrev to-8 : List Step
to-8 = to-5 ++ continued

abbrev to-9 : List Step
to-9 = to-8 ++ closed

abbrev to-10 : List Step
to-10 = to-9 ++ filled

abbrev to-12 : List Step
to-12 = to-10 ++ emptied

-- what stands, with its session as a slot: 0 and 1 are 0.0 and 0.1, 4 is 1.0
abbrev slot : ℕ → Session
slot n = record { 0 = n }

abbrev user : ℕ → ℕ → Name → Process
user n c named = user_process (slot n) (credential c) named

-- Q where it was continued, with the next number that it was saved with
abbrev continued_q : Process
continued_q = record { credential = credential 0; kind = User; session = slot 1; next = 4; name = Q }

abbrev phases_after : List Step → List Phase
phases_after steps = map (λ x. x.phase) (after (fresh pairs) steps).sessions

abbrev stand_after : List Step → List Process
stand_after steps = standing (after (fresh pairs) steps).table

-- the numbers; the sessions of port 0 and then those of port 1; the names that are listed; and the processes that stand
pub record PortSteps : Type 0 where
  pub numbers-are : Answered (fresh pairs) to-12
  pub phases-1 : phases_after opened ≡ Opened ∷ Closed ∷ Closed ∷ Closed ∷ Opened ∷ Closed ∷ Closed ∷ Closed ∷ []
  pub rows-5 : map (λ row. row.name) (rows_of (after (fresh pairs) to-5) Every) ≡ P ∷ Q ∷ R ∷ []
  pub stand-8 : stand_after to-8 ≡ one_more (user 0 0 P) ∷ continued_q ∷ elevation (slot 0) (credential 0) R ∷ []
  pub phases-9 : phases_after to-9 ≡ Closed ∷ Chosen ∷ Closed ∷ Closed ∷ Chosen ∷ Closed ∷ Closed ∷ Closed ∷ []
  pub stand-9 : stand_after to-9 ≡ continued_q ∷ user 4 0 (name 2) ∷ []
  pub size-10 : size (after (fresh pairs) to-10).table ≡ 12
  -- ten, all of port 0
  pub stand-12 :
      stand_after to-12
      ≡ continued_q
      ∷ one_more (user 0 0 (name 3))
      ∷ user 0 2 (name 5)
      ∷ user 0 3 (name 6)
      ∷ user 0 4 (name 7)
      ∷ user 0 5 (name 8)
      ∷ user 1 1 (name 9)
      ∷ user 1 2 (name 10)
      ∷ user 1 3 (name 11)
      ∷ user 1 4 (name 12)
      ∷ []

pub port-steps : PortSteps
unfolding computed
port-steps =
    record {
      numbers-are = refl;
      phases-1 = refl;
      rows-5 = refl;
      stand-8 = refl;
      phases-9 = refl;
      stand-9 = refl;
      size-10 = refl;
      stand-12 = refl;
    }
