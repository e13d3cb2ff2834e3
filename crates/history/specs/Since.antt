-- Demand 3 from any first state, counted from what was told of each name then: "Demand 3 from then on counts from the number in the image, and its no-repeat clause holds
-- for one run from one image".
use Rattle.std.specs.Prelude.{◌+◌, ◌≤◌, ◌≡◌, ◌≢◌, Bool, false, cond, not, ◌&&◌, List, [], ◌∷◌, ◌++◌, eqb}
use Rattle.lists.specs.Lists.{any}
use Rattle.lists.specs.Each.{Each}
use Rattle.names.specs.declared.Name.{Name}
use Rattle.names.specs.declared.Session.{Session}
use Rattle.table.specs.Table.{is_elevation}
use Rattle.module_state.specs.Numbers as No
use Rattle.module_state.specs.declared.State.{State}
use Rattle.module_state.specs.declared.UserClaim.{UserClaim}
use Rattle.module_rules.specs.Facts.{processes}
use Rattle.history.specs.Lives.{Life, Gone, Live, Raised, SavedBy, is_gone, passed, count, Event, told}
use Rattle.history.specs.Demand.{IsPassedOf, IsClaimOf, Demand3}

-- a life without the numbers that passed before
abbrev pub bare : Life → Life
bare Gone = Gone
bare (Live s c ns) = Live s c []
bare (Raised s c) = Raised s c
bare (SavedBy c ns) = SavedBy c []

-- what is told of each name where only the events count: the numbers that passed since
abbrev pub told_since : (Name → Life) → List Event → Name → Life
told_since tell events = told (λ name. bare (tell name)) events

-- an accepted call starts a process of the name: where nobody had it, somebody has it then
abbrev pub begins : Name → Event → Bool
begins name e = eqb e.answered No.done && not (is_gone (e.after name Gone))

-- one was started since: the process that has the name now is not the one that had it before
unfoldable pub is_new : List Event → Name → Bool
is_new events name = any (begins name) events

-- a claim of the process of a name that passed
pub record OnePassed (tell : Name → Life) (events : List Event) (name : Name) : Type 0 where
  pub before : List Event
  pub event : Event
  pub rest : List Event
  pub are : events ≡ before ++ (event ∷ rest)
  pub one : IsPassedOf (told tell before name) event

-- ---- the demand, from what was told before
pub record Demand3From (tell : Name → Life) (events : List Event) (st : State) : Type 0 where
  pub demand3 : Demand3 tell events st
  -- the number that the process had before, where it is the same one, and the claims that passed under it since
  pub numbers : Each (λ p. is_elevation p.kind ≡ false → p.next ≡ cond (is_new events p.name) 0 (count (tell p.name)) + count (told_since tell events p.name)) (processes st)
  -- and no claim of it below that number passes
  pub not-below : (name : Name) (v : OnePassed tell events name) → is_new v.before name ≡ false → count (tell name) ≤ v.one.claim.number

-- a user claim in a session that passes after the events is one of the process of this name
pub record IsClaimFrom (tell : Name → Life) (events : List Event) (s : Session) (u : UserClaim) (name : Name) : Type 0 where
  pub claim : IsClaimOf (told tell events) s u name
  -- its number is the count so far
  pub number : u.number ≡ count (told tell events name)
  -- none of those that passed
  pub new : Each (λ n. u.number ≢ n) (passed (told tell events name))
  -- and not below the number that the process had before, where it is the same one
  pub not-below : is_new events name ≡ false → count (tell name) ≤ u.number
