-- Demand 3: what is to hold of every history, `events`, and of the state that it comes to, `st`. What was told of each name before the first of them is
-- `tell`: of a fresh module, that nobody has it. Which calls there are it does not say: history/History has document 01's.
use Rattle.std.specs.Prelude.{ℕ, ◌≤◌, ◌≡◌, ◌≢◌, true, false, cond, List, [], ◌∷◌, ◌++◌}
use Rattle.lists.specs.Each.{Each}
use Rattle.names.specs.Names.{same_name}
use Rattle.names.specs.declared.Credential.{Credential}
use Rattle.names.specs.declared.Kind.{Kind}
use Rattle.names.specs.declared.Kind.TheVariants.{User, Elevation, Saved}
use Rattle.names.specs.declared.Name.{Name}
use Rattle.names.specs.declared.Session.{Session}
use Rattle.table.specs.Table.{is_elevation}
use Rattle.table.specs.declared.Process.{Process}
use Rattle.module_state.specs.declared.Claim.{Claim}
use Rattle.module_state.specs.declared.Claim.TheVariants.{ByUser}
use Rattle.module_state.specs.declared.State.{State}
use Rattle.module_state.specs.declared.UserClaim.{UserClaim}
use Rattle.calls.specs.Calls.{Under, listed}
use Rattle.calls.specs.declared.Wanted.{Wanted}
use Rattle.module_rules.specs.Facts.{processes, Rules, IsTaken, at, RulesByPlaces}
use Rattle.history.specs.Lives.{Life, Gone, Live, Raised, SavedBy, count, tells_passed, Event, onward, told, down}

-- ---- claims that passed

-- a call under a user claim in a session
abbrev pub Carries : Session → UserClaim → Event → Type 0
Carries s u e = e.claim ≡ Under s (ByUser u)

-- "accepted claims plus these": the claim of the event passed its check, and is one of the process that has this life, which is the active one of the claim's
-- session and credential
pub record IsPassedOf (life : Life) (e : Event) : Type 0 where
  pub session : Session
  pub claim : UserClaim
  pub carried : Carries session claim e
  pub told : tells_passed e.answered ≡ true
  pub before : List ℕ
  pub lives : life ≡ Live session claim.credential before

-- the claim of the event passed, and is one of the process of this name and of no other, by what is told of each name
pub record OfOneName (tell : Name → Life) (e : Event) (name : Name) : Type 0 where
  pub of : IsPassedOf (tell name) e
  pub only : (other : Name) → IsPassedOf (tell other) e → other.bytes ≡ name.bytes

-- none of the events removes the process of the name, which has this life before them
abbrev pub Stays : Name → List Event → Life → Type 0
Stays name [] life = Unit {0}
Stays name (e ∷ events) life = (onward name e life ≢ Gone) × Stays name events (onward name e life)

-- two claims of one process that passed, none of the events from the first to the second removing it; the second itself may
pub record TwoPassed (tell : Name → Life) (events : List Event) (name : Name) : Type 0 where
  pub before : List Event
  pub first : Event
  pub between : List Event
  pub second : Event
  pub rest : List Event
  pub are : events ≡ before ++ (first ∷ (between ++ (second ∷ rest)))
  pub one : IsPassedOf (told tell before name) first
  pub stays : Stays name (first ∷ between) (told tell before name)
  pub two : IsPassedOf (told tell (before ++ (first ∷ between)) name) second

-- ---- the demand
pub record Demand3 (tell : Name → Life) (events : List Event) (st : State) : Type 0 where
  -- places, names, owners and sessions
  pub rules : Rules st
  -- the next number of each user process equals the count of records accepted under it since its start, taken from the history of calls; order 3: "counts accepted claims plus these"
  pub numbers : Each (λ p. is_elevation p.kind ≡ false → p.next ≡ count (told tell events p.name)) (processes st)
  -- so between a start and that process's removal no number is accepted twice: none passes a claim's check twice, though the call was refused afterwards
  pub once : (name : Name) (v : TwoPassed tell events name) → v.one.claim.number ≢ v.two.claim.number
  -- and no listing exceeds 616 bytes
  pub listing : (s : Session) (claim : Claim) (wanted : Wanted) (room : ℕ) → (listed st s claim wanted room).length ≤ 616

-- its clauses on a state in plain words: of any place that is taken, and of any two
pub record ByPlaces (tell : Name → Life) (events : List Event) (st : State) : Type 0 where
  pub rules : RulesByPlaces st
  pub numbers : (i : ℕ) → IsTaken st i → (at st i).kind ≢ Elevation → (at st i).next ≡ count (told tell events (at st i).name)

-- ---- what is told of a name is what the table has

-- what a process that stands is, in the words of a life: its session, its credential, and every number below its next passed once, in order
abbrev pub life : Kind → Session → Credential → ℕ → Life
life User s c next = Live s c (down next)
life Elevation s c next = Raised s c
life Saved s c next = SavedBy c (down next)

abbrev pub life_of : Process → Life
life_of p = life p.kind p.session p.credential p.next

-- and what processes tell of a name
abbrev pub look : Name → List Process → Life
look name [] = Gone
look name (p ∷ l) = cond (same_name p.name name) (life_of p) (look name l)

-- of each process's name what the process is, and that any other name is gone. A state that histories start from is told so, and the one that they
-- come to
pub record Tells (tell : Name → Life) (st : State) : Type 0 where
  pub stands : Each (λ p. tell p.name ≡ life_of p) (processes st)
  pub gone : (name : Name) → Each (λ p. p.name.bytes ≢ name.bytes) (processes st) → tell name ≡ Gone

-- a user claim in a session is one of the process of this name and of no other, and its number is the next
pub record IsClaimOf (tell : Name → Life) (s : Session) (u : UserClaim) (name : Name) : Type 0 where
  pub is : tell name ≡ Live s u.credential (down u.number)
  pub only : (other : Name) (ns : List ℕ) → tell other ≡ Live s u.credential ns → other.bytes ≡ name.bytes
