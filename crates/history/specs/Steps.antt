-- Steps from state to state, each with its event: what a single one has to keep and to tell, for demand 3 to hold however many follow each other. It says nothing of which
-- calls there are. Document 01's are such steps (proofs/Calls); what a later order adds has to be shown such, and demand 3 of it follows.
use Rattle.std.specs.Prelude.{ℕ, ◌≡◌, ◌≢◌, true, false, List, [], ◌∷◌, ◌++◌}
use Rattle.names.specs.declared.Name.{Name}
use Rattle.names.specs.declared.Session.{Session}
use Rattle.table.specs.declared.Active.TheVariants.{UserOf}
use Rattle.module_state.specs.Module.{has_active}
use Rattle.module_state.specs.Claim.{admitted}
use Rattle.module_state.specs.Numbers as No
use Rattle.module_state.specs.declared.Claim.TheVariants.{ByUser}
use Rattle.module_state.specs.declared.State.{State}
use Rattle.module_state.specs.declared.UserClaim.{UserClaim}
use Rattle.module_rules.specs.Facts.{processes, Rules}
use Rattle.history.specs.Lives.{Life, Gone, Live, Raised, SavedBy, is_gone, count, tells_passed, Event, with_claim, onward}
use Rattle.history.specs.Demand.{Carries, look}

-- a life after one that had these numbers
abbrev pub onto : List ℕ → Life → Life
onto old Gone = Gone
onto old (Live s c ns) = Live s c (ns ++ old)
onto old (Raised s c) = Raised s c
onto old (SavedBy c ns) = SavedBy c (ns ++ old)

pub record Step (before : State) (e : Event) (next : State) : Type 0 where
  -- demand 3's rules stay
  pub rules : Rules before → Rules next
  -- what is told of each name is what stands
  pub follows : Rules before → (name : Name) → onward name e (look name (processes before)) ≡ look name (processes next)
  -- a user claim that is told to have passed, and whose process stands, has passed its check
  pub admits : Rules before → (s : Session) (u : UserClaim) → Carries s u e → has_active before (UserOf s u.credential) ≡ true → tells_passed e.answered ≡ true
      → admitted before s (ByUser u) ≡ No.done
  -- beside the claim nothing is counted: a process that is not removed has as many numbers as before
  pub keeps : (name : Name) → e.answered ≡ No.done → e.after name (with_claim e (look name (processes before))) ≢ Gone
      → count (e.after name (with_claim e (look name (processes before)))) ≡ count (with_claim e (look name (processes before)))
  -- which numbers passed before is not asked, where no process of the name is started; and nothing at all where one is
  pub above : (name : Name) → is_gone (e.after name Gone) ≡ true → (old : List ℕ) (life : Life) → e.after name (onto old life) ≡ onto old (e.after name life)
  pub anew : (name : Name) → is_gone (e.after name Gone) ≡ false → (a b : Life) → e.after name a ≡ e.after name b

-- one after another
pub data Steps : State → List Event → State → Type 0 where
  none : {st : State} → Steps st [] st
  then : {before next last : State} {e : Event} {events : List Event}
      → Step before e next → Steps next events last
      → Steps before (e ∷ events) last
