-- Facts that a reader of document 01 looks for. Each is for all states, those too that no calls come to.
-- Assumes nothing.
use Prim.Native.Nat.{ℕ, zero, suc, ◌≤◌}
use mathlib.Core.Path.{◌≡◌, refl, sym, ap, ◌∙◌}
use mathlib.Core.Bool.{Bool, true, false, cond, ◌||◌}
use mathlib.Core.List.{List, [], ◌∷◌}
use native.Mathlib.Omega.{arith}
use lib.Dec.{eqb}
use lib.ListN.{get_or, set}
use Rattle.lists.specs.Lists.{any}
use Rattle.lists.proofs.Tests.{split, clash}
use Rattle.rows.specs.Rows.{every}
use Rattle.names.specs.Names.{same_name}
use Rattle.lists.proofs.Lists.{get_d-same}
use Rattle.names.specs.declared.Credential.{Credential}
use Rattle.names.specs.declared.Name.{Name}
use Rattle.names.specs.declared.Session.{Session}
use Rattle.table.specs.Table.{standing, table_of, is_of, is_among, is_named}
use Rattle.table.specs.declared.Active.TheVariants.{UserOf, ElevationIn}
use Rattle.table.specs.declared.Among.TheVariants.{All, Of}
use Rattle.table.specs.declared.Process.{Process}
use Rattle.module_state.specs.Numbers as No
use Rattle.module_state.specs.Numbers.{◌when◌, ◌unless◌, ◌▸◌}
use Rattle.module_state.specs.Module.{is_session, closed_session, phase_of, is_closed, is_chosen, provisioned, has_active, active_process, session_count}
use Rattle.module_state.specs.Claim.{phase_number, entered, sought, speaker, claim_view, is_spent, check_of, checked, admitted, grant_number}
use Rattle.module_state.specs.declared.Checked.{Checked}
use Rattle.module_state.specs.declared.Claim.{Claim}
use Rattle.module_state.specs.declared.Claim.TheVariants.{Elevated, ByUser}
use Rattle.module_state.specs.declared.Class.{Class}
use Rattle.module_state.specs.declared.Grants.{Grants}
use Rattle.module_state.specs.declared.Phase.{Phase}
use Rattle.module_state.specs.declared.Phase.TheVariants.{Chosen}
use Rattle.module_state.specs.declared.SessionState.{SessionState}
use Rattle.module_state.specs.declared.State.{State}
use Rattle.module_state.specs.declared.UserClaim.{UserClaim}
use Rattle.module_state.proofs.Laws.{unless-false, clear_first, clear-rest, clear-when, clear-unless, by-when, by-unless, by-then, by-grant, passed-check, passed-user}
use Rattle.calls.specs.declared.Answer.TheVariants.{Done, RefusedClaim}
use Rattle.calls.specs.declared.Outcome.{Outcome}
use Rattle.calls.specs.Calls.{Call, Open, Close, Select, Start, Continue, Elevate, Drop, End, Record, ListProcesses, Kill, SetWord, kill_others, is_version, has_named, reach, end_tests, record_tests, list_tests, kill_tests, set_word_tests, asked, number, counted, effect, protection, ahead_number, protected_number, passes, charged, left, answer_number, refusal, outcome, fresh}
use Rattle.calls.specs.Run.{step}
use Rattle.calls.proofs.Cut.{check-passes, left_passed, left-stopped, accepted}
use Rattle.calls.proofs.Laws.{outcome-done, outcome-refused, answer-number}

-- ---- a number is one of the page's, and so a refusal's is, and not 0

-- `No.is_known n` computes, for each of the numbers
done-known : No.IsKnown 0
done-known = record { is = refl }

pub known-when : (n : ℕ) (b : Bool) → No.is_known n ≡ true → No.IsKnown (n when b)
known-when n b h = by-when No.IsKnown done-known n b (record { is = h })

pub known-unless : (n : ℕ) (b : Bool) → No.is_known n ≡ true → No.IsKnown (n unless b)
known-unless n b h = by-unless No.IsKnown done-known n b (record { is = h })

pub known-then : (n m : ℕ) → No.IsKnown n → No.IsKnown m → No.IsKnown (n ▸ m)
known-then = by-then No.IsKnown

pub ruleset known = (known-when, known-unless, known-then)

known-entered : (st : State) (s : Session) → No.IsKnown (entered st s)
unfolding entered phase_number
known-entered st s = search known

known-checked : (st : State) (s : Session) (claim : Claim) → No.IsKnown (checked st s claim).number
unfolding every
known-checked st s claim = record { is = check-passes No.is_known refl st s claim }

known-grant : (by : Checked) (class : Class) → No.IsKnown (grant_number by class)
known-grant = by-grant No.IsKnown done-known (record { is = refl }) (record { is = refl })

known-granted : (by : Checked) (class : Class) (b : Bool) → No.IsKnown (grant_number by class when b)
known-granted by class b = by-when No.IsKnown done-known _ b (known-grant by class)

known-others : (by : Checked) (class : Class) (b : Bool) → No.IsKnown (grant_number by class unless b)
known-others by class b = by-unless No.IsKnown done-known _ b (known-grant by class)

ruleset all_Known = (known, known-entered, known-checked, known-grant, done-known, known-granted, known-others)

pub number-known : (st : State) (call : Call) → No.IsKnown (number st call)
unfolding number asked end_tests record_tests list_tests kill_tests set_word_tests
number-known st (Open s) = search all_Known
number-known st (Close s) = search all_Known
number-known st (Select s byte) = search all_Known
number-known st (Start s c name) = search all_Known depth 12
number-known st (Continue s c name) = search all_Known depth 12
number-known st (Elevate s c name verdict) = search all_Known depth 12
number-known st (Drop s) = search all_Known
number-known st (End s u keep) = search all_Known
number-known st (Record s claim class) = search all_Known
number-known st (ListProcesses s claim wanted room) = search all_Known depth 12
number-known st (Kill s claim name) = search all_Known
number-known st (SetWord s claim c words) = search all_Known depth 12

-- "Numbers a call can answer": no other number is ever answered
pub refusal-known : (st : State) (call : Call) → (number st call ≡ 0 → ⊥) → (1 ≤ answer_number (outcome st call).answer) × No.IsKnown (answer_number (outcome st call).answer)
refusal-known st call h =
    let e : answer_number (outcome st call).answer ≡ number st call = answer-number st call in
    (omega (arith, e, h), rw e (number-known st call))

-- ---- "Choosing 0x10 a second time is done and changes nothing"

-- a list in which an element is set to what it is there
set_same : (l : List SessionState) (i : ℕ) → (get_or l i closed_session).phase ≡ Chosen → set l i (record { phase = Chosen }) ≡ l
set_same [] i e = refl
set_same (x ∷ xs) zero e = ap (λ (p : Phase). record { phase = p } ∷ xs) (sym e)
set_same (x ∷ xs) (suc i) e = ap (λ (l : List SessionState). x ∷ l) (set_same xs i e)

-- in every state whose session has version 1.0
module _ (st : State) (s : Session) (h : is_session s ≡ true) (e : phase_of st s ≡ Chosen) where
  select-number : number st (Select s 0x10) ≡ 0
  unfolding number ◌when◌ ◌unless◌ ◌▸◌ is_closed is_version
  select-number = rw (h, e)

  select-same : effect st (Select s 0x10) ≡ st
  unfolding effect phase_of
  select-same = ap (λ (l : List SessionState). record { sessions = l; credentials = st.credentials; table = st.table }) (set_same st.sessions s.0 e)

  pub select-again : outcome st (Select s 0x10) ≡ record { state = st; answer = Done }
  select-again = outcome-done st (Select s 0x10) select-number ∙ ap (λ (x : State). record { state = x; answer = Done }) select-same

-- so a select after one that was done
set_there : (l : List SessionState) (i : ℕ) (x : SessionState) → is_closed (get_or l i closed_session).phase ≡ false → get_or (set l i x) i closed_session ≡ x
unfolding is_closed
set_there [] i x e = clash refl e
set_there (y ∷ ys) zero x e = refl
set_there (y ∷ ys) (suc i) x e = set_there ys i x e

module _ (st : State) (s : Session) (byte : ℕ) (e : number st (Select s byte) ≡ 0) where
  is-session : is_session s ≡ true
  unfolding number
  is-session = clear-unless No.argument tt _ (clear_first _ _ e)

  is_open : is_closed (phase_of st s) ≡ false
  unfolding number
  is_open = clear-when No.session tt _ (clear_first _ _ (clear-rest _ _ e))

  now-chosen : phase_of (step st (Select s byte)) s ≡ Chosen
  unfolding step effect phase_of
  now-chosen =
      ap (λ (o : Outcome). phase_of o.state s) (outcome-done st (Select s byte) e)
      ∙ ap (λ (x : SessionState). x.phase) (set_there st.sessions s.0 (record { phase = Chosen }) is_open)

  pub select-twice : outcome (step st (Select s byte)) (Select s 0x10) ≡ record { state = step st (Select s byte); answer = Done }
  select-twice = select-again (step st (Select s byte)) s is-session now-chosen

-- ---- "A stranger's name and an unknown one get the same answer."

-- a kill of a name that the claim does not reach
module _ (st : State) (s : Session) (claim : Claim) (name : Name) (h : has_named st name (reach (checked st s claim)) ≡ false) where
  unreached : number st (Kill s claim name) ≡ admitted st s claim ▸ 6
  unfolding number asked kill_tests admitted ◌▸◌
  unreached = rw (unless-false 6 h)

  six : ◌≡◌ {A = ℕ} 6 0 → ⊥
  six e = omega arith

  unreached-not : number st (Kill s claim name) ≡ 0 → ⊥
  unreached-not e = six (clear-rest (admitted st s claim) 6 (sym unreached ∙ e))

  -- whatever the name: what it leaves, and its answer
  unreached-left : left st (Kill s claim name) ≡ cond (eqb (admitted st s claim) 0) (counted st s claim) st
  unfolding passes protection ahead_number kill_tests protected_number charged ◌▸◌
  unreached-left =
      split (eqb (admitted st s claim) 0) (λ e. rw e (left_passed st (Kill s claim name) e unreached-not)) (λ e. rw e (left-stopped st (Kill s claim name) e))

  refused : outcome st (Kill s claim name) ≡ record { state = cond (eqb (admitted st s claim) 0) (counted st s claim) st; answer = RefusedClaim (admitted st s claim ▸ 6) claim }
  unfolding refusal protection
  refused = outcome-refused st (Kill s claim name) unreached-not ∙ rw (unreached-left, unreached)

module _ (st : State) (s : Session) (claim : Claim) (c : Credential) (mine : speaker st s claim ≡ c) (lacks : eqb (grant_number (checked st s claim) kill_others) No.done ≡ false) where
  speaks : (checked st s claim).credential ≡ c
  unfolding checked check_of claim_view
  speaks = mine

  own : reach (checked st s claim) ≡ Of c
  unfolding reach
  own = rw (lacks, speaks)

  -- what no process has, none of the credential's has
  none-own : (name : Name) (l : List Process) → any (is_named name All) l ≡ false → any (is_named name (Of c)) l ≡ false
  unfolding any is_named is_among
  none-own name [] e = refl
  none-own name (p ∷ l) e =
      split (same_name p.name name)
      (λ h. clash (ap (λ (b : Bool). b || any (is_named name All) l) h) e)
      (λ h. let k : any (is_named name (Of c)) l ≡ false = none-own name l (rw h at e) in split (is_of c p) (λ q. rw (q, h, k)) (λ q. rw (q, k)))

  -- the claim does not get class 1: its credential lacks it, or has it only under elevation and the claim is a user's. No process of its own has the one name, whoever else's has it; no process at all has the other
  pub stranger-as-unknown : (strangers unknown : Name) → has_named st strangers (Of c) ≡ false → has_named st unknown All ≡ false → outcome st (Kill s claim strangers) ≡ outcome st (Kill s claim unknown)
  unfolding has_named
  stranger-as-unknown strangers unknown h k =
      refused st s claim strangers (rw own h) ∙ sym (refused st s claim unknown (rw own (none-own unknown (standing st.table) k)))

-- ---- "A true verdict alone never opens anything; a false one always shuts wherever a verdict is asked for."

-- what an accepted elevation needs, and what a user claim needs that passes its check: a yes, and all of this beside it
pub record ElevationNeeds (st : State) (s : Session) (c : Credential) (verdict : Bool) : Type 0 where
  pub chosen : is_chosen (phase_of st s) ≡ true
  pub owner : provisioned st c ≡ true
  pub yes : verdict ≡ true

pub record ClaimNeeds (st : State) (s : Session) (u : UserClaim) : Type 0 where
  pub chosen : is_chosen (phase_of st s) ≡ true
  pub owner : provisioned st u.credential ≡ true
  pub active : has_active st (UserOf s u.credential) ≡ true
  pub unspent : is_spent (active_process st (UserOf s u.credential)).next ≡ false
  pub turn : u.number ≡ (active_process st (UserOf s u.credential)).next
  pub yes : u.verdict ≡ true

abbrev pub Needs : State → Session → Claim → Type 0
Needs st s Elevated = has_active st (ElevationIn s) ≡ true
Needs st s (ByUser u) = ClaimNeeds st s u

-- the calls that ask for a verdict, or for the elevation that one has opened
abbrev pub VerdictNeeds : State → Call → Type 0
VerdictNeeds st (Open s) = Unit {0}
VerdictNeeds st (Close s) = Unit {0}
VerdictNeeds st (Select s byte) = Unit {0}
VerdictNeeds st (Start s c name) = Unit {0}
VerdictNeeds st (Continue s c name) = Unit {0}
VerdictNeeds st (Elevate s c name verdict) = ElevationNeeds st s c verdict
VerdictNeeds st (Drop s) = Unit {0}
VerdictNeeds st (End s u keep) = Needs st s (ByUser u)
VerdictNeeds st (Record s claim class) = Needs st s claim
VerdictNeeds st (ListProcesses s claim wanted room) = Needs st s claim
VerdictNeeds st (Kill s claim name) = Needs st s claim
VerdictNeeds st (SetWord s claim c words) = Needs st s claim

module _ (st : State) where
  is-chosen : (s : Session) → entered st s ≡ 0 → is_chosen (phase_of st s) ≡ true
  unfolding entered phase_number
  is-chosen s e = clear-unless No.no_version tt _ (clear-rest _ _ (clear-rest _ _ e))

  pub needs : (s : Session) (claim : Claim) → admitted st s claim ≡ 0 → Needs st s claim
  unfolding sought
  needs s Elevated e = (passed-check st s Elevated e).active
  needs s (ByUser u) e =
      let check = passed-check st s (ByUser u) e in
      let user = passed-user st s u e in
      record { chosen = check.chosen; owner = user.owner; active = check.active; unspent = user.unspent; turn = user.turn; yes = user.yes }

  -- an accepted call had a yes, and never that alone
  pub verdict-needs : (call : Call) → number st call ≡ 0 → VerdictNeeds st call
  unfolding number
  verdict-needs (Open s) e = tt
  verdict-needs (Close s) e = tt
  verdict-needs (Select s byte) e = tt
  verdict-needs (Start s c name) e = tt
  verdict-needs (Continue s c name) e = tt
  verdict-needs (Elevate s c name verdict) e =
      let rest = clear-rest _ _ (clear-rest _ _ e) in
      record {
        chosen = is-chosen s (clear_first _ _ (clear-rest _ _ e));
        owner = clear-unless No.credential tt _ (clear_first _ _ rest);
        yes = clear-unless No.verdict tt _ (clear_first _ _ (clear-rest _ _ rest));
      }
  verdict-needs (Drop s) e = tt
  verdict-needs (End s u keep) e = needs s (ByUser u) (accepted st (End s u keep) refl e).claim-passed
  verdict-needs (Record s claim class) e = needs s claim (accepted st (Record s claim class) refl e).claim-passed
  verdict-needs (ListProcesses s claim wanted room) e = needs s claim (accepted st (ListProcesses s claim wanted room) refl e).claim-passed
  verdict-needs (Kill s claim name) e = needs s claim (accepted st (Kill s claim name) refl e).claim-passed
  verdict-needs (SetWord s claim c words) e = needs s claim (accepted st (SetWord s claim c words) refl e).claim-passed

-- ---- a fresh module "has all sessions closed and no process"
pub fresh-closed : (pairs : List Grants) (s : Session) → is_closed (phase_of (fresh pairs) s) ≡ true
unfolding fresh phase_of is_closed
fresh-closed pairs s = rw (get_d-same session_count s.0 closed_session)

pub fresh-empty : (pairs : List Grants) → standing (fresh pairs).table ≡ []
unfolding fresh table_of standing
fresh-empty pairs = refl
