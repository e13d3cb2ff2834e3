-- Document 01's calls are steps: a single one keeps demand 3's rules and tells what stands.
-- Assumes nothing.
use Prim.Native.Nat.{ℕ}
use mathlib.Core.Path.{◌≡◌, refl, sym, ap, ◌∙◌}
use mathlib.Core.Logic.{◌≢◌}
use mathlib.Core.Bool.{Bool, true, false, cond}
use mathlib.Core.List.{List, [], ◌∷◌}
use Rattle.lists.proofs.Tests.{split, clash}
use Rattle.lists.proofs.Each.{each-imp}
use Rattle.names.specs.Names.{same_name}
use Rattle.names.specs.declared.Credential.{Credential}
use Rattle.names.specs.declared.Name.{Name}
use Rattle.names.specs.declared.Session.{Session}
use Rattle.names.proofs.Laws.{same→name}
use Rattle.table.specs.Table.{is_named, is_among}
use Rattle.table.specs.declared.Active.{Active}
use Rattle.table.specs.declared.Active.TheVariants.{UserOf}
use Rattle.module_state.specs.Module.{has_active}
use Rattle.module_state.specs.Claim.{admitted}
use Rattle.module_state.specs.declared.Claim.TheVariants.{ByUser}
use Rattle.module_state.specs.declared.State.{State}
use Rattle.module_state.specs.declared.UserClaim.{UserClaim}
use Rattle.calls.specs.Calls.{Call, Open, Close, Drop, Select, Start, Continue, Elevate, End, Record, ListProcesses, Kill, SetWord, Under, number, protection}
use Rattle.calls.specs.Run.{step, run}
use Rattle.calls.proofs.Laws.{answer-number}
use Rattle.module_rules.specs.Facts.{processes, Rules}
use Rattle.history.specs.Lives.{Life, Gone, Live, Raised, SavedBy, is_gone, passed, count, is_user_of, same_session, tells_passed}
use Rattle.history.specs.History.{ends, shuts, drops, resumes, after, event, history}
use Rattle.history.specs.Demand.{look}
use Rattle.history.specs.Steps.{onto, Step, Steps, none, then}
use Rattle.history.proofs.Facts.{Added, facts}
use Rattle.history.proofs.Keeping.{rules-step}
use Rattle.history.proofs.Looked.{look_none}
use Rattle.history.proofs.Read.{claim-passed, reading}
use Rattle.history.proofs.Lives.{claim-gone}
use Rattle.history.proofs.Followed.{follows-step}

-- ---- beside the claim nothing is counted
abbrev Keeps : (Life → Life) → Life → Type 0
Keeps g life = g life ≢ Gone → count (g life) ≡ count life

module _ (s : Session) where
  shuts-keeps : (life : Life) → Keeps (shuts s) life
  unfolding shuts passed
  shuts-keeps Gone h = refl
  shuts-keeps (Live t d ns) h = split (same_session s t) (λ e. absurd (h (rw e))) (λ e. rw e)
  shuts-keeps (Raised t d) h = split (same_session s t) (λ e. absurd (h (rw e))) (λ e. rw e)
  shuts-keeps (SavedBy d ns) h = refl

  drops-keeps : (life : Life) → Keeps (drops s) life
  unfolding drops passed
  drops-keeps Gone h = refl
  drops-keeps (Live t d ns) h = refl
  drops-keeps (Raised t d) h = split (same_session s t) (λ e. absurd (h (rw e))) (λ e. rw e)
  drops-keeps (SavedBy d ns) h = refl

  resumes-keeps : (life : Life) → count (resumes s life) ≡ count life
  unfolding resumes passed
  resumes-keeps Gone = refl
  resumes-keeps (Live t d ns) = refl
  resumes-keeps (Raised t d) = refl
  resumes-keeps (SavedBy d ns) = refl

  ends-keeps : (c : Credential) (keep : Bool) (life : Life) → Keeps (ends s c keep) life
  unfolding ends passed
  ends-keeps c keep Gone h = refl
  ends-keeps c true (Live t d ns) h = split (is_user_of s c t d) (λ e. rw e) (λ e. rw e)
  ends-keeps c false (Live t d ns) h = split (is_user_of s c t d) (λ e. absurd (h (rw e))) (λ e. rw e)
  ends-keeps c keep (Raised t d) h = refl
  ends-keeps c keep (SavedBy d ns) h = refl

-- the name that is given to a new process was nobody's
unused-gone : (st : State) (which : Active) (s : Session) (c : Credential) (name n : Name) → Added st which s c name → same_name name n ≡ true → look n (processes st) ≡ Gone
unfolding is_named is_among
unused-gone st which s c name n f e = look_none n (each-imp (λ p h. rw (← same→name name n e) h) f.unused)

module _ (n : Name) (st : State) (life : Life) (is : look n (processes st) ≡ Gone → life ≡ Gone) where
  new-keeps : (which : Active) (s : Session) (c : Credential) (name : Name) (new : Life) → count new ≡ 0 → Added st which s c name → count (cond (same_name name n) new life) ≡ count life
  unfolding passed
  new-keeps which s c name new e f =
      split (same_name name n) (λ q. rw (q, is (unused-gone st which s c name n f q)) e) (λ q. rw q)

  after-keeps : (call : Call) → number st call ≡ 0 → Keeps (after call n) life
  unfolding after passed
  after-keeps (Open s) z h = refl
  after-keeps (Close s) z h = shuts-keeps s life h
  after-keeps (Select s byte) z h = refl
  after-keeps (Start s c name) z h = new-keeps _ s c name (Live s c []) refl (facts st (Start s c name) z)
  after-keeps (Continue s c name) z h = split (same_name name n) (λ q. rw q (resumes-keeps s life)) (λ q. rw q)
  after-keeps (Elevate s c name verdict) z h = new-keeps _ s c name (Raised s c) refl (facts st (Elevate s c name verdict) z)
  after-keeps (Drop s) z h = drops-keeps s life h
  after-keeps (End s u keep) z h = ends-keeps s u.credential keep life h
  after-keeps (Record s claim class) z h = refl
  after-keeps (ListProcesses s claim wanted room) z h = refl
  after-keeps (Kill s claim name) z h = split (same_name name n) (λ q. absurd (h (rw q))) (λ q. rw q)
  after-keeps (SetWord s claim c words) z h = refl

-- ---- a call that starts no process of the name does the same on top of earlier numbers
module _ (old : List ℕ) where
  ends-onto : (s : Session) (c : Credential) (keep : Bool) (life : Life) → ends s c keep (onto old life) ≡ onto old (ends s c keep life)
  unfolding ends
  ends-onto s c keep Gone = refl
  ends-onto s c true (Live t d ns) = split (is_user_of s c t d) (λ e. rw e) (λ e. rw e)
  ends-onto s c false (Live t d ns) = split (is_user_of s c t d) (λ e. rw e) (λ e. rw e)
  ends-onto s c keep (Raised t d) = refl
  ends-onto s c keep (SavedBy d ns) = refl

  shuts-onto : (s : Session) (life : Life) → shuts s (onto old life) ≡ onto old (shuts s life)
  unfolding shuts
  shuts-onto s Gone = refl
  shuts-onto s (Live t d ns) = split (same_session s t) (λ e. rw e) (λ e. rw e)
  shuts-onto s (Raised t d) = split (same_session s t) (λ e. rw e) (λ e. rw e)
  shuts-onto s (SavedBy d ns) = refl

  drops-onto : (s : Session) (life : Life) → drops s (onto old life) ≡ onto old (drops s life)
  unfolding drops
  drops-onto s Gone = refl
  drops-onto s (Live t d ns) = refl
  drops-onto s (Raised t d) = split (same_session s t) (λ e. rw e) (λ e. rw e)
  drops-onto s (SavedBy d ns) = refl

  resumes-onto : (s : Session) (life : Life) → resumes s (onto old life) ≡ onto old (resumes s life)
  unfolding resumes
  resumes-onto s Gone = refl
  resumes-onto s (Live t d ns) = refl
  resumes-onto s (Raised t d) = refl
  resumes-onto s (SavedBy d ns) = refl

  after-onto : (n : Name) (call : Call) → is_gone (after call n Gone) ≡ true → (life : Life) → after call n (onto old life) ≡ onto old (after call n life)
  unfolding after
  after-onto n (Open s) h life = refl
  after-onto n (Close s) h life = shuts-onto s life
  after-onto n (Select s byte) h life = refl
  after-onto n (Start s c name) h life = split (same_name name n) (λ e. clash (rw e at h) refl) (λ e. rw e)
  after-onto n (Continue s c name) h life = split (same_name name n) (λ e. rw e (resumes-onto s life)) (λ e. rw e)
  after-onto n (Elevate s c name verdict) h life = split (same_name name n) (λ e. clash (rw e at h) refl) (λ e. rw e)
  after-onto n (Drop s) h life = drops-onto s life
  after-onto n (End s u keep) h life = ends-onto s u.credential keep life
  after-onto n (Record s claim class) h life = refl
  after-onto n (ListProcesses s claim wanted room) h life = refl
  after-onto n (Kill s claim name) h life = split (same_name name n) (λ e. rw e) (λ e. rw e)
  after-onto n (SetWord s claim c words) h life = refl

-- one that starts one forgets what was before
after-new : (n : Name) (call : Call) → is_gone (after call n Gone) ≡ false → (a b : Life) → after call n a ≡ after call n b
unfolding after ends shuts drops resumes
after-new n (Open s) h a b = clash refl h
after-new n (Close s) h a b = clash refl h
after-new n (Select s byte) h a b = clash refl h
after-new n (Start s c name) h a b = split (same_name name n) (λ e. rw e) (λ e. clash refl (rw e at h))
after-new n (Continue s c name) h a b = split (same_name name n) (λ e. clash refl (rw e at h)) (λ e. clash refl (rw e at h))
after-new n (Elevate s c name verdict) h a b = split (same_name name n) (λ e. rw e) (λ e. clash refl (rw e at h))
after-new n (Drop s) h a b = clash refl h
after-new n (End s u keep) h a b = clash refl h
after-new n (Record s claim class) h a b = clash refl h
after-new n (ListProcesses s claim wanted room) h a b = clash refl h
after-new n (Kill s claim name) h a b = split (same_name name n) (λ e. clash refl (rw e at h)) (λ e. clash refl (rw e at h))
after-new n (SetWord s claim c words) h a b = clash refl h

-- ---- a call
module _ (st : State) (call : Call) where
  admits : Rules st → (s : Session) (u : UserClaim) → protection call ≡ Under s (ByUser u) → has_active st (UserOf s u.credential) ≡ true → tells_passed (event st call).answered ≡ true → admitted st s (ByUser u) ≡ 0
  admits v s u w h t = claim-passed st call s u w (sym (reading st v call s u w h) ∙ ap tells_passed (sym (answer-number st call)) ∙ t)

  pub call_step : Step st (event st call) (step st call)
  call_step =
      record {
        rules = rules-step st call;
        follows = λ v n. follows-step n st v call;
        admits = admits;
        keeps = λ n z. after-keeps n st _ (λ e. rw e (claim-gone (event st call))) call (sym (answer-number st call) ∙ z);
        above = λ n h old. after-onto old n call h;
        anew = λ n. after-new n call;
      }

-- any calls in any order, refused ones and wrong arguments included
pub steps : (st : State) (calls : List Call) → Steps st (history st calls) (run st calls)
unfolding history run
steps st [] = none
steps st (call ∷ calls) = then (call_step st call) (steps (step st call) calls)
