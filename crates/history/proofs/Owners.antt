-- For whom the module was made: document 01's calls provision no credential and take none away. They leave the credentials, but for a word.
-- Assumes nothing.
use mathlib.Core.Path.{◌≡◌, refl, sym, ap, ◌∙◌}
use mathlib.Core.Bool.{Bool, true, false}
use mathlib.Core.List.{List, [], ◌∷◌}
use lib.ListN.{length, get_or, length-set}
use Rattle.lists.proofs.Each.{same_set}
use Rattle.names.specs.declared.Credential.{Credential}
use Rattle.names.specs.declared.Session.{Session}
use Rattle.module_state.specs.Module.{unprovisioned, provisioned}
use Rattle.module_state.specs.declared.Claim.{Claim}
use Rattle.module_state.specs.declared.Claim.TheVariants.{Elevated, ByUser}
use Rattle.module_state.specs.declared.Grants.{Grants}
use Rattle.module_state.specs.declared.State.{State}
use Rattle.module_state.specs.declared.UserClaim.{UserClaim}
use Rattle.calls.specs.Calls.{Call, Open, Close, Drop, Select, Start, Continue, Elevate, End, Record, ListProcesses, Kill, SetWord, with_grants, counted, ended, effect}
use Rattle.calls.specs.Run.{step, run}
use Rattle.history.specs.History.{SameOwners}
use Rattle.history.proofs.Facts.{Facts, facts}
use Rattle.history.proofs.Keeping.{step_by}

module _ (st : State) where
  owners-same : (next : State) → next.credentials ≡ st.credentials → SameOwners st next
  unfolding provisioned
  owners-same next e = record { as_many = ap length e; same = λ c. ap (λ (l : List Grants). (get_or l c.0 unprovisioned).provisioned) e }

  credentials-counted : (s : Session) (claim : Claim) → (counted st s claim).credentials ≡ st.credentials
  unfolding counted
  credentials-counted s Elevated = refl
  credentials-counted s (ByUser u) = refl

  credentials-ended : (s : Session) (u : UserClaim) (keep : Bool) → (effect st (End s u keep)).credentials ≡ st.credentials
  unfolding effect ended
  credentials-ended s u true = credentials-counted s (ByUser u)
  credentials-ended s u false = credentials-counted s (ByUser u)

  owners-grants : (next : State) → next.credentials ≡ st.credentials → (c : Credential) (new : Grants) → provisioned st c ≡ true → new.provisioned ≡ true → SameOwners st (with_grants next c new)
  unfolding provisioned
  owners-grants next e c new owner still =
      record {
        as_many = length-set next.credentials c.0 new ∙ ap length e;
        same = λ d. rw e (same_set (λ (g : Grants). g.provisioned) st.credentials c.0 d.0 unprovisioned new (still ∙ sym owner));
      }

  owners-effect : (call : Call) → Facts st call → SameOwners st (effect st call)
  unfolding effect
  owners-effect (Open s) f = owners-same _ refl
  owners-effect (Close s) f = owners-same _ refl
  owners-effect (Select s byte) f = owners-same _ refl
  owners-effect (Start s c name) f = owners-same _ refl
  owners-effect (Continue s c name) f = owners-same _ refl
  owners-effect (Elevate s c name verdict) f = owners-same _ refl
  owners-effect (Drop s) f = owners-same _ refl
  owners-effect (End s u keep) f = owners-same _ (credentials-ended s u keep)
  owners-effect (Record s claim class) f = owners-same _ (credentials-counted s claim)
  owners-effect (ListProcesses s claim wanted room) f = owners-same _ (credentials-counted s claim)
  owners-effect (Kill s claim name) f = owners-same _ (credentials-counted s claim)
  owners-effect (SetWord s claim c words) f = owners-grants (counted st s claim) (credentials-counted s claim) c _ f.owner refl

  owners-step : (call : Call) → SameOwners st (step st call)
  owners-step call =
      step_by st call (SameOwners st) (owners-same st refl)
      (λ s claim f. owners-same (counted st s claim) (credentials-counted s claim))
      (λ z. owners-effect call (facts st call z))

pub owners-run : (st : State) (calls : List Call) → SameOwners st (run st calls)
unfolding run
owners-run st [] = owners-same st st refl
owners-run st (call ∷ calls) =
    let one = owners-step st call in
    let rest = owners-run (step st call) calls in
    record { as_many = rest.as_many ∙ one.as_many; same = λ c. rest.same c ∙ one.same c }
