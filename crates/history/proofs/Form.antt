-- What else a call keeps: the state's form, where the call fits its parameters' types.
-- Assumes nothing.
use Prim.Native.Nat.{ℕ}
use mathlib.Core.Path.{◌≡◌, refl, sym, ap, ◌∙◌}
use mathlib.Core.Bool.{Bool, true, false}
use mathlib.Core.List.{List, [], ◌∷◌}
use native.Mathlib.Omega.{arith}
use lib.ListN.{length, get_or, length-set, length-map, length-replicate}
use lib.Seq.{get_or-set_same}
use Rattle.lists.specs.Each.{Each, each_nil, each-cons}
use Rattle.lists.proofs.Tests.{clash}
use Rattle.lists.proofs.Each.{each_at, each_append, each-remove, each_set, each-reject}
use Rattle.names.specs.declared.Credential.{Credential}
use Rattle.names.specs.declared.Kind.TheVariants.{User, Saved}
use Rattle.names.specs.declared.Session.{Session}
use Rattle.table.specs.Table.{standing, free_place, table_of, process_at, is_active, is_active_in, is_named, appended, replaced, removed, without_session}
use Rattle.table.specs.declared.Active.TheVariants.{UserOf}
use Rattle.table.specs.declared.Among.{Among}
use Rattle.table.specs.declared.Among.TheVariants.{SavedOf}
use Rattle.table.specs.declared.Process.{Process}
use Rattle.table.specs.declared.Table.{Table}
use Rattle.table.proofs.Laws.{standing-of, whole_of, standing-appended, standing-replaced, standing-removed, standing-without-session}
use Rattle.table.proofs.Searched.{user-of, named-among, saved-of}
use Rattle.module_state.specs.Module.{closed_session, phase_of, is_chosen, active_place, active_process, session_count, taken}
use Rattle.module_state.specs.Claim.{checked}
use Rattle.module_state.specs.declared.Claim.{Claim}
use Rattle.module_state.specs.declared.Claim.TheVariants.{Elevated, ByUser}
use Rattle.module_state.specs.declared.Grants.{Grants}
use Rattle.module_state.specs.declared.Phase.{Phase}
use Rattle.module_state.specs.declared.State.{State}
use Rattle.module_state.specs.declared.UserClaim.{UserClaim}
use Rattle.calls.specs.Calls.{Call, Open, Close, Drop, Select, Start, Continue, Elevate, End, Record, ListProcesses, Kill, SetWord, with_table, with_phase, with_grants, user_process, elevation, activated, saved, one_more, named_place, reach, counted, ended, effect, fresh}
use Rattle.calls.specs.Run.{step, run}
use Rattle.module_rules.specs.Facts.{processes, Rules, FormedGrants, FormedProcess, IsState}
use Rattle.module_rules.proofs.Laws.{provisioned-low, chosen-low, words-taken}
use Rattle.history.specs.Fits.{Fits, Eight}
use Rattle.history.proofs.Facts.{UserPassed, ClaimPassed, Facts, facts}
use Rattle.history.proofs.Tables.{rules-fresh}
use Rattle.history.proofs.Keeping.{active-more, named_more, stands-counted, rules-effect, step_by}

-- ---- a fact of each process. By an accepted call each is one that stood, or one that stood and was counted, saved or continued, or the new one: what these keep, every call keeps
module _ (P : Process → Type 0) (st : State) where
  pub record Lasts : Type 0 where
    pub more : (p : Process) → p.kind ≡ User → (p.next ≡ 65535 → ⊥) → P p → P (one_more p)
    pub put : (p : Process) → p.kind ≡ User → P (one_more p) → P (saved (one_more p))
    pub on : (s : Session) (p : Process) → is_chosen (phase_of st s) ≡ true → p.kind ≡ Saved → P p → P (activated s p)

  -- and it is one of the new process, if there is one
  abbrev pub Begins : Call → Type 0
  Begins (Open s) = Unit {0}
  Begins (Close s) = Unit {0}
  Begins (Select s byte) = Unit {0}
  Begins (Start s c name) = P (user_process s c name)
  Begins (Continue s c name) = Unit {0}
  Begins (Elevate s c name verdict) = P (elevation s c name)
  Begins (Drop s) = Unit {0}
  Begins (End s u keep) = Unit {0}
  Begins (Record s claim class) = Unit {0}
  Begins (ListProcesses s claim wanted room) = Unit {0}
  Begins (Kill s claim name) = Unit {0}
  Begins (SetWord s claim c words) = Unit {0}

  module _ (l : Lasts) (v : Each P (processes st)) where
    more-passed : (s : Session) (u : UserClaim) → UserPassed st s u → P (one_more (active_process st (UserOf s u.credential)))
    unfolding active_process process_at
    more-passed s u f =
        let i : ℕ = active_place st (UserOf s u.credential) in
        let x : Process = get_or (processes st) i free_place in
        l.more x (user-of x s u.credential f.stands.passes).kind f.unspent (each_at i free_place f.stands.inside v)

    put-counted : (s : Session) (u : UserClaim) → UserPassed st s u → P (saved (process_at (counted st s (ByUser u)).table (active_place st (UserOf s u.credential))))
    unfolding counted active_process process_at
    put-counted s u f =
        let i : ℕ = active_place st (UserOf s u.credential) in
        let x : Process = get_or (processes st) i free_place in
        rw (standing-replaced st.table i (one_more x), get_or-set_same (processes st) i (one_more x) free_place f.stands.inside)
        (l.put x (user-of x s u.credential f.stands.passes).kind (more-passed s u f))

    each-counted : (s : Session) (claim : Claim) → ClaimPassed st s claim → Each P (processes (counted st s claim))
    unfolding counted active_process process_at
    each-counted s Elevated f = v
    each-counted s (ByUser u) f =
        let i : ℕ = active_place st (UserOf s u.credential) in
        let x : Process = get_or (processes st) i free_place in
        rw (standing-replaced st.table i (one_more x))
        (each_set i (one_more x) v (more-passed s u f))

    each-ended : (s : Session) (u : UserClaim) → UserPassed st s u → (keep : Bool) → Each P (processes (ended (counted st s (ByUser u)) (active_place st (UserOf s u.credential)) keep))
    unfolding ended
    each-ended s u f true =
        let i : ℕ = active_place st (UserOf s u.credential) in
        let c : State = counted st s (ByUser u) in
        let p : Process = process_at c.table i in
        rw (standing-replaced c.table i (saved p)) (each_set i (saved p) (each-counted s (ByUser u) f) (put-counted s u f))
    each-ended s u f false =
        let i : ℕ = active_place st (UserOf s u.credential) in
        let stands = stands-counted st s (ByUser u) f (is_active (UserOf s u.credential)) (active-more (UserOf s u.credential)) i f.stands in
        rw (standing-removed (counted st s (ByUser u)).table i) (each-remove i stands.inside (each-counted s (ByUser u) f))

    pub each-effect : (call : Call) → Facts st call → Begins call → Each P (processes (effect st call))
    unfolding effect process_at
    each-effect (Open s) f b = v
    each-effect (Close s) f b = rw (standing-without-session st.table s) (each-reject (is_active_in s) v)
    each-effect (Select s byte) f b = v
    each-effect (Start s c name) f b = rw (standing-appended st.table (user_process s c name) f.room) (each_append (user_process s c name) v b)
    each-effect (Continue s c name) f b =
        let i : ℕ = named_place st name (SavedOf c) in
        let x : Process = get_or (processes st) i free_place in
        let was = saved-of x c (named-among x name (SavedOf c) f.stands.passes) in
        rw (standing-replaced st.table i (activated s x))
        (each_set i (activated s x) v (l.on s x f.chosen was.kind (each_at i free_place f.stands.inside v)))
    each-effect (Elevate s c name verdict) f b = rw (standing-appended st.table (elevation s c name) f.room) (each_append (elevation s c name) v b)
    each-effect (Drop s) f b = rw (standing-removed st.table _) (each-remove _ f.inside v)
    each-effect (End s u keep) f b = each-ended s u f keep
    each-effect (Record s claim class) f b = each-counted s claim f
    each-effect (ListProcesses s claim wanted room) f b = each-counted s claim f
    each-effect (Kill s claim name) f b =
        let among : Among = reach (checked st s claim) in
        let i : ℕ = named_place st name among in
        let stands = stands-counted st s claim f.passed (is_named name among) (named_more name among) i f.stands in
        rw (standing-removed (counted st s claim).table i) (each-remove i stands.inside (each-counted s claim f.passed))
    each-effect (SetWord s claim c words) f b = each-counted s claim f.passed

-- ---- around the processes: sessions and credentials as many as before, words of 32 bits where the call has one (F), a tidy table
pub record Around (F : Type 0) (st next : State) : Type 0 where
  pub sessions : length next.sessions ≡ length st.sessions
  pub credentials : length next.credentials ≡ length st.credentials
  pub words : F → Each FormedGrants st.credentials → Each FormedGrants next.credentials
  pub tidy : st.table ≡ table_of (processes st) → next.table ≡ table_of (processes next)

tidy_of : (l : List Process) → table_of l ≡ table_of (standing (table_of l))
tidy_of l = ap table_of (sym (standing-of l))

module _ {F : Type 0} where
  pub around-same : (st : State) → Around F st st
  around-same st = record { sessions = refl; credentials = refl; words = λ f e. e; tidy = λ t. t }

  pub around_then : {st mid next : State} → Around F st mid → Around F mid next → Around F st next
  around_then a b =
      record {
        sessions = b.sessions ∙ a.sessions;
        credentials = b.credentials ∙ a.credentials;
        words = λ f e. b.words f (a.words f e);
        tidy = λ t. b.tidy (a.tidy t);
      }

  pub around-table : (st : State) (t : Table) → t ≡ table_of (standing t) → Around F st (with_table st t)
  around-table st t e = record { sessions = refl; credentials = refl; words = λ f v. v; tidy = λ h. e }

  around-phase : (st : State) (s : Session) (phase : Phase) → Around F st (with_phase st s phase)
  around-phase st s phase =
      record { sessions = length-set st.sessions s.0 (record { phase = phase }); credentials = refl; words = λ f v. v; tidy = λ h. h }

  pub around-grants : (st : State) (c : Credential) (new : Grants) → (F → FormedGrants new) → Around F st (with_grants st c new)
  around-grants st c new formed =
      record {
        sessions = refl;
        credentials = length-set st.credentials c.0 new;
        words = λ f v. each_set c.0 new v (formed f);
        tidy = λ h. h;
      }

  around-counted : (st : State) (s : Session) (claim : Claim) → Around F st (counted st s claim)
  unfolding counted replaced
  around-counted st s Elevated = around-same st
  around-counted st s (ByUser u) = around-table st _ (tidy_of _)

  around-ended : (st : State) (i : ℕ) (keep : Bool) → Around F st (ended st i keep)
  unfolding ended replaced removed
  around-ended st i true = around-table st _ (tidy_of _)
  around-ended st i false = around-table st _ (tidy_of _)

around : (st : State) (call : Call) → Facts st call → Around (Fits call) st (effect st call)
unfolding effect appended replaced removed without_session counted
around st (Open s) f = around-phase st s _
around st (Close s) f = around_then (around-table st (without_session st.table s) (tidy_of _)) (around-phase _ s _)
around st (Select s byte) f = around-phase st s _
around st (Start s c name) f = around-table st (appended st.table (user_process s c name)) (tidy_of _)
around st (Continue s c name) f = around-table st _ (tidy_of _)
around st (Elevate s c name verdict) f = around-table st (appended st.table (elevation s c name)) (tidy_of _)
around st (Drop s) f = around-table st _ (tidy_of _)
around st (End s u keep) f = around_then (around-counted st s (ByUser u)) (around-ended _ _ keep)
around st (Record s claim class) f = around-counted st s claim
around st (ListProcesses s claim wanted room) f = around-counted st s claim
around st (Kill s claim name) f = around_then (around-counted st s claim) (around-table (counted st s claim) _ (tidy_of _))
around st (SetWord s claim c words) f =
    around_then (around-counted st s claim) (around-grants (counted st s claim) c _ (λ w. record { words = w; zero = λ e. clash refl e }))

-- ---- the form
module _ (st : State) (v : IsState st) where
  formed-lasts : Lasts FormedProcess st
  formed-lasts =
      record {
        more = λ p k u f. record { credential = f.credential; session = f.session; next = omega (arith, f.next, u); name = f.name; saved = f.saved; elevation = λ e. cc; counted = λ e. omega arith };
        put = λ p k f. record { credential = f.credential; session = omega arith; next = f.next; name = f.name; saved = λ e. refl; elevation = λ e. cc; counted = λ e. omega arith };
        on = λ s p chosen k f. record { credential = f.credential; session = chosen-low st s v.formed.sessions chosen; next = f.next; name = f.name; saved = λ e. cc; elevation = λ e. cc; counted = λ e. f.counted k };
      }

  formed-begins : (call : Call) → Facts st call → Fits call → Begins FormedProcess st call
  formed-begins (Open s) f w = tt
  formed-begins (Close s) f w = tt
  formed-begins (Select s byte) f w = tt
  formed-begins (Start s c name) f w =
      record { credential = provisioned-low st c v.formed.credentials f.owner; session = chosen-low st s v.formed.sessions f.chosen; next = omega arith; name = w; saved = λ e. cc; elevation = λ e. cc; counted = λ e. let z : ◌≡◌ {A = ℕ} 0 1 = cc in absurd (omega arith) }
  formed-begins (Continue s c name) f w = tt
  formed-begins (Elevate s c name verdict) f w =
      record { credential = provisioned-low st c v.formed.credentials f.owner; session = chosen-low st s v.formed.sessions f.chosen; next = omega arith; name = w; saved = λ e. cc; elevation = λ e. refl; counted = λ e. let z : ◌≡◌ {A = ℕ} 0 1 = cc in absurd (omega arith) }
  formed-begins (Drop s) f w = tt
  formed-begins (End s u keep) f w = tt
  formed-begins (Record s claim class) f w = tt
  formed-begins (ListProcesses s claim wanted room) f w = tt
  formed-begins (Kill s claim name) f w = tt
  formed-begins (SetWord s claim c words) f w = tt

  -- by what is around the processes, and each of them
  pub state-by : {F : Type 0} {next : State} → Rules next → Around F st next → F → Each FormedProcess (processes next) → IsState next
  state-by {next = next} rules a w each =
      let tidy : next.table ≡ table_of (processes next) = a.tidy v.formed.tidy in
      record {
        rules = rules;
        formed =
            record {
              sessions = a.sessions ∙ v.formed.sessions;
              credentials = a.credentials ∙ v.formed.credentials;
              places = ap (λ (t : Table). length t.places) tidy ∙ whole_of (processes next) rules.few;
              words = a.words w v.formed.words;
              each = each;
              tidy = tidy;
            };
      }

  state-effect : (call : Call) → Facts st call → Fits call → IsState (effect st call)
  state-effect call f w =
      state-by (rules-effect st v.rules call f) (around st call f) w (each-effect FormedProcess st formed-lasts v.formed.each call f (formed-begins call f w))

-- a record does nothing but count its claim
pub state-counted : (st : State) → IsState st → (s : Session) (claim : Claim) → ClaimPassed st s claim → IsState (counted st s claim)
unfolding effect
state-counted st v s claim f = state-effect st v (Record s claim (record { 0 = 4 })) f tt

pub state-step : (st : State) (call : Call) → Fits call → IsState st → IsState (step st call)
state-step st call w v = step_by st call IsState v (state-counted st v) (λ z. state-effect st v call (facts st call z) w)

pub state-run : (st : State) (calls : List Call) → Each Fits calls → IsState st → IsState (run st calls)
unfolding run
state-run st [] each_nil v = v
state-run st (call ∷ calls) (each-cons w ws) v = state-run (step st call) calls ws (state-step st call w v)

-- ---- a fresh module
pub state-fresh : (pairs : List Grants) → Eight pairs → IsState (fresh pairs)
unfolding fresh
state-fresh pairs v =
    record {
      rules = rules-fresh pairs;
      formed =
          record {
            sessions = length-replicate session_count closed_session;
            credentials = length-map pairs taken ∙ v.many;
            places = whole_of [] (omega arith);
            words = words-taken v.words;
            each = rw (standing-of []) each_nil;
            tidy = ap table_of (sym (standing-of []));
          };
    }
