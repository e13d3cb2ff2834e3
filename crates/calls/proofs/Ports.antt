-- Order 10, "A second management port": a session's slot hides nothing. Whatever the state and the call, and whatever it is answered, every session but the one that
-- it names is left as it was; so every session of the other port is.
-- Assumes nothing.
use Prim.Native.Nat.{ℕ, ◌<◌}
use mathlib.Core.Path.{◌≡◌, refl, sym, ap, ◌∙◌}
use mathlib.Core.Logic.{◌≢◌}
use mathlib.Core.Bool.{Bool, true, false, ◌&&◌, and-false}
use mathlib.Core.List.{List, [], ◌∷◌, ◌++◌}
use native.Mathlib.Omega.{arith}
use lib.Dec.{eqb, ltb}
use lib.ListN.{length, get_or, length-set}
use lib.Seq.{get_or-set_other}
use borrow.Author.Tests.{eqb-true, eqb-false, eq-eqb, ne_eqb, leb-true}
use Rattle.lists.specs.Lists.{select}
use Rattle.lists.proofs.Tests.{split, clash, and_left, and_right}
use Rattle.lists.proofs.Lists.{first_passes, select-snoc, select-both, select-set, select-remove, select-rejected}
use Rattle.lists.proofs.Each.{same_set}
use Rattle.names.specs.Names.{same_name}
use Rattle.names.specs.declared.Credential.{Credential}
use Rattle.names.specs.declared.Kind.TheVariants.{Saved}
use Rattle.names.specs.declared.Name.{Name}
use Rattle.names.specs.declared.Session.{Session}
use Rattle.table.specs.Table.{places, standing, size, free_place, process_at, is_active, is_active_in, is_among, is_named, appended, replaced, removed}
use Rattle.table.specs.declared.Active.TheVariants.{UserOf, ElevationIn}
use Rattle.table.specs.declared.Among.{Among}
use Rattle.table.specs.declared.Among.TheVariants.{All, SavedOf}
use Rattle.table.specs.declared.Process.{Process}
use Rattle.table.specs.declared.Table.{Table}
use Rattle.table.proofs.Laws.{standing-of, standing-replaced, standing-removed, standing-without-session}
use Rattle.table.proofs.Searched.{user-of, elevation-in, active-session, named-among, saved-of}
use Rattle.module_state.specs.Module.{last_port, is_port, is_handle, slot_of, port_of, closed_session, phase_of, active_place, active_process}
use Rattle.module_state.proofs.Slots.{slot-port}
use Rattle.module_state.specs.Claim.{checked}
use Rattle.module_state.specs.declared.Claim.{Claim}
use Rattle.module_state.specs.declared.Claim.TheVariants.{Elevated, ByUser}
use Rattle.module_state.specs.declared.Handle.{Handle}
use Rattle.module_state.specs.declared.Phase.{Phase}
use Rattle.module_state.specs.declared.Phase.TheVariants.{Closed, Opened, Chosen}
use Rattle.module_state.specs.declared.Port.{Port}
use Rattle.module_state.specs.declared.SessionState.{SessionState}
use Rattle.module_state.specs.declared.State.{State}
use Rattle.module_state.specs.declared.UserClaim.{UserClaim}
use Rattle.calls.specs.Calls.{Call, Open, Close, Drop, Select, Start, Continue, Elevate, End, Record, ListProcesses, Kill, SetWord, with_table, with_phase, user_process, elevation, activated, saved, one_more, named_place, reach, number, counted, ended, effect, protection, refused_after, charged, left}
use Rattle.calls.specs.Run.{step}
use Rattle.calls.specs.Ports.{session_in, is_on, is_other, is_active_of, active_of, spares, sets_words, Untouched}
use Rattle.calls.proofs.Laws.{outcome-done, refusal-leaves}

abbrev stands : State → List Process
stands st = standing st.table

-- ---- no process of another session, and no saved one, is active in one of those
module _ (which : Session → Bool) (p : Process) where
  elsewhere : {s : Session} → which s ≡ false → p.session ≡ s → is_active_of which p ≡ false
  unfolding is_active_of
  elsewhere e q = rw (q, e, and-false)

  not-active : p.kind ≡ Saved → is_active_of which p ≡ false
  unfolding is_active_of is_active_in
  not-active k = rw k

-- whoever has the name among some has it among all
named-all : (name : Name) (among : Among) (p : Process) → is_named name among p ≡ true → is_named name All p ≡ true
unfolding is_named is_among
named-all name among p e = and_right (is_among among p) (same_name p.name name) e

-- ---- what a claim that is counted leaves at a place: all but the next number
module _ (st : State) (s : Session) where
  at-counted : (f : Process → Bool) → ((p : Process) → f (one_more p) ≡ f p) → (claim : Claim) (at : ℕ)
      → f (process_at (counted st s claim).table at) ≡ f (process_at st.table at)
  unfolding counted active_process process_at
  at-counted f same Elevated at = refl
  at-counted f same (ByUser u) at =
      let i : ℕ = active_place st (UserOf s u.credential) in
      let x : Process = get_or (stands st) i free_place in
      rw (standing-replaced st.table i (one_more x)) (same_set f (stands st) i at free_place (one_more x) (same x))

  long-counted : (claim : Claim) → length (stands (counted st s claim)) ≡ length (stands st)
  unfolding counted
  long-counted Elevated = refl
  long-counted (ByUser u) = rw (standing-replaced, length-set)

-- what is active in those sessions and spared
abbrev is_kept : (Session → Bool) → Call → Process → Bool
is_kept which call p = is_active_of which p && spares call p

-- ---- one change after another, and each by itself
module _ {which : Session → Bool} {call : Call} where
  pub kept_same : {st : State} → Untouched which call st st
  kept_same = record { phases = λ s h. refl; processes = refl; grants = λ h. refl }

  kept_then : {st mid next : State} → Untouched which call st mid → Untouched which call mid next → Untouched which call st next
  kept_then a b =
      record {
        phases = λ s h. b.phases s h ∙ a.phases s h;
        processes = b.processes ∙ a.processes;
        grants = λ h. b.grants h ∙ a.grants h;
      }

  module _ (st : State) where
    kept_table : (t : Table) → select (is_kept which call) (standing t) ≡ select (is_kept which call) (stands st) → Untouched which call st (with_table st t)
    unfolding active_of phase_of
    kept_table t e =
        record {
          phases = λ s h. refl;
          processes = select-both (is_active_of which) (spares call) (standing t) ∙ e ∙ sym (select-both (is_active_of which) (spares call) (stands st));
          grants = λ h. refl;
        }

    -- a process that is not active in those sessions is added, replaced by such a one, or removed
    kept-appended : (y : Process) → is_active_of which y ≡ false → Untouched which call st (with_table st (appended st.table y))
    unfolding appended
    kept-appended y e =
        kept_table _
        (split (ltb (size st.table) places)
        (λ k. rw (k, standing-of (stands st ++ (y ∷ [])), select-snoc (is_kept which call) (stands st) y, e))
        (λ k. rw (k, standing-of (stands st))))

    kept-replaced : (at : ℕ) (y : Process) → (at < length (stands st) → is_active_of which (process_at st.table at) ≡ false) → (at < length (stands st) → is_active_of which y ≡ false)
        → Untouched which call st (with_table st (replaced st.table at y))
    unfolding process_at
    kept-replaced at y e k =
        kept_table _
        (rw (standing-replaced st.table at y) (select-set (is_kept which call) (stands st) at free_place y (λ h. rw (e h)) (λ h. rw (k h))))

    -- or one that a kill does not spare is removed
    kept-removed : (at : ℕ) → (at < length (stands st) → is_kept which call (process_at st.table at) ≡ false) → Untouched which call st (with_table st (removed st.table at))
    unfolding process_at
    kept-removed at e = kept_table _ (rw (standing-removed st.table at) (select-remove (is_kept which call) (stands st) at free_place e))

    -- a session that is none of those changes
    kept-phase : (s : Session) (phase : Phase) → which s ≡ false → Untouched which call st (with_phase st s phase)
    unfolding active_of phase_of
    kept-phase s phase e =
        record {
          phases = λ t h. ap (λ (x : SessionState). x.phase) (get_or-set_other st.sessions s.0 t.0 (record { phase = phase }) closed_session (apart t h));
          processes = refl;
          grants = λ h. refl;
        }
      where
        apart : (t : Session) → which t ≡ true → t.0 ≢ s.0
        apart t h q = let same : t ≡ s = ap (λ (n : ℕ). record { 0 = n }) q in clash h (rw same e)

-- ---- what stands at a place that a call looks for. Past the end nothing does
module _ (which : Session → Bool) (st : State) (s : Session) (e : which s ≡ false) where
  abbrev user_place : UserClaim → ℕ
  user_place u = active_place st (UserOf s u.credential)

  abbrev elevation_place : ℕ
  elevation_place = active_place st (ElevationIn s)

  -- a process of the call's own session, which is none of those
  user-there : (u : UserClaim) → user_place u < length (stands st) → is_active_of which (process_at st.table (user_place u)) ≡ false
  unfolding active_place process_at
  user-there u h = elsewhere which _ e (user-of _ s u.credential (first_passes (is_active (UserOf s u.credential)) (stands st) free_place h)).session

  elevation-there : elevation_place < length (stands st) → is_active_of which (process_at st.table elevation_place) ≡ false
  unfolding active_place process_at
  elevation-there h = elsewhere which _ e (elevation-in _ s (first_passes (is_active (ElevationIn s)) (stands st) free_place h)).session

  -- also once the claim is counted
  counted-there : (u : UserClaim) → user_place u < length (stands (counted st s (ByUser u))) → is_active_of which (process_at (counted st s (ByUser u)).table (user_place u)) ≡ false
  unfolding is_active_of is_active_in
  counted-there u h = at-counted st s (is_active_of which) (λ p. refl) (ByUser u) _ ∙ user-there u (rw (long-counted st s (ByUser u)) at h)

  module _ {call : Call} where
    kept-counted : (claim : Claim) → Untouched which call st (counted st s claim)
    unfolding counted is_active_of is_active_in active_process
    kept-counted Elevated = kept_same
    kept-counted (ByUser u) = kept-replaced st _ _ (user-there u) (user-there u)

    kept-ended : (u : UserClaim) (keep : Bool) → Untouched which call (counted st s (ByUser u)) (ended (counted st s (ByUser u)) (user_place u) keep)
    unfolding ended
    kept-ended u true = kept-replaced _ _ _ (counted-there u) (λ h. not-active which _ refl)
    kept-ended u false = kept-removed _ _ (λ h. rw (counted-there u h))

module _ (st : State) (name : Name) where
  -- the process that is continued is saved
  saved-there : (c : Credential) → named_place st name (SavedOf c) < length (stands st) → (process_at st.table (named_place st name (SavedOf c))).kind ≡ Saved
  unfolding named_place process_at
  saved-there c h = (saved-of _ c (named-among _ name (SavedOf c) (first_passes (is_named name (SavedOf c)) (stands st) free_place h))).kind

  -- the one that is killed has the name, also once the claim is counted
  named-there : (among : Among) (s : Session) (claim : Claim) → named_place st name among < length (stands (counted st s claim)) → is_named name All (process_at (counted st s claim).table (named_place st name among)) ≡ true
  unfolding named_place process_at is_named is_among
  named-there among s claim h =
      at-counted st s (is_named name All) (λ p. refl) claim _
      ∙ named-all name among _ (first_passes (is_named name among) (stands st) free_place (rw (long-counted st s claim) at h))

-- ---- what an accepted call does
module _ (which : Session → Bool) (st : State) where
  kept-effect : (call : Call) → which (session_in call) ≡ false → Untouched which call st (effect st call)
  unfolding effect session_in sets_words spares active_of phase_of
  kept-effect (Open s) e = kept-phase st s Opened e
  kept-effect (Close s) e =
      kept_then
      (kept_table st _ (rw (standing-without-session st.table s) (select-rejected _ (is_active_in s) (λ p h. rw (elsewhere which p e (active-session p s h))) (stands st))))
      (kept-phase _ s Closed e)
  kept-effect (Drop s) e = kept-removed st _ (λ h. rw (elevation-there which st s e h))
  kept-effect (Select s byte) e = kept-phase st s Chosen e
  kept-effect (Start s c name) e = kept-appended st (user_process s c name) (elsewhere which _ e refl)
  kept-effect (Continue s c name) e = kept-replaced st _ _ (λ h. not-active which _ (saved-there st name c h)) (λ h. elsewhere which _ e refl)
  kept-effect (Elevate s c name verdict) e = kept-appended st (elevation s c name) (elsewhere which _ e refl)
  kept-effect (End s u keep) e = kept_then (kept-counted which st s e (ByUser u)) (kept-ended which st s e u keep)
  kept-effect (Record s claim class) e = kept-counted which st s e claim
  kept-effect (ListProcesses s claim wanted room) e = kept-counted which st s e claim
  kept-effect (Kill s claim name) e =
      kept_then (kept-counted which st s e claim)
      (kept-removed _ _ (λ h. rw (named-there st name (reach (checked st s claim)) s claim h, and-false)))
  kept-effect (SetWord s claim c words) e =
      kept_then (kept-counted which st s e claim) (record { phases = λ t h. refl; processes = refl; grants = λ h. clash refl h })

  -- and what one leaves that is refused after its claim
  kept-charged : (call : Call) → which (session_in call) ≡ false → Untouched which call st (charged st (protection call))
  unfolding session_in charged protection
  kept-charged (Open s) e = kept_same
  kept-charged (Close s) e = kept_same
  kept-charged (Drop s) e = kept_same
  kept-charged (Select s byte) e = kept_same
  kept-charged (Start s c name) e = kept_same
  kept-charged (Continue s c name) e = kept_same
  kept-charged (Elevate s c name verdict) e = kept_same
  kept-charged (End s u keep) e = kept-counted which st s e (ByUser u)
  kept-charged (Record s claim class) e = kept-counted which st s e claim
  kept-charged (ListProcesses s claim wanted room) e = kept-counted which st s e claim
  kept-charged (Kill s claim name) e = kept-counted which st s e claim
  kept-charged (SetWord s claim c words) e = kept-counted which st s e claim

-- ---- a call, refused or not, leaves every session as it was but the one that it names: any that are not that one
pub untouched : (which : Session → Bool) (st : State) (call : Call) → which (session_in call) ≡ false → Untouched which call st (step st call)
unfolding step left
untouched which st call e =
    split (eqb (number st call) 0)
    (λ z. rw (outcome-done st call (eqb-true _ _ z), step) (kept-effect which st call e))
    (λ z.
    rw (refusal-leaves st call (eqb-false _ _ z), step)
    (split (refused_after st call) (λ r. rw r (kept-charged which st call e)) (λ r. rw r kept_same)))

-- all the others
pub others : (st : State) (call : Call) → Untouched (is_other (session_in call)) call st (step st call)
unfolding is_other
others st call = untouched (is_other (session_in call)) st call (rw (eq-eqb (session_in call).0 (session_in call).0 refl))

-- "close touches only its own port's sessions": of those its own alone
pub close-alone : (st : State) (s : Session) → Untouched (is_other s) (Close s) st (step st (Close s))
unfolding session_in
close-alone st s = others st (Close s)

-- a call on one port leaves the other port's sessions as they were
pub other-port : (st : State) (call : Call) (p q : Port) (h : Handle) → session_in call ≡ slot_of p h → is_port q ≡ true → q.0 ≢ p.0
    → Untouched (is_on q) call st (step st call)
unfolding is_on
other-port st call p q h w v n =
    untouched (is_on q) st call
    (split (is_port p && is_handle h)
    (λ k. rw (w, slot-port p h (and_left (is_port p) (is_handle h) k) (and_right (is_port p) (is_handle h) k)) (ne_eqb p.0 q.0 (λ z. n (sym z))))
    (λ k. unfold port_of slot_of is_port in rw (w, k) (ne_eqb 63 q.0 (λ z. omega (arith, leb-true q.0 last_port v)))))

-- "A saved process may be continued on either port": a process that was active in s, saved and continued in t is what it is in t, wherever s is
pub continued-anywhere : (p : Process) (s t : Session) → activated t (saved (activated s p)) ≡ activated t p
continued-anywhere p s t = refl
