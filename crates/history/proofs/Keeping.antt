-- Each accepted call keeps demand 3's rules; so does each call.
-- Assumes nothing.
use Prim.Native.Nat.{ℕ, ◌<◌}
use mathlib.Core.Path.{◌≡◌, refl, sym, ap, subst, ◌∙◌}
use mathlib.Core.Bool.{Bool, true, false}
use lib.Dec.{eqb}
use borrow.Author.Tests.{eqb-true, eqb-false, lt-ltb}
use lib.ListN.{length, get_or, set}
use Rattle.lists.specs.Lists.{reject, remove_at}
use Rattle.lists.proofs.Tests.{split, clash}
use Rattle.names.specs.declared.Credential.{Credential}
use Rattle.names.specs.declared.Kind.TheVariants.{User, Elevation, Saved}
use Rattle.names.specs.declared.Name.{Name}
use Rattle.names.specs.declared.Session.{Session}
use Rattle.names.proofs.Laws.{differ-iff}
use Rattle.table.specs.Table.{places, size, free_place, table_of, process_at, is_active, is_active_in, is_among, is_named, appended, replaced, removed, without_session}
use Rattle.table.specs.declared.Active.{Active}
use Rattle.table.specs.declared.Active.TheVariants.{UserOf, ElevationIn}
use Rattle.table.specs.declared.Among.TheVariants.{All, Of, SavedOf}
use Rattle.table.specs.declared.Among.{Among}
use Rattle.table.specs.declared.Process.{Process}
use Rattle.table.proofs.Laws.{standing-of}
use Rattle.table.proofs.Searched.{user-of, elevation-in, named-among, saved-of}
use Rattle.module_state.specs.Module.{active_place, active_process}
use Rattle.module_state.specs.Claim.{checked}
use Rattle.module_state.specs.declared.Claim.{Claim}
use Rattle.module_state.specs.declared.Claim.TheVariants.{Elevated, ByUser}
use Rattle.module_state.specs.declared.Phase.TheVariants.{Closed, Opened}
use Rattle.module_state.specs.declared.State.{State}
use Rattle.calls.specs.Calls.{Call, Open, Close, Drop, Select, Start, Continue, Elevate, End, Record, ListProcesses, Kill, SetWord, with_table, user_process, elevation, activated, saved, one_more, named_place, counted, ended, effect, number, reach, Protection, Free, Under, protection, protected_number, refused_after, charged, left}
use Rattle.calls.specs.declared.Outcome.{Outcome}
use Rattle.calls.specs.Run.{step}
use Rattle.calls.proofs.Cut.{after-passed}
use Rattle.calls.proofs.Laws.{outcome-done, refusal-leaves}
use Rattle.lists.specs.Each.{Each}
use Rattle.module_rules.specs.Facts.{processes, Owned, Apart, Rules}
use Rattle.module_rules.proofs.Laws.{apart-turn}
use Rattle.lists.proofs.Each.{Stands, stands_set, each-imp, each-imp₂, each_at, each-remove, each_left, pairs-rest}
use Rattle.history.proofs.Facts.{Added, Continued, ClaimPassed, Facts, facts, passed}
use Rattle.history.proofs.Tables.{rules-append, rules-set, rules-remove, rules-reject, rules-idle, rules-chosen, rules-grants, idle}

-- ---- of which process a process can be the active one
only-user : (s : Session) (c : Credential) (p : Process) → p.kind ≡ User → p.session ≡ s → p.credential ≡ c → (which : Active) → is_active which p ≡ true → which ≡ UserOf s c
only-user s c p k i o (UserOf t d) h =
    let v = user-of p t d h in
    let et : t ≡ s = sym v.session ∙ i in
    let ed : d ≡ c = sym v.credential ∙ o in
    cc
only-user s c p k i o (ElevationIn t) h = let e : p.kind ≡ Elevation = (elevation-in p t h).kind in cc

only-elevation : (s : Session) (p : Process) → p.kind ≡ Elevation → p.session ≡ s → (which : Active) → is_active which p ≡ true → which ≡ ElevationIn s
only-elevation s p k i (UserOf t d) h = let e : p.kind ≡ User = (user-of p t d h).kind in cc
only-elevation s p k i (ElevationIn t) h = let e : t ≡ s = sym (elevation-in p t h).session ∙ i in cc

never-saved : (p : Process) → p.kind ≡ Saved → (which : Active) → is_active which p ≡ false
unfolding is_active
never-saved p k (UserOf t d) = rw k
never-saved p k (ElevationIn t) = rw k

-- counting changes no test
pub active-more : (which : Active) (p : Process) → is_active which (one_more p) ≡ is_active which p
unfolding is_active
active-more (UserOf s c) p = refl
active-more (ElevationIn s) p = refl

among-more : (among : Among) (p : Process) → is_among among (one_more p) ≡ is_among among p
unfolding is_among
among-more All p = refl
among-more (Of c) p = refl
among-more (SavedOf c) p = refl

pub named_more : (name : Name) (among : Among) (p : Process) → is_named name among (one_more p) ≡ is_named name among p
unfolding is_named
named_more name among p = rw (among-more among p)

-- ---- two processes of which the second is new, or becomes another
module _ (x y : Process) (names : x.name.bytes ≡ y.name.bytes → ⊥) where
  apart-as : (w : Active) → ((which : Active) → is_active which y ≡ true → which ≡ w) → is_active w x ≡ false → Apart x y
  apart-as w only e = record { names = names; alone = λ which h k. clash (rw (only which k) at h) e }

  apart-saved : y.kind ≡ Saved → Apart x y
  apart-saved k = record { names = names; alone = λ which h j. clash j (never-saved y k which) }

pub unnamed : (name : Name) (p : Process) → is_named name All p ≡ false → p.name.bytes ≡ name.bytes → ⊥
unfolding is_named is_among
unnamed name p e = (differ-iff p.name name).0 e

module _ (st : State) (v : Rules st) where
  -- ---- the process at a place, and every other
  module _ (i : ℕ) (h : i < length (processes st)) where
    owned-at : Owned st (get_or (processes st) i free_place)
    owned-at = each_at i free_place h v.each

    pub rest-apart : Each (λ x. Apart x (get_or (processes st) i free_place)) (remove_at i (processes st))
    rest-apart = pairs-rest apart-turn i free_place h v.pairs

    kept-removed : Rules (with_table st (removed st.table i))
    unfolding removed
    kept-removed = rules-remove st v i h

    kept-replaced : (y : Process) → Owned st y → Each (λ x. Apart x y) (remove_at i (processes st)) → Rules (with_table st (replaced st.table i y))
    unfolding replaced
    kept-replaced y o a = rules-set st v i y h o a

  -- ---- a new process
  kept-added : (which : Active) (s : Session) (c : Credential) (y : Process) → Added st which s c y.name → Owned st y → ((w : Active) → is_active w y ≡ true → w ≡ which) → Rules (with_table st (appended st.table y))
  unfolding appended size
  kept-added which s c y f o only =
      rw (lt-ltb (size st.table) places f.room)
      (rules-append st v y f.room o
      (each-imp₂ (λ x e u. apart-as x y (unnamed y.name x u) which only e) f.free f.unused))

  kept-start : (s : Session) (c : Credential) (name : Name) → Added st (UserOf s c) s c name → Rules (effect st (Start s c name))
  unfolding effect
  kept-start s c name f =
      kept-added (UserOf s c) s c (user_process s c name) f
      (record { owner = f.owner; seated = λ k. f.chosen })
      (only-user s c (user_process s c name) refl refl refl)

  kept-elevate : (s : Session) (c : Credential) (name : Name) (verdict : Bool) → Added st (ElevationIn s) s c name → Rules (effect st (Elevate s c name verdict))
  unfolding effect
  kept-elevate s c name verdict f =
      kept-added (ElevationIn s) s c (elevation s c name) f
      (record { owner = f.owner; seated = λ k. f.chosen })
      (only-elevation s (elevation s c name) refl refl)

  kept-continue : (s : Session) (c : Credential) (name : Name) → Continued st s c name → Rules (effect st (Continue s c name))
  unfolding effect process_at
  kept-continue s c name f =
      let i : ℕ = named_place st name (SavedOf c) in
      let x : Process = get_or (processes st) i free_place in
      let was = saved-of x c (named-among x name (SavedOf c) f.stands.passes) in
      kept-replaced i f.stands.inside (activated s x)
      (record { owner = (owned-at i f.stands.inside).owner; seated = λ k. f.chosen })
      (each-imp₂
      (λ z a e. apart-as z (activated s x) a.names (UserOf s c) (only-user s c (activated s x) refl refl was.credential) e)
      (rest-apart i f.stands.inside)
      (each-remove i f.stands.inside f.free))

  -- ---- the process of a claim
  pub kept-counted : (s : Session) (claim : Claim) → ClaimPassed st s claim → Rules (counted st s claim)
  unfolding counted active_process process_at
  kept-counted s Elevated f = v
  kept-counted s (ByUser u) f =
      let i : ℕ = active_place st (UserOf s u.credential) in
      let x : Process = get_or (processes st) i free_place in
      let was = owned-at i f.stands.inside in
      kept-replaced i f.stands.inside (one_more x)
      (record { owner = was.owner; seated = was.seated })
      (each-imp
      (λ z a. record { names = a.names; alone = λ which h k. a.alone which h (sym (active-more which x) ∙ k) })
      (rest-apart i f.stands.inside))

  -- its end
  kept-ended : (i : ℕ) → i < length (processes st) → (keep : Bool) → Rules (ended st i keep)
  unfolding ended process_at
  kept-ended i h true =
      let x : Process = get_or (processes st) i free_place in
      kept-replaced i h (saved x)
      (record { owner = (owned-at i h).owner; seated = λ k. clash k refl })
      (each-imp (λ z a. apart-saved z (saved x) a.names refl) (rest-apart i h))
  kept-ended i h false = kept-removed i h

-- what stands at a place still stands there after the claim is counted
module _ (st : State) (s : Session) where
  pub stands-counted : (claim : Claim) → ClaimPassed st s claim → (f : Process → Bool) → ((p : Process) → f (one_more p) ≡ f p) → (j : ℕ) → Stands f (processes st) free_place j → Stands f (processes (counted st s claim)) free_place j
  unfolding counted active_process process_at replaced
  stands-counted Elevated a f same j h = h
  stands-counted (ByUser u) a f same j h =
      let i : ℕ = active_place st (UserOf s u.credential) in
      let x : Process = get_or (processes st) i free_place in
      rw (standing-of (set (processes st) i (one_more x))) (stands_set f (processes st) free_place i j (one_more x) (same x) h)

-- ---- a call, with what is known of it where it is accepted
module _ (st : State) (v : Rules st) where
  pub rules-effect : (call : Call) → Facts st call → Rules (effect st call)
  unfolding effect without_session counted
  rules-effect (Open s) f = rules-idle st v s Opened (idle st v s f)
  rules-effect (Close s) f =
      let rest : State = with_table st (table_of (reject (is_active_in s) (processes st))) in
      rules-idle rest (rules-reject st v (is_active_in s)) s Closed (rw (standing-of (reject (is_active_in s) (processes st))) (each_left (is_active_in s) (processes st)))
  rules-effect (Select s byte) f = rules-chosen st v s
  rules-effect (Start s c name) f = kept-start st v s c name f
  rules-effect (Continue s c name) f = kept-continue st v s c name f
  rules-effect (Elevate s c name verdict) f = kept-elevate st v s c name verdict f
  rules-effect (Drop s) f = kept-removed st v (active_place st (ElevationIn s)) f.inside
  rules-effect (End s u keep) f =
      let which : Active = UserOf s u.credential in
      kept-ended (counted st s (ByUser u)) (kept-counted st v s (ByUser u) f) (active_place st which)
      (stands-counted st s (ByUser u) f (is_active which) (active-more which) (active_place st which) f.stands).inside
      keep
  rules-effect (Record s claim class) f = kept-counted st v s claim f
  rules-effect (ListProcesses s claim wanted room) f = kept-counted st v s claim f
  rules-effect (Kill s claim name) f =
      let among : Among = reach (checked st s claim) in
      kept-removed (counted st s claim) (kept-counted st v s claim f.passed) (named_place st name among)
      (stands-counted st s claim f.passed (is_named name among) (named_more name among) (named_place st name among) f.stands).inside
  rules-effect (SetWord s claim c words) f =
      rules-grants (counted st s claim) (kept-counted st v s claim f.passed) c _ refl

-- ---- a call, refused or not: by what it does where it is accepted, and by the claim counted where it is refused after it
module _ (st : State) (call : Call) where
  pub step-accepted : number st call ≡ 0 → step st call ≡ effect st call
  unfolding step
  step-accepted e = ap (λ (o : Outcome). o.state) (outcome-done st call e)

  pub step-refused : (number st call ≡ 0 → ⊥) → step st call ≡ left st call
  unfolding step
  step-refused e = refusal-leaves st call e

  module _ (P : State → Type 0) (p : P st) (c : (s : Session) (claim : Claim) → ClaimPassed st s claim → P (counted st s claim)) where
    by-charged : (w : Protection) → protected_number st w ≡ 0 → P (charged st w)
    unfolding charged protected_number
    by-charged Free e = p
    by-charged (Under s claim) e = c s claim (passed st s claim e)

    by_left : P (left st call)
    unfolding left
    by_left = split (refused_after st call) (λ r. rw r (by-charged (protection call) (after-passed st call r))) (λ r. rw r p)

    pub step_by : (number st call ≡ 0 → P (effect st call)) → P (step st call)
    step_by k =
        split (eqb (number st call) 0)
        (λ e. let z = eqb-true (number st call) 0 e in subst P (sym (step-accepted z)) (k z))
        (λ e. subst P (sym (step-refused (eqb-false (number st call) 0 e))) by_left)

pub rules-step : (st : State) (call : Call) → Rules st → Rules (step st call)
rules-step st call v = step_by st call Rules v (kept-counted st v) (λ z. rules-effect st v call (facts st call z))
