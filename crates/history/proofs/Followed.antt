-- What the table says of a name is what the history tells of it.
-- Assumes nothing.
use Prim.Native.Nat.{ℕ, ◌+◌, ◌<◌}
use mathlib.Core.Path.{◌≡◌, refl, sym, ap, ◌∙◌}
use mathlib.Core.Bool.{Bool, true, false, cond, ◌&&◌, ◌||◌}
use mathlib.Core.List.{◌∷◌}
use native.Mathlib.Numerals.{add-one}
use lib.Dec.{eqb}
use borrow.Author.Tests.{eqb-true, eqb-false}
use lib.ListN.{length, get_or}
use Rattle.lists.specs.Lists.{remove_at}
use Rattle.lists.proofs.Tests.{split, clash}
use Rattle.names.specs.Names.{same_name}
use Rattle.names.specs.declared.Credential.{Credential}
use Rattle.names.specs.declared.Kind.{Kind}
use Rattle.names.specs.declared.Kind.TheVariants.{User, Elevation, Saved}
use Rattle.names.specs.declared.Name.{Name}
use Rattle.names.specs.declared.Session.{Session}
use Rattle.table.specs.Table.{free_place, process_at, is_user, is_elevation, is_active, is_active_in, is_named, appended, replaced, removed}
use Rattle.table.specs.declared.Active.{Active}
use Rattle.table.specs.declared.Active.TheVariants.{UserOf, ElevationIn}
use Rattle.table.specs.declared.Among.{Among}
use Rattle.table.specs.declared.Among.TheVariants.{SavedOf}
use Rattle.table.specs.declared.Process.{Process}
use Rattle.table.proofs.Laws.{standing-appended, standing-replaced, standing-removed, standing-without-session}
use Rattle.table.proofs.Searched.{named-name, named-among, saved-of}
use Rattle.module_state.specs.Module.{has_active, active_place, active_process}
use Rattle.module_state.specs.Claim.{checked}
use Rattle.module_state.specs.declared.Claim.{Claim}
use Rattle.module_state.specs.declared.Claim.TheVariants.{Elevated, ByUser}
use Rattle.module_state.specs.declared.State.{State}
use Rattle.module_state.specs.declared.UserClaim.{UserClaim}
use Rattle.calls.specs.Calls.{Call, Open, Close, Drop, Select, Start, Continue, Elevate, End, Record, ListProcesses, Kill, SetWord, number, with_table, user_process, elevation, activated, saved, one_more, named_place, reach, counted, ended, effect, Protection, Free, Under, protection, protected_number, passes, charged}
use Rattle.calls.specs.Run.{step}
use Rattle.calls.proofs.Cut.{passed-claim, number-done, left-stopped, left_passed}
use Rattle.calls.proofs.Laws.{answer-number}
use Rattle.lists.specs.Each.{Each}
use Rattle.history.specs.Lives.{Life, Gone, Live, SavedBy, counts, charges, tells_passed, with_claim, onward, down}
use Rattle.history.specs.History.{ends, shuts, drops, resumes, after, event_of, event}
use Rattle.history.specs.Demand.{life, life_of, look}
use Rattle.module_rules.specs.Facts.{processes, Rules}
use Rattle.lists.proofs.Each.{Stands, each-fails, each-imp, each_all, pairs-imp}
use Rattle.history.proofs.Facts.{Added, Continued, ActiveStands, ClaimPassed, Facts, facts, passed}
use Rattle.history.proofs.Read.{reading}
use Rattle.history.proofs.Keeping.{active-more, named_more, unnamed, rest-apart, kept-counted, stands-counted, step-accepted, step-refused}
use Rattle.history.proofs.Looked.{Distinct, Fixed, look-fixed, is_name, other_name, look-set, look-remove, look-reject, look-append}

-- ---- what an automaton's step does to a process's life, at the process that is meant and at another
module _ (s : Session) (u : UserClaim) (t : Session) (d : Credential) (i : ℕ) where
  counts-other : (k : Kind) → is_user k && eqb t.0 s.0 && eqb d.0 u.credential.0 ≡ false → counts s (ByUser u) (life k t d i) ≡ life k t d i
  unfolding counts
  counts-other User h = ap (λ b. Live t d (cond b (u.number ∷ down i) (down i))) h
  counts-other Elevation h = refl
  counts-other Saved h = refl

  counts-own : (k : Kind) → is_user k && eqb t.0 s.0 && eqb d.0 u.credential.0 ≡ true → u.number ≡ i → counts s (ByUser u) (life k t d i) ≡ life k t d (i + 1)
  unfolding counts
  counts-own User h e = ap (λ b. Live t d (cond b (u.number ∷ down i) (down i))) h ∙ rw (e, add-one)
  counts-own Elevation h e = clash h refl
  counts-own Saved h e = clash h refl

module _ (s : Session) (c : Credential) (keep : Bool) (t : Session) (d : Credential) (i : ℕ) where
  ends-other : (k : Kind) → is_user k && eqb t.0 s.0 && eqb d.0 c.0 ≡ false → ends s c keep (life k t d i) ≡ life k t d i
  unfolding ends
  ends-other User h = ap (λ b. cond b (cond keep (SavedBy d (down i)) Gone) (Live t d (down i))) h
  ends-other Elevation h = refl
  ends-other Saved h = refl

  ends-own : (k : Kind) → is_user k && eqb t.0 s.0 && eqb d.0 c.0 ≡ true → ends s c keep (life k t d i) ≡ cond keep (SavedBy d (down i)) Gone
  unfolding ends
  ends-own User h = ap (λ b. cond b (cond keep (SavedBy d (down i)) Gone) (Live t d (down i))) h
  ends-own Elevation h = clash h refl
  ends-own Saved h = clash h refl

module _ (s : Session) (t : Session) (d : Credential) (i : ℕ) where
  shuts-is : (k : Kind) → shuts s (life k t d i) ≡ cond ((is_user k || is_elevation k) && eqb t.0 s.0) Gone (life k t d i)
  unfolding shuts
  shuts-is User = refl
  shuts-is Elevation = refl
  shuts-is Saved = refl

  drops-is : (k : Kind) → drops s (life k t d i) ≡ cond (is_elevation k && eqb t.0 s.0) Gone (life k t d i)
  unfolding drops
  drops-is User = refl
  drops-is Elevation = refl
  drops-is Saved = refl

  resumes-saved : (k : Kind) → k ≡ Saved → resumes s (life k t d i) ≡ Live s d (down i)
  unfolding resumes
  resumes-saved k e = rw e

module _ (n : Name) (st : State) (v : Rules st) where
  -- ---- the others: of other names, and none the active process that is meant
  module _ (i : ℕ) (h : i < length (processes st)) where
    rest-distinct : Each (λ x. Distinct x (get_or (processes st) i free_place)) (remove_at i (processes st))
    rest-distinct = each-imp (λ x a. a.names) (rest-apart st v i h)

    rest-free : (which : Active) → is_active which (get_or (processes st) i free_place) ≡ true → Each (λ x. is_active which x ≡ false) (remove_at i (processes st))
    rest-free which e =
        each-imp (λ x a. split (is_active which x) (λ k. absurd (a.alone which k e)) (λ k. k)) (rest-apart st v i h)

  -- ---- a new process
  follows-added : (which : Active) (s : Session) (c : Credential) (y : Process) → Added st which s c y.name → look n (processes (with_table st (appended st.table y))) ≡ cond (same_name y.name n) (life_of y) (look n (processes st))
  follows-added which s c y f =
      rw (standing-appended st.table y f.room)
      (look-append n (λ o. cond (same_name y.name n) (life_of y) o) (processes st) y refl
      (each-imp (λ x e q. rw (other_name n x y.name (unnamed y.name x e) q)) f.unused))

  -- ---- a close
  follows-close : (s : Session) → look n (processes (effect st (Close s))) ≡ shuts s (look n (processes st))
  unfolding effect is_active_in shuts
  follows-close s =
      rw (standing-without-session st.table s)
      (look-reject n (shuts s) refl (is_active_in s) (processes st)
      (pairs-imp (λ p q a. a.names) v.pairs)
      (each_all (processes st) (λ p. shuts-is s p.session p.credential p.next p.kind)))

  -- ---- a process replaced, and removed
  module _ (g : Life → Life) (z : g Gone ≡ Gone) (i : ℕ) (h : i < length (processes st)) where
    follows-replaced : (y : Process) → (get_or (processes st) i free_place).name ≡ y.name → (same_name y.name n ≡ true → g (life_of (get_or (processes st) i free_place)) ≡ life_of y) → Each (Fixed n g) (remove_at i (processes st)) → look n (processes (with_table st (replaced st.table i y))) ≡ g (look n (processes st))
    follows-replaced y e k r =
        rw (standing-replaced st.table i y)
        (look-set n g z (processes st) i free_place y h (ap (λ m. same_name m n) e) k r)

    follows-removed : (same_name (get_or (processes st) i free_place).name n ≡ true → g (life_of (get_or (processes st) i free_place)) ≡ Gone) → Each (Fixed n g) (remove_at i (processes st)) → look n (processes (with_table st (removed st.table i))) ≡ g (look n (processes st))
    follows-removed k r =
        rw (standing-removed st.table i)
        (look-remove n g z (processes st) i free_place h k (rest-distinct i h) r)

  -- ---- a continue
  follows-continue : (s : Session) (c : Credential) (name : Name) → Continued st s c name → look n (processes (effect st (Continue s c name))) ≡ cond (same_name name n) (resumes s (look n (processes st))) (look n (processes st))
  unfolding effect process_at resumes
  follows-continue s c name f =
      let i : ℕ = named_place st name (SavedOf c) in
      let x : Process = get_or (processes st) i free_place in
      let m : x.name ≡ name = named-name x name (SavedOf c) f.stands.passes in
      let k = (saved-of x c (named-among x name (SavedOf c) f.stands.passes)).kind in
      follows-replaced
      (λ o. cond (same_name name n) (resumes s o) o)
      (split (same_name name n) (λ e. rw e) (λ e. rw e))
      i
      f.stands.inside
      (activated s x)
      refl
      (λ q. rw (is_name n x name (ap (λ (a : Name). a.bytes) m) q) (resumes-saved s x.session x.credential x.next x.kind k))
      (each-imp (λ p d q. rw (other_name n p name (rw m at d) q)) (rest-distinct i f.stands.inside))

  -- ---- a drop
  follows-drop : (s : Session) → ActiveStands st (ElevationIn s) → look n (processes (effect st (Drop s))) ≡ drops s (look n (processes st))
  unfolding effect is_active drops
  follows-drop s f =
      let i : ℕ = active_place st (ElevationIn s) in
      let x : Process = get_or (processes st) i free_place in
      follows-removed
      (drops s)
      refl
      i
      f.inside
      (λ q. drops-is s x.session x.credential x.next x.kind ∙ rw f.passes)
      (each-imp (λ p e q. drops-is s p.session p.credential p.next p.kind ∙ rw e) (rest-free i f.inside (ElevationIn s) f.passes))

  -- ---- a claim
  pub follows-counted : (s : Session) (claim : Claim) → ClaimPassed st s claim → look n (processes (counted st s claim)) ≡ counts s claim (look n (processes st))
  unfolding counted counts active_process process_at is_active
  follows-counted s Elevated f = refl
  follows-counted s (ByUser u) f =
      let which : Active = UserOf s u.credential in
      let i : ℕ = active_place st which in
      let x : Process = get_or (processes st) i free_place in
      follows-replaced
      (counts s (ByUser u))
      refl
      i
      f.stands.inside
      (one_more x)
      refl
      (λ q. counts-own s u x.session x.credential x.next x.kind f.stands.passes f.number)
      (each-imp (λ p e q. counts-other s u p.session p.credential p.next p.kind e) (rest-free i f.stands.inside which f.stands.passes))

  -- the end of the process at a place
  follows-ended : (s : Session) (c : Credential) (i : ℕ) → Stands (is_active (UserOf s c)) (processes st) free_place i → (keep : Bool) → look n (processes (ended st i keep)) ≡ ends s c keep (look n (processes st))
  unfolding ended ends process_at is_active
  follows-ended s c i f true =
      let x : Process = get_or (processes st) i free_place in
      follows-replaced
      (ends s c true)
      refl
      i
      f.inside
      (saved x)
      refl
      (λ q. ends-own s c true x.session x.credential x.next x.kind f.passes)
      (each-imp (λ p e q. ends-other s c true p.session p.credential p.next p.kind e) (rest-free i f.inside (UserOf s c) f.passes))
  follows-ended s c i f false =
      let x : Process = get_or (processes st) i free_place in
      follows-removed
      (ends s c false)
      refl
      i
      f.inside
      (λ q. ends-own s c false x.session x.credential x.next x.kind f.passes)
      (each-imp (λ p e q. ends-other s c false p.session p.credential p.next p.kind e) (rest-free i f.inside (UserOf s c) f.passes))

  -- the process of a name removed
  follows-killed : (name : Name) (among : Among) (i : ℕ) → Stands (is_named name among) (processes st) free_place i → look n (processes (with_table st (removed st.table i))) ≡ cond (same_name name n) Gone (look n (processes st))
  follows-killed name among i f =
      let x : Process = get_or (processes st) i free_place in
      let m : x.name ≡ name = named-name x name among f.passes in
      follows-removed
      (λ o. cond (same_name name n) Gone o)
      (split (same_name name n) (λ e. rw e) (λ e. rw e))
      i
      f.inside
      (λ q. rw (is_name n x name (ap (λ (a : Name). a.bytes) m) q))
      (each-imp (λ p d q. rw (other_name n p name (rw m at d) q)) (rest-distinct i f.inside))

-- ---- a call, with what is known of it where it is accepted: what becomes of a process once the claim is counted
module _ (n : Name) (st : State) (v : Rules st) where
  follows : (call : Call) → Facts st call → after call n (look n (processes (charged st (protection call)))) ≡ look n (processes (effect st call))
  unfolding effect after charged protection
  follows (Open s) f = refl
  follows (Close s) f = sym (follows-close n st v s)
  follows (Select s byte) f = refl
  follows (Start s c name) f = sym (follows-added n st v (UserOf s c) s c (user_process s c name) f)
  follows (Continue s c name) f = sym (follows-continue n st v s c name f)
  follows (Elevate s c name verdict) f = sym (follows-added n st v (ElevationIn s) s c (elevation s c name) f)
  follows (Drop s) f = sym (follows-drop n st v s f)
  follows (End s u keep) f =
      let which : Active = UserOf s u.credential in
      sym
      (follows-ended n (counted st s (ByUser u)) (kept-counted st v s (ByUser u) f) s u.credential (active_place st which)
      (stands-counted st s (ByUser u) f (is_active which) (active-more which) (active_place st which) f.stands)
      keep)
  follows (Record s claim class) f = refl
  follows (ListProcesses s claim wanted room) f = refl
  follows (Kill s claim name) f =
      let among : Among = reach (checked st s claim) in
      sym
      (follows-killed n (counted st s claim) (kept-counted st v s claim f.passed) name among (named_place st name among)
      (stands-counted st s claim f.passed (is_named name among) (named_more name among) (named_place st name among) f.stands))
  follows (SetWord s claim c words) f = refl

-- ---- the claim of a call, by what is told of it: its number, and whether the claim passed
module _ (n : Name) (st : State) (v : Rules st) where
  abbrev was : Life
  was = look n (processes st)

  -- a claim of no process that stands
  idle-counts : (s : Session) (u : UserClaim) → has_active st (UserOf s u.credential) ≡ false → counts s (ByUser u) was ≡ was
  unfolding has_active is_active counts
  idle-counts s u h =
      sym
      (look-fixed n (counts s (ByUser u)) refl (processes st)
      (each-imp (λ p e q. counts-other s u p.session p.credential p.next p.kind e) (each-fails (is_active (UserOf s u.credential)) (processes st) h)))

  either_way : (b : Bool) (o : Life) → cond b o o ≡ o
  either_way true o = refl
  either_way false o = refl

  -- one that passed is counted, and one that did not is not
  claim-counted : (w : Protection) → protected_number st w ≡ 0 → charges w was ≡ look n (processes (charged st w))
  unfolding charges charged protected_number
  claim-counted Free e = refl
  claim-counted (Under s claim) e = sym (follows-counted n st v s claim (passed st s claim e))

  -- where its process stands the number tells whether it passed; where none stands, there is nothing to count
  abbrev Reads : Protection → ℕ → Bool → Type 0
  Reads w k p = (s : Session) (u : UserClaim) → w ≡ Under s (ByUser u) → has_active st (UserOf s u.credential) ≡ true → tells_passed k ≡ p

  charge-told : (w : Protection) (k : ℕ) (p : Bool) → Reads w k p → cond (tells_passed k) (charges w was) was ≡ cond p (charges w was) was
  unfolding charges counts
  charge-told Free k p r = either_way (tells_passed k) was ∙ sym (either_way p was)
  charge-told (Under s Elevated) k p r = either_way (tells_passed k) was ∙ sym (either_way p was)
  charge-told (Under s (ByUser u)) k p r =
      split (has_active st (UserOf s u.credential))
      (λ h. rw (r s u refl h))
      (λ h. rw (idle-counts s u h) (either_way (tells_passed k) was ∙ sym (either_way p was)))

  pub follows-claim : (w : Protection) (k : ℕ) (p : Bool) → (p ≡ true → protected_number st w ≡ 0) → Reads w k p → cond (tells_passed k) (charges w was) was ≡ look n (processes (cond p (charged st w) st))
  follows-claim w k p clear r =
      charge-told w k p r ∙ split p (λ e. rw e (claim-counted w (clear e))) (λ e. rw e)

-- ---- a call, refused or not
module _ (n : Name) (st : State) (v : Rules st) where
  claim-follows : (call : Call) → with_claim (event_of call (number st call)) (look n (processes st)) ≡ look n (processes (cond (passes st call) (charged st (protection call)) st))
  unfolding with_claim
  claim-follows call =
      follows-claim n st v (protection call) (number st call) (passes st call) (passed-claim st call) (λ s u w h. reading st v call s u w h)

  pub follows-step : (call : Call) → onward n (event st call) (look n (processes st)) ≡ look n (processes (step st call))
  unfolding onward
  follows-step call =
      split (eqb (number st call) 0)
      (λ e.
      let z = eqb-true (number st call) 0 e in
      rw (answer-number st call, e, step-accepted st call z, claim-follows call, number-done st call z) (follows n st v call (facts st call z)))
      (λ e.
      let z = eqb-false (number st call) 0 e in
      rw (answer-number st call, e, step-refused st call z, claim-follows call)
      (split (passes st call) (λ p. rw (p, left_passed st call p z)) (λ p. rw (p, left-stopped st call p))))
