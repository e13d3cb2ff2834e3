-- A call that is not on the list of those that change an image leaves every byte of it as it was; so the image that was written last is that of the state now. Each that is on
-- it changes the rows or sets a word.
-- Assumes nothing.
use Prim.Native.Nat.{ℕ, zero, suc, ◌+◌, ◌<◌}
use mathlib.Core.Path.{◌≡◌, refl, sym, ap, ◌∙◌}
use mathlib.Core.Bool.{Bool, true, false, cond, not, ◌&&◌, ◌||◌}
use mathlib.Core.List.{List, [], ◌∷◌, map}
use native.Mathlib.Nat.{not-suc-le-zero, le_of_suc-le-suc}
use native.Mathlib.Omega.{arith}
use lib.Dec.{eqb}
use lib.ListN.{length, get_or, set, length-map}
use borrow.Author.Tests.{not-true, eqb-true, eqb-false}
use Rattle.lists.specs.Lists.{first_index, select, remove_at}
use Rattle.lists.proofs.Tests.{split, clash, and_left, and_right, and_both}
use Rattle.lists.proofs.Lists.{select-snoc, select-set, select-remove, select-rejected}
use Rattle.lists.proofs.Each.{Stands, found, each-fails, each_at, pairs-at}
use Rattle.names.specs.Names.{same_name}
use Rattle.names.proofs.Laws.{same-iff}
use Rattle.names.specs.declared.Credential.{Credential}
use Rattle.names.specs.declared.Kind.{Kind}
use Rattle.names.specs.declared.Kind.TheVariants.{User, Elevation, Saved}
use Rattle.names.specs.declared.Name.{Name}
use Rattle.names.specs.declared.Session.{Session}
use Rattle.table.specs.Table.{free_place, process_at, is_user, is_elevation, is_saved, is_active, is_active_in, is_among, is_named, appended, replaced, removed}
use Rattle.table.specs.declared.Active.{Active}
use Rattle.table.specs.declared.Active.TheVariants.{UserOf, ElevationIn}
use Rattle.table.specs.declared.Among.{Among}
use Rattle.table.specs.declared.Among.TheVariants.{SavedOf}
use Rattle.table.specs.declared.Process.{Process}
use Rattle.table.proofs.Laws.{standing-appended, standing-replaced, standing-removed, standing-without-session}
use Rattle.table.proofs.Searched.{user-of, elevation-in, named-name, named-among, saved-of}
use Rattle.module_state.specs.Module.{active_place, active_process}
use Rattle.module_state.specs.Claim.{checked}
use Rattle.module_state.specs.declared.Claim.{Claim}
use Rattle.module_state.specs.declared.Claim.TheVariants.{Elevated, ByUser}
use Rattle.module_state.specs.declared.Grants.{Grants}
use Rattle.module_state.specs.declared.State.{State}
use Rattle.module_state.specs.declared.UserClaim.{UserClaim}
use Rattle.calls.specs.Calls.{Call, Open, Close, Drop, Select, Start, Continue, Elevate, End, Record, ListProcesses, Kill, SetWord, number, with_table, user_process, elevation, activated, saved, one_more, named_place, reach, counted, ended, effect}
use Rattle.calls.specs.Run.{step, run}
use Rattle.module_rules.specs.Facts.{processes, Rules}
use Rattle.module_rules.proofs.Laws.{apart-turn}
use Rattle.history.proofs.Facts.{Added, ClaimPassed, Facts, facts}
use Rattle.history.proofs.Keeping.{active-more, named_more, stands-counted, step-accepted, step_by}
use Rattle.image.specs.declared.SavedRow.{SavedRow}
use Rattle.image.specs.Image.{saved_at, is_saved_one, saved_row, saved_of, image_bytes, image_of, state_image}
use Rattle.history_resumed.specs.Changes.{has_saved, touches_image, changes_image, RowsChange, newest}

-- ---- how many elements pass a test where one is replaced or removed
module _ {A : Type 0} (f : A → Bool) where
  count_set : (l : List A) (i : ℕ) (d y : A) → i < length l → length (select f (set l i y)) + cond (f (get_or l i d)) 1 0 ≡ length (select f l) + cond (f y) 1 0
  unfolding select
  count_set [] i d y h = absurd (not-suc-le-zero h)
  count_set (x ∷ l) zero d y h =
      split (f x)
      (λ e. split (f y) (λ k. rw (e, k)) (λ k. rw (e, k) (omega arith)))
      (λ e. split (f y) (λ k. rw (e, k) (omega arith)) (λ k. rw (e, k)))
  count_set (x ∷ l) (suc i) d y h =
      let rest = count_set l i d y (le_of_suc-le-suc h) in
      split (f x) (λ e. rw e (omega (arith, rest))) (λ e. rw e rest)

  count-remove : (l : List A) (i : ℕ) (d : A) → i < length l → length (select f (remove_at i l)) + cond (f (get_or l i d)) 1 0 ≡ length (select f l)
  unfolding select remove_at
  count-remove [] i d h = absurd (not-suc-le-zero h)
  count-remove (x ∷ l) zero d h = split (f x) (λ e. rw e (omega arith)) (λ e. rw e (omega arith))
  count-remove (x ∷ l) (suc i) d h =
      let rest = count-remove l i d (le_of_suc-le-suc h) in
      split (f x) (λ e. rw e (omega (arith, rest))) (λ e. rw e rest)

-- ---- an active process is not in an image
active-unsaved : (which : Active) (p : Process) → is_active which p ≡ true → is_saved_one p ≡ false
active-unsaved (UserOf s c) p e = rw (user-of p s c e).kind
active-unsaved (ElevationIn s) p e = rw (elevation-in p s e).kind

running-unsaved : (k : Kind) (b : Bool) → (is_user k || is_elevation k) && b ≡ true → is_saved k ≡ false
running-unsaved User b e = refl
running-unsaved Elevation b e = refl
running-unsaved Saved b e = clash e refl

session-unsaved : (s : Session) (p : Process) → is_active_in s p ≡ true → is_saved_one p ≡ false
unfolding is_active_in
session-unsaved s p e = running-unsaved p.kind _ e

-- ---- all that an image is written of is the same
record Same (st next : State) : Type 0 where
  pub credentials : next.credentials ≡ st.credentials
  pub saved : saved_of next ≡ saved_of st

same-bytes : {st next : State} → Same st next → state_image next ≡ state_image st
unfolding state_image image_of
same-bytes {st} {next} e =
    ap (λ (l : List Grants). image_bytes (record { offset = saved_at; grants = l; saved = saved_of next })) e.credentials
    ∙ ap (λ (l : List SavedRow). image_bytes (record { offset = saved_at; grants = st.credentials; saved = l })) e.saved

same_then : {st mid next : State} → Same st mid → Same mid next → Same st next
same_then a b = record { credentials = b.credentials ∙ a.credentials; saved = b.saved ∙ a.saved }

module _ (st : State) where
  same-appended : (which : Active) (s : Session) (y : Process) → Added st which s y.credential y.name → is_saved_one y ≡ false → Same st (with_table st (appended st.table y))
  unfolding saved_of
  same-appended which s y f e =
      record { credentials = refl; saved = rw (standing-appended st.table y f.room, select-snoc is_saved_one (processes st) y, e) }

  same-replaced : (i : ℕ) (y : Process) → is_saved_one (get_or (processes st) i free_place) ≡ false → is_saved_one y ≡ false → Same st (with_table st (replaced st.table i y))
  unfolding saved_of
  same-replaced i y e k =
      record { credentials = refl; saved = rw (standing-replaced st.table i y) (ap (map saved_row) (select-set is_saved_one (processes st) i free_place y (λ h. e) (λ h. k))) }

  same-removed : (i : ℕ) → is_saved_one (get_or (processes st) i free_place) ≡ false → Same st (with_table st (removed st.table i))
  unfolding saved_of
  same-removed i e =
      record { credentials = refl; saved = rw (standing-removed st.table i) (ap (map saved_row) (select-remove is_saved_one (processes st) i free_place (λ h. e))) }

  -- order 3's one number is an active process's
  same-counted : (s : Session) (claim : Claim) → ClaimPassed st s claim → Same st (counted st s claim)
  unfolding counted active_process process_at
  same-counted s Elevated f = record { credentials = refl; saved = refl }
  same-counted s (ByUser u) f =
      let which : Active = UserOf s u.credential in
      let x : Process = get_or (processes st) (active_place st which) free_place in
      let e : is_saved_one x ≡ false = active-unsaved which x f.stands.passes in
      same-replaced (active_place st which) (one_more x) e e

-- ---- what an accepted call does
module _ (st : State) where
  -- an end that does not keep
  same_ended : (s : Session) (u : UserClaim) (keep : Bool) → Facts st (End s u keep) → keep ≡ false → Same st (effect st (End s u keep))
  unfolding effect ended
  same_ended s u true f h = clash refl h
  same_ended s u false f h =
      let which : Active = UserOf s u.credential in
      let i : ℕ = active_place st which in
      let mid : State = counted st s (ByUser u) in
      let stands = stands-counted st s (ByUser u) f (is_active which) (active-more which) i f.stands in
      same_then (same-counted st s (ByUser u) f)
      (same-removed mid i (active-unsaved which (get_or (processes mid) i free_place) stands.passes))

  -- a kill of a process that is not saved
  module _ (name : Name) (among : Among) where
    abbrev unsaved_named : Process → Bool
    unsaved_named p = is_named name among p && not (is_saved_one p)

    unsaved-more : (p : Process) → unsaved_named (one_more p) ≡ unsaved_named p
    unsaved-more p = rw (named_more name among p)

    unsaved-named : has_saved st name ≡ false → (i : ℕ) → Stands (is_named name among) (processes st) free_place i → Stands unsaved_named (processes st) free_place i
    unfolding has_saved is_named
    unsaved-named h i f =
        let x : Process = get_or (processes st) i free_place in
        let fails : is_saved_one x && same_name x.name name ≡ false = each_at i free_place f.inside (each-fails (λ p. is_saved_one p && same_name p.name name) (processes st) h) in
        let named : same_name x.name name ≡ true = and_right (is_among among x) (same_name x.name name) f.passes in
        record {
          inside = f.inside;
          passes = split (is_saved_one x) (λ k. clash named (rw k at fails)) (λ k. and_both f.passes (rw k));
        }

  same-killed : (s : Session) (claim : Claim) (name : Name) → Facts st (Kill s claim name) → has_saved st name ≡ false → Same st (effect st (Kill s claim name))
  unfolding effect
  same-killed s claim name f h =
      let among : Among = reach (checked st s claim) in
      let i : ℕ = named_place st name among in
      let mid : State = counted st s claim in
      let x : Process = get_or (processes mid) i free_place in
      let stands = stands-counted st s claim f.passed (unsaved_named name among) (unsaved-more name among) i (unsaved-named name among h i f.stands) in
      same_then (same-counted st s claim f.passed)
      (same-removed mid i (not-true (is_saved_one x) (and_right (is_named name among x) (not (is_saved_one x)) stands.passes)))

  same_effect : (call : Call) → Facts st call → touches_image st call ≡ false → Same st (effect st call)
  unfolding touches_image effect saved_of
  same_effect (Open s) f h = record { credentials = refl; saved = refl }
  same_effect (Close s) f h =
      record {
        credentials = refl;
        saved =
            rw (standing-without-session st.table s)
            (ap (map saved_row) (select-rejected is_saved_one (is_active_in s) (session-unsaved s) (processes st)));
      }
  same_effect (Select s byte) f h = record { credentials = refl; saved = refl }
  same_effect (Start s c name) f h = same-appended st (UserOf s c) s (user_process s c name) f refl
  same_effect (Continue s c name) f h = clash refl h
  same_effect (Elevate s c name verdict) f h = same-appended st (ElevationIn s) s (elevation s c name) f refl
  same_effect (Drop s) f h =
      let i : ℕ = active_place st (ElevationIn s) in
      same-removed st i (active-unsaved (ElevationIn s) (get_or (processes st) i free_place) f.passes)
  same_effect (End s u keep) f h = same_ended s u keep f h
  same_effect (Record s claim class) f h = same-counted st s claim f
  same_effect (ListProcesses s claim wanted room) f h = same-counted st s claim f
  same_effect (Kill s claim name) f h = same-killed s claim name f h
  same_effect (SetWord s claim c words) f h = clash refl h

-- ---- a call, refused or not
pub image-kept : (st : State) (call : Call) → changes_image st call (number st call) ≡ false → state_image (step st call) ≡ state_image st
image-kept st call h =
    same-bytes (step_by st call (Same st) (record { credentials = refl; saved = refl }) (same-counted st) (λ z. same_effect st call (facts st call z) (rw z at h)))

-- so, over any calls, the image that was written last is that of the state now
pub newest-is : (st : State) (calls : List Call) → newest (state_image st) st calls ≡ state_image (run st calls)
unfolding newest run
newest-is st [] = refl
newest-is st (call ∷ calls) =
    split (changes_image st call (number st call))
    (λ e. rw e (newest-is (step st call) calls))
    (λ e. rw (e, ← image-kept st call e) (newest-is (step st call) calls))

-- ---- and each that is on the list, where it is done, changes its rows or sets a word
module _ (st : State) where
  rows_replaced : (i : ℕ) (y : Process) → i < length (processes st) → length (saved_of (with_table st (replaced st.table i y))) + cond (is_saved_one (get_or (processes st) i free_place)) 1 0 ≡ length (saved_of st) + cond (is_saved_one y) 1 0
  unfolding saved_of
  rows_replaced i y h = rw (standing-replaced st.table i y, length-map (select is_saved_one (set (processes st) i y)) saved_row, length-map (select is_saved_one (processes st)) saved_row) (count_set is_saved_one (processes st) i free_place y h)

  rows-removed : (i : ℕ) → i < length (processes st) → length (saved_of (with_table st (removed st.table i))) + cond (is_saved_one (get_or (processes st) i free_place)) 1 0 ≡ length (saved_of st)
  unfolding saved_of
  rows-removed i h = rw (standing-removed st.table i, length-map (select is_saved_one (remove_at i (processes st))) saved_row, length-map (select is_saved_one (processes st)) saved_row) (count-remove is_saved_one (processes st) i free_place h)

module _ (st : State) (v : Rules st) where
  rows-ended : (s : Session) (u : UserClaim) (keep : Bool) → Facts st (End s u keep) → keep ≡ true → length (saved_of (effect st (End s u keep))) ≡ length (saved_of st) + 1
  unfolding effect ended process_at
  rows-ended s u false f h = clash h refl
  rows-ended s u true f h =
      let which : Active = UserOf s u.credential in
      let i : ℕ = active_place st which in
      let mid : State = counted st s (ByUser u) in
      let x : Process = get_or (processes mid) i free_place in
      let stands = stands-counted st s (ByUser u) f (is_active which) (active-more which) i f.stands in
      let rows = rw (active-unsaved which x stands.passes) at (rows_replaced mid i (saved x) stands.inside) in
      omega (arith, rows, ap length (same-counted st s (ByUser u) f).saved)

  rows-continued : (s : Session) (c : Credential) (name : Name) → Facts st (Continue s c name) → length (saved_of st) ≡ length (saved_of (effect st (Continue s c name))) + 1
  unfolding effect process_at
  rows-continued s c name f =
      let i : ℕ = named_place st name (SavedOf c) in
      let x : Process = get_or (processes st) i free_place in
      let was : is_saved_one x ≡ true = rw (saved-of x c (named-among x name (SavedOf c) f.stands.passes)).kind in
      let rows = rw was at (rows_replaced st i (activated s x) f.stands.inside) in
      omega (arith, rows)

  -- the saved process of the name is the one that the kill finds: no other has the name
  kept_there : (name : Name) (among : Among) → has_saved st name ≡ true → (i : ℕ) → Stands (is_named name among) (processes st) free_place i → Stands is_saved_one (processes st) free_place i
  unfolding has_saved
  kept_there name among h i f =
      let l : List Process = processes st in
      let is_it : Process → Bool = λ p. is_saved_one p && same_name p.name name in
      let j : ℕ = first_index is_it l in
      let there : Stands is_it l free_place j = found is_it l free_place h in
      let x : Process = get_or l i free_place in
      let y : Process = get_or l j free_place in
      let is-saved : is_saved_one y ≡ true = and_left (is_saved_one y) (same_name y.name name) there.passes in
      split (eqb i j)
      (λ e. record { inside = f.inside; passes = rw (eqb-true i j e) is-saved })
      (λ e.
      absurd
      ((pairs-at apart-turn i j free_place f.inside there.inside (eqb-false i j e) v.pairs
      ).names
      (ap (λ (n : Name). n.bytes) (named-name x name among f.passes) ∙ sym ((same-iff y.name name).0 (and_right (is_saved_one y) (same_name y.name name) there.passes)))))

  rows-killed : (s : Session) (claim : Claim) (name : Name) → Facts st (Kill s claim name) → has_saved st name ≡ true → length (saved_of st) ≡ length (saved_of (effect st (Kill s claim name))) + 1
  unfolding effect
  rows-killed s claim name f h =
      let among : Among = reach (checked st s claim) in
      let i : ℕ = named_place st name among in
      let mid : State = counted st s claim in
      let stands = stands-counted st s claim f.passed is_saved_one (λ p. refl) i (kept_there name among h i f.stands) in
      let rows = rw stands.passes at (rows-removed mid i stands.inside) in
      omega (arith, rows, ap length (same-counted st s claim f.passed).saved)

  rows-effect : (call : Call) → Facts st call → touches_image st call ≡ true → RowsChange call (length (saved_of st)) (length (saved_of (effect st call)))
  unfolding touches_image
  rows-effect (Open s) f h = clash h refl
  rows-effect (Close s) f h = clash h refl
  rows-effect (Select s byte) f h = clash h refl
  rows-effect (Start s c name) f h = clash h refl
  rows-effect (Continue s c name) f h = rows-continued s c name f
  rows-effect (Elevate s c name verdict) f h = clash h refl
  rows-effect (Drop s) f h = clash h refl
  rows-effect (End s u keep) f h = rows-ended s u keep f h
  rows-effect (Record s claim class) f h = clash h refl
  rows-effect (ListProcesses s claim wanted room) f h = clash h refl
  rows-effect (Kill s claim name) f h = rows-killed s claim name f h
  rows-effect (SetWord s claim c words) f h = unfold effect saved_of in ap length (same-counted st s claim f.passed).saved

  pub rows-changed : (call : Call) → changes_image st call (number st call) ≡ true → RowsChange call (length (saved_of st)) (length (saved_of (step st call)))
  rows-changed call h =
      let z : number st call ≡ 0 = eqb-true (number st call) 0 (and_left (eqb (number st call) 0) (touches_image st call) h) in
      rw (step-accepted st call z) (rows-effect call (facts st call z) (and_right (eqb (number st call) 0) (touches_image st call) h))
