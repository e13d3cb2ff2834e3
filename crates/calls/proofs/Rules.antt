-- The laws that close the needs of the calls' functions, in the crates above this one, by `search rules`.
-- Assumes nothing.
use Rattle.std.specs.Prelude.{Option, Some, None, Result, Ok, Err}
use Prim.Native.Nat.{ℕ, ◌+◌, ◌*◌, ◌<◌, ◌≤◌}
use mathlib.Core.Path.{◌≡◌, refl, sym, ap, ◌∙◌}
use mathlib.Core.Bool.{Bool, true, false}
use mathlib.Core.List.{List, []}
use native.Mathlib.Omega.{arith}
use lib.Dec.{eqb, leb}
use lib.ListN.{length, get_or, set, length-map}
use lib.Seq.{set_out}
use borrow.Author.Tests.{eqb-false}
use mir.Val.{Fits}
use mir.Syntax.{w16, w64}
use Rattle.lists.proofs.Loops.{Mapped, mapped-none, mapped-more, mapped-all}
use Rattle.names.specs.Names.{row_length}
use Rattle.names.specs.declared.Credential.{Credential}
use Rattle.names.specs.declared.Name.{Name}
use Rattle.names.specs.declared.Session.{Session}
use Rattle.table.specs.Table.{places, standing, size, table_of, process_at, is_active, is_named, first_place, count_among, appended, replaced, removed, without_session}
use Rattle.table.specs.declared.Active.{Active}
use Rattle.table.specs.declared.Active.TheVariants.{UserOf, ElevationIn}
use Rattle.table.specs.declared.Among.{Among}
use Rattle.table.specs.declared.Among.TheVariants.{SavedOf}
use Rattle.table.specs.declared.Process.{Process}
use Rattle.table.specs.declared.Table.{Table}
use Rattle.table.proofs.Laws.{count-few}
use Rattle.table.proofs.Searched.{found_at, found_none, count-chosen}
use Rattle.module_state.specs.Numbers.{◌▸◌}
use Rattle.module_state.specs.Module.{session_count, credential_count, granted, unprovisioned, words_of, closed_module, has_active, active_place, active_process, taken}
use Rattle.module_state.specs.Claim.{is_spent, sought, placed, checked}
use Rattle.module_state.specs.Refusals.{number_of, placed_in}
use Rattle.module_state.specs.declared.Checked.{Checked}
use Rattle.module_state.specs.declared.Placed.{Placed}
use Rattle.module_state.specs.declared.Claim.{Claim}
use Rattle.module_state.specs.declared.Claim.TheVariants.{Elevated, ByUser}
use Rattle.module_state.specs.declared.Class.{Class}
use Rattle.module_state.specs.declared.Grants.{Grants}
use Rattle.module_state.specs.declared.Phase.{Phase}
use Rattle.module_state.specs.declared.Phase.TheVariants.{Closed, Opened, Chosen}
use Rattle.module_state.specs.declared.Refusal.{Refusal}
use Rattle.module_state.specs.declared.State.{State}
use Rattle.module_state.specs.declared.UserClaim.{UserClaim}
use Rattle.module_state.specs.declared.Words.{Words}
use Rattle.module_state.proofs.Laws.{clear_first, clear-rest, stop, pass, rows, passed-user, checked-number, checked-place}
use Rattle.module_state.proofs.Rules.{rules as claim-rules, nonzero}
use Rattle.calls.specs.declared.Answer.TheVariants.{Done, Refused}
use Rattle.calls.specs.declared.Listed.{Listed}
use Rattle.calls.specs.declared.Outcome.{Outcome}
use Rattle.calls.specs.declared.Wanted.{Wanted}
use Rattle.calls.specs.Listing.{head_length, among_of, rows_of, message_length}
use Rattle.calls.specs.Calls.{Call, Open, Close, Select, Start, Continue, Elevate, Drop, End, Record, ListProcesses, Kill, SetWord, is_version, is_full, has_named, named_place, reach, Protection, Free, protection, Tests, end_tests, record_tests, list_tests, kill_tests, set_word_tests, tests, asked, number, with_table, with_phase, with_grants, user_process, elevation, activated, saved, one_more, counted, ended, effect, left, refusal, outcome, length_in, measured_in, measured, listed, fresh}
use Rattle.calls.specs.declared.Measured.{Measured}
use Rattle.calls.proofs.Cut.{left-free}
use Rattle.calls.proofs.Laws.{outcome-done, outcome-refused, number_by}

-- ---- a call: refused with its number, or done
module _ (st : State) (call : Call) {n : ℕ} {r : Outcome} (e : n ≡ number st call) where
  pub refused_as : (n ≡ 0 → ⊥) → {w : Protection} {x : State} → protection call ≡ w → x ≡ left st call → r ≡ record { state = x; answer = refusal w n } → r ≡ outcome st call
  refused_as h p l q = q ∙ rw (outcome-refused st call (λ z. h (e ∙ z)), ← e, p, l)

  -- one without a claim leaves the state as it was
  pub by-refusal : (n ≡ 0 → ⊥) → protection call ≡ Free → r ≡ record { state = st; answer = Refused n } → r ≡ outcome st call
  unfolding refusal
  by-refusal h p q = refused_as h p (sym (left-free st call p)) q

  pub by-effect : {x : State} → n ≡ 0 → r ≡ record { state = x; answer = Done } → x ≡ effect st call → r ≡ outcome st call
  by-effect z w q = w ∙ rw (outcome-done st call (sym e ∙ z), q)

-- ---- two and three tests that were asked together, with others behind them
module _ {n : ℕ} (a b m : ℕ) (e : n ≡ a ▸ b) where
  pub both-stop : (n ≡ 0 → ⊥) → n ≡ a ▸ b ▸ m
  both-stop h = e ∙ sym (stop m (λ z. h (e ∙ z))) ∙ rows a b m

  pub both-pass : {r : ℕ} → n ≡ 0 → r ≡ m → r ≡ a ▸ b ▸ m
  both-pass z q = q ∙ sym (pass m (sym e ∙ z)) ∙ rows a b m

module _ {n : ℕ} (a b c m : ℕ) (e : n ≡ a ▸ b ▸ c) where
  together : (a ▸ b ▸ c) ▸ m ≡ a ▸ b ▸ c ▸ m
  together = rows a (b ▸ c) m ∙ ap (λ (x : ℕ). a ▸ x) (rows b c m)

  pub known-stop : (n ≡ 0 → ⊥) → n ≡ a ▸ b ▸ c ▸ m
  known-stop h = e ∙ sym (stop m (λ z. h (e ∙ z))) ∙ together

  pub known-pass : {r : ℕ} → n ≡ 0 → r ≡ m → r ≡ a ▸ b ▸ c ▸ m
  known-pass z q = q ∙ sym (pass m (sym e ∙ z)) ∙ together

-- ---- the state with one part changed
pub phase-outside : (st : State) (s : Session) (phase : Phase) → length st.sessions ≡ session_count → session_count ≤ s.0 → st ≡ with_phase st s phase
phase-outside st s phase h k = rw (set_out st.sessions s.0 (record { phase = phase }) (omega arith))

pub grants-outside : (st : State) (c : Credential) (grants : Grants) → length st.credentials ≡ credential_count → credential_count ≤ c.0 → st ≡ with_grants st c grants
grants-outside st c grants h k = rw (set_out st.credentials c.0 grants (omega arith))

-- ---- what the tests ask of the table
module _ (st : State) (which : Active) {f : Option ℕ} (e : f ≡ first_place (is_active which) (standing st.table)) where
  pub active-none : f ≡ None → false ≡ has_active st which
  unfolding has_active
  active-none q = sym (found_none (is_active which) (standing st.table) (sym e ∙ q)).none

  pub active-some : {k : ℕ} → f ≡ Some k → true ≡ has_active st which
  unfolding has_active
  active-some q = sym (found_at (is_active which) (standing st.table) (sym e ∙ q)).some

module _ (st : State) (name : Name) (among : Among) {f : Option ℕ} (e : f ≡ first_place (is_named name among) (standing st.table)) where
  pub named_none : f ≡ None → false ≡ has_named st name among
  unfolding has_named
  named_none q = sym (found_none (is_named name among) (standing st.table) (sym e ∙ q)).none

  pub named_some : {k : ℕ} → f ≡ Some k → true ≡ has_named st name among
  unfolding has_named
  named_some q = sym (found_at (is_named name among) (standing st.table) (sym e ∙ q)).some

-- the place that tests answer
pub place-is : (r : Result ℕ Refusal) (m at : ℕ) {k : ℕ} → placed_in r ≡ placed m at → r ≡ Ok k → k ≡ at
unfolding placed
place-is r m at {k} e q =
    let p : ◌≡◌ {A = Placed} (record { number = 0; place = k }) (placed m at) = sym (ap placed_in q) ∙ e in
    let z : 0 ≡ m = ap (λ (p : Placed). p.number) p in
    ap (λ (p : Placed). p.place) p ∙ rw (← z)

pub full_is : (st : State) {n : ℕ} → n ≡ size st.table → leb places n ≡ is_full st
unfolding is_full
full_is st e = rw e

-- ---- the other tests
pub version-is : (byte : ℕ) → eqb byte 0x10 ≡ is_version byte
unfolding is_version
version-is byte = refl

-- no test ahead of the claim's
pub none_ahead : (m : ℕ) {r : ℕ} → r ≡ m → r ≡ 0 ▸ m
unfolding ◌▸◌
none_ahead m e = e

-- ---- the listing's length
module _ (st : State) (wanted : Wanted) {among : Among} {n : ℕ} (a : among ≡ among_of wanted) (e : n ≡ count_among st.table among) where
  few : length st.table.places ≡ places → n ≤ places
  few h = omega (arith, count-few st.table h among)

  pub length-fits : length st.table.places ≡ places → Fits w64 (row_length * n)
  length-fits h = omega (arith, few h)

  pub length_whole : (k : ℕ) → k ≤ 64 → length st.table.places ≡ places → Fits w64 (k + row_length * n)
  length_whole k small h = omega (arith, few h)

  pub length-is : head_length + row_length * n ≡ message_length (length (rows_of st wanted))
  unfolding message_length rows_of
  length-is = rw (length-map, ← a, ← count-chosen st.table among, e)

-- ---- the claim counted
module _ (st : State) (s : Session) where
  module _ (u : UserClaim) {by : Checked} (e : by ≡ checked st s (ByUser u)) (z : by.number ≡ 0) where
    unspent : is_spent (active_process st (UserOf s u.credential)).next ≡ false
    unspent = (passed-user st s u (sym (checked-number st s (ByUser u) e) ∙ z)).unspent

    pub claim-place : by.place ≡ active_place st (UserOf s u.credential)
    unfolding sought
    claim-place = checked-place st s (ByUser u) e z

    pub next_fits : {p : Process} → p ≡ process_at st.table by.place → p.next < 65536 → Fits w16 (p.next + 1)
    unfolding is_spent active_process
    next_fits {p} q f =
        let h : p ≡ active_process st (UserOf s u.credential) = q ∙ ap (process_at st.table) claim-place in
        let g : p.next ≡ 65535 → ⊥ = eqb-false p.next 65535 (ap (λ (x : Process). is_spent x.next) h ∙ unspent) in
        omega (arith, g)

    pub counted_is : {p : Process} {t : Table} {r : State} → p ≡ process_at st.table by.place → t ≡ replaced st.table by.place (one_more p) → r ≡ with_table st t
        → r ≡ counted st s (ByUser u)
    unfolding counted active_process
    counted_is b c d = d ∙ rw (c, b, claim-place)

  module _ {claim : Claim} where
    pub counted-elevated : claim ≡ Elevated → st ≡ counted st s claim
    unfolding counted
    counted-elevated e = rw e

    pub checked-user : (u : UserClaim) {by : Checked} → claim ≡ ByUser u → by ≡ checked st s claim → by ≡ checked st s (ByUser u)
    checked-user u e z = rw (← e) z

-- ---- the process at a place saved or removed
module _ (st : State) (at : ℕ) {keep : Bool} {t : Table} {r : State} where
  pub ended-kept : {p q : Process} → keep ≡ true → p ≡ process_at st.table at → q ≡ saved p → t ≡ replaced st.table at q → r ≡ with_table st t → r ≡ ended st at keep
  unfolding ended
  ended-kept k a b c d = d ∙ rw (c, b, a, k)

  pub ended-removed : keep ≡ false → t ≡ removed st.table at → r ≡ with_table st t → r ≡ ended st at keep
  unfolding ended
  ended-removed k c d = d ∙ rw (c, k)

-- ---- a fresh module
pub taken_is : (pair : Grants) {words : Words} → words ≡ words_of pair → ◌≡◌ {A = Grants} (record { provisioned = pair.provisioned; words = words }) (taken pair)
unfolding taken
taken_is pair e = rw e

pub take_on : {l₀ l : List Grants} {i : ℕ} {g : Grants} → Mapped taken l₀ l i → length l₀ ≡ credential_count → i < credential_count → g ≡ taken (get_or l i unprovisioned) → Mapped taken l₀ (set l i g) (i + 1)
take_on v h k e = rw e (mapped-more v unprovisioned (omega arith))

pub fresh-is : {pairs l : List Grants} {i : ℕ} {t : Table} → Mapped taken pairs l i → length pairs ≡ credential_count → credential_count ≤ i → t ≡ table_of [] → {st : State} → st ≡ closed_module l t → st ≡ fresh pairs
unfolding fresh
fresh-is v h k e q = q ∙ rw (mapped-all v (omega arith), e)

-- ---- what each call does, as its code puts it together
module _ (st : State) {x : State} where
  pub effect-open : (s : Session) → x ≡ with_phase st s Opened → x ≡ effect st (Open s)
  unfolding effect
  effect-open s e = e

  pub effect-select : (s : Session) (byte : ℕ) → x ≡ with_phase st s Chosen → x ≡ effect st (Select s byte)
  unfolding effect
  effect-select s byte e = e

  pub effect-close : (s : Session) {t : Table} {y : State} → t ≡ without_session st.table s → y ≡ with_table st t → x ≡ with_phase y s Closed → x ≡ effect st (Close s)
  unfolding effect
  effect-close s a b c = c ∙ rw (b, a)

  module _ {t : Table} (w : x ≡ with_table st t) where
    pub effect-start : (s : Session) (c : Credential) (name : Name) {p : Process} → p ≡ user_process s c name → t ≡ appended st.table p → x ≡ effect st (Start s c name)
    unfolding effect
    effect-start s c name a b = w ∙ rw (b, a)

    pub effect-elevate : (s : Session) (c : Credential) (name : Name) (verdict : Bool) {p : Process} → p ≡ elevation s c name → t ≡ appended st.table p → x ≡ effect st (Elevate s c name verdict)
    unfolding effect
    effect-elevate s c name verdict a b = w ∙ rw (b, a)

    pub effect-continue : (s : Session) (c : Credential) (name : Name) {at : ℕ} {p q : Process}
        → at ≡ named_place st name (SavedOf c) → p ≡ process_at st.table at → q ≡ activated s p → t ≡ replaced st.table at q
        → x ≡ effect st (Continue s c name)
    unfolding effect
    effect-continue s c name a b d e = w ∙ rw (e, d, b, a)

    pub effect-drop : (s : Session) {at : ℕ} → at ≡ active_place st (ElevationIn s) → t ≡ removed st.table at → x ≡ effect st (Drop s)
    unfolding effect
    effect-drop s a b = w ∙ rw (b, a)

  module _ {y : State} where
    pub effect-end : (s : Session) (u : UserClaim) (keep : Bool) {by : Checked} → by ≡ checked st s (ByUser u) → by.number ≡ 0
        → y ≡ counted st s (ByUser u) → x ≡ ended y by.place keep → x ≡ effect st (End s u keep)
    unfolding effect
    effect-end s u keep e z b c = c ∙ rw (b, claim-place st s u e z)

    module _ (s : Session) (claim : Claim) (e : y ≡ counted st s claim) where
      pub effect-kill : (name : Name) {by : Checked} {at : ℕ} {t : Table}
          → by ≡ checked st s claim → at ≡ named_place st name (reach by) → t ≡ removed y.table at → x ≡ with_table y t
          → x ≡ effect st (Kill s claim name)
      unfolding effect
      effect-kill name a d f g = g ∙ rw (f, d, a, e)

      pub effect-set-word : (c : Credential) (words : Words) → x ≡ with_grants y c (granted words) → x ≡ effect st (SetWord s claim c words)
      unfolding effect
      effect-set-word c words a = a ∙ rw e

  pub effect-record : (s : Session) (claim : Claim) (class : Class) → x ≡ counted st s claim → x ≡ effect st (Record s claim class)
  unfolding effect
  effect-record s claim class e = e

-- ---- the number of a protected call, by what the check of its claim came to; and that the claim passed, where it is 0
module _ (st : State) (s : Session) (claim : Claim) {by : Checked} (e : by ≡ checked st s claim) where
  pub record-number : {n : ℕ} (class : Class) → n ≡ asked (record_tests class) by → n ≡ number st (Record s claim class)
  unfolding tests protection
  record-number class q = number_by st (Record s claim class) refl e q

  pub set-word-number : {n : ℕ} (c : Credential) (words : Words) → n ≡ asked (set_word_tests st c) by → n ≡ number st (SetWord s claim c words)
  unfolding tests protection
  set-word-number c words q = number_by st (SetWord s claim c words) refl e q

  pub kill-number : (r : Result ℕ Refusal) (name : Name) → placed_in r ≡ placed (asked (kill_tests st name) by) (named_place st name (reach by)) → number_of r ≡ number st (Kill s claim name)
  unfolding tests protection placed
  kill-number r name q = ap (λ (p : Placed). p.number) q ∙ number_by st (Kill s claim name) refl e refl

  pub list-number : (r : Result ℕ Refusal) (wanted : Wanted) (room : ℕ) → measured_in r ≡ measured (asked (list_tests st wanted room) by) (message_length (length (rows_of st wanted)))
      → number_of r ≡ number st (ListProcesses s claim wanted room)
  unfolding tests protection measured
  list-number r wanted room q = ap (λ (m : Measured). m.number) q ∙ number_by st (ListProcesses s claim wanted room) refl e refl

pub end-number : (st : State) (s : Session) (u : UserClaim) {by : Checked} → by ≡ checked st s (ByUser u) → (r : Result ℕ Refusal) (keep : Bool) (at : ℕ)
    → placed_in r ≡ placed (asked (end_tests keep) by) at → number_of r ≡ number st (End s u keep)
unfolding tests protection placed
end-number st s u e r keep at q = ap (λ (p : Placed). p.number) q ∙ number_by st (End s u keep) refl e refl

module _ (by : Checked) (t : Tests) where
  pub asked-clear : {n : ℕ} → n ≡ asked t by → n ≡ 0 → by.number ≡ 0
  unfolding asked
  asked-clear e z = clear_first _ _ (clear-rest _ _ (sym e ∙ z))

  pub placed-clear : (r : Result ℕ Refusal) (at : ℕ) → placed_in r ≡ placed (asked t by) at → number_of r ≡ 0 → by.number ≡ 0
  unfolding placed
  placed-clear r at e z = asked-clear (ap (λ (p : Placed). p.number) e) z

  pub measured-clear : (r : Result ℕ Refusal) (long : ℕ) → measured_in r ≡ measured (asked t by) long → number_of r ≡ 0 → by.number ≡ 0
  unfolding measured
  measured-clear r long e z = asked-clear (ap (λ (m : Measured). m.number) e) z

-- ---- the outcome of a list call, by what its tests came to
module _ (st : State) (s : Session) (claim : Claim) (wanted : Wanted) (room : ℕ) (r : Result ℕ Refusal) {by : Checked} {o : Outcome} (a : by ≡ checked st s claim)
    (e : measured_in r ≡ measured (asked (list_tests st wanted room) by) (message_length (length (rows_of st wanted)))) (q : o ≡ outcome st (ListProcesses s claim wanted room)) where
  list-is : ◌≡◌ {A = Listed} (record { outcome = o; length = length_in r }) (listed st s claim wanted room)
  unfolding listed
  list-is =
      let n : asked (list_tests st wanted room) by ≡ number st (ListProcesses s claim wanted room) = unfold tests protection in number_by st (ListProcesses s claim wanted room) refl a refl in
      rw (q, ← n, ap (λ (m : Measured). m.length) e)

  pub list-done : {long : ℕ} → r ≡ Ok long → ◌≡◌ {A = Listed} (record { outcome = o; length = long }) (listed st s claim wanted room)
  list-done d = rw (sym (ap length_in d)) list-is

  pub list-refused : {why : Refusal} → r ≡ Err why → ◌≡◌ {A = Listed} (record { outcome = o; length = 0 }) (listed st s claim wanted room)
  list-refused d = rw (sym (ap length_in d)) list-is

pub effect-list : (st : State) {x : State} (s : Session) (claim : Claim) (wanted : Wanted) (room : ℕ) → x ≡ counted st s claim → x ≡ effect st (ListProcesses s claim wanted room)
unfolding effect
effect-list st s claim wanted room e = e

pub ruleset rules = (claim-rules, by-refusal, by-effect, both-stop, both-pass, known-stop, known-pass, phase-outside, grants-outside, active-none, active-some, named_none, named_some, full_is, version-is, none_ahead, length-fits, length_whole, length-is, place-is, next_fits, counted_is, counted-elevated, checked-user, ended-kept, ended-removed, taken_is, mapped-none, take_on, fresh-is, effect-open, effect-select, effect-close, effect-start, effect-elevate, effect-continue, effect-drop, effect-end, effect-kill, effect-set-word, effect-record, effect-list, record-number, list-number, kill-number, set-word-number, end-number, asked-clear, placed-clear, measured-clear, list-done, list-refused)
