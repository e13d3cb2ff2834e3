-- What callers cite: what a row of tests answers, and what an accepted one says.
-- Assumes nothing.
use Rattle.std.specs.Prelude.{Option, Some, None}
use Prim.Native.Nat.{ℕ}
use mathlib.Core.Path.{◌≡◌, refl, sym, ap, ◌∙◌}
use mathlib.Core.Bool.{Bool, true, false, not}
use native.Mathlib.Omega.{arith}
use lib.Dec.{T, eqb, ltb, ltb→lt}
use borrow.Author.Tests.{eq-eqb, ne_eqb, eqb-true, eqb-false}
use Rattle.lists.proofs.Tests.{split}
use lib.ListN.{get_or-eq_default}
use Rattle.lists.proofs.Tests.{clash, and_left}
use Rattle.names.specs.declared.Credential.{Credential}
use Rattle.names.specs.declared.Session.{Session}
use Rattle.table.specs.Table.{standing, free_place, process_at, is_active, found_place, first_place, find_active}
use Rattle.table.specs.declared.Active.{Active}
use Rattle.table.specs.declared.Active.TheVariants.{UserOf, ElevationIn}
use Rattle.table.specs.declared.Process.{Process}
use Rattle.table.proofs.Searched.{FoundAt, found_at, found_none}
use Rattle.module_state.specs.declared.Checked.{Checked}
use Rattle.module_state.specs.declared.Claim.{Claim}
use Rattle.module_state.specs.declared.Claim.TheVariants.{Elevated, ByUser}
use Rattle.module_state.specs.declared.ClaimView.{ClaimView}
use Rattle.module_state.specs.declared.Class.{Class}
use Rattle.module_state.specs.declared.Grants.{Grants}
use Rattle.module_state.specs.declared.Lookup.{Lookup}
use Rattle.module_state.specs.declared.Lookup.TheVariants.{NotGranted, Granted, OnlyElevated}
use Rattle.module_state.specs.declared.Phase.{Phase}
use Rattle.module_state.specs.declared.State.{State}
use Rattle.module_state.specs.declared.UserClaim.{UserClaim}
use Rattle.module_state.specs.Numbers.{◌when◌, ◌unless◌, ◌▸◌}
use Rattle.module_state.specs.Module.{is_session, phase_of, is_closed, is_chosen, grants_of, provisioned, lookup, has_active, active_place, active_process}
use Rattle.module_state.specs.Claim.{phase_number, entered, sought, speaks_for, speaker, process_found, claim_view, is_in_range, is_found, is_spent, turn_number, claim_number, check_number, check_of, checked, admitted, lookup_number, grant_number, passed_by}

-- ---- a row of tests
module _ {n : ℕ} (m : ℕ) where
  -- the first number that is not 0 is the answer
  pub stop : (n ≡ 0 → ⊥) → n ▸ m ≡ n
  unfolding ◌▸◌
  stop h = rw (ne_eqb n 0 h)

  -- past a 0 the next is asked
  pub pass : n ≡ 0 → n ▸ m ≡ m
  unfolding ◌▸◌
  pass e = rw (eq-eqb n 0 e)

-- a row of tests may be asked in parts
pub rows : (a b c : ℕ) → (a ▸ b) ▸ c ≡ a ▸ b ▸ c
unfolding ◌▸◌
rows a b c = split (eqb a 0) (λ e. rw e) (λ e. rw (e, e))

module _ (n : ℕ) {b : Bool} where
  pub when_true : b ≡ true → n when b ≡ n
  unfolding ◌when◌
  when_true e = rw e

  pub when_false : b ≡ false → n when b ≡ 0
  unfolding ◌when◌
  when_false e = rw e

  pub unless-true : b ≡ true → n unless b ≡ 0
  unfolding ◌unless◌
  unless-true e = rw e

  pub unless-false : b ≡ false → n unless b ≡ n
  unfolding ◌unless◌
  unless-false e = rw e

-- what holds of 0 and of a test's number holds of the test's answer, and of a row of tests what holds of each
module _ (P : ℕ → Type 0) where
  pub by-when : P 0 → (n : ℕ) (b : Bool) → P n → P (n when b)
  unfolding ◌when◌
  by-when none n true h = h
  by-when none n false h = none

  pub by-unless : P 0 → (n : ℕ) (b : Bool) → P n → P (n unless b)
  unfolding ◌unless◌
  by-unless none n true h = none
  by-unless none n false h = h

  pub by-then : (n m : ℕ) → P n → P m → P (n ▸ m)
  unfolding ◌▸◌
  by-then n m h k = split (eqb n 0) (λ e. rw e k) (λ e. rw e h)

  -- of the grant lookup, what holds of each number that it gives
  by-lookup : P 0 → P 10 → P 18 → (claim : Claim) (answer : Lookup) → P (lookup_number claim answer)
  unfolding lookup_number
  by-lookup none clear marked claim NotGranted = clear
  by-lookup none clear marked claim Granted = none
  by-lookup none clear marked Elevated OnlyElevated = none
  by-lookup none clear marked (ByUser u) OnlyElevated = marked

  pub by-grant : P 0 → P 10 → P 18 → (by : Checked) (class : Class) → P (grant_number by class)
  unfolding grant_number
  by-grant none clear marked by class = by-lookup none clear marked by.claim (lookup by.grants class)

-- ---- what an accepted row of tests says: none holds
pub clear_first : (n m : ℕ) → n ▸ m ≡ 0 → n ≡ 0
unfolding ◌▸◌
clear_first n m e = split (eqb n 0) (λ q. eqb-true n 0 q) (λ q. rw q at e)

pub clear-rest : (n m : ℕ) → n ▸ m ≡ 0 → m ≡ 0
clear-rest n m e = sym (pass m (clear_first n m e)) ∙ e

-- ---- a number in three parts, of the tests ahead of a claim's, of the claim's, and of those after it: the claim passed where the first two are 0
module _ (ahead claim after : ℕ) where
  in_two : ahead ▸ claim ▸ after ≡ (ahead ▸ claim) ▸ after
  in_two = sym (rows ahead claim after)

  module _ (p : eqb (ahead ▸ claim) 0 ≡ true) where
    pub three-passed : ahead ▸ claim ▸ after ≡ after
    three-passed = in_two ∙ pass after (eqb-true (ahead ▸ claim) 0 p)

  module _ (p : eqb (ahead ▸ claim) 0 ≡ false) where
    pub three-stop : ahead ▸ claim ▸ after ≡ ahead ▸ claim
    three-stop = in_two ∙ stop after (eqb-false (ahead ▸ claim) 0 p)

    pub three-stopped : ahead ▸ claim ▸ after ≡ 0 → ⊥
    three-stopped z = eqb-false (ahead ▸ claim) 0 p (sym three-stop ∙ z)

  pub three-done : ahead ▸ claim ▸ after ≡ 0 → eqb (ahead ▸ claim) 0 ≡ true
  three-done z = split (eqb (ahead ▸ claim) 0) (λ p. p) (λ p. absurd (three-stopped p z))

-- a number that is some test's is not 0
module _ (n : ℕ) (some : T (ltb 0 n)) where
  pub clear-when : (b : Bool) → n when b ≡ 0 → b ≡ false
  unfolding ◌when◌
  clear-when true e = absurd (omega (arith, ltb→lt 0 n some))
  clear-when false e = refl

  pub clear-unless : (b : Bool) → n unless b ≡ 0 → b ≡ true
  unfolding ◌unless◌
  clear-unless true e = refl
  clear-unless false e = absurd (omega (arith, ltb→lt 0 n some))

-- ---- the active process, by the search's answer
module _ (st : State) (which : Active) {f : Option ℕ} (e : f ≡ first_place (is_active which) (standing st.table)) where
  pub none-active : f ≡ None → has_active st which ≡ false
  unfolding has_active
  none-active q = (found_none (is_active which) (standing st.table) (sym e ∙ q)).none

  module _ {k : ℕ} (q : f ≡ Some k) where
    here : FoundAt (is_active which) (standing st.table) k
    here = found_at (is_active which) (standing st.table) (sym e ∙ q)

    pub place_is : k ≡ active_place st which
    unfolding active_place
    place_is = here.is

    pub one-active : has_active st which ≡ true
    unfolding has_active
    one-active = here.some

    pub process-is : {p : Process} → p ≡ process_at st.table k → p ≡ active_process st which
    unfolding active_process
    process-is r = r ∙ ap (process_at st.table) place_is

-- ---- what a state tells of a claim
module _ (st : State) (which : Active) where
  found-active : (f : Option ℕ) → f ≡ find_active st.table which → is_found f ≡ has_active st which
  found-active (Some at) e = sym (one-active st which e refl)
  found-active None e = sym (none-active st which e refl)

  process-found : (f : Option ℕ) → f ≡ find_active st.table which → process_found st.table f ≡ active_process st which
  unfolding process_found active_place active_process process_at
  process-found (Some at) e = process-is st which e refl refl
  process-found None e = sym (get_or-eq_default (standing st.table) free_place (found_none (is_active which) (standing st.table) (sym e)).past)

  place_found : (f : Option ℕ) → f ≡ find_active st.table which → is_found f ≡ true → found_place 0 f ≡ active_place st which
  place_found (Some at) e h = place_is st which e refl
  place_found None e h = clash h refl

-- a view that was put together from what single readers answered
pub view_of : (st : State) (s : Session) (claim : Claim) {a : Active} {f : Option ℕ} {owner c : Credential} {next : ℕ} {phase : Phase} {g : Grants}
    → a ≡ sought s claim → f ≡ first_place (is_active a) (standing st.table)
    → owner ≡ (process_found st.table f).credential → next ≡ (process_found st.table f).next → c ≡ speaks_for claim owner
    → phase ≡ phase_of st s → g ≡ grants_of st c
    → ◌≡◌ {A = ClaimView} (record { phase = phase; found = f; next = next; credential = c; grants = g }) (claim_view st s claim)
unfolding claim_view speaker
view_of st s claim {a} {f} {owner} {c} {next} ea ef eo en ec h eg =
    let ff : f ≡ first_place (is_active (sought s claim)) (standing st.table) = rw (← ea) ef in
    let p : process_found st.table f ≡ active_process st (sought s claim) = process-found st (sought s claim) f ff in
    let cc : c ≡ speaks_for claim (active_process st (sought s claim)).credential = ec ∙ ap (speaks_for claim) (eo ∙ ap (λ (q : Process). q.credential) p) in
    let nn : next ≡ (active_process st (sought s claim)).next = en ∙ ap (λ (q : Process). q.next) p in
    rw (h, eg, nn, ff, cc)

-- and what its check answers
pub checked-is : (st : State) (s : Session) (claim : Claim) {view : ClaimView} {by : Checked} → view ≡ claim_view st s claim → by ≡ check_of s claim view → by ≡ checked st s claim
unfolding checked
checked-is st s claim e q = q ∙ rw e

-- ---- the check, of a state: its tests
module _ (st : State) (s : Session) where
  pub elevated-tests : claim_number Elevated (claim_view st s Elevated) ≡ 6 unless has_active st (ElevationIn s)
  unfolding claim_number claim_view sought
  elevated-tests = rw (found-active st (ElevationIn s) (find_active st.table (ElevationIn s)) refl)

  pub user-tests : (u : UserClaim)
      → claim_number (ByUser u) (claim_view st s (ByUser u))
      ≡ 5 unless provisioned st u.credential ▸ 6 unless has_active st (UserOf s u.credential) ▸ turn_number (active_process st (UserOf s u.credential)).next u
  unfolding claim_number claim_view sought speaker provisioned
  user-tests u = rw (found-active st (UserOf s u.credential) (find_active st.table (UserOf s u.credential)) refl)

-- ---- what a claim that passed it says
module _ (st : State) (s : Session) where
  pub record PassedCheck (claim : Claim) : Type 0 where
    pub range : is_in_range claim ≡ true
    pub handle : is_session s ≡ true
    pub opened : is_closed (phase_of st s) ≡ false
    pub chosen : is_chosen (phase_of st s) ≡ true
    pub active : has_active st (sought s claim) ≡ true

  pub record PassedUser (u : UserClaim) : Type 0 where
    pub owner : provisioned st u.credential ≡ true
    pub unspent : is_spent (active_process st (UserOf s u.credential)).next ≡ false
    pub turn : u.number ≡ (active_process st (UserOf s u.credential)).next
    pub yes : u.verdict ≡ true

  entered_of : (claim : Claim) → admitted st s claim ≡ 0 → entered st s ≡ 0
  unfolding admitted checked check_of check_number entered claim_view
  entered_of claim z = clear_first _ _ (clear-rest _ _ z)

  claim-of : (claim : Claim) → admitted st s claim ≡ 0 → claim_number claim (claim_view st s claim) ≡ 0
  unfolding admitted checked check_of check_number
  claim-of claim z = clear-rest _ _ (clear-rest _ _ z)

  active-of : (claim : Claim) → claim_number claim (claim_view st s claim) ≡ 0 → has_active st (sought s claim) ≡ true
  unfolding sought
  active-of Elevated z = clear-unless 6 tt _ (sym (elevated-tests st s) ∙ z)
  active-of (ByUser u) z = clear-unless 6 tt _ (clear_first _ _ (clear-rest _ _ (sym (user-tests st s u) ∙ z)))

  pub passed-check : (claim : Claim) → admitted st s claim ≡ 0 → PassedCheck claim
  unfolding admitted checked check_of check_number entered phase_number
  passed-check claim z =
      let entry = entered_of claim z in
      record {
        range = clear-unless 1 tt _ (clear_first _ _ z);
        handle = clear-unless 1 tt _ (clear_first _ _ entry);
        opened = clear-when 2 tt _ (clear_first _ _ (clear-rest _ _ entry));
        chosen = clear-unless 3 tt _ (clear-rest _ _ (clear-rest _ _ entry));
        active = active-of claim (claim-of claim z);
      }

  pub passed-user : (u : UserClaim) → admitted st s (ByUser u) ≡ 0 → PassedUser u
  unfolding turn_number
  passed-user u z =
      let tests = sym (user-tests st s u) ∙ claim-of (ByUser u) z in
      let turn = clear-rest _ _ (clear-rest _ _ tests) in
      record {
        owner = clear-unless 5 tt _ (clear_first _ _ tests);
        unspent = clear-when 13 tt _ (clear_first _ _ turn);
        turn = eqb-true _ _ (clear-unless 9 tt _ (clear_first _ _ (clear-rest _ _ turn)));
        yes = clear-unless 8 tt _ (clear-rest _ _ (clear-rest _ _ turn));
      }

pub claim-stands : (st : State) (s : Session) (claim : Claim) → admitted st s claim ≡ 0 → has_active st (sought s claim) ≡ true
claim-stands st s claim z = (passed-check st s claim z).active

-- ---- what it hands on
module _ (st : State) (s : Session) (claim : Claim) {by : Checked} (e : by ≡ checked st s claim) where
  pub checked-number : by.number ≡ admitted st s claim
  unfolding admitted
  checked-number = rw e

  pub checked-next : by.next ≡ (active_process st (sought s claim)).next
  unfolding checked check_of claim_view
  checked-next = rw e

  pub checked-place : by.number ≡ 0 → by.place ≡ active_place st (sought s claim)
  unfolding checked check_of claim_view admitted
  checked-place z =
      let n : admitted st s claim ≡ 0 = sym checked-number ∙ z in
      rw (e, n)
      (place_found st (sought s claim) (find_active st.table (sought s claim)) refl
      (found-active st (sought s claim) (find_active st.table (sought s claim)) refl ∙ claim-stands st s claim n))

-- a claim that passed its check was admitted
pub passed-admitted : (by : Checked) (n : ℕ) {passed : Bool} → passed ≡ passed_by by n → passed ≡ true → by.number ≡ 0
unfolding passed_by
passed-admitted by n p e = eqb-true by.number 0 (and_left (eqb by.number 0) (not (eqb n 1)) (sym p ∙ e))
