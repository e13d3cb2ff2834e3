-- A call's number is that of the tests ahead of its claim, or where that is 0 the claim's, or where that is 0 that of the tests after it. So what a refusal leaves
-- follows from whether the claim passed.
-- Assumes nothing.
use Prim.Native.Nat.{ℕ}
use mathlib.Core.Path.{◌≡◌, refl, sym, ap, ◌∙◌}
use mathlib.Core.Bool.{Bool, true, false, not}
use mathlib.Core.List.{List, [], ◌∷◌}
use lib.Dec.{eqb}
use borrow.Author.Tests.{not-true, eqb-true, eqb-false, eq-eqb, ne_eqb}
use Rattle.lists.specs.Lists.{any}
use Rattle.lists.proofs.Tests.{split, clash, and_left, and_right}
use Rattle.rows.specs.Rows.{every}
use Rattle.names.specs.declared.Session.{Session}
use Rattle.module_state.specs.Numbers as No
use Rattle.module_state.specs.Numbers.{◌unless◌, ◌▸◌}
use Rattle.module_state.specs.Claim.{phase_number, claim_view, turn_number, claim_number, check_number, check_of, checked, admitted, grant_number, passed_by}
use Rattle.module_state.specs.declared.Checked.{Checked}
use Rattle.module_state.specs.declared.Claim.{Claim}
use Rattle.module_state.specs.declared.Claim.TheVariants.{Elevated, ByUser}
use Rattle.module_state.specs.declared.ClaimView.{ClaimView}
use Rattle.module_state.specs.declared.Class.{Class}
use Rattle.module_state.specs.declared.Phase.{Phase}
use Rattle.module_state.specs.declared.State.{State}
use Rattle.module_state.specs.declared.UserClaim.{UserClaim}
use Rattle.module_state.proofs.Laws.{stop, pass, three-passed, three-stop, three-stopped, three-done, by-when, by-unless, by-then, by-grant, clear_first, clear-rest, checked-number}
use Rattle.calls.specs.Calls.{Call, Open, Close, Drop, Select, Start, Continue, Elevate, End, Record, ListProcesses, Kill, SetWord, list_others, save_own, set_words, Protection, Free, Under, protection, Tests, end_tests, record_tests, list_tests, kill_tests, set_word_tests, tests, asked, number_under, number, counted, effect, ahead_number, protected_number, passes, refused_after, charged, left, outcome}
use Rattle.calls.specs.declared.Outcome.{Outcome}
use Rattle.calls.proofs.Laws.{outcome-done, refusal-leaves}

module _ (st : State) where
  -- the tests after the claim's, of a call that carries one
  rest : Protection → Tests → ℕ
  rest Free t = 0
  rest (Under s claim) t = t.after (checked st s claim)

  alone : (n : ℕ) → n ≡ n ▸ 0 ▸ 0
  unfolding ◌▸◌
  alone n = split (eqb n 0) (λ e. rw e (eqb-true n 0 e)) (λ e. rw e)

  cut : (w : Protection) (t : Tests) → number_under st w t ≡ t.ahead ▸ protected_number st w ▸ rest w t
  unfolding number_under asked protected_number admitted rest
  cut Free t = alone t.ahead
  cut (Under s claim) t = refl

-- ---- whether the claim passed
module _ (st : State) (call : Call) where
  -- up to the claim's, that one too; and those after it
  abbrev pub up_to : ℕ
  up_to = ahead_number st call ▸ protected_number st (protection call)

  abbrev after : ℕ
  after = rest st (protection call) (tests st call)

  in_three : number st call ≡ ahead_number st call ▸ protected_number st (protection call) ▸ after
  unfolding number ahead_number
  in_three = cut st (protection call) (tests st call)

  number_passed : passes st call ≡ true → number st call ≡ after
  unfolding passes
  number_passed p = in_three ∙ three-passed _ _ _ p

  pub number-stop : passes st call ≡ false → number st call ≡ up_to
  unfolding passes
  number-stop p = in_three ∙ three-stop _ _ _ p

  -- a call whose claim did not pass is refused, and leaves the state as it was
  pub number-stopped : passes st call ≡ false → number st call ≡ 0 → ⊥
  unfolding passes
  number-stopped p z = three-stopped _ _ after p (sym in_three ∙ z)

  -- and one that is accepted has passed
  pub number-done : number st call ≡ 0 → passes st call ≡ true
  unfolding passes
  number-done z = three-done _ _ after (sym in_three ∙ z)

  pub left-stopped : passes st call ≡ false → left st call ≡ st
  unfolding left refused_after
  left-stopped p = rw p

  pub outcome-stopped : passes st call ≡ false → (outcome st call).state ≡ st
  outcome-stopped p = refusal-leaves st call (number-stopped p) ∙ left-stopped p

  -- one that is refused afterwards leaves it with the claim counted; where there is none, as it was
  pub refused-after : passes st call ≡ true → (number st call ≡ 0 → ⊥) → refused_after st call ≡ true
  unfolding refused_after
  refused-after p h = rw (p, ne_eqb (number st call) 0 h)

  pub passed-ahead : passes st call ≡ true → ahead_number st call ≡ 0
  unfolding passes
  passed-ahead p = clear_first (ahead_number st call) (protected_number st (protection call)) (eqb-true up_to 0 p)

  pub passed-claim : passes st call ≡ true → protected_number st (protection call) ≡ 0
  unfolding passes
  passed-claim p = clear-rest (ahead_number st call) (protected_number st (protection call)) (eqb-true up_to 0 p)

  pub after-passed : refused_after st call ≡ true → protected_number st (protection call) ≡ 0
  unfolding refused_after
  after-passed r = passed-claim (and_left _ _ r)

  pub left_passed : passes st call ≡ true → (number st call ≡ 0 → ⊥) → left st call ≡ charged st (protection call)
  unfolding left
  left_passed p h = rw (refused-after p h)

  pub left-free : protection call ≡ Free → left st call ≡ st
  unfolding left charged
  left-free f = split (refused_after st call) (λ e. rw (e, f)) (λ e. rw e)

-- what an accepted call under a claim says: no test ahead of the claim's held, nor one of the claim's, nor one after it
pub record Accepted (st : State) (call : Call) (s : Session) (claim : Claim) : Type 0 where
  pub ahead : ahead_number st call ≡ 0
  pub claim-passed : admitted st s claim ≡ 0
  pub after : (tests st call).after (checked st s claim) ≡ 0

pub accepted : (st : State) (call : Call) {s : Session} {claim : Claim} → protection call ≡ Under s claim → number st call ≡ 0 → Accepted st call s claim
unfolding number number_under asked ahead_number admitted
accepted st call w z =
    let e = rw w at z in
    record { ahead = clear_first _ _ e; claim-passed = clear_first _ _ (clear-rest _ _ e); after = clear-rest _ _ (clear-rest _ _ e) }

-- what a call leaves that does nothing but count its claim, accepted or refused afterwards
pub only-counted : (st : State) (call : Call) {s : Session} {claim : Claim} → protection call ≡ Under s claim → effect st call ≡ counted st s claim → passes st call ≡ true
    → (outcome st call).state ≡ counted st s claim
unfolding charged
only-counted st call e w p =
    split (eqb (number st call) 0)
    (λ z. ap (λ (o : Outcome). o.state) (outcome-done st call (eqb-true (number st call) 0 z)) ∙ w)
    (λ z. let h = eqb-false (number st call) 0 z in refusal-leaves st call h ∙ left_passed st call p h ∙ rw e)

-- ---- ahead of a claim a call is refused with 1 alone, and after it never
module _ (st : State) where
  some-unless : (b : Bool) → (1 unless b ≡ 0 → ⊥) → 1 unless b ≡ 1
  unfolding ◌unless◌
  some-unless true h = absurd (h refl)
  some-unless false h = refl

  pub ahead-one : (call : Call) {s : Session} {claim : Claim} → protection call ≡ Under s claim → (ahead_number st call ≡ 0 → ⊥) → ahead_number st call ≡ 1
  unfolding protection ahead_number end_tests record_tests list_tests kill_tests set_word_tests
  ahead-one (Open s) e h = cc
  ahead-one (Close s) e h = cc
  ahead-one (Drop s) e h = cc
  ahead-one (Select s byte) e h = cc
  ahead-one (Start s c name) e h = cc
  ahead-one (Continue s c name) e h = cc
  ahead-one (Elevate s c name verdict) e h = cc
  ahead-one (End s u keep) e h = absurd (h refl)
  ahead-one (Record s claim class) e h = some-unless _ h
  ahead-one (ListProcesses s claim wanted room) e h = some-unless _ h
  ahead-one (Kill s claim name) e h = absurd (h refl)
  ahead-one (SetWord s claim c words) e h = some-unless _ h

-- ---- the numbers that tests after a claim give: "by 5 in set word, 6 in kill, 10, 15, or a refusal that a later order puts after the claim": 18
abbrev pub after_claim : List ℕ
after_claim = No.done ∷ No.credential ∷ No.no_process ∷ No.not_granted ∷ No.room ∷ No.only_elevated ∷ []

-- it is one of these
abbrev IsAfter : ℕ → Type 0
IsAfter n = any (eqb n) after_claim ≡ true

-- what each of some numbers passes, one of them does
one_passes : (f : ℕ → Bool) (n : ℕ) (l : List ℕ) → any (eqb n) l ≡ true → every f l ≡ true → f n ≡ true
unfolding any every
one_passes f n [] h e = clash h refl
one_passes f n (x ∷ l) h e =
    split (eqb n x) (λ q. ap f (eqb-true n x q) ∙ and_left (f x) (every f l) e) (λ q. one_passes f n l (rw q at h) (and_right (f x) (every f l) e))

-- ---- and those that the check of a claim gives: 1, 2 and 3, and the claim's own
abbrev pub of_check : List ℕ
of_check =
    No.done
    ∷ No.argument
    ∷ No.session
    ∷ No.no_version
    ∷ No.credential
    ∷ No.no_process
    ∷ No.spent
    ∷ No.out_of_turn
    ∷ No.verdict
    ∷ []

abbrev IsOfCheck : ℕ → Type 0
IsOfCheck n = any (eqb n) of_check ≡ true

check-turn : (next : ℕ) (u : UserClaim) → IsOfCheck (turn_number next u)
unfolding any turn_number
check-turn next u =
    by-then IsOfCheck _ _ (by-when IsOfCheck refl No.spent _ refl)
    (by-then IsOfCheck _ _ (by-unless IsOfCheck refl No.out_of_turn _ refl) (by-unless IsOfCheck refl No.verdict _ refl))

check-claim : (claim : Claim) (view : ClaimView) → IsOfCheck (claim_number claim view)
unfolding any claim_number
check-claim Elevated view = by-unless IsOfCheck refl No.no_process _ refl
check-claim (ByUser u) view =
    by-then IsOfCheck _ _ (by-unless IsOfCheck refl No.credential _ refl)
    (by-then IsOfCheck _ _ (by-unless IsOfCheck refl No.no_process _ refl) (check-turn view.next u))

check-phase : (s : Session) (phase : Phase) → IsOfCheck (phase_number s phase)
unfolding any phase_number
check-phase s phase =
    by-then IsOfCheck _ _ (by-unless IsOfCheck refl No.argument _ refl)
    (by-then IsOfCheck _ _ (by-when IsOfCheck refl No.session _ refl) (by-unless IsOfCheck refl No.no_version _ refl))

check-number : (st : State) (s : Session) (claim : Claim) → IsOfCheck (checked st s claim).number
unfolding any checked check_of check_number
check-number st s claim =
    by-then IsOfCheck _ _ (by-unless IsOfCheck refl No.argument _ refl)
    (by-then IsOfCheck _ _ (check-phase s (claim_view st s claim).phase) (check-claim claim (claim_view st s claim)))

pub check-passes : (f : ℕ → Bool) → every f of_check ≡ true → (st : State) (s : Session) (claim : Claim) → f (checked st s claim).number ≡ true
check-passes f e st s claim = one_passes f _ of_check (check-number st s claim) e

module _ (st : State) where
  is-grant : (by : Checked) (class : Class) → IsAfter (grant_number by class)
  unfolding any
  is-grant = by-grant IsAfter refl refl refl

  is-after : (call : Call) (by : Checked) → IsAfter ((tests st call).after by)
  unfolding any tests end_tests record_tests list_tests kill_tests set_word_tests
  is-after (Open s) by = refl
  is-after (Close s) by = refl
  is-after (Drop s) by = refl
  is-after (Select s byte) by = refl
  is-after (Start s c name) by = refl
  is-after (Continue s c name) by = refl
  is-after (Elevate s c name verdict) by = refl
  is-after (End s u keep) by = by-when IsAfter refl _ _ (is-grant by save_own)
  is-after (Record s claim class) by = is-grant by class
  is-after (ListProcesses s claim wanted room) by = by-then IsAfter _ _ (by-unless IsAfter refl _ _ (is-grant by list_others)) (by-when IsAfter refl No.room _ refl)
  is-after (Kill s claim name) by = by-unless IsAfter refl No.no_process _ refl
  is-after (SetWord s claim c words) by = by-then IsAfter _ _ (is-grant by set_words) (by-unless IsAfter refl No.credential _ refl)

  rest-after : (w : Protection) (call : Call) → IsAfter (rest st w (tests st call))
  unfolding any rest
  rest-after Free call = refl
  rest-after (Under s claim) call = is-after call (checked st s claim)

  -- so what each of them passes, the number of a call does whose claim passed
  pub passed-number : (f : ℕ → Bool) → every f after_claim ≡ true → (call : Call) → passes st call ≡ true → f (number st call) ≡ true
  passed-number f e call p = ap f (number_passed st call p) ∙ one_passes f _ after_claim (rest-after (protection call) call) e

  passed-not-one : (call : Call) → passes st call ≡ true → eqb (number st call) 1 ≡ false
  unfolding every
  passed-not-one call p = not-true (eqb (number st call) 1) (passed-number (λ n. not (eqb n 1)) refl call p)

module _ (st : State) (call : Call) {s : Session} {claim : Claim} (w : protection call ≡ Under s claim) {by : Checked} (a : by ≡ checked st s claim) where
  prot-is : protected_number st (protection call) ≡ by.number
  unfolding protected_number
  prot-is = rw (w, checked-number st s claim a)

  pub passed-by : passed_by by (number st call) ≡ passes st call
  unfolding passed_by passes
  passed-by =
      split (eqb by.number 0)
      (λ z.
      let q : protected_number st (protection call) ≡ 0 = prot-is ∙ eqb-true by.number 0 z in
      split (eqb (ahead_number st call) 0)
      (λ y.
      let e : ahead_number st call ▸ protected_number st (protection call) ≡ 0 = pass _ (eqb-true _ _ y) ∙ q in
      let p : passes st call ≡ true = unfold passes in eq-eqb _ _ e in
      rw (z, eq-eqb _ _ e, passed-not-one st call p))
      (λ y.
      let h : ahead_number st call ≡ 0 → ⊥ = eqb-false _ _ y in
      let n : number st call ≡ 1 = in_three st call ∙ stop _ h ∙ ahead-one st call w h in
      let e : ahead_number st call ▸ protected_number st (protection call) ≡ 1 = stop _ h ∙ ahead-one st call w h in
      rw (z, n, e)))
      (λ z.
      let h : ahead_number st call ▸ protected_number st (protection call) ≡ 0 → ⊥ = λ y. eqb-false by.number 0 z (sym prot-is ∙ clear-rest _ _ y) in
      rw (z, ne_eqb _ _ h))
