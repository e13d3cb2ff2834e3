-- A call whose claim passed is sent again while the claim's process stands: the second sending gets 9, or 13 where the process is spent by then.
-- Assumes nothing.
use Prim.Native.Nat.{ℕ, ◌<◌}
use mathlib.Core.Path.{◌≡◌, refl, sym, ap, ◌∙◌}
use mathlib.Core.Logic.{◌⊎◌, inl, inr}
use mathlib.Core.Bool.{true, false}
use mathlib.Core.List.{List, ◌∷◌}
use native.Mathlib.Omega.{arith}
use lib.Dec.{eqb}
use lib.ListN.{get_or}
use Rattle.lists.proofs.Tests.{split, clash}
use Rattle.lists.proofs.Each.{each_at}
use Rattle.names.specs.declared.Name.{Name}
use Rattle.names.specs.declared.Session.{Session}
use Rattle.table.specs.Table.{free_place}
use Rattle.table.specs.declared.Active.TheVariants.{UserOf}
use Rattle.table.specs.declared.Process.{Process}
use Rattle.table.proofs.Searched.{user-of}
use Rattle.module_state.specs.Numbers as No
use Rattle.module_state.specs.Numbers.{◌when◌, ◌unless◌, ◌▸◌}
use Rattle.module_state.specs.Module.{is_session, phase_of, is_closed, is_chosen, has_active, active_place, active_process}
use Rattle.module_state.specs.Claim.{phase_number, entered, claim_view, is_in_range, is_spent, turn_number, check_number, check_of, checked, admitted}
use Rattle.module_state.specs.declared.Claim.TheVariants.{ByUser}
use Rattle.module_state.specs.declared.State.{State}
use Rattle.module_state.specs.declared.UserClaim.{UserClaim}
use Rattle.module_state.proofs.Laws.{pass, unless-true, when_false, passed-check, user-tests}
use Rattle.calls.specs.Calls.{Call, Open, Close, Drop, Select, Start, Continue, Elevate, End, Record, ListProcesses, Kill, SetWord, Under, protection, end_tests, record_tests, list_tests, kill_tests, set_word_tests, number, ahead_number, protected_number, passes}
use Rattle.calls.specs.Run.{step, run}
use Rattle.calls.proofs.Facts.{needs}
use Rattle.calls.proofs.Laws.{answer-number}
use Rattle.calls.proofs.Cut.{passed-ahead, number-stop, number-stopped}
use Rattle.module_rules.specs.Facts.{processes, Rules}
use Rattle.history.specs.Lives.{Life, Live, count, tells_passed, told}
use Rattle.history.specs.History.{event, history}
use Rattle.history.specs.Demand.{IsPassedOf, Stays, look, Tells}
use Rattle.history.proofs.Facts.{stands, closed-not}
use Rattle.history.proofs.Read.{claim-passed, active-passed, owner, reading}
use Rattle.history.proofs.Keeping.{rules-step}
use Rattle.history.proofs.Told.{live-stands, tells-look, turn-told}
use Rattle.history.proofs.Calls.{call_step, steps}
use Rattle.history.proofs.Along.{rules-along, told-along, larger}

-- ---- what a claim that passed says of itself, whatever the state
module _ (st : State) (s : Session) (u : UserClaim) (z : admitted st s (ByUser u) ≡ 0) where
  in-range : is_in_range (ByUser u) ≡ true
  in-range = (passed-check st s (ByUser u) z).range

  is-session : is_session s ≡ true
  is-session = (passed-check st s (ByUser u) z).handle

-- the tests ahead of a claim ask nothing of the state
ahead-same : (st last : State) (call : Call) (s : Session) (u : UserClaim) → protection call ≡ Under s (ByUser u) → ahead_number last call ≡ ahead_number st call
unfolding protection ahead_number end_tests record_tests list_tests kill_tests set_word_tests
ahead-same st last (Open t) s u e = cc
ahead-same st last (Close t) s u e = cc
ahead-same st last (Drop t) s u e = cc
ahead-same st last (Select t byte) s u e = cc
ahead-same st last (Start t c name) s u e = cc
ahead-same st last (Continue t c name) s u e = cc
ahead-same st last (Elevate t c name verdict) s u e = cc
ahead-same st last (End t w keep) s u e = refl
ahead-same st last (Record t claim class) s u e = refl
ahead-same st last (ListProcesses t claim wanted room) s u e = refl
ahead-same st last (Kill t claim name) s u e = refl
ahead-same st last (SetWord t claim c words) s u e = refl

claim-is : (st : State) (call : Call) (s : Session) (u : UserClaim) → protection call ≡ Under s (ByUser u) → protected_number st (protection call) ≡ admitted st s (ByUser u)
unfolding protected_number
claim-is st call s u k = rw k

-- ---- where the claim's process stands, the check of such a claim asks for its turn alone
module _ (st : State) (v : Rules st) (s : Session) (u : UserClaim) (range : is_in_range (ByUser u) ≡ true) (handle : is_session s ≡ true) (h : has_active st (UserOf s u.credential) ≡ true) where
  chosen : is_chosen (phase_of st s) ≡ true
  chosen =
      let f = stands st (UserOf s u.credential) h in
      let x : Process = get_or (processes st) (active_place st (UserOf s u.credential)) free_place in
      let user = user-of x s u.credential f.passes in
      rw user.session at ((each_at _ free_place f.inside v.each).seated (rw user.kind))

  entered-is : entered st s ≡ 0
  unfolding entered phase_number
  entered-is =
      let unclosed : is_closed (phase_of st s) ≡ false = split (is_closed (phase_of st s)) (λ e. clash chosen (closed-not (phase_of st s) e)) (λ e. e) in
      pass _ (unless-true No.argument handle) ∙ pass _ (when_false No.session unclosed) ∙ unless-true No.no_version chosen

  turn_alone : admitted st s (ByUser u) ≡ turn_number (active_process st (UserOf s u.credential)).next u
  unfolding admitted checked check_of check_number entered claim_view
  turn_alone =
      pass _ (unless-true No.argument range)
      ∙ pass _ entered-is
      ∙ user-tests st s u
      ∙ pass _ (unless-true No.credential (owner st v s u h))
      ∙ pass _ (unless-true No.no_process h)

turn-of : (next : ℕ) (u : UserClaim) → u.verdict ≡ true → (turn_number next u ≡ 0 → ⊥) → (turn_number next u ≡ 9) ⊎ (turn_number next u ≡ 13)
unfolding turn_number ◌when◌ ◌unless◌ ◌▸◌
turn-of next u w h =
    split (is_spent next)
    (λ e. inr (rw e))
    (λ e. split (eqb u.number next) (λ q. absurd (h (rw (e, q, w)))) (λ q. inl (rw (e, q))))

-- ---- from any state that keeps the rules, told so: the call is made there, and its claim passes; calls follow; its process is not removed, and is active in the
-- same session
module _ (st : State) (v : Rules st) (tell : Name → Life) (tells : Tells tell st) (call : Call) (s : Session) (u : UserClaim) (k : protection call ≡ Under s (ByUser u)) (p : passes st call ≡ true) (more : List Call) where
  abbrev next : State
  next = step st call

  abbrev last : State
  last = run next more

  module _ (name : Name) (ns ms : List ℕ) (was : tell name ≡ Live s u.credential ns)
      (stays : Stays name (history st (call ∷ more)) (tell name)) (there : told tell (history st (call ∷ more)) name ≡ Live s u.credential ms) where
    at_last : look name (processes last) ≡ Live s u.credential ms
    unfolding run
    at_last = sym (told-along name (steps st (call ∷ more)) v tell tells) ∙ there

    rules-last : Rules last
    rules-last = rules-along (steps next more) (rules-step st call v)

    -- the claim, when it was first made
    first-passed : IsPassedOf (tell name) (event st call)
    first-passed =
        record {
          session = s;
          claim = u;
          carried = k;
          told = ap tells_passed (answer-number st call) ∙ reading st v call s u k (active-passed st call s u k p) ∙ p;
          before = ns;
          lives = was;
        }

    not-again : passes last call ≡ false
    unfolding history first-passed
    not-again =
        split (passes last call)
        (λ q.
        let less : u.number < count (look name (processes last)) = larger name (call_step st call) (steps next more) v (tells-look tell st tells name) first-passed stays in
        let is : u.number ≡ count (look name (processes last)) =
        turn-told last rules-last (λ m. look m (processes last)) (λ m. refl) s u (claim-passed last call s u k q) name ms at_last
        in
        absurd (omega (arith, less, is)))
        (λ q. q)

    pub sent-again : (number (run st (call ∷ more)) call ≡ 9) ⊎ (number (run st (call ∷ more)) call ≡ 13)
    unfolding run
    sent-again =
        let z : admitted st s (ByUser u) ≡ 0 = claim-passed st call s u k p in
        let turn : admitted last s (ByUser u) ≡ turn_number (active_process last (UserOf s u.credential)).next u =
        turn_alone last rules-last s u (in-range st s u z) (is-session st s u z) (live-stands name last s u.credential ms at_last)
        in
        let is : number last call ≡ turn_number (active_process last (UserOf s u.credential)).next u =
        number-stop last call not-again ∙ pass _ (ahead-same st last call s u k ∙ passed-ahead st call p) ∙ claim-is last call s u k ∙ turn
        in
        rw is (turn-of _ u (needs st s (ByUser u) z).yes (λ y. number-stopped last call not-again (is ∙ y)))
