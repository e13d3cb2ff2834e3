-- The laws that close the needs of this crate's functions by `search rules`: each premise is as a place's record has it.
-- Assumes nothing.
use Rattle.std.specs.Prelude.{Result, Ok, Err}
use Prim.Native.Nat.{ℕ, ◌+◌, ◌<◌}
use mathlib.Core.Path.{◌≡◌, refl, sym, ap, ◌∙◌}
use mathlib.Core.Bool.{Bool, true, false, not, ◌&&◌}
use mathlib.Core.List.{List}
use borrow.Author.Tests.{not-true, eq-eqb, ne_eqb}
use Rattle.lists.proofs.Tests.{split, clash, and_left, and_right}
use mir.Val.{Fits}
use mir.Syntax.{w16}
use Rattle.names.specs.declared.Session.{Session}
use Rattle.table.specs.Table.{process_at}
use Rattle.table.specs.declared.Active.TheVariants.{UserOf}
use Rattle.table.specs.declared.Process.{Process}
use Rattle.module_state.specs.Numbers.{◌unless◌, ◌▸◌}
use Rattle.module_state.specs.Module.{is_session, active_process}
use Rattle.module_state.specs.Claim.{is_in_range, sought, checked, admitted}
use Rattle.module_state.specs.Refusals.{refusal_number, number_of, place_in, checked_in}
use Rattle.module_state.specs.declared.Checked.{Checked}
use Rattle.module_state.specs.declared.Claim.{Claim}
use Rattle.module_state.specs.declared.Claim.TheVariants.{Elevated, ByUser}
use Rattle.module_state.specs.declared.ClaimCheck.{ClaimCheck}
use Rattle.module_state.specs.declared.Class.{Class}
use Rattle.module_state.specs.declared.Refusal.{Refusal}
use Rattle.module_state.specs.declared.UserClaim.{UserClaim}
use Rattle.module_state.proofs.Laws.{checked-number, checked-next}
use Rattle.calls.specs.Calls.{Record, is_device, protection, record_tests, asked, effect, ahead_number, protected_number, passes}
use Rattle.calls.proofs.Cut.{up_to, number-stop, only-counted}
use Rattle.calls.proofs.Rules.{claim-place, next_fits, record-number, rules as call-rules}
use Rattle.state_layout.specs.Layout.{state_of, state_bytes, holds_state, next_written}
use Rattle.state_find.specs.Checks.{tested, tested_in}
use Rattle.state_find.proofs.Laws.{RefusedWith, tested-refusal, PassedWith, tested-pass}
use Rattle.entries_call.specs.CallEntry.{is_made, Ready, CallEntry}
use Rattle.entries_call.proofs.Laws.{entry-none, entry-made, made_holds}
use Rattle.entries_record.specs.Recorded.{are_in_range, counted_in}
use Rattle.entries_record.proofs.Laws.{stopped-bytes, outside-number, outside-stops, counted-held}

-- ---- the count
module _ (b : List ℕ) (s : Session) (u : UserClaim) {by : Checked} (e : by ≡ checked (state_of b) s (ByUser u)) (z : by.number ≡ 0) where
  count_next : by.next ≡ (active_process (state_of b) (UserOf s u.credential)).next
  unfolding sought
  count_next = checked-next (state_of b) s (ByUser u) e

  pub one-more-fits : {next : ℕ} → next ≡ by.next → next < 65536 → Fits w16 (next + 1)
  unfolding active_process
  one-more-fits {next} n h =
      let p : Process = process_at (state_of b).table by.place in
      let q : next ≡ p.next = n ∙ count_next ∙ ap (λ (k : ℕ). (process_at (state_of b).table k).next) (sym (claim-place (state_of b) s u e z)) in
      rw (← q) at (next_fits (state_of b) s u e z refl (rw (← q) h))

  pub count-written : {at next : ℕ} {after : List ℕ} → at ≡ by.place → next ≡ by.next → after ≡ next_written b at (next + 1) → after ≡ counted_in b s (ByUser u)
  unfolding counted_in
  count-written a n w = w ∙ rw (a, n, count_next, claim-place (state_of b) s u e z)

pub next-fits : (b : List ℕ) (s : Session) {claim : Claim} {u : UserClaim} {by : Checked} → claim ≡ ByUser u → by ≡ checked (state_of b) s claim → by.number ≡ 0
    → {next : ℕ} → next ≡ by.next → next < 65536 → Fits w16 (next + 1)
next-fits b s {u = u} w e z = one-more-fits b s u (rw w at e) z

pub place-told : (r : Result ℕ Refusal) {at : ℕ} → r ≡ Ok at → at ≡ place_in r
place-told r e = rw e

module _ (b : List ℕ) (s : Session) {claim : Claim} where
  pub count-elevated : claim ≡ Elevated → b ≡ counted_in b s claim
  unfolding counted_in
  count-elevated e = rw e

  pub count-by-user : {u : UserClaim} {after : List ℕ} → claim ≡ ByUser u → after ≡ counted_in b s (ByUser u) → after ≡ counted_in b s claim
  count-by-user e q = q ∙ rw e

-- ---- the record
first-fails : (a : Bool) {b : Bool} → (a && b) ≡ false → b ≡ true → a ≡ false
first-fails true e w = clash w e
first-fails false e w = refl

module _ (b : List ℕ) (s : Session) (claim : Claim) (class : Class) {f h : Bool} (r : f ≡ are_in_range s claim class) (e : Ready f b h) where
  made : holds_state b ≡ true → is_made true b ≡ true
  unfolding is_made
  made w = w

  -- refused for its arguments or for the slice
  pub record-none : not h ≡ true → CallEntry true b (Record s claim class) 1 b
  unfolding is_made
  record-none k =
      split (holds_state b)
      (λ w.
      let o : are_in_range s claim class ≡ false = sym r ∙ first-fails f (sym e.is ∙ not-true h k) w in
      entry-made true b (Record s claim class) (made w) (outside-number (state_of b) s claim class o)
      (sym (stopped-bytes b e.bytes w (Record s claim class) (outside-stops (state_of b) s claim class o))))
      (λ w. entry-none true b (Record s claim class) w)

  module _ (k : h ≡ true) (t : Result ClaimCheck Refusal) (x : tested_in t ≡ tested (state_of b) s claim) where
    device : is_device class ≡ true
    unfolding are_in_range is_made
    device = and_right (is_in_range claim) _ (and_right (is_session s) _ (sym r ∙ and_left f (holds_state b) (sym e.is ∙ k)))

    up-to : up_to (state_of b) (Record s claim class) ≡ admitted (state_of b) s claim
    unfolding ahead_number record_tests protection protected_number ◌unless◌ ◌▸◌
    up-to = rw device

    pub record-refused : (a : Result Unit Refusal) {why : Refusal} → t ≡ Err why → a ≡ Err why → CallEntry true b (Record s claim class) (number_of a) b
    unfolding passes
    record-refused a {why} y q =
        let w : RefusedWith (state_of b) s claim (refusal_number why) = tested-refusal (state_of b) s claim (sym x ∙ ap tested_in y) in
        let p : passes (state_of b) (Record s claim class) ≡ false = ne_eqb _ 0 (λ z. w.some (w.is ∙ sym up-to ∙ z)) in
        entry-made true b (Record s claim class) (made (made_holds e (ap not k))) (ap number_of q ∙ w.is ∙ sym up-to ∙ sym (number-stop (state_of b) (Record s claim class) p))
        (sym (stopped-bytes b e.bytes (made_holds e (ap not k)) (Record s claim class) p))

    pub record-passed : {by : ClaimCheck} {n : ℕ} {after : List ℕ} → t ≡ Ok by → after ≡ counted_in b s claim → n ≡ asked (record_tests class) (checked_in by)
        → CallEntry true b (Record s claim class) n after
    unfolding protection effect passes
    record-passed y w c =
        let a : PassedWith (state_of b) s claim _ = tested-pass (state_of b) s claim (sym x ∙ ap tested_in y) in
        let z : admitted (state_of b) s claim ≡ 0 = sym (checked-number (state_of b) s claim a.is) ∙ a.clear in
        let p : passes (state_of b) (Record s claim class) ≡ true = eq-eqb _ 0 (up-to ∙ z) in
        entry-made true b (Record s claim class) (made (made_holds e (ap not k))) (record-number (state_of b) s claim a.is class c)
        (w
        ∙ counted-held b e.bytes (made_holds e (ap not k)) s claim z
        ∙ ap state_bytes (sym (only-counted (state_of b) (Record s claim class) refl refl p)))

-- what the count asks
module _ (b : List ℕ) (s : Session) (claim : Claim) (t : Result ClaimCheck Refusal) {by : ClaimCheck} (x : tested_in t ≡ tested (state_of b) s claim) (y : t ≡ Ok by) where
  pub passed-checked : checked_in by ≡ checked (state_of b) s claim
  passed-checked = (tested-pass (state_of b) s claim (sym x ∙ ap tested_in y)).is

  pub passed-clear : number_of by.place ≡ 0
  passed-clear = (tested-pass (state_of b) s claim (sym x ∙ ap tested_in y)).clear

pub ruleset rules = (call-rules, next-fits, count-written, count-elevated, count-by-user, place-told, record-none, record-refused, record-passed, passed-checked, passed-clear)
