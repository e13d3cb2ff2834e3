-- From the number that a call was answered, whether its claim passed: the reading that the history makes, and that it is right.
-- Assumes nothing.
use Prim.Native.Nat.{ℕ}
use mathlib.Core.Path.{◌≡◌, refl, ◌∙◌}
use mathlib.Core.Bool.{Bool, true, false, not}
use lib.ListN.{get_or}
use borrow.Author.Tests.{eqb-false}
use Rattle.lists.proofs.Tests.{split}
use Rattle.lists.proofs.Each.{each_at}
use Rattle.rows.specs.Rows.{every}
use Rattle.names.specs.declared.Session.{Session}
use Rattle.table.specs.Table.{free_place}
use Rattle.table.specs.declared.Active.TheVariants.{UserOf}
use Rattle.table.specs.declared.Process.{Process}
use Rattle.table.proofs.Searched.{user-of}
use Rattle.module_state.specs.Numbers.{◌when◌, ◌unless◌, ◌▸◌}
use Rattle.module_state.specs.Module.{provisioned, has_active, active_place}
use Rattle.module_state.specs.Claim.{phase_number, entered, sought, claim_view, turn_number, check_number, check_of, checked, admitted}
use Rattle.module_state.specs.declared.Claim.TheVariants.{ByUser}
use Rattle.module_state.specs.declared.State.{State}
use Rattle.module_state.specs.declared.UserClaim.{UserClaim}
use Rattle.module_state.proofs.Laws.{unless-true, by-when, by-unless, by-then, claim-stands, user-tests}
use Rattle.calls.specs.Calls.{Call, Under, number, protection, ahead_number, protected_number, passes}
use Rattle.calls.proofs.Cut.{up_to, passed-claim, passed-number, number-stop, ahead-one}
use Rattle.module_rules.specs.Facts.{processes, Rules}
use Rattle.history.specs.Lives.{tells_passed}
use Rattle.history.proofs.Facts.{stands}

-- a number that is no refusal, or one that tells of a claim that did not pass
abbrev Early : ℕ → Type 0
Early n = (n ≡ 0 → ⊥) → tells_passed n ≡ false

none-early : Early 0
none-early h = absurd (h refl)

early-when : (n : ℕ) (b : Bool) → tells_passed n ≡ false → Early (n when b)
early-when n b e = by-when Early none-early n b (λ h. e)

early-unless : (n : ℕ) (b : Bool) → tells_passed n ≡ false → Early (n unless b)
early-unless n b e = by-unless Early none-early n b (λ h. e)

-- a test that does not hold
early-held : (n : ℕ) {b : Bool} → b ≡ true → Early (n unless b)
early-held n e h = absurd (h (unless-true n e))

early-then : (n m : ℕ) → Early n → Early m → Early (n ▸ m)
early-then = by-then Early

-- ---- where the credential is provisioned and has that process, what the check of a user claim answers
module _ (st : State) (s : Session) (u : UserClaim) (owner : provisioned st u.credential ≡ true) (active : has_active st (UserOf s u.credential) ≡ true) where
  early-turn : (next : ℕ) → Early (turn_number next u)
  unfolding turn_number tells_passed
  early-turn next = early-then _ _ (early-when 13 _ refl) (early-then _ _ (early-unless 9 _ refl) (early-unless 8 _ refl))

  early-entered : Early (entered st s)
  unfolding entered phase_number tells_passed
  early-entered = early-then _ _ (early-unless 1 _ refl) (early-then _ _ (early-when 2 _ refl) (early-unless 3 _ refl))

  early-admitted : Early (admitted st s (ByUser u))
  unfolding admitted checked check_of check_number entered claim_view tells_passed
  early-admitted =
      early-then _ _ (early-unless 1 _ refl)
      (early-then _ _ early-entered (rw (user-tests st s u) (early-then _ _ (early-held 5 owner) (early-then _ _ (early-held 6 active) (early-turn _)))))

-- a user claim that passed is one of a process that stands
module _ (st : State) (call : Call) (s : Session) (u : UserClaim) (w : protection call ≡ Under s (ByUser u)) (p : passes st call ≡ true) where
  pub claim-passed : admitted st s (ByUser u) ≡ 0
  unfolding protected_number
  claim-passed = rw w at (passed-claim st call p)

  pub active-passed : has_active st (UserOf s u.credential) ≡ true
  unfolding sought
  active-passed = claim-stands st s (ByUser u) claim-passed

module _ (st : State) (v : Rules st) where
  -- whoever has an active process is provisioned
  pub owner : (s : Session) (u : UserClaim) → has_active st (UserOf s u.credential) ≡ true → provisioned st u.credential ≡ true
  owner s u h =
      let f = stands st (UserOf s u.credential) h in
      let x : Process = get_or (processes st) (active_place st (UserOf s u.credential)) free_place in
      rw (user-of x s u.credential f.passes).credential at (each_at _ free_place f.inside v.each).owner

  -- up to the claim, where its process stands and 1 alone comes ahead of it: a call that is refused there tells so
  pub stops : (ahead : ℕ) (s : Session) (u : UserClaim) → has_active st (UserOf s u.credential) ≡ true → ((ahead ≡ 0 → ⊥) → ahead ≡ 1) → (ahead ▸ admitted st s (ByUser u) ≡ 0 → ⊥) → tells_passed (ahead ▸ admitted st s (ByUser u)) ≡ false
  unfolding tells_passed
  stops ahead s u h one = early-then ahead _ (λ k. rw (one k)) (early-admitted st s u (owner s u h) h)

  -- where a user claim's process stands, a call under the claim is answered 1, 2, 3, 13, 9 or 8 exactly where the claim did not pass
  pub reading : (call : Call) (s : Session) (u : UserClaim) → protection call ≡ Under s (ByUser u) → has_active st (UserOf s u.credential) ≡ true → tells_passed (number st call) ≡ passes st call
  unfolding tells_passed every
  reading call s u w h =
      split (passes st call)
      (λ p. rw p (passed-number st tells_passed refl call p))
      (λ p.
      let is : up_to st call ≡ ahead_number st call ▸ admitted st s (ByUser u) = unfold protected_number in rw w in
      let some : up_to st call ≡ 0 → ⊥ = unfold passes in eqb-false (up_to st call) 0 p in
      rw (p, number-stop st call p, is) (stops (ahead_number st call) s u h (ahead-one st call w) (λ z. some (is ∙ z))))
