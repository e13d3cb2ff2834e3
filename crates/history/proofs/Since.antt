-- What passed since, above what was before: a step that starts no process of a name does the same on top of earlier numbers, and one that starts one forgets them.
-- Assumes nothing.
use Prim.Native.Nat.{ℕ, ◌+◌, ◌≤◌}
use mathlib.Core.Path.{◌≡◌, refl, sym, ap, ◌∙◌}
use mathlib.Core.Bool.{true, false, cond}
use mathlib.Core.List.{List}
use native.Mathlib.Omega.{arith}
use lib.Dec.{eqb}
use borrow.Author.Tests.{not-true, not-false}
use Rattle.lists.specs.Lists.{any}
use Rattle.lists.proofs.Tests.{split, clash, and_left, and_right}
use Rattle.names.specs.declared.Credential.{Credential}
use Rattle.names.specs.declared.Name.{Name}
use Rattle.names.specs.declared.Session.{Session}
use Rattle.module_state.specs.declared.State.{State}
use Rattle.history.specs.Lives.{Life, Gone, Live, passed, count, Event, with_claim, onward, follow, told}
use Rattle.history.specs.Steps.{onto, Step, Steps, none, then}
use Rattle.history.specs.Since.{bare, told_since, begins, is_new}
use Rattle.history.proofs.Lives.{is-gone, onto-bare, is_users, count-onto, claim-onto, claim-gone}

-- ---- by one step
module _ (n : Name) {before next : State} {e : Event} (s : Step before e next) where
  onward-onto : begins n e ≡ false → (old : List ℕ) (life : Life) → onward n e (onto old life) ≡ onto old (onward n e life)
  unfolding onward
  onward-onto h old life =
      split (eqb e.answered 0)
      (λ q. rw q (ap (e.after n) (claim-onto old e life) ∙ s.above n (not-false _ (rw q at h)) old (with_claim e life)))
      (λ q. rw q (claim-onto old e life))

  onward-begins : begins n e ≡ true → (a b : Life) → onward n e a ≡ onward n e b
  unfolding onward
  onward-begins h a b =
      rw (and_left (eqb e.answered 0) _ h) (s.anew n (not-true _ (and_right (eqb e.answered 0) _ h)) (with_claim e a) (with_claim e b))

  onward-gone : begins n e ≡ false → onward n e Gone ≡ Gone
  unfolding onward
  onward-gone h = split (eqb e.answered 0) (λ q. rw (q, claim-gone e) (is-gone _ (not-false _ (rw q at h)))) (λ q. rw (q, claim-gone e))

-- ---- by steps one after another
module _ (n : Name) where
  follow-onto : {first last : State} {events : List Event} → Steps first events last → is_new events n ≡ false → (old : List ℕ) (life : Life) → follow n events (onto old life) ≡ onto old (follow n events life)
  unfolding follow is_new any
  follow-onto none h old life = refl
  follow-onto (then {e = e} {events = events} s k) h old life =
      split (begins n e)
      (λ q. clash refl (rw q at h))
      (λ q. ap (follow n events) (onward-onto n s q old life) ∙ follow-onto k (rw q at h) old (onward n e life))

  follow-new : {first last : State} {events : List Event} → Steps first events last → is_new events n ≡ true → (a b : Life) → follow n events a ≡ follow n events b
  unfolding follow is_new any
  follow-new none h a b = clash h refl
  follow-new (then {e = e} {events = events} s k) h a b =
      split (begins n e)
      (λ q. ap (follow n events) (onward-begins n s q a b))
      (λ q. follow-new k (rw q at h) (onward n e a) (onward n e b))

  -- a name that nobody has stays so while no process of it is started
  pub follow-gone : {first last : State} {events : List Event} → Steps first events last → is_new events n ≡ false → follow n events Gone ≡ Gone
  unfolding follow is_new any
  follow-gone none h = refl
  follow-gone (then {e = e} {events = events} s k) h =
      split (begins n e)
      (λ q. clash refl (rw q at h))
      (λ q. ap (follow n events) (onward-gone n s q) ∙ follow-gone k (rw q at h))

module _ {first last : State} {events : List Event} (k : Steps first events last) (tell : Name → Life) (n : Name) where
  pub count-since : is_users (told tell events n) ≡ true → count (told tell events n) ≡ cond (is_new events n) 0 (count (tell n)) + count (told_since tell events n)
  count-since h =
      split (is_new events n)
      (λ e. rw (e, follow-new n k e (tell n) (bare (tell n))) (omega arith))
      (λ e.
      let both : told tell events n ≡ onto (passed (tell n)) (told_since tell events n) =
      ap (follow n events) (sym (onto-bare (tell n))) ∙ follow-onto n k e (passed (tell n)) (bare (tell n))
      in
      rw e (ap count both ∙ count-onto (passed (tell n)) (told_since tell events n) (rw both at h)))

  -- a process that is live and was not started since has all of them
  pub not-below : (s : Session) (c : Credential) (ns : List ℕ) → told tell events n ≡ Live s c ns → is_new events n ≡ false → count (tell n) ≤ count (told tell events n)
  not-below s c ns lives old =
      let d : count (told tell events n) ≡ count (tell n) + count (told_since tell events n) = rw old at (count-since (rw lives)) in
      omega (arith, d)
