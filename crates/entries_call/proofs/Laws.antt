-- A call made on a slice; and that what is put back of it is what its entry asks for.
-- Assumes nothing.
use Prim.Native.Nat.{ℕ}
use mathlib.Core.Path.{◌≡◌, refl, sym, ap, ◌∙◌}
use mathlib.Core.Bool.{Bool, true, false, not, cond}
use mathlib.Core.List.{List}
use lib.Dec.{eqb}
use borrow.Author.Tests.{not-true, not-false, eqb-true, eqb-false}
use Rattle.lists.proofs.Tests.{split, and_right}
use Rattle.module_state.specs.Numbers.{◌unless◌, ◌▸◌}
use Rattle.module_state.specs.declared.State.{State}
use Rattle.calls.specs.Calls.{Call, number, Protection, Free, Under, protection, refusal, outcome, answer_number}
use Rattle.calls.specs.declared.Answer.{Answer}
use Rattle.calls.specs.declared.Outcome.{Outcome}
use Rattle.calls.proofs.Cut.{left-free}
use Rattle.calls.proofs.Laws.{outcome-done, outcome-refused, refusal-leaves, answer-number}
use Rattle.state_layout.specs.Layout.{state_of, state_bytes, holds_state, state_written}
use Rattle.state_layout.proofs.Laws.{holds-shape, one_form, state-written}
use Rattle.entries_call.specs.CallEntry.{is_made, Ready, entry_number, entry_bytes, CallEntry}
use Rattle.entries_call.specs.PutBack.{may_change, bytes_put_back, PutBack}

-- ---- a call on a slice
module _ (fine : Bool) (before : List ℕ) (call : Call) where
  pub entry-none : is_made fine before ≡ false → CallEntry fine before call 1 before
  unfolding entry_number entry_bytes ◌unless◌ ◌▸◌
  entry-none z = record { number_is = rw z; bytes-are = rw z }

  pub entry-made : is_made fine before ≡ true → {answer : ℕ} {after : List ℕ} → answer ≡ number (state_of before) call
      → after ≡ state_bytes (outcome (state_of before) call).state → CallEntry fine before call answer after
  unfolding entry_number entry_bytes ◌unless◌ ◌▸◌
  entry-made z e w = record { number_is = e ∙ rw z; bytes-are = w ∙ rw z }

pub made_holds : {fine h : Bool} {before : List ℕ} → Ready fine before h → not h ≡ false → holds_state before ≡ true
unfolding is_made
made_holds {fine} {h} {before} e k = and_right fine (holds_state before) (sym e.is ∙ not-false h k)

-- ---- a slice on which a call is made: what is put back are the bytes of the outcome's state. What the refusal of a call without a claim leaves stands there already
module _ {tested h : Bool} {before : List ℕ} (e : Ready tested before h) (n : not h ≡ false) (call : Call) where
  abbrev st : State
  st = state_of before

  abbrev next : State
  next = (outcome st call).state

  written : state_written before next ≡ state_bytes next
  written = state-written before next (holds-shape before (made_holds e n)).long

  refused-bytes : (number st call ≡ 0 → ⊥) → (w : Protection) → protection call ≡ w → cond (may_change (refusal w (number st call))) (state_written before next) before ≡ state_bytes next
  unfolding may_change refusal
  refused-bytes z Free p = sym (ap state_bytes (refusal-leaves st call z ∙ left-free st call p) ∙ one_form before (made_holds e n) e.bytes)
  refused-bytes z (Under s claim) p = written

  pub bytes-put-back : bytes_put_back before (outcome (state_of before) call) ≡ state_bytes next
  unfolding bytes_put_back may_change
  bytes-put-back =
      split (eqb (number st call) 0)
      (λ z. ap (λ (a : Answer). cond (may_change a) (state_written before next) before) (ap (λ (o : Outcome). o.answer) (outcome-done st call (eqb-true (number st call) 0 z))) ∙ written)
      (λ z.
      let y : number st call ≡ 0 → ⊥ = eqb-false (number st call) 0 z in
      ap (λ (a : Answer). cond (may_change a) (state_written before next) before) (ap (λ (o : Outcome). o.answer) (outcome-refused st call y)) ∙ refused-bytes y (protection call) refl)

-- ---- an entry: refused for its arguments or for the slice, or as the call answers
module _ {tested : Bool} (fine : Bool) (f : tested ≡ fine) (before : List ℕ) (call : Call) {h : Bool} (e : Ready tested before h) where
  pub call_none : not h ≡ true → CallEntry fine before call 1 before
  call_none n = entry-none fine before call (rw (← f) (sym e.is ∙ not-true h n))

  pub call-made : {st : State} {other : Call} {o : Outcome} {r : ℕ} {after : List ℕ}
      → not h ≡ false → st ≡ state_of before → o ≡ outcome st other → other ≡ call → PutBack before o r after → CallEntry fine before call r after
  call-made {st} {other} {o} {r} {after} n s q w v =
      let a : o ≡ outcome (state_of before) call = rw (← s, ← w) q in
      entry-made fine before call (rw (← f) (sym e.is ∙ not-false h n))
      (v.number_is ∙ ap (λ (x : Outcome). answer_number x.answer) a ∙ answer-number (state_of before) call)
      (v.bytes-are ∙ ap (bytes_put_back before) a ∙ bytes-put-back e n call)
