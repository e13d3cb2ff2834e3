-- What callers cite of an outcome.
-- Assumes nothing.
use Rattle.std.specs.Prelude.{Result, Ok, Err}
use Prim.Native.Nat.{ℕ}
use mathlib.Core.Path.{◌≡◌, refl, sym, ap, ◌∙◌}
use borrow.Author.Tests.{eq-eqb, ne_eqb, eqb-true, eqb-false}
use lib.Dec.{eqb}
use Rattle.lists.proofs.Tests.{split}
use Rattle.names.specs.declared.Session.{Session}
use Rattle.module_state.specs.Claim.{checked}
use Rattle.module_state.specs.declared.Checked.{Checked}
use Rattle.module_state.specs.declared.Claim.{Claim}
use Rattle.module_state.specs.declared.Refusal.{Refusal}
use Rattle.module_state.specs.declared.State.{State}
use Rattle.module_state.proofs.Refusals.{refusal-once, refusal-some}
use Rattle.calls.specs.declared.Answer.TheVariants.{Done}
use Rattle.calls.specs.declared.Outcome.{Outcome}
use Rattle.calls.specs.Calls.{Call, Protection, Free, Under, protection, tests, asked, number, effect, left, refusal, answer_number, outcome, measured_in}
use Rattle.calls.specs.declared.Measured.{Measured}

-- an accepted call does what it does; a refused one leaves what a refusal leaves
pub outcome-done : (st : State) (call : Call) → number st call ≡ 0 → outcome st call ≡ record { state = effect st call; answer = Done }
unfolding outcome
outcome-done st call e = rw (eq-eqb (number st call) 0 e)

pub outcome-refused : (st : State) (call : Call) → (number st call ≡ 0 → ⊥) → outcome st call ≡ record { state = left st call; answer = refusal (protection call) (number st call) }
unfolding outcome
outcome-refused st call h = rw (ne_eqb (number st call) 0 h)

pub refusal-leaves : (st : State) (call : Call) → (number st call ≡ 0 → ⊥) → (outcome st call).state ≡ left st call
refusal-leaves st call h = ap (λ (o : Outcome). o.state) (outcome-refused st call h)

-- whatever the call, the answer has the number
refusal-number : (w : Protection) (n : ℕ) → answer_number (refusal w n) ≡ n
unfolding refusal
refusal-number Free n = refl
refusal-number (Under s claim) n = refl

pub answer-number : (st : State) (call : Call) → answer_number (outcome st call).answer ≡ number st call
answer-number st call =
    split (eqb (number st call) 0)
    (λ e. let z : number st call ≡ 0 = eqb-true (number st call) 0 e in rw (outcome-done st call z, z))
    (λ e. let h : number st call ≡ 0 → ⊥ = eqb-false (number st call) 0 e in ap (λ (o : Outcome). answer_number o.answer) (outcome-refused st call h) ∙ refusal-number (protection call) (number st call))

-- ---- the number of a protected call, by what the check of its claim came to
pub number_by : (st : State) (call : Call) {s : Session} {claim : Claim} → protection call ≡ Under s claim → {by : Checked} → by ≡ checked st s claim
    → {n : ℕ} → n ≡ asked (tests st call) by → n ≡ number st call
unfolding number
number_by st call w e q = q ∙ rw (e, w)

-- ---- no two answers of a list call's tests measure alike
pub measured-once : (a b : Result ℕ Refusal) → measured_in a ≡ measured_in b → a ≡ b
measured-once (Ok x) (Ok y) e = ap (λ (m : Measured). Ok m.length) e
measured-once (Ok x) (Err s) e = absurd (refusal-some s (sym (ap (λ (m : Measured). m.number) e)))
measured-once (Err r) (Ok y) e = absurd (refusal-some r (ap (λ (m : Measured). m.number) e))
measured-once (Err r) (Err s) e = ap Err (refusal-once (ap (λ (m : Measured). m.number) e))
