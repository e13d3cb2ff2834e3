-- What an outcome answers, and what is put back of it into the lent state, whichever call it is of.
use Rattle.std.specs.Prelude.{ℕ, ◌≡◌, Bool, true, false, cond, List}
use Rattle.calls.specs.Calls.{answer_number}
use Rattle.calls.specs.declared.Answer.{Answer}
use Rattle.calls.specs.declared.Answer.TheVariants.{Done, Refused, RefusedClaim}
use Rattle.calls.specs.declared.Outcome.{Outcome}
use Rattle.state_layout.specs.Layout.{state_written}

-- a call without a claim that is refused leaves the state; the refusal of a protected one may have spent a number
unfoldable pub may_change : Answer → Bool
may_change Done = true
may_change (Refused n) = false
may_change (RefusedClaim n claim) = true

unfoldable pub bytes_put_back : List ℕ → Outcome → List ℕ
bytes_put_back before outcome = cond (may_change outcome.answer) (state_written before outcome.state) before

pub record PutBack (before : List ℕ) (outcome : Outcome) (answer : ℕ) (after : List ℕ) : Type 0 where
  pub number_is : answer ≡ answer_number outcome.answer
  pub bytes-are : after ≡ bytes_put_back before outcome
