-- The claim counted at a place, whatever stands there: where the claim passed its check and the place is its process's, this is what the calls count (`counted`).
use Rattle.std.specs.Prelude.{ℕ, cond}
use Rattle.table.specs.Table.{process_at, replaced}
use Rattle.module_state.specs.Claim.{is_spent, passed_by}
use Rattle.module_state.specs.declared.Checked.{Checked}
use Rattle.module_state.specs.declared.Claim.{Claim}
use Rattle.module_state.specs.declared.Claim.TheVariants.{Elevated, ByUser}
use Rattle.module_state.specs.declared.State.{State}
use Rattle.calls.specs.Calls.{with_table, one_more}

-- the next number of the process at a place, one more. One that is spent stays: no claim of such a process is admitted
unfoldable pub counted_at : State → ℕ → State
counted_at st at =
    cond (is_spent (process_at st.table at).next)
    st
    (with_table st (replaced st.table at (one_more (process_at st.table at))))

-- "a user claim that passes its check adds one": an elevated claim has no number
unfoldable pub counted_by : State → Claim → ℕ → State
counted_by st Elevated at = st
counted_by st (ByUser u) at = counted_at st at

-- the state that a call under the claim goes on with, or that its refusal leaves: by what the claim's check came to, and the call's number
unfoldable pub charged_by : State → Checked → ℕ → State
charged_by st by n = cond (passed_by by n) (counted_by st by.claim by.place) st
