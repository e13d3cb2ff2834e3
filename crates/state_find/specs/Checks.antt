-- What the check of a claim comes to on a state: the number that refuses it, or what its call goes on with; and the parts in which it is gone through.
use Rattle.std.specs.Prelude.{ℕ, cond, eqb, Result, Ok, Err}
use Rattle.names.specs.declared.Session.{Session}
use Rattle.table.specs.Table.{found_place, find_active}
use Rattle.module_state.specs.Numbers as No
use Rattle.module_state.specs.Claim.{sought, claim_view, claim_number, placed, checked, admitted}
use Rattle.module_state.specs.declared.Claim.{Claim}
use Rattle.module_state.specs.Refusals.{refusal_number, checked_in}
use Rattle.module_state.specs.declared.Placed.{Placed}
use Rattle.module_state.specs.declared.Checked.{Checked}
use Rattle.module_state.specs.declared.ClaimCheck.{ClaimCheck}
use Rattle.module_state.specs.declared.Refusal.{Refusal}
use Rattle.module_state.specs.declared.State.{State}

-- the tests of the claim itself, and the place of its process
unfoldable pub claim_place : State → Session → Claim → Placed
claim_place st s claim = placed (claim_number claim (claim_view st s claim)) (found_place 0 (find_active st.table (sought s claim)))

-- all tests of the check, and that place
unfoldable pub checked_place : State → Session → Claim → Placed
checked_place st s claim = record { number = (checked st s claim).number; place = (checked st s claim).place }

-- the number that refuses the claim, or what its call goes on with
pub data Tested : Type 0 where
  Refused : ℕ → Tested
  Passed : Checked → Tested

unfoldable pub tested : State → Session → Claim → Tested
tested st s claim = cond (eqb (admitted st s claim) No.done) (Passed (checked st s claim)) (Refused (admitted st s claim))

-- what the code answers, as that
abbrev pub tested_in : Result ClaimCheck Refusal → Tested
tested_in (Ok by) = Passed (checked_in by)
tested_in (Err refusal) = Refused (refusal_number refusal)
