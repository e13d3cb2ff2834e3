-- No second answer meets the contract of any public function of this crate.
-- Assumes nothing.
use mathlib.Core.Path.{sym, ◌∙◌}
use denote.Param.Laws.{Laws, IsCopy}
use denote.RattleType.{RattleType}
use mir.Syntax.{Dict}
use Rattle.std.specs.declared.clone.Clone as clone
use Rattle.lists.proofs.Once.{OneAnswer}
use Rattle.module_state.proofs.Refusals.{number-once, checked-once}
use Rattle.claim_check.proofs.is_in_range.Kinds as is-in-range-kinds
use Rattle.claim_check.proofs.is_in_range.Reads as is_in_range
use Rattle.claim_check.proofs.is_spent.Kinds as is-spent-kinds
use Rattle.claim_check.proofs.is_spent.Reads as is-spent
use Rattle.claim_check.proofs.turn_number.Kinds as turn-number-kinds
use Rattle.claim_check.proofs.turn_number.Reads as turn-number
use Rattle.claim_check.proofs.sought.Kinds as sought-kinds
use Rattle.claim_check.proofs.sought.Reads as sought
use Rattle.claim_check.proofs.speaks_for.Kinds as speaks-for-kinds
use Rattle.claim_check.proofs.speaks_for.Reads as speaks-for
use Rattle.claim_check.proofs.check_claim.Kinds as check-claim-kinds
use Rattle.claim_check.proofs.check_claim.Reads as check-claim
use Rattle.claim_check.proofs.passed_with.Kinds as passed-with-kinds
use Rattle.claim_check.proofs.passed_with.Reads as passed-with
use Rattle.claim_check.proofs.passed_by.Kinds as passed-by-kinds
use Rattle.claim_check.proofs.passed_by.Reads as passed-by

pub is-in-range-once : OneAnswer 0 is-in-range-kinds.ps is-in-range-kinds.r is_in_range.Post
is-in-range-once κs a x y s t p q = p ∙ sym q

pub is-spent-once : OneAnswer 0 is-spent-kinds.ps is-spent-kinds.r is-spent.Post
is-spent-once κs a x y s t p q = p ∙ sym q

pub turn-number-once : OneAnswer 0 turn-number-kinds.ps turn-number-kinds.r turn-number.Post
turn-number-once κs a x y s t p q = number-once x y (p ∙ sym q)

pub sought-once : OneAnswer 0 sought-kinds.ps sought-kinds.r sought.Post
sought-once κs a x y s t p q = p ∙ sym q

pub speaks-for-once : OneAnswer 0 speaks-for-kinds.ps speaks-for-kinds.r speaks-for.Post
speaks-for-once κs a x y s t p q = p ∙ sym q

pub check-claim-once : OneAnswer 0 check-claim-kinds.ps check-claim-kinds.r check-claim.Post
check-claim-once κs a x y s t p q = checked-once x y (p ∙ sym q)

pub passed-with-once : (T : RattleType) (laws : Laws T) (copied : IsCopy T) (ghosts : clone.Ghosts T.Denot) (dict : Dict)
    → OneAnswer 1 (passed-with-kinds.ps T laws copied) (passed-with-kinds.r T laws copied) (passed-with.Post T laws copied ghosts dict)
passed-with-once T laws copied ghosts dict κs a x y s t p q = p ∙ sym q

pub passed-by-once : OneAnswer 0 passed-by-kinds.ps passed-by-kinds.r passed-by.Post
passed-by-once κs a x y s t p q = p ∙ sym q
