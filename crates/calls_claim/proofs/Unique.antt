-- No second answer meets the contract of a public function of this crate.
-- Assumes nothing.
use mathlib.Core.Path.{sym, ◌∙◌}
use denote.Param.Laws.{Laws, IsCopy}
use denote.RattleType.{RattleType}
use mir.Syntax.{Dict}
use Rattle.std.specs.declared.clone.Clone as clone
use Rattle.lists.proofs.Once.{OneAnswer}
use Rattle.module_state.proofs.Refusals.{checked-once}
use Rattle.calls_claim.proofs.check.Kinds as check-kinds
use Rattle.calls_claim.proofs.check.Reads as check
use Rattle.calls_claim.proofs.charged_with.Kinds as charged-with-kinds
use Rattle.calls_claim.proofs.charged_with.Reads as charged-with
use Rattle.calls_claim.proofs.charged_by.Kinds as charged-by-kinds
use Rattle.calls_claim.proofs.charged_by.Reads as charged-by

pub check-once : OneAnswer 0 check-kinds.ps check-kinds.r check.Post
check-once κs a x y s t p q = checked-once x y (p ∙ sym q)

pub charged-with-once : (T : RattleType) (laws : Laws T) (copied : IsCopy T) (ghosts : clone.Ghosts T.Denot) (dict : Dict)
    → OneAnswer 1 (charged-with-kinds.ps T laws copied) (charged-with-kinds.r T laws copied) (charged-with.Post T laws copied ghosts dict)
charged-with-once T laws copied ghosts dict κs a x y s t p q = p ∙ sym q

pub charged-by-once : OneAnswer 0 charged-by-kinds.ps charged-by-kinds.r charged-by.Post
charged-by-once κs a x y s t p q = p ∙ sym q
