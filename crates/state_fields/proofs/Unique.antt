-- No second answer meets the contract of the public function of this crate.
-- Assumes nothing.
use mathlib.Core.Path.{sym, ◌∙◌}
use Rattle.lists.proofs.Once.{OneAnswer}
use Rattle.state_fields.proofs.all_fit.Kinds as all-fit-kinds
use Rattle.state_fields.proofs.all_fit.Reads as all_fit

pub all-fit-once : OneAnswer 1 all-fit-kinds.ps all-fit-kinds.r all_fit.Post
all-fit-once κs a x y s t p q = p ∙ sym q
