-- No second answer meets the contract of the public function of this crate.
-- Assumes nothing.
use mathlib.Core.Path.{sym, ◌∙◌}
use Rattle.lists.proofs.Once.{OneAnswer}
use Rattle.state_test.proofs.holds.Kinds as holds-kinds
use Rattle.state_test.proofs.holds.Reads as holds

pub holds-once : OneAnswer 1 holds-kinds.ps holds-kinds.r holds.Post
holds-once κs a x y s t p q = p ∙ sym q
