-- No second answer meets the contract of any public function of this crate.
-- Assumes nothing.
use mathlib.Core.Path.{sym, ◌∙◌}
use Rattle.lists.proofs.Once.{OneAnswer}
use Rattle.image_figures.proofs.size_said.Kinds as size-said-kinds
use Rattle.image_figures.proofs.size_said.Reads as size-said
use Rattle.image_figures.proofs.line_of.Kinds as line-of-kinds
use Rattle.image_figures.proofs.line_of.Reads as Line-of

pub size-said-once : OneAnswer 1 size-said-kinds.ps size-said-kinds.r size-said.Post
size-said-once κs a x y s t p q = p ∙ sym q

pub line-of-once : OneAnswer 2 line-of-kinds.ps line-of-kinds.r Line-of.Post
line-of-once κs a x y s t p q = p ∙ sym q
