-- No second answer meets the contract of any public function of this crate.
-- Assumes nothing.
use mathlib.Core.Path.{sym, ◌∙◌}
use Rattle.lists.proofs.Once.{OneAnswer}
use Rattle.calls_standing.proofs.list.Kinds as list-kinds
use Rattle.calls_standing.proofs.list.Reads as list
use Rattle.calls_standing.proofs.set_word.Kinds as set-word-kinds
use Rattle.calls_standing.proofs.set_word.Reads as set_word

pub list-once : OneAnswer 0 list-kinds.ps list-kinds.r list.Post
list-once κs a x y s t p q = p ∙ sym q

pub set-word-once : OneAnswer 0 set-word-kinds.ps set-word-kinds.r set_word.Post
set-word-once κs a x y s t p q = p ∙ sym q
