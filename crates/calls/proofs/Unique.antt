-- No second answer meets the contract of the public function of this crate.
-- Assumes nothing.
use mathlib.Core.Path.{sym, ◌∙◌}
use Rattle.lists.proofs.Once.{OneAnswer}
use Rattle.calls.proofs.answer_number.Kinds as answer-number-kinds
use Rattle.calls.proofs.answer_number.Reads as answer-number

pub answer-number-once : OneAnswer 0 answer-number-kinds.ps answer-number-kinds.r answer-number.Post
answer-number-once κs a x y s t p q = p ∙ sym q
