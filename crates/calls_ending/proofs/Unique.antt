-- No second answer meets the contract of any public function of this crate.
-- Assumes nothing.
use mathlib.Core.Path.{sym, ◌∙◌}
use Rattle.lists.proofs.Once.{OneAnswer}
use Rattle.calls_ending.proofs.end.Kinds as end-kinds
use Rattle.calls_ending.proofs.end.Reads as end
use Rattle.calls_ending.proofs.kill.Kinds as kill-kinds
use Rattle.calls_ending.proofs.kill.Reads as kill

pub end-once : OneAnswer 0 end-kinds.ps end-kinds.r end.Post
end-once κs a x y s t p q = p ∙ sym q

pub kill-once : OneAnswer 0 kill-kinds.ps kill-kinds.r kill.Post
kill-once κs a x y s t p q = p ∙ sym q
