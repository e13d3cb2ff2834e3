-- No second content of the slice that was lent meets the contract of the public function of this crate.
-- Assumes nothing.
use mathlib.Core.Path.{sym, ◌∙◌}
use Rattle.lists.proofs.Once.{OneContent}
use Rattle.state_write.proofs.write.Kinds as write-kinds
use Rattle.state_write.proofs.write.Reads as write

pub write-once : OneContent 1 write-kinds.ps write-kinds.r write.Post (λ κs s. s.0.now)
write-once κs a x y s t p q = p ∙ sym q
