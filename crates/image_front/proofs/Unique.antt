-- No second content of the buffer that was lent meets the contract of the public function of this crate.
-- Assumes nothing.
use mathlib.Core.Path.{sym, ◌∙◌}
use Rattle.lists.proofs.Once.{OneContent}
use Rattle.image_front.proofs.put_front.Kinds as put-front-kinds
use Rattle.image_front.proofs.put_front.Reads as put_front

pub put-front-once : OneContent 1 put-front-kinds.ps put-front-kinds.r put_front.Post (λ κs s. s.0.now)
put-front-once κs a x y s t p q = p ∙ sym q
