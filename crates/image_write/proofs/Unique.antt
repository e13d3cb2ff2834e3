-- No second answer meets the contract of the public function of this crate, and no second content of the buffer that was lent.
-- Assumes nothing.
use mathlib.Core.Path.{sym, ◌∙◌}
use Rattle.lists.proofs.Once.{OneAnswer, OneContent}
use Rattle.image_write.proofs.write_image.Kinds as write-image-kinds
use Rattle.image_write.proofs.write_image.Reads as write-image

pub write-image-once : OneAnswer 1 write-image-kinds.ps write-image-kinds.r write-image.Post
write-image-once κs a x y s t p q = p.length-is ∙ sym q.length-is

pub write-image-content : OneContent 1 write-image-kinds.ps write-image-kinds.r write-image.Post (λ κs s. s.0.now)
write-image-content κs a x y s t p q = p.bytes-are ∙ sym q.bytes-are
