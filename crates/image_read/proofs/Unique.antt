-- No second answer meets the contract of any public function of this crate.
-- Assumes nothing.
use mathlib.Core.Path.{sym, ◌∙◌}
use Rattle.lists.proofs.Once.{OneAnswer}
use Rattle.image_read.proofs.read_image.Kinds as read-image-kinds
use Rattle.image_read.proofs.read_image.Reads as read-image

pub read-image-once : OneAnswer 1 read-image-kinds.ps read-image-kinds.r read-image.Post
read-image-once κs a x y s t p q = p ∙ sym q
