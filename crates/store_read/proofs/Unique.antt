-- No second answer meets the contract of any public function of this crate, and no second content of the buffer that was lent.
-- Assumes nothing.
use mathlib.Core.Path.{sym, ◌∙◌}
use Rattle.lists.proofs.Once.{OneView, OneAnswer, OneContent}
use Rattle.store_read.proofs.read_heads.Kinds as read-heads-kinds
use Rattle.store_read.proofs.read_heads.Reads as read-heads
use Rattle.store_read.proofs.copy_parameters.Kinds as copy-parameters-kinds
use Rattle.store_read.proofs.copy_parameters.Reads as copy-parameters
use Rattle.store_read.proofs.head_part.Kinds as head-part-kinds
use Rattle.store_read.proofs.head_part.Reads as head-part

pub read-heads-once : OneAnswer 1 read-heads-kinds.ps read-heads-kinds.r read-heads.Post
read-heads-once κs a x y s t p q = p ∙ sym q

pub copy-parameters-once : OneContent 2 copy-parameters-kinds.ps copy-parameters-kinds.r copy-parameters.Post (λ κs s. s.1.1.0.now)
copy-parameters-once κs a x y s t p q = p ∙ sym q

pub head-part-once : OneView 1 head-part-kinds.ps head-part-kinds.r head-part.Post (λ κs x. x.now)
head-part-once κs a x y s t p q = p ∙ sym q
