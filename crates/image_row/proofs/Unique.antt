-- No second answer meets the contract of any public function of this crate, and no second content of the part that was lent.
-- Assumes nothing.
use mathlib.Core.Path.{sym, ◌∙◌}
use Rattle.lists.proofs.Once.{OneAnswer, OneContent}
use Rattle.image_row.proofs.row_of.Kinds as row-of-kinds
use Rattle.image_row.proofs.row_of.Reads as row_of
use Rattle.image_row.proofs.read_row.Kinds as read-row-kinds
use Rattle.image_row.proofs.read_row.Reads as read-row
use Rattle.image_row.proofs.put_row.Kinds as put-row-kinds
use Rattle.image_row.proofs.put_row.Reads as put-row

pub row-of-once : OneAnswer 1 row-of-kinds.ps row-of-kinds.r row_of.Post
row-of-once κs a x y s t p q = p ∙ sym q

pub read-row-once : OneAnswer 1 read-row-kinds.ps read-row-kinds.r read-row.Post
read-row-once κs a x y s t p q = p ∙ sym q

pub put-row-once : OneContent 1 put-row-kinds.ps put-row-kinds.r put-row.Post (λ κs s. s.0.now)
put-row-once κs a x y s t p q = p ∙ sym q
