-- No second answer meets the contract of the public function of this crate, and no second content of the buffer that was lent.
-- Assumes nothing.
use mathlib.Core.Path.{sym, ◌∙◌}
use Rattle.lists.proofs.Once.{OneAnswer, OneContent}
use Rattle.listing_call.proofs.list.Kinds as list-kinds
use Rattle.listing_call.proofs.list.Reads as list

pub list-once : OneAnswer 1 list-kinds.ps list-kinds.r list.Post
list-once κs a x y s t p q = p.0 ∙ sym q.0

pub list-content : OneContent 1 list-kinds.ps list-kinds.r list.Post (λ κs s. s.1.1.1.1.0.now)
list-content κs a x y s t p q = p.1 ∙ sym q.1
