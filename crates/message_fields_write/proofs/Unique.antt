-- No second answer meets the contract of the public function of this crate, and no second content of the buffer that was lent. Assumes nothing.
use mathlib.Core.Path.{sym, ◌∙◌}
use Rattle.lists.proofs.Once.{OneAnswer, OneContent}
use Rattle.message_fields_write.proofs.Laws.{written-once}
use Rattle.message_fields_write.proofs.write_body.Kinds as write-body-kinds
use Rattle.message_fields_write.proofs.write_body.Reads as write-body

pub write-body-once : OneAnswer 2 write-body-kinds.ps write-body-kinds.r write-body.Post
write-body-once κs a x y s t p q = written-once x y (p.0 ∙ sym q.0)

pub write-body-content : OneContent 2 write-body-kinds.ps write-body-kinds.r write-body.Post (λ κs s. s.0.now)
write-body-content κs a x y s t p q = p.1 ∙ sym q.1
