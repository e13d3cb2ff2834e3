-- No second answer meets the contract of any public function of this crate, and no second content of the buffer that was lent.
-- Assumes nothing.
use mathlib.Core.Path.{sym, ◌∙◌}
use Rattle.lists.proofs.Once.{OneAnswer, OneContent}
use Rattle.message_fields_write.proofs.Laws.{written-once}
use Rattle.message_write.proofs.write_message.Kinds as write-message-kinds
use Rattle.message_write.proofs.write_message.Reads as write-message
use Rattle.message_write.proofs.write_piece.Kinds as write-piece-kinds
use Rattle.message_write.proofs.write_piece.Reads as write-piece

pub write-message-once : OneAnswer 2 write-message-kinds.ps write-message-kinds.r write-message.Post
write-message-once κs a x y s t p q = written-once x y (p.0 ∙ sym q.0)

pub write-message-content : OneContent 2 write-message-kinds.ps write-message-kinds.r write-message.Post (λ κs s. s.0.now)
write-message-content κs a x y s t p q = p.1 ∙ sym q.1

pub write-piece-once : OneAnswer 2 write-piece-kinds.ps write-piece-kinds.r write-piece.Post
write-piece-once κs a x y s t p q = written-once x y (p.0 ∙ sym q.0)

pub write-piece-content : OneContent 2 write-piece-kinds.ps write-piece-kinds.r write-piece.Post (λ κs s. s.0.now)
write-piece-content κs a x y s t p q = p.1 ∙ sym q.1
