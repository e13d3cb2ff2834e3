-- No second answer, and no second content of what was lent, meets the contract of any public function of this crate.
-- Assumes nothing.
use Prim.Native.Nat.{ℕ}
use mathlib.Core.Path.{sym, ap, ◌∙◌}
use mathlib.Core.List.{[], ◌∷◌}
use Rattle.lists.proofs.Once.{OneAnswer, OneContent}
use Rattle.entries_messages.proofs.slavotuk_read_message.Kinds as read-message-kinds
use Rattle.entries_messages.proofs.slavotuk_read_message.Reads as read-message-reads
use Rattle.entries_messages.proofs.slavotuk_read_piece.Kinds as read-piece-kinds
use Rattle.entries_messages.proofs.slavotuk_read_piece.Reads as read-piece-reads
use Rattle.entries_messages.proofs.slavotuk_write_message.Kinds as write-message-kinds
use Rattle.entries_messages.proofs.slavotuk_write_message.Reads as write-message-reads
use Rattle.entries_messages.proofs.slavotuk_write_piece.Kinds as write-piece-kinds
use Rattle.entries_messages.proofs.slavotuk_write_piece.Reads as write-piece-reads

pub read-message-once : OneAnswer 3 read-message-kinds.ps read-message-kinds.r read-message-reads.Post
read-message-once κs a x y s t p q = p.number_is ∙ sym q.number_is

pub read-message-values : OneContent 3 read-message-kinds.ps read-message-kinds.r read-message-reads.Post (λ κs s. s.1.0.now)
read-message-values κs a x y s t p q = p.values-are ∙ sym q.values-are

pub read-message-rest : OneContent 3 read-message-kinds.ps read-message-kinds.r read-message-reads.Post (λ κs s. s.1.1.0.now ∷ [])
read-message-rest κs a x y s t p q = ap (λ (n : ℕ). n ∷ []) (p.rest-is ∙ sym q.rest-is)

pub read-piece-once : OneAnswer 4 read-piece-kinds.ps read-piece-kinds.r read-piece-reads.Post
read-piece-once κs a x y s t p q = p.number_is ∙ sym q.number_is

pub read-piece-values : OneContent 4 read-piece-kinds.ps read-piece-kinds.r read-piece-reads.Post (λ κs s. s.1.1.0.now)
read-piece-values κs a x y s t p q = p.values-are ∙ sym q.values-are

pub read-piece-rest : OneContent 4 read-piece-kinds.ps read-piece-kinds.r read-piece-reads.Post (λ κs s. s.1.1.1.0.now ∷ [])
read-piece-rest κs a x y s t p q = ap (λ (n : ℕ). n ∷ []) (p.rest-is ∙ sym q.rest-is)

pub read-piece-next : OneContent 4 read-piece-kinds.ps read-piece-kinds.r read-piece-reads.Post (λ κs s. s.1.1.1.1.0.now ∷ [])
read-piece-next κs a x y s t p q = ap (λ (n : ℕ). n ∷ []) (p.next-is ∙ sym q.next-is)

pub write-message-once : OneAnswer 4 write-message-kinds.ps write-message-kinds.r write-message-reads.Post
write-message-once κs a x y s t p q = p.number_is ∙ sym q.number_is

pub write-message-bytes : OneContent 4 write-message-kinds.ps write-message-kinds.r write-message-reads.Post (λ κs s. s.0.now)
write-message-bytes κs a x y s t p q = p.bytes-are ∙ sym q.bytes-are

pub write-message-written : OneContent 4 write-message-kinds.ps write-message-kinds.r write-message-reads.Post (λ κs s. s.1.1.1.1.0.now ∷ [])
write-message-written κs a x y s t p q = ap (λ (n : ℕ). n ∷ []) (p.written_is ∙ sym q.written_is)

pub write-piece-once : OneAnswer 4 write-piece-kinds.ps write-piece-kinds.r write-piece-reads.Post
write-piece-once κs a x y s t p q = p.number_is ∙ sym q.number_is

pub write-piece-bytes : OneContent 4 write-piece-kinds.ps write-piece-kinds.r write-piece-reads.Post (λ κs s. s.0.now)
write-piece-bytes κs a x y s t p q = p.bytes-are ∙ sym q.bytes-are

pub write-piece-written : OneContent 4 write-piece-kinds.ps write-piece-kinds.r write-piece-reads.Post (λ κs s. s.1.1.1.1.0.now ∷ [])
write-piece-written κs a x y s t p q = ap (λ (n : ℕ). n ∷ []) (p.written_is ∙ sym q.written_is)
