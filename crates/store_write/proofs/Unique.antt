-- No second content of the slice that was lent meets the contract of any public function of this crate.
-- Assumes nothing.
use mathlib.Core.Path.{sym, ◌∙◌}
use Rattle.lists.proofs.Once.{OneContent}
use Rattle.store_write.proofs.put_owned.Kinds as put-owned-kinds
use Rattle.store_write.proofs.put_owned.Reads as put-owned
use Rattle.store_write.proofs.put_head.Kinds as put-head-kinds
use Rattle.store_write.proofs.put_head.Reads as put-head
use Rattle.store_write.proofs.put_room.Kinds as put-room-kinds
use Rattle.store_write.proofs.put_room.Reads as put-room
use Rattle.store_write.proofs.put_held.Kinds as put-held-kinds
use Rattle.store_write.proofs.put_held.Reads as put-held
use Rattle.store_write.proofs.clear.Kinds as clear-kinds
use Rattle.store_write.proofs.clear.Reads as clear

pub put-owned-once : OneContent 1 put-owned-kinds.ps put-owned-kinds.r put-owned.Post (λ κs s. s.0.now)
put-owned-once κs a x y s t p q = p ∙ sym q

pub put-head-once : OneContent 1 put-head-kinds.ps put-head-kinds.r put-head.Post (λ κs s. s.0.now)
put-head-once κs a x y s t p q = p ∙ sym q

pub put-room-once : OneContent 2 put-room-kinds.ps put-room-kinds.r put-room.Post (λ κs s. s.0.now)
put-room-once κs a x y s t p q = p ∙ sym q

pub put-held-once : OneContent 2 put-held-kinds.ps put-held-kinds.r put-held.Post (λ κs s. s.0.now)
put-held-once κs a x y s t p q = p ∙ sym q

pub clear-once : OneContent 1 clear-kinds.ps clear-kinds.r clear.Post (λ κs s. s.0.now)
clear-once κs a x y s t p q = p ∙ sym q
