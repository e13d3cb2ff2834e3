-- No second content of the slice that was lent meets the contract of any public function of this crate.
-- Assumes nothing.
use mathlib.Core.Path.{sym, ◌∙◌}
use Rattle.lists.proofs.Once.{OneContent}
use Rattle.state_write_table.proofs.put_table.Kinds as put-table-kinds
use Rattle.state_write_table.proofs.put_table.Reads as put-table
use Rattle.state_write_table.proofs.write_next.Kinds as write-next-kinds
use Rattle.state_write_table.proofs.write_next.Reads as write-next

pub put-table-once : OneContent 1 put-table-kinds.ps put-table-kinds.r put-table.Post (λ κs s. s.0.now)
put-table-once κs a x y s t p q = p ∙ sym q

pub write-next-once : OneContent 1 write-next-kinds.ps write-next-kinds.r write-next.Post (λ κs s. s.0.now)
write-next-once κs a x y s t p q = p ∙ sym q
