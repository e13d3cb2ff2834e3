-- No second answer, and no second content of what was lent, meets the contract of any public function of this crate.
-- Assumes nothing.
use mathlib.Core.Path.{sym, ◌∙◌}
use Rattle.lists.proofs.Once.{OneAnswer, OneContent}
use Rattle.module_state.proofs.Refusals.{number-once}
use Rattle.entries_record.proofs.record.Kinds as record-kinds
use Rattle.entries_record.proofs.record.Reads as record-reads

pub record-once : OneAnswer 1 record-kinds.ps record-kinds.r record-reads.Post
record-once κs a x y s t p q = number-once x y (p.number_is ∙ sym q.number_is)

pub record-bytes : OneContent 1 record-kinds.ps record-kinds.r record-reads.Post (λ κs s. s.0.now)
record-bytes κs a x y s t p q = p.bytes-are ∙ sym q.bytes-are
