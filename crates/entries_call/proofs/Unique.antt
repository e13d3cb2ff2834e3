-- No second answer, and no second content of what was lent, meets the contract of any public function of this crate.
-- Assumes nothing.
use mathlib.Core.Path.{sym, ◌∙◌}
use Rattle.lists.proofs.Once.{OneAnswer, OneContent}
use Rattle.entries_call.proofs.is_ready.Kinds as is-ready-kinds
use Rattle.entries_call.proofs.is_ready.Reads as is-ready
use Rattle.entries_call.proofs.put_back.Kinds as put-back-kinds
use Rattle.entries_call.proofs.put_back.Reads as put_back

pub is-ready-once : OneAnswer 1 is-ready-kinds.ps is-ready-kinds.r is-ready.Post
is-ready-once κs a x y s t p q = p.is ∙ sym q.is

pub put-back-once : OneAnswer 1 put-back-kinds.ps put-back-kinds.r put_back.Post
put-back-once κs a x y s t p q = p.number_is ∙ sym q.number_is

pub put-back-bytes : OneContent 1 put-back-kinds.ps put-back-kinds.r put_back.Post (λ κs s. s.0.now)
put-back-bytes κs a x y s t p q = p.bytes-are ∙ sym q.bytes-are
