-- No second answer meets the contract of any public function of this crate.
-- Assumes nothing.
use mathlib.Core.Path.{sym, ◌∙◌}
use Rattle.lists.proofs.Once.{OneAnswer}
use Rattle.table_removal.proofs.removed.Kinds as removed-kinds
use Rattle.table_removal.proofs.removed.Reads as removed
use Rattle.table_removal.proofs.without_session.Kinds as without-session-kinds
use Rattle.table_removal.proofs.without_session.Reads as without-session

pub removed-once : OneAnswer 0 removed-kinds.ps removed-kinds.r removed.Post
removed-once κs a x y s t p q = p ∙ sym q

pub without-session-once : OneAnswer 0 without-session-kinds.ps without-session-kinds.r without-session.Post
without-session-once κs a x y s t p q = p ∙ sym q
