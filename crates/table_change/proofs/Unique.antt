-- No second answer meets the contract of any public function of this crate.
-- Assumes nothing.
use mathlib.Core.Path.{sym, ◌∙◌}
use Rattle.lists.proofs.Once.{OneAnswer}
use Rattle.table_change.proofs.tidied.Kinds as tidied-kinds
use Rattle.table_change.proofs.tidied.Reads as tidied
use Rattle.table_change.proofs.appended.Kinds as appended-kinds
use Rattle.table_change.proofs.appended.Reads as appended
use Rattle.table_change.proofs.replaced.Kinds as replaced-kinds
use Rattle.table_change.proofs.replaced.Reads as replaced

pub tidied-once : OneAnswer 0 tidied-kinds.ps tidied-kinds.r tidied.Post
tidied-once κs a x y s t p q = p ∙ sym q

pub appended-once : OneAnswer 0 appended-kinds.ps appended-kinds.r appended.Post
appended-once κs a x y s t p q = p ∙ sym q

pub replaced-once : OneAnswer 0 replaced-kinds.ps replaced-kinds.r replaced.Post
replaced-once κs a x y s t p q = p ∙ sym q
