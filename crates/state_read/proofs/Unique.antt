-- No second answer meets the contract of any public function of this crate.
-- Assumes nothing.
use mathlib.Core.Path.{sym, ◌∙◌}
use Rattle.lists.proofs.Once.{OneAnswer}
use Rattle.state_read.proofs.grants_from.Kinds as grants-from-kinds
use Rattle.state_read.proofs.grants_from.Reads as grants-from
use Rattle.state_read.proofs.phase_from.Kinds as phase-from-kinds
use Rattle.state_read.proofs.phase_from.Reads as phase-from
use Rattle.state_read.proofs.read.Kinds as read-kinds
use Rattle.state_read.proofs.read.Reads as read

pub phase-from-once : OneAnswer 0 phase-from-kinds.ps phase-from-kinds.r phase-from.Post
phase-from-once κs a x y s t p q = p ∙ sym q

pub grants-from-once : OneAnswer 1 grants-from-kinds.ps grants-from-kinds.r grants-from.Post
grants-from-once κs a x y s t p q = p ∙ sym q

pub read-once : OneAnswer 1 read-kinds.ps read-kinds.r read.Post
read-once κs a x y s t p q = p ∙ sym q
