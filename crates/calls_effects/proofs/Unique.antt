-- No second answer meets the contract of any public function of this crate.
-- Assumes nothing.
use mathlib.Core.Path.{sym, ◌∙◌}
use Rattle.lists.proofs.Once.{OneAnswer}
use Rattle.calls_effects.proofs.accepted.Kinds as accepted-kinds
use Rattle.calls_effects.proofs.accepted.Reads as accepted
use Rattle.calls_effects.proofs.refused.Kinds as refused-kinds
use Rattle.calls_effects.proofs.refused.Reads as refused
use Rattle.calls_effects.proofs.refused_claim.Kinds as refused-claim-kinds
use Rattle.calls_effects.proofs.refused_claim.Reads as refused-claim
use Rattle.calls_effects.proofs.with_table.Kinds as with-table-kinds
use Rattle.calls_effects.proofs.with_table.Reads as with-table
use Rattle.calls_effects.proofs.with_phase.Kinds as with-phase-kinds
use Rattle.calls_effects.proofs.with_phase.Reads as with-phase
use Rattle.calls_effects.proofs.with_grants.Kinds as with-grants-kinds
use Rattle.calls_effects.proofs.with_grants.Reads as with-grants
use Rattle.calls_effects.proofs.user_process.Kinds as user-process-kinds
use Rattle.calls_effects.proofs.user_process.Reads as user-process
use Rattle.calls_effects.proofs.elevation.Kinds as elevation-kinds
use Rattle.calls_effects.proofs.elevation.Reads as elevation
use Rattle.calls_effects.proofs.activated.Kinds as activated-kinds
use Rattle.calls_effects.proofs.activated.Reads as activated
use Rattle.calls_effects.proofs.ended.Kinds as ended-kinds
use Rattle.calls_effects.proofs.ended.Reads as ended
use Rattle.calls_effects.proofs.fresh.Kinds as fresh-kinds
use Rattle.calls_effects.proofs.fresh.Reads as fresh

pub accepted-once : OneAnswer 0 accepted-kinds.ps accepted-kinds.r accepted.Post
accepted-once κs a x y s t p q = p ∙ sym q

pub refused-once : OneAnswer 0 refused-kinds.ps refused-kinds.r refused.Post
refused-once κs a x y s t p q = p ∙ sym q

pub refused-claim-once : OneAnswer 0 refused-claim-kinds.ps refused-claim-kinds.r refused-claim.Post
refused-claim-once κs a x y s t p q = p ∙ sym q

pub with-table-once : OneAnswer 0 with-table-kinds.ps with-table-kinds.r with-table.Post
with-table-once κs a x y s t p q = p ∙ sym q

pub with-phase-once : OneAnswer 0 with-phase-kinds.ps with-phase-kinds.r with-phase.Post
with-phase-once κs a x y s t p q = p ∙ sym q

pub with-grants-once : OneAnswer 0 with-grants-kinds.ps with-grants-kinds.r with-grants.Post
with-grants-once κs a x y s t p q = p ∙ sym q

pub user-process-once : OneAnswer 0 user-process-kinds.ps user-process-kinds.r user-process.Post
user-process-once κs a x y s t p q = p ∙ sym q

pub elevation-once : OneAnswer 0 elevation-kinds.ps elevation-kinds.r elevation.Post
elevation-once κs a x y s t p q = p ∙ sym q

pub activated-once : OneAnswer 0 activated-kinds.ps activated-kinds.r activated.Post
activated-once κs a x y s t p q = p ∙ sym q

pub ended-once : OneAnswer 0 ended-kinds.ps ended-kinds.r ended.Post
ended-once κs a x y s t p q = p ∙ sym q

pub fresh-once : OneAnswer 0 fresh-kinds.ps fresh-kinds.r fresh.Post
fresh-once κs a x y s t p q = p ∙ sym q
