-- No second answer meets the contract of any public function of this crate.
-- Assumes nothing.
use mathlib.Core.Path.{sym, ◌∙◌}
use Rattle.lists.proofs.Once.{OneAnswer, OneView}
use Rattle.table.proofs.size.Kinds as size-kinds
use Rattle.table.proofs.size.Reads as size
use Rattle.table.proofs.free_place.Kinds as free-place-kinds
use Rattle.table.proofs.free_place.Reads as free-place
use Rattle.table.proofs.empty.Kinds as empty-kinds
use Rattle.table.proofs.empty.Reads as empty
use Rattle.table.proofs.is_active.Kinds as is-active-kinds
use Rattle.table.proofs.is_active.Reads as is-active
use Rattle.table.proofs.is_active_in.Kinds as is-active-in-kinds
use Rattle.table.proofs.is_active_in.Reads as is-active-in
use Rattle.table.proofs.is_among.Kinds as is-among-kinds
use Rattle.table.proofs.is_among.Reads as is_among
use Rattle.table.proofs.is_named.Kinds as is-named-kinds
use Rattle.table.proofs.is_named.Reads as is-named
use Rattle.table.proofs.process_at.Kinds as process-at-kinds
use Rattle.table.proofs.process_at.Reads as process-at
use Rattle.table.proofs.standing.Kinds as standing-kinds
use Rattle.table.proofs.standing.Reads as standing

pub size-once : OneAnswer 0 size-kinds.ps size-kinds.r size.Post
size-once κs a x y s t p q = p ∙ sym q

pub free-place-once : OneAnswer 0 free-place-kinds.ps free-place-kinds.r free-place.Post
free-place-once κs a x y s t p q = p ∙ sym q

pub empty-once : OneAnswer 0 empty-kinds.ps empty-kinds.r empty.Post
empty-once κs a x y s t p q = p ∙ sym q

pub is-active-once : OneAnswer 0 is-active-kinds.ps is-active-kinds.r is-active.Post
is-active-once κs a x y s t p q = p ∙ sym q

pub is-active-in-once : OneAnswer 0 is-active-in-kinds.ps is-active-in-kinds.r is-active-in.Post
is-active-in-once κs a x y s t p q = p ∙ sym q

pub is-among-once : OneAnswer 0 is-among-kinds.ps is-among-kinds.r is_among.Post
is-among-once κs a x y s t p q = p ∙ sym q

pub is-named-once : OneAnswer 0 is-named-kinds.ps is-named-kinds.r is-named.Post
is-named-once κs a x y s t p q = p ∙ sym q

pub process-at-once : OneAnswer 0 process-at-kinds.ps process-at-kinds.r process-at.Post
process-at-once κs a x y s t p q = p ∙ sym q

pub standing-once : OneView 1 standing-kinds.ps standing-kinds.r standing.Post (λ κs x. x.now)
standing-once κs a x y s t p q = p ∙ sym q
