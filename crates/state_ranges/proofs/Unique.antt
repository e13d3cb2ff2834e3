-- No second answer meets the contracts of the public functions of this crate.
-- Assumes nothing.
use mathlib.Core.Path.{◌≡◌, sym, ◌∙◌}
use borrow.Fn.Kinds.{ended_of, res_t, Dens}
use denote.Triple.Clauses.{AtExit}
use contract.Lifetimes.{Lfts}
use Rattle.lists.proofs.Once.{OneAnswer, OneView}
use Rattle.state_ranges.proofs.owners_fit.Kinds as owners-fit-kinds
use Rattle.state_ranges.proofs.owners_fit.Reads as owners-fit
use Rattle.state_ranges.proofs.rest_is_free.Kinds as rest-is-free-kinds
use Rattle.state_ranges.proofs.rest_is_free.Reads as rest-is-free
use Rattle.state_ranges.proofs.standing.Kinds as standing-kinds
use Rattle.state_ranges.proofs.standing.Reads as standing

pub rest-is-free-once : OneAnswer 1 rest-is-free-kinds.ps rest-is-free-kinds.r rest-is-free.Post
rest-is-free-once κs a x y s t p q = p ∙ sym q

pub owners-fit-once : OneAnswer 1 owners-fit-kinds.ps owners-fit-kinds.r owners-fit.Post
owners-fit-once κs a x y s t p q = p ∙ sym q

pub standing-once : OneView 1 standing-kinds.ps standing-kinds.r standing.Post (λ κs x. x.now)
standing-once κs a x y s t p q = p ∙ sym q
