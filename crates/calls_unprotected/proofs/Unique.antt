-- No second answer meets the contract of any public function of this crate.
-- Assumes nothing.
use mathlib.Core.Path.{sym, ◌∙◌}
use Rattle.lists.proofs.Once.{OneAnswer}
use Rattle.calls_unprotected.proofs.start.Kinds as start-kinds
use Rattle.calls_unprotected.proofs.start.Reads as start
use Rattle.calls_unprotected.proofs.continue_saved.Kinds as continue-saved-kinds
use Rattle.calls_unprotected.proofs.continue_saved.Reads as continue-saved
use Rattle.calls_unprotected.proofs.elevate.Kinds as elevate-kinds
use Rattle.calls_unprotected.proofs.elevate.Reads as elevate
use Rattle.calls_unprotected.proofs.drop_elevation.Kinds as drop-elevation-kinds
use Rattle.calls_unprotected.proofs.drop_elevation.Reads as drop-elevation

pub start-once : OneAnswer 0 start-kinds.ps start-kinds.r start.Post
start-once κs a x y s t p q = p ∙ sym q

pub continue-saved-once : OneAnswer 0 continue-saved-kinds.ps continue-saved-kinds.r continue-saved.Post
continue-saved-once κs a x y s t p q = p ∙ sym q

pub elevate-once : OneAnswer 0 elevate-kinds.ps elevate-kinds.r elevate.Post
elevate-once κs a x y s t p q = p ∙ sym q

pub drop-elevation-once : OneAnswer 0 drop-elevation-kinds.ps drop-elevation-kinds.r drop-elevation.Post
drop-elevation-once κs a x y s t p q = p ∙ sym q
