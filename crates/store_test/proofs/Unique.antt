-- No second answer meets the contracts of the public functions of this crate.
-- Assumes nothing.
use mathlib.Core.Path.{sym, ◌∙◌}
use Rattle.lists.proofs.Once.{OneAnswer}
use Rattle.store_test.proofs.is_store.Kinds as is-store-kinds
use Rattle.store_test.proofs.is_store.Reads as is_Is_store
use Rattle.store_test.proofs.fits.Kinds as fits-kinds
use Rattle.store_test.proofs.fits.Reads as fits

pub is-store-once : OneAnswer 1 is-store-kinds.ps is-store-kinds.r is_Is_store.Post
is-store-once κs a x y s t p q = p ∙ sym q

pub fits-once : OneAnswer 0 fits-kinds.ps fits-kinds.r fits.Post
fits-once κs a x y s t p q = p ∙ sym q
