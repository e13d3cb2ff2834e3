-- No second answer meets the contract of any public function of this crate.
-- Assumes nothing.
use mathlib.Core.Path.{sym, ◌∙◌}
use Rattle.lists.proofs.Once.{OneAnswer}
use Rattle.image_head.proofs.read_head.Kinds as read-head-kinds
use Rattle.image_head.proofs.read_head.Reads as read_head
use Rattle.image_head.proofs.head_fits.Kinds as head-fits-kinds
use Rattle.image_head.proofs.head_fits.Reads as head-fits
use Rattle.image_head.proofs.read_grants.Kinds as read-grants-kinds
use Rattle.image_head.proofs.read_grants.Reads as read-grants

pub read-head-once : OneAnswer 1 read-head-kinds.ps read-head-kinds.r read_head.Post
read-head-once κs a x y s t p q = p ∙ sym q

pub head-fits-once : OneAnswer 0 head-fits-kinds.ps head-fits-kinds.r head-fits.Post
head-fits-once κs a x y s t p q = p ∙ sym q

pub read-grants-once : OneAnswer 1 read-grants-kinds.ps read-grants-kinds.r read-grants.Post
read-grants-once κs a x y s t p q = p ∙ sym q
