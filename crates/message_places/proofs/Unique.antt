-- No second answer meets the contract of any public function of this crate. Assumes nothing.
use mathlib.Core.Path.{sym, ◌∙◌}
use Rattle.lists.proofs.Once.{OneAnswer}
use Rattle.message_places.proofs.field_of.Kinds as field-of-kinds
use Rattle.message_places.proofs.field_of.Reads as field_of

pub field-of-once : OneAnswer 0 field-of-kinds.ps field-of-kinds.r field_of.Post
field-of-once κs a x y s t p q = p ∙ sym q
