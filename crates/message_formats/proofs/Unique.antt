-- No second answer meets the contract of any public function of this crate. Assumes nothing.
use mathlib.Core.Path.{sym, ◌∙◌}
use Rattle.lists.proofs.Once.{OneAnswer}
use Rattle.message_formats.proofs.form_of.Kinds as form-of-kinds
use Rattle.message_formats.proofs.form_of.Reads as form_of
use Rattle.message_formats.proofs.rest_of.Kinds as rest-of-kinds
use Rattle.message_formats.proofs.rest_of.Reads as rest_of

pub form-of-once : OneAnswer 0 form-of-kinds.ps form-of-kinds.r form_of.Post
form-of-once κs a x y s t p q = p ∙ sym q

pub rest-of-once : OneAnswer 0 rest-of-kinds.ps rest-of-kinds.r rest_of.Post
rest-of-once κs a x y s t p q = p ∙ sym q
