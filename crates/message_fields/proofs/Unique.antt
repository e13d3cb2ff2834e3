-- No second answer meets the contract of any public function of this crate. Assumes nothing.
use mathlib.Core.Path.{sym, ◌∙◌}
use Rattle.lists.proofs.Once.{OneAnswer}
use Rattle.message_fields.proofs.read_fields.Kinds as read-fields-kinds
use Rattle.message_fields.proofs.read_fields.Reads as read-fields
use Rattle.message_fields.proofs.test_fields.Kinds as test-fields-kinds
use Rattle.message_fields.proofs.test_fields.Reads as test_Fields

pub read-fields-once : OneAnswer 1 read-fields-kinds.ps read-fields-kinds.r read-fields.Post
read-fields-once κs a x y s t p q = p ∙ sym q

pub test-fields-once : OneAnswer 0 test-fields-kinds.ps test-fields-kinds.r test_Fields.Post
test-fields-once κs a x y s t p q = p ∙ sym q
