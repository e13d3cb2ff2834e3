-- No second answer meets the contract of any public function of this crate.
-- Assumes nothing.
use mathlib.Core.Path.{sym, ◌∙◌}
use Rattle.lists.proofs.Once.{OneAnswer, OneView}
use Rattle.image_test.proofs.is_keepable.Kinds as is-keepable-kinds
use Rattle.image_test.proofs.is_keepable.Reads as is-keepable
use Rattle.image_test.proofs.saved_rows.Kinds as saved-rows-kinds
use Rattle.image_test.proofs.saved_rows.Reads as saved-rows
use Rattle.image_test.proofs.test_image.Kinds as test-image-kinds
use Rattle.image_test.proofs.test_image.Reads as test-image

pub is-keepable-once : OneAnswer 1 is-keepable-kinds.ps is-keepable-kinds.r is-keepable.Post
is-keepable-once κs a x y s t p q = p ∙ sym q

pub test-image-once : OneAnswer 1 test-image-kinds.ps test-image-kinds.r test-image.Post
test-image-once κs a x y s t p q = p ∙ sym q

pub saved-rows-once : OneView 1 saved-rows-kinds.ps saved-rows-kinds.r saved-rows.Post (λ κs x. x.now)
saved-rows-once κs a x y s t p q = p ∙ sym q
