-- No second answer meets the contract of any public function of this crate.
-- Assumes nothing.
use mathlib.Core.Path.{sym, ◌∙◌}
use Rattle.lists.proofs.Once.{OneAnswer}
use Rattle.calls.proofs.Laws.{measured-once}
use Rattle.calls_list_tests.proofs.among_of.Kinds as among-of-kinds
use Rattle.calls_list_tests.proofs.among_of.Reads as among_of
use Rattle.calls_list_tests.proofs.list_test.Kinds as list-test-kinds
use Rattle.calls_list_tests.proofs.list_test.Reads as list-test
use Rattle.calls_list_tests.proofs.list_number.Kinds as list-number-kinds
use Rattle.calls_list_tests.proofs.list_number.Reads as list-number

pub among-of-once : OneAnswer 0 among-of-kinds.ps among-of-kinds.r among_of.Post
among-of-once κs a x y s t p q = p ∙ sym q

pub list-test-once : OneAnswer 0 list-test-kinds.ps list-test-kinds.r list-test.Post
list-test-once κs a x y s t p q = measured-once x y (p ∙ sym q)

pub list-number-once : OneAnswer 0 list-number-kinds.ps list-number-kinds.r list-number.Post
list-number-once κs a x y s t p q = p ∙ sym q
