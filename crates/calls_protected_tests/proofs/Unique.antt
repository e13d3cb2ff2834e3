-- No second answer meets the contract of any public function of this crate.
-- Assumes nothing.
use mathlib.Core.Path.{sym, ◌∙◌}
use Rattle.lists.proofs.Once.{OneAnswer}
use Rattle.module_state.proofs.Refusals.{number-once, placed-once}
use Rattle.calls_protected_tests.proofs.end_test.Kinds as end-test-kinds
use Rattle.calls_protected_tests.proofs.end_test.Reads as end-test
use Rattle.calls_protected_tests.proofs.end_number.Kinds as end-number-kinds
use Rattle.calls_protected_tests.proofs.end_number.Reads as end-number
use Rattle.calls_protected_tests.proofs.is_device.Kinds as is-device-kinds
use Rattle.calls_protected_tests.proofs.is_device.Reads as is-device
use Rattle.calls_protected_tests.proofs.record_test.Kinds as record-test-kinds
use Rattle.calls_protected_tests.proofs.record_test.Reads as record-test
use Rattle.calls_protected_tests.proofs.record_number.Kinds as record-number-kinds
use Rattle.calls_protected_tests.proofs.record_number.Reads as record-number
use Rattle.calls_protected_tests.proofs.kill_test.Kinds as kill-test-kinds
use Rattle.calls_protected_tests.proofs.kill_test.Reads as kill-test
use Rattle.calls_protected_tests.proofs.kill_number.Kinds as kill-number-kinds
use Rattle.calls_protected_tests.proofs.kill_number.Reads as kill-number
use Rattle.calls_protected_tests.proofs.set_word_test.Kinds as set-word-test-kinds
use Rattle.calls_protected_tests.proofs.set_word_test.Reads as set-word-test
use Rattle.calls_protected_tests.proofs.set_word_number.Kinds as set-word-number-kinds
use Rattle.calls_protected_tests.proofs.set_word_number.Reads as set-word-number

pub end-test-once : OneAnswer 0 end-test-kinds.ps end-test-kinds.r end-test.Post
end-test-once κs a x y s t p q = placed-once x y (p ∙ sym q)

pub end-number-once : OneAnswer 0 end-number-kinds.ps end-number-kinds.r end-number.Post
end-number-once κs a x y s t p q = p ∙ sym q

pub is-device-once : OneAnswer 0 is-device-kinds.ps is-device-kinds.r is-device.Post
is-device-once κs a x y s t p q = p ∙ sym q

pub record-test-once : OneAnswer 0 record-test-kinds.ps record-test-kinds.r record-test.Post
record-test-once κs a x y s t p q = number-once x y (p ∙ sym q)

pub record-number-once : OneAnswer 0 record-number-kinds.ps record-number-kinds.r record-number.Post
record-number-once κs a x y s t p q = p ∙ sym q

pub kill-test-once : OneAnswer 0 kill-test-kinds.ps kill-test-kinds.r kill-test.Post
kill-test-once κs a x y s t p q = placed-once x y (p ∙ sym q)

pub kill-number-once : OneAnswer 0 kill-number-kinds.ps kill-number-kinds.r kill-number.Post
kill-number-once κs a x y s t p q = p ∙ sym q

pub set-word-test-once : OneAnswer 0 set-word-test-kinds.ps set-word-test-kinds.r set-word-test.Post
set-word-test-once κs a x y s t p q = number-once x y (p ∙ sym q)

pub set-word-number-once : OneAnswer 0 set-word-number-kinds.ps set-word-number-kinds.r set-word-number.Post
set-word-number-once κs a x y s t p q = p ∙ sym q
