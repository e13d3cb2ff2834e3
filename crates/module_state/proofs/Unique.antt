-- No second answer meets the contract of any public function of this crate.
-- Assumes nothing.
use mathlib.Core.Path.{sym, ◌∙◌}
use Rattle.lists.proofs.Once.{OneAnswer}
use Rattle.module_state.proofs.Refusals.{number-once}
use Rattle.module_state.proofs.is_session.Kinds as is-session-kinds
use Rattle.module_state.proofs.is_session.Reads as is-session
use Rattle.module_state.proofs.slot_of.Kinds as slot-of-kinds
use Rattle.module_state.proofs.slot_of.Reads as slot_of
use Rattle.module_state.proofs.is_credential.Kinds as is-credential-kinds
use Rattle.module_state.proofs.is_credential.Reads as is-credential
use Rattle.module_state.proofs.phase_of.Kinds as phase-of-kinds
use Rattle.module_state.proofs.phase_of.Reads as phase-of
use Rattle.module_state.proofs.is_closed.Kinds as is-closed-kinds
use Rattle.module_state.proofs.is_closed.Reads as is-closed
use Rattle.module_state.proofs.grants_of.Kinds as grants-of-kinds
use Rattle.module_state.proofs.grants_of.Reads as grants-of
use Rattle.module_state.proofs.words_of.Kinds as words-of-kinds
use Rattle.module_state.proofs.words_of.Reads as words_of
use Rattle.module_state.proofs.closed_module.Kinds as closed-module-kinds
use Rattle.module_state.proofs.closed_module.Reads as closed-module
use Rattle.module_state.proofs.grant_test.Kinds as grant-test-kinds
use Rattle.module_state.proofs.grant_test.Reads as grant-test
use Rattle.module_state.proofs.grant_number.Kinds as grant-number-kinds
use Rattle.module_state.proofs.grant_number.Reads as grant-number
use Rattle.module_state.proofs.phase_number.Kinds as phase-number-kinds
use Rattle.module_state.proofs.phase_number.Reads as phase-number
use Rattle.module_state.proofs.entered.Kinds as entered-kinds
use Rattle.module_state.proofs.entered.Reads as entered

pub is-session-once : OneAnswer 0 is-session-kinds.ps is-session-kinds.r is-session.Post
is-session-once κs a x y s t p q = p ∙ sym q

pub slot-of-once : OneAnswer 0 slot-of-kinds.ps slot-of-kinds.r slot_of.Post
slot-of-once κs a x y s t p q = p ∙ sym q

pub is-credential-once : OneAnswer 0 is-credential-kinds.ps is-credential-kinds.r is-credential.Post
is-credential-once κs a x y s t p q = p ∙ sym q

pub phase-of-once : OneAnswer 0 phase-of-kinds.ps phase-of-kinds.r phase-of.Post
phase-of-once κs a x y s t p q = p ∙ sym q

pub is-closed-once : OneAnswer 0 is-closed-kinds.ps is-closed-kinds.r is-closed.Post
is-closed-once κs a x y s t p q = p ∙ sym q

pub grants-of-once : OneAnswer 0 grants-of-kinds.ps grants-of-kinds.r grants-of.Post
grants-of-once κs a x y s t p q = p ∙ sym q

pub words-of-once : OneAnswer 0 words-of-kinds.ps words-of-kinds.r words_of.Post
words-of-once κs a x y s t p q = p ∙ sym q

pub closed-module-once : OneAnswer 0 closed-module-kinds.ps closed-module-kinds.r closed-module.Post
closed-module-once κs a x y s t p q = p ∙ sym q

pub grant-test-once : OneAnswer 0 grant-test-kinds.ps grant-test-kinds.r grant-test.Post
grant-test-once κs a x y s t p q = number-once x y (p ∙ sym q)

pub grant-number-once : OneAnswer 0 grant-number-kinds.ps grant-number-kinds.r grant-number.Post
grant-number-once κs a x y s t p q = p ∙ sym q

pub phase-number-once : OneAnswer 0 phase-number-kinds.ps phase-number-kinds.r phase-number.Post
phase-number-once κs a x y s t p q = number-once x y (p ∙ sym q)

pub entered-once : OneAnswer 0 entered-kinds.ps entered-kinds.r entered.Post
entered-once κs a x y s t p q = number-once x y (p ∙ sym q)
