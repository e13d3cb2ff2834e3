-- No second answer meets the contract of any public function of this crate.
-- Assumes nothing.
use mathlib.Core.Path.{sym, ◌∙◌}
use Rattle.lists.proofs.Once.{OneAnswer}
use Rattle.entries_arguments.proofs.session_of.Kinds as session-of-kinds
use Rattle.entries_arguments.proofs.session_of.Reads as session-of
use Rattle.entries_arguments.proofs.class_of.Kinds as class-of-kinds
use Rattle.entries_arguments.proofs.class_of.Reads as class_of
use Rattle.entries_arguments.proofs.credential_of.Kinds as credential-of-kinds
use Rattle.entries_arguments.proofs.credential_of.Reads as credential-of
use Rattle.entries_arguments.proofs.wanted_of.Kinds as wanted-of-kinds
use Rattle.entries_arguments.proofs.wanted_of.Reads as wanted-of
use Rattle.entries_arguments.proofs.is_flag.Kinds as is-flag-kinds
use Rattle.entries_arguments.proofs.is_flag.Reads as is-flag
use Rattle.entries_arguments.proofs.are_flags.Kinds as are-flags-kinds
use Rattle.entries_arguments.proofs.are_flags.Reads as are-flags
use Rattle.entries_arguments.proofs.user_claim_of.Kinds as user-claim-of-kinds
use Rattle.entries_arguments.proofs.user_claim_of.Reads as user-claim-of
use Rattle.entries_arguments.proofs.claim_of.Kinds as claim-of-kinds
use Rattle.entries_arguments.proofs.claim_of.Reads as claim-of
use Rattle.entries_arguments.proofs.are_claim_flags.Kinds as are-claim-flags-kinds
use Rattle.entries_arguments.proofs.are_claim_flags.Reads as are-claim-flags
use Rattle.entries_arguments.proofs.both.Kinds as both-kinds
use Rattle.entries_arguments.proofs.both.Reads as both
use Rattle.entries_arguments.proofs.are_pairs.Kinds as are-pairs-kinds
use Rattle.entries_arguments.proofs.are_pairs.Reads as are-pairs

pub session-of-once : OneAnswer 0 session-of-kinds.ps session-of-kinds.r session-of.Post
session-of-once κs a x y s t p q = p ∙ sym q

pub class-of-once : OneAnswer 0 class-of-kinds.ps class-of-kinds.r class_of.Post
class-of-once κs a x y s t p q = p ∙ sym q

pub credential-of-once : OneAnswer 0 credential-of-kinds.ps credential-of-kinds.r credential-of.Post
credential-of-once κs a x y s t p q = p ∙ sym q

pub wanted-of-once : OneAnswer 0 wanted-of-kinds.ps wanted-of-kinds.r wanted-of.Post
wanted-of-once κs a x y s t p q = p ∙ sym q

pub is-flag-once : OneAnswer 0 is-flag-kinds.ps is-flag-kinds.r is-flag.Post
is-flag-once κs a x y s t p q = p ∙ sym q

pub are-flags-once : OneAnswer 0 are-flags-kinds.ps are-flags-kinds.r are-flags.Post
are-flags-once κs a x y s t p q = p ∙ sym q

pub user-claim-of-once : OneAnswer 0 user-claim-of-kinds.ps user-claim-of-kinds.r user-claim-of.Post
user-claim-of-once κs a x y s t p q = p ∙ sym q

pub claim-of-once : OneAnswer 0 claim-of-kinds.ps claim-of-kinds.r claim-of.Post
claim-of-once κs a x y s t p q = p ∙ sym q

pub are-claim-flags-once : OneAnswer 0 are-claim-flags-kinds.ps are-claim-flags-kinds.r are-claim-flags.Post
are-claim-flags-once κs a x y s t p q = p ∙ sym q

pub both-once : OneAnswer 0 both-kinds.ps both-kinds.r both.Post
both-once κs a x y s t p q = p ∙ sym q

pub are-pairs-once : OneAnswer 3 are-pairs-kinds.ps are-pairs-kinds.r are-pairs.Post
are-pairs-once κs a x y s t p q = p ∙ sym q
