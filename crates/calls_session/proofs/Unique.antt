-- No second answer meets the contract of any public function of this crate.
-- Assumes nothing.
use mathlib.Core.Path.{sym, ◌∙◌}
use Rattle.lists.proofs.Once.{OneAnswer}
use Rattle.calls_session.proofs.open_session.Kinds as open-session-kinds
use Rattle.calls_session.proofs.open_session.Reads as open-session
use Rattle.calls_session.proofs.close_session.Kinds as close-session-kinds
use Rattle.calls_session.proofs.close_session.Reads as close-session
use Rattle.calls_session.proofs.select_version.Kinds as select-version-kinds
use Rattle.calls_session.proofs.select_version.Reads as select-version

pub open-session-once : OneAnswer 0 open-session-kinds.ps open-session-kinds.r open-session.Post
open-session-once κs a x y s t p q = p ∙ sym q

pub close-session-once : OneAnswer 0 close-session-kinds.ps close-session-kinds.r close-session.Post
close-session-once κs a x y s t p q = p ∙ sym q

pub select-version-once : OneAnswer 0 select-version-kinds.ps select-version-kinds.r select-version.Post
select-version-once κs a x y s t p q = p ∙ sym q
