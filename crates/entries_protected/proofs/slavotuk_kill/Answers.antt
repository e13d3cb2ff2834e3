use Rattle.entries_protected.proofs.Rules.{rules}
use Rattle.entries_protected.proofs.slavotuk_kill.Goals as goal

pub returns-in_default : goal.returns-in_default
returns-in_default c = search rules

pub returns-then-not-is_ready : goal.returns-then-not-is_ready
returns-then-not-is_ready c = search rules

pub returns : goal.returns
returns c = search rules
