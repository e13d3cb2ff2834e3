use Rattle.entries_unprotected.proofs.Rules.{rules}
use Rattle.entries_unprotected.proofs.slavotuk_close.Goals as goal

pub returns-then-not-is_ready : goal.returns-then-not-is_ready
returns-then-not-is_ready c = search rules

pub returns : goal.returns
returns c = search rules
