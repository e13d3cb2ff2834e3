use Rattle.entries_unprotected.proofs.Rules.{rules}
use Rattle.entries_unprotected.proofs.slavotuk_holds.Goals as goal

pub returns-then-holds : goal.returns-then-holds
returns-then-holds c = search rules

pub returns : goal.returns
returns c = search rules
