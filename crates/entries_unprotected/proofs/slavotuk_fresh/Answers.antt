use Rattle.entries_unprotected.proofs.Rules.{rules}
use Rattle.entries_unprotected.proofs.slavotuk_fresh.Goals as goal

pub returns-then-state-ne-STATE_LENGTH : goal.returns-then-state-ne-STATE_LENGTH
returns-then-state-ne-STATE_LENGTH c = search rules

pub returns-then-not-are_pairs : goal.returns-then-not-are_pairs
returns-then-not-are_pairs c = search rules

pub returns : goal.returns
returns c = search rules
