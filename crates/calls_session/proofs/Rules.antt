-- The laws that close the goals of this crate's functions. Assumes nothing.
use Rattle.calls.proofs.Rules.{rules as calls-rules}
use Rattle.calls_effects.proofs.Rules.{by-refused}

pub ruleset rules = (calls-rules, by-refused)
