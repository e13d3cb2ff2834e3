use Rattle.entries_protected.proofs.Rules.{rules}
use Rattle.entries_protected.proofs.slavotuk_record.Goals as goal

pub returns-then-not-are_claim_flags : goal.returns-then-not-are_claim_flags
returns-then-not-are_claim_flags c = search rules
