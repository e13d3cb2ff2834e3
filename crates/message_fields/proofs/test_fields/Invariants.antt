use Rattle.message_fields.proofs.Rules.{Tested}
use Rattle.message_fields.proofs.test_fields.Given as goal

abbrev pub invariant-loop-at : goal.invariant-loop-at
invariant-loop-at l = Tested l.shape l.values l.allowed l.long l.at
