use Rattle.message_fields.proofs.Rules.{Read}
use Rattle.message_fields.proofs.read_fields.Given as goal

abbrev pub invariant-loop-at : goal.invariant-loop-at
invariant-loop-at l = Read l.shape l.bytes l.values l.allowed l.place l.at
