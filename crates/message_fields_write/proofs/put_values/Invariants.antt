use Rattle.message_fields_write.proofs.Rules.{FieldsTo}
use Rattle.message_fields_write.proofs.put_values.Given as goal

abbrev pub invariant-loop-at : goal.invariant-loop-at
invariant-loop-at l = FieldsTo l.start l.shape l.values l.initial.buffer l.buffer l.place l.at
