use Rattle.message_fields.proofs.Rules.{rules}
use Rattle.message_fields.proofs.read_fields.Goals as goal

pub overflow_add-place : goal.overflow_add-place
overflow_add-place c = search rules

pub loop-at-preserved : goal.loop-at-preserved
loop-at-preserved c = search rules
