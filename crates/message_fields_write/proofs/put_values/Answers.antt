use Rattle.message_fields_write.proofs.Rules.{rules}
use Rattle.message_fields_write.proofs.put_values.Goals as goal

pub loop-at-init : goal.loop-at-init
loop-at-init c = search rules

pub overflow_add-place : goal.overflow_add-place
overflow_add-place c = search rules

pub loop-at-preserved : goal.loop-at-preserved
loop-at-preserved c = search rules
