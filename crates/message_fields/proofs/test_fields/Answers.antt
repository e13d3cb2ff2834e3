use Rattle.message_fields.proofs.Rules.{rules}
use Rattle.message_fields.proofs.test_fields.Goals as goal

pub overflow_add-long : goal.overflow_add-long
overflow_add-long c = search rules

pub loop-at-preserved : goal.loop-at-preserved
loop-at-preserved c = search rules

pub returns : goal.returns
returns c = search rules
