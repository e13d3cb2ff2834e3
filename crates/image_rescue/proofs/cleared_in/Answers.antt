use Rattle.image_rescue.proofs.Rules.{rules}
use Rattle.image_rescue.proofs.cleared_in.Goals as goal

pub overflow_add-cleared : goal.overflow_add-cleared
overflow_add-cleared c = search rules

pub loop-i-preserved : goal.loop-i-preserved
loop-i-preserved c = search rules

pub returns : goal.returns
returns c = search rules
