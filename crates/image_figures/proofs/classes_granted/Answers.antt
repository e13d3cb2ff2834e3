use Rattle.image_figures.proofs.Rules.{rules}
use Rattle.image_figures.proofs.classes_granted.Goals as goal

pub overflow_add-sum : goal.overflow_add-sum
overflow_add-sum c = search rules

pub loop-i-preserved : goal.loop-i-preserved
loop-i-preserved c = search rules

pub returns : goal.returns
returns c = search rules
