use Rattle.store_read.proofs.Rules.{rules}
use Rattle.store_read.proofs.each_head.Goals as goal

pub loop-i-init : goal.loop-i-init
loop-i-init c = search rules

pub loop-i-preserved : goal.loop-i-preserved
loop-i-preserved c = search rules
