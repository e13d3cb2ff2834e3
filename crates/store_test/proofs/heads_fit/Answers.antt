use Rattle.store_test.proofs.Rules.{rules}
use Rattle.store_test.proofs.heads_fit.Goals as goal

pub loop-i-preserved : goal.loop-i-preserved
loop-i-preserved c = search rules
