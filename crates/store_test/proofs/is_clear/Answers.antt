use Rattle.store_test.proofs.Rules.{rules}
use Rattle.store_test.proofs.is_clear.Goals as goal

pub loop-i-preserved : goal.loop-i-preserved
loop-i-preserved c = search rules

pub returns : goal.returns
returns c = search rules
