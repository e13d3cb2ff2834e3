use Rattle.state_test.proofs.Rules.{differ-all}
use Rattle.state_test.proofs.every_differs.Goals as goal

pub returns : goal.returns
returns c = differ-all c.loop-i.invariant c.loop-i-test.false
