use Rattle.state_test.proofs.Rules.{DifferTo}
use Rattle.state_test.proofs.every_differs.Given as goal

abbrev pub invariant-loop-i : goal.invariant-loop-i
invariant-loop-i l = DifferTo l.rows l.i
