use Rattle.state_test.proofs.Rules.{DigestsTo}
use Rattle.state_test.proofs.digests.Given as goal

abbrev pub invariant-loop-i : goal.invariant-loop-i
invariant-loop-i l = DigestsTo l.rows l.digests l.i
