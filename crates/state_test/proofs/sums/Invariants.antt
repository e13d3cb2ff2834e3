use Rattle.state_test.proofs.Rules.{SumsTo}
use Rattle.state_test.proofs.sums.Given as goal

abbrev pub invariant-loop-i : goal.invariant-loop-i
invariant-loop-i l = SumsTo l.digests l.sums l.i
