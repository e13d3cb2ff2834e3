use Rattle.state_test.proofs.Rules.{BehindTo}
use Rattle.state_test.proofs.meet_behind.Given as goal

abbrev pub invariant-loop-i : goal.invariant-loop-i
invariant-loop-i l = BehindTo l.sums l.behind l.met l.i
