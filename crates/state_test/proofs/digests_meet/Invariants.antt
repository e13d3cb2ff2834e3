use Rattle.state_test.proofs.Rules.{RoundTo}
use Rattle.state_test.proofs.digests_meet.Given as goal

abbrev pub invariant-loop-behind : goal.invariant-loop-behind
invariant-loop-behind l = RoundTo l.sums l.met l.behind
