use Rattle.names.proofs.Rules.{Compared}
use Rattle.names.proofs.differences.Given as goal

abbrev pub invariant-loop-i : goal.invariant-loop-i
invariant-loop-i l = Compared l.x l.y l.d l.i
