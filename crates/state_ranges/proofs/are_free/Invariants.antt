use Rattle.state_ranges.proofs.Rules.{Parted}
use Rattle.state_ranges.proofs.are_free.Given as goal

abbrev pub invariant-loop-i : goal.invariant-loop-i
invariant-loop-i l = Parted l.s l.first l.part l.second l.d l.i
