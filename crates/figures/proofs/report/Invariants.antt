use Rattle.figures.proofs.Rules.{Reporting, turns_left}
use Rattle.figures.proofs.report.Given as goal

abbrev pub invariant-loop-more : goal.invariant-loop-more
invariant-loop-more l = Reporting l.initial.said l.initial.image l.said l.image l.totals l.told l.more

abbrev pub decreases-loop-more : goal.decreases-loop-more
decreases-loop-more l = turns_left l.totals l.more
