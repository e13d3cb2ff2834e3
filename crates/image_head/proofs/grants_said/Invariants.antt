use Rattle.image_head.proofs.Rules.{SaidTo}
use Rattle.image_head.proofs.grants_said.Given as goal

abbrev pub invariant-loop-i : goal.invariant-loop-i
invariant-loop-i l = SaidTo l.mask l.words l.seconds l.initial.grants l.grants l.left l.i
