use Rattle.state_fields.proofs.Rules.{StandTo}
use Rattle.state_fields.proofs.all_stand.Given as goal

abbrev pub invariant-loop-i : goal.invariant-loop-i
invariant-loop-i l = StandTo l.s l.places l.taken l.i
