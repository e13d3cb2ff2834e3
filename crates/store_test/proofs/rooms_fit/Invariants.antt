use Rattle.store_test.proofs.Rules.{RoomsTo}
use Rattle.store_test.proofs.rooms_fit.Given as goal

abbrev pub invariant-loop-i : goal.invariant-loop-i
invariant-loop-i l = RoomsTo l.store l.i
