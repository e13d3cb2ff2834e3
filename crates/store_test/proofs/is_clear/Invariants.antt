use Rattle.store_test.proofs.Rules.{ClearTo}
use Rattle.store_test.proofs.is_clear.Given as goal

abbrev pub invariant-loop-i : goal.invariant-loop-i
invariant-loop-i l = ClearTo l.room l.from l.d l.i
