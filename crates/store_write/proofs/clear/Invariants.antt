use Rattle.store_write.proofs.Rules.{ClearedTo}
use Rattle.store_write.proofs.clear.Given as goal

abbrev pub invariant-loop-i : goal.invariant-loop-i
invariant-loop-i l = ClearedTo l.gone l.initial.store l.store l.i
