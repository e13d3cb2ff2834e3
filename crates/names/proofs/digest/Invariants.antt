use Rattle.names.proofs.Rules.{StirredTo}
use Rattle.names.proofs.digest.Given as goal

abbrev pub invariant-loop-i : goal.invariant-loop-i
invariant-loop-i l = StirredTo l.name.bytes l.d l.i
