use Rattle.lists.proofs.Loops.{Copied}
use Rattle.entries_arguments.specs.Arguments.{pairs_from}
use Rattle.entries_unprotected.proofs.pairs_of.Given as goal

abbrev pub invariant-loop-i : goal.invariant-loop-i
invariant-loop-i l = Copied (pairs_from l.provisioned l.words l.seconds) l.initial.pairs l.pairs l.i
