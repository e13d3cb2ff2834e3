use Rattle.lists.proofs.Loops.{Cleared}
use Rattle.table.specs.Table.{free_place}
use Rattle.table_change.proofs.tidied.Given as goal

abbrev pub invariant-loop-i : goal.invariant-loop-i
invariant-loop-i l = Cleared l.initial.places l.count free_place l.places l.i
