use Rattle.image_rescue.proofs.Rules.{Sorting}
use Rattle.image_rescue.proofs.sort_rows.Given as goal

abbrev pub invariant-loop-i : goal.invariant-loop-i
invariant-loop-i l = Sorting l.grants l.b l.offset l.n l.held l.kept l.dropped l.bit l.i
