use Rattle.table_search.proofs.Rules.{Searching}
use Rattle.table.specs.Table.{is_active}
use Prim.Native.Nat.{◌-◌}
use Rattle.table_search.proofs.find_active.Given as goal

abbrev pub invariant-loop-i : goal.invariant-loop-i
invariant-loop-i l = Searching (is_active l.which) l.t.places l.count l.i

abbrev pub decreases-loop-i : goal.decreases-loop-i
decreases-loop-i l = l.count - l.i
