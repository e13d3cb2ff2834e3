use Rattle.table.specs.Table.{is_active_in}
use Rattle.table_removal.proofs.Rules.{Kept}
use Rattle.table_removal.proofs.without_session.Given as goal

abbrev pub invariant-loop-p : goal.invariant-loop-p
invariant-loop-p l = Kept (is_active_in l.s) l.p-items l.left l.p-index
