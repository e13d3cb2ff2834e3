use Rattle.rows.proofs.Loops.{RowsTo}
use Rattle.module_state.specs.Module.{credential_count}
use Rattle.store_layout.specs.Layout.{head_size, heads_at, head_fits_in}
use Rattle.store_test.proofs.heads_fit.Given as goal

abbrev pub invariant-loop-i : goal.invariant-loop-i
invariant-loop-i l = RowsTo head_fits_in credential_count head_size heads_at l.store l.i
