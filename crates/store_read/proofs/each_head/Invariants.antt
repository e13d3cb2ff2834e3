use Rattle.rows.proofs.Loops.{FilledBy}
use Rattle.module_state.specs.Module.{credential_count}
use Rattle.store_layout.specs.Layout.{head_size, heads_at}
use Rattle.store_read.specs.Reads.{head_from}
use Rattle.store_read.proofs.each_head.Given as goal

abbrev pub invariant-loop-i : goal.invariant-loop-i
invariant-loop-i l = FilledBy head_from credential_count head_size heads_at l.store l.initial.out l.out l.i
