use Rattle.state_layout.specs.Layout.{place_size, places_at, process_bytes}
use Rattle.rows.proofs.Loops.{Wrote}
use Rattle.state_write_table.proofs.put_places.Given as goal

abbrev pub invariant-loop-i : goal.invariant-loop-i
invariant-loop-i l = Wrote process_bytes place_size places_at l.l l.initial.s l.s l.i
