use Rattle.state_write_table.proofs.Rules.{rules, places-next}
use Rattle.state_write_table.proofs.put_places.Goals as goal

pub loop-i-preserved : goal.loop-i-preserved
loop-i-preserved c = places-next c.loop-i.invariant (search rules) c.loop-i-test.true c.process_bytes.ensures c.copy_from_slice.ensures.after c.copy_from_slice.ensures.len
