use Rattle.state_write_table.proofs.Rules.{process-put}
use Rattle.state_write_table.proofs.process_bytes.Goals as goal

pub returns : goal.returns
returns c = process-put c.args.p c.from.ensures c.byte_of.ensures c.kind_number.ensures c.put_number16.ensures c.copy_from_slice.ensures.after c.copy_from_slice.ensures.len
