use Rattle.state_write.proofs.Rules.{grants-put}
use Rattle.state_write.proofs.grants_bytes.Goals as goal

pub returns : goal.returns
returns c = grants-put c.args.g c.from.ensures c.put_number32.ensures c.put_number32-2.ensures
