use Rattle.state_write.proofs.Rules.{rules, credentials-next}
use Rattle.state_write.proofs.put_credentials.Goals as goal

pub loop-i-preserved : goal.loop-i-preserved
loop-i-preserved c = credentials-next c.loop-i.invariant (search rules) c.loop-i-test.true c.grants_bytes.ensures c.copy_from_slice.ensures.after c.copy_from_slice.ensures.len
