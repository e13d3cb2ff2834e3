use Rattle.rows.proofs.Over.{bytes_on, bytes-end}
use Rattle.rows.proofs.put_bytes.Goals as goal

pub loop-i-preserved : goal.loop-i-preserved
loop-i-preserved c = bytes_on c.loop-i.invariant c.loop-i-test.true

pub returns-after-loop-i : goal.returns-after-loop-i
returns-after-loop-i c = bytes-end c.loop-i.invariant c.loop-i-test.false
