use Rattle.image_test.proofs.Rules.{pair-fails, pairs-go}
use Rattle.image_test.proofs.all_differ.Goals as goal

pub returns-then-not-differs : goal.returns-then-not-differs
returns-then-not-differs c = pair-fails c.loop-rest.rest.now _ c.in-len1-up.len_at_least c.differs.ensures c.loop-rest.invariant c.if-not-differs.true

pub loop-rest-preserved : goal.loop-rest-preserved
loop-rest-preserved c = pairs-go c.loop-rest.rest.now _ c.in-len1-up.len_at_least c.differs.ensures c.loop-rest.invariant c.if-not-differs.false
