use Rattle.store_write.proofs.Rules.{rules}
use Rattle.store_write.proofs.clear.Goals.{then-gone-i, else-gone-i}
use Rattle.store_write.proofs.clear.Goals as goal

pub loop-i-preserved : goal.loop-i-preserved
loop-i-preserved c = elim c.if-gone-i.branch [ then-gone-i w ↦ search rules | else-gone-i w ↦ search rules ]
