use Rattle.image_write.proofs.Rules.{rules}
use Rattle.image_write.proofs.put_saved.Goals.{then-is_saved_one, else-is_saved_one}
use Rattle.image_write.proofs.put_saved.Goals as goal

pub loop-i-init : goal.loop-i-init
loop-i-init c = search rules

pub slice_bounds-put_row-end : goal.slice_bounds-put_row-end
slice_bounds-put_row-end c = search rules

pub loop-i-preserved : goal.loop-i-preserved
loop-i-preserved c = elim c.if-is_saved_one.branch [ then-is_saved_one w ↦ search rules | else-is_saved_one w ↦ search rules ]

pub returns : goal.returns
returns c = search rules
