use Rattle.image_rescue.proofs.Rules.{rules}
use Rattle.image_rescue.proofs.sort_rows.Goals.{then-is_kept, else-is_kept}
use Rattle.image_rescue.proofs.sort_rows.Goals as goal

pub loop-i-init : goal.loop-i-init
loop-i-init c = search rules

pub overflow_add-at : goal.overflow_add-at
overflow_add-at c = search rules

pub is_kept-requires : goal.is_kept-requires
is_kept-requires c = search rules

pub saved_at-requires : goal.saved_at-requires
saved_at-requires c = search rules

pub overflow_add-dropped : goal.overflow_add-dropped
overflow_add-dropped c = search rules

pub overflow_mul-bit : goal.overflow_mul-bit
overflow_mul-bit c = search rules

pub loop-i-preserved : goal.loop-i-preserved
loop-i-preserved c = elim c.if-is_kept.branch [ then-is_kept w ↦ search rules | else-is_kept w ↦ search rules ]

pub returns : goal.returns
returns c = search rules
