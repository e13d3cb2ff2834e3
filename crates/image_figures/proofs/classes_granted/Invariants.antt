use Rattle.image.proofs.Rows.{SummedTo}
use Rattle.image_figures.specs.Figures.{class_count}
use Rattle.image_figures.proofs.Rules.{held_by}
use Rattle.image_figures.proofs.classes_granted.Given as goal

abbrev pub invariant-loop-i : goal.invariant-loop-i
invariant-loop-i l = SummedTo held_by class_count l.grants l.sum l.i
