use Rattle.image_damaged.specs.Rescue.{words_cleared}
use Rattle.image.proofs.Rows.{SummedTo}
use Rattle.image_rescue.proofs.cleared_in.Given as goal

abbrev pub invariant-loop-i : goal.invariant-loop-i
invariant-loop-i l = SummedTo words_cleared 2 l.grants l.cleared l.i
