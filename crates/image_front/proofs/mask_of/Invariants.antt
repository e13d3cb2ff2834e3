use Rattle.image_front.proofs.Rows.{Masked}
use Rattle.image_front.proofs.mask_of.Given as goal

abbrev pub invariant-loop-i : goal.invariant-loop-i
invariant-loop-i l = Masked l.l l.mask l.i
