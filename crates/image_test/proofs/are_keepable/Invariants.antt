use Rattle.rows.proofs.Loops.{EveryFrom}
use Rattle.image.specs.Image.{saved_from, is_keepable}
use Rattle.image_test.proofs.are_keepable.Given as goal

abbrev pub invariant-loop-i : goal.invariant-loop-i
invariant-loop-i l = EveryFrom (λ row. is_keepable l.grants (saved_from row)) l.saved 0 l.i
