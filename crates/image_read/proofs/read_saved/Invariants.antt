use Rattle.image_read.proofs.Rules.{ReadTo}
use Rattle.image_read.proofs.read_saved.Given as goal

abbrev pub invariant-loop-i : goal.invariant-loop-i
invariant-loop-i l = ReadTo l.saved l.places l.i
