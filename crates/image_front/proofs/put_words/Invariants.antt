use Rattle.image_front.proofs.Rows.{Worded}
use Rattle.image_front.proofs.put_words.Given as goal

abbrev pub invariant-loop-i : goal.invariant-loop-i
invariant-loop-i l = Worded l.fn.words l.at l.initial.buffer l.buffer l.i
