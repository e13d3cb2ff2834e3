use Rattle.image_rescue.proofs.Rules.{PutTo}
use Rattle.image_rescue.proofs.put_rows.Given as goal

abbrev pub invariant-loop-i : goal.invariant-loop-i
invariant-loop-i l = PutTo l.offset l.held l.initial.buffer l.buffer l.i
