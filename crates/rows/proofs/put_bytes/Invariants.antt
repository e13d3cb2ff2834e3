use Rattle.rows.proofs.Over.{BytesTo}
use Rattle.rows.proofs.put_bytes.Given as goal

abbrev pub invariant-loop-i : goal.invariant-loop-i
invariant-loop-i l = BytesTo l.at l.bytes l.initial.buffer l.buffer l.i
