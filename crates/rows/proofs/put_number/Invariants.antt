use Rattle.rows.proofs.Rules.{NumberTo}
use Rattle.rows.proofs.put_number.Given as goal

abbrev pub invariant-loop-i : goal.invariant-loop-i
invariant-loop-i l = NumberTo l.at l.size l.number l.initial.buffer l.buffer l.rest l.i
