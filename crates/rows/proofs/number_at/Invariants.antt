use Rattle.rows.proofs.Rules.{Said}
use Rattle.rows.proofs.number_at.Given as goal

abbrev pub invariant-loop-i : goal.invariant-loop-i
invariant-loop-i l = Said l.at l.width l.bytes l.number l.i
