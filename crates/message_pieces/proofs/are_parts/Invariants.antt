use Rattle.message_pieces.proofs.Rules.{PartsLeft}
use Rattle.message_pieces.proofs.are_parts.Given as goal

abbrev pub invariant-loop : goal.invariant-loop
invariant-loop l = PartsLeft l.part l.count l.bytes l.left l.counter
