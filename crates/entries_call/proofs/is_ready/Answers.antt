use native.Mathlib.Omega.{arith}
use Rattle.entries_call.proofs.Rules.{ready-holds, ready-not}
use Rattle.entries_call.proofs.is_ready.Goals as goal

pub returns-then-fine : goal.returns-then-fine
returns-then-fine c = ready-holds _ (λ i. omega (arith, c.type_inv.state i)) c.if-fine.true c.holds.ensures

pub returns-else-fine : goal.returns-else-fine
returns-else-fine c = ready-not _ (λ i. omega (arith, c.type_inv.state i)) c.if-fine.false
