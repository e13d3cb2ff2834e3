use Rattle.std.proofs.Common.{◌≤◌, ◌≡◌, length}
use Rattle.steps.proofs.spend.Given as goal

abbrev pub invariant-loop-i : goal.invariant-loop-i
invariant-loop-i l = (l.got ≤ l.i) × (length l.state ≡ length l.initial.state)
