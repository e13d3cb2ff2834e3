use Rattle.std.proofs.Common.{◌≤◌, ◌≡◌, length}
use Rattle.steps.proofs.spent.Given as goal

abbrev pub invariant-loop-i : goal.invariant-loop-i
invariant-loop-i l = (l.refused ≤ l.i) × (length l.state ≡ length l.initial.state)
