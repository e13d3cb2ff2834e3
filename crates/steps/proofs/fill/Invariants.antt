use Rattle.std.proofs.Common.{◌≡◌, length}
use Rattle.steps.proofs.fill.Given as goal

abbrev pub invariant-loop-i : goal.invariant-loop-i
invariant-loop-i l = length l.state ≡ length l.initial.state
