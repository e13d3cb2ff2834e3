use Rattle.lists.proofs.Loops.{Mapped}
use Rattle.module_state.specs.Module.{taken}
use Rattle.calls_effects.proofs.fresh.Given as goal

abbrev pub invariant-loop-i : goal.invariant-loop-i
invariant-loop-i l = Mapped taken l.initial.credentials l.credentials l.i
