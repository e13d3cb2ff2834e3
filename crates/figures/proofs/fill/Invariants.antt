use lib.ListN.{length}
use Prim.Native.Nat.{◌-◌}
use Rattle.figures.proofs.Rules.{Filling}
use Rattle.figures.proofs.fill.Given as goal

abbrev pub invariant-loop-count : goal.invariant-loop-count
invariant-loop-count l = Filling l.initial.part l.part l.count

abbrev pub decreases-loop-count : goal.decreases-loop-count
decreases-loop-count l = length l.part - l.count
