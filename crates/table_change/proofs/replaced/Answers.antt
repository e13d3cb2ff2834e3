use native.Mathlib.Omega.{arith}
use Rattle.table_change.proofs.Rules.{rules, tidied-few}
use Rattle.table_change.proofs.replaced.Goals as goal

pub offset_bounds-places-at : goal.offset_bounds-places-at
offset_bounds-places-at c = omega (arith, tidied-few c.args.t c.tidied-count.result c.tidied-count.ensures (search rules))

pub bounds-places-at : goal.bounds-places-at
bounds-places-at c = omega (arith, tidied-few c.args.t c.tidied-count.result c.tidied-count.ensures (search rules))
