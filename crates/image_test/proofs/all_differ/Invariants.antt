use Rattle.std.proofs.Common.{◌≡◌, map, length}
use Rattle.rows.specs.Rows.{pairwise}
use Rattle.image.specs.Image.{saved_from, differ}
use Rattle.image_test.proofs.all_differ.Given as goal

abbrev pub invariant-loop-rest : goal.invariant-loop-rest
invariant-loop-rest l = pairwise differ (map saved_from l.saved) ≡ pairwise differ (map saved_from l.rest)

abbrev pub decreases-loop-rest : goal.decreases-loop-rest
decreases-loop-rest l = length l.rest
