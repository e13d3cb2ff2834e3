use Rattle.store_test.proofs.Rules.{FitsTo}
use Rattle.store_test.proofs.fits.Given as goal

abbrev pub invariant-loop-i : goal.invariant-loop-i
invariant-loop-i l = FitsTo l.credentials l.heads.each l.i
