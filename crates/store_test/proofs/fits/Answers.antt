use Rattle.store_test.proofs.Rules.{rules}
use Rattle.store_test.proofs.fits.Goals as goal

pub loop-i-preserved : goal.loop-i-preserved
loop-i-preserved c = search rules

pub returns : goal.returns
returns c = search rules

pub returns-then-not-head_fits : goal.returns-then-not-head_fits
returns-then-not-head_fits c = search rules
