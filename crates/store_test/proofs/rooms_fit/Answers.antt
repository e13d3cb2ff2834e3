use Rattle.store_test.proofs.Rules.{rules}
use Rattle.store_test.proofs.rooms_fit.Goals as goal

pub returns-then-not-room_fits_in : goal.returns-then-not-room_fits_in
returns-then-not-room_fits_in c = search rules

pub loop-i-preserved : goal.loop-i-preserved
loop-i-preserved c = search rules
