use Rattle.state_find.proofs.Rules.{find-begin}
use Rattle.state_find.proofs.find_active.Goals as goal

pub loop-i-init : goal.loop-i-init
loop-i-init c = find-begin c.args.s.now c.told-s c.size_in-count.ensures
