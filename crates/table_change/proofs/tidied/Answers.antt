use Rattle.table_change.proofs.Rules.{rules}
use Rattle.table_change.proofs.tidied.Goals as goal

pub loop-i-init : goal.loop-i-init
loop-i-init c = search rules
