use Rattle.table_search.proofs.Rules.{rules}
use Rattle.table_search.proofs.find_active.Goals as goal

pub loop-i-init : goal.loop-i-init
loop-i-init c = search rules
