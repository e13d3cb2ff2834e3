use Rattle.entries_record.proofs.Rules.{rules}
use Rattle.entries_record.proofs.count.Goals as goal

pub overflow_add-by : goal.overflow_add-by
overflow_add-by c = search rules
