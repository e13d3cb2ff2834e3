use Rattle.image_row.proofs.Rules.{rules}
use Rattle.image_row.proofs.put_row.Goals as goal

pub returns-then-part-eq-SAVED_SIZE : goal.returns-then-part-eq-SAVED_SIZE
returns-then-part-eq-SAVED_SIZE c = search rules
