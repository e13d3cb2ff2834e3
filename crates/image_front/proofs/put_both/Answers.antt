use Rattle.image_front.proofs.Rules.{rules}
use Rattle.image_front.proofs.put_both.Goals as goal

pub returns-then-has_seconds : goal.returns-then-has_seconds
returns-then-has_seconds c = search rules

pub returns-else-has_seconds : goal.returns-else-has_seconds
returns-else-has_seconds c = search rules
