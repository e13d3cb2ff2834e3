use Rattle.image_rescue.proofs.Rules.{rules}
use Rattle.image_rescue.proofs.is_kept.Goals as goal

pub returns-then-is_keepable : goal.returns-then-is_keepable
returns-then-is_keepable c = search rules
