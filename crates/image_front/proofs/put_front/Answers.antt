use Rattle.image_front.proofs.Rules.{rules}
use Rattle.image_front.proofs.put_front.Goals as goal

pub returns-then-front_long-buffer : goal.returns-then-front_long-buffer
returns-then-front_long-buffer c = search rules
