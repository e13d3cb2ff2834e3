use Rattle.image_front.proofs.Rules.{rules}
use Rattle.image_front.proofs.put_numbers.Goals as goal

pub returns : goal.returns
returns c = search rules
