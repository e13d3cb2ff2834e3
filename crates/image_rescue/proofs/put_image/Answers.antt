use Rattle.image_rescue.proofs.Rules.{rules}
use Rattle.image_rescue.proofs.put_image.Goals as goal

pub returns : goal.returns
returns c = search rules
