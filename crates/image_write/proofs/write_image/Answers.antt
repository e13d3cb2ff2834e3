use Rattle.image_write.proofs.Rules.{rules}
use Rattle.image_write.proofs.write_image.Goals as goal

pub returns : goal.returns
returns c = search rules
