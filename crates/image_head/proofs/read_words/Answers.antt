use Rattle.image_head.proofs.Rules.{rules}
use Rattle.image_head.proofs.read_words.Goals as goal

pub loop-i-init : goal.loop-i-init
loop-i-init c = search rules

pub loop-i-preserved : goal.loop-i-preserved
loop-i-preserved c = search rules
