use Rattle.image_front.proofs.Rules.{rules}
use Rattle.image_front.proofs.put_words.Goals as goal

pub loop-i-init : goal.loop-i-init
loop-i-init c = search rules

pub loop-i-preserved : goal.loop-i-preserved
loop-i-preserved c = search rules

pub returns : goal.returns
returns c = search rules
