use Rattle.figures.proofs.Rules.{rules}
use Rattle.figures.proofs.report.Goals as goal

pub loop-more-init : goal.loop-more-init
loop-more-init c = search rules

pub loop-more-smaller : goal.loop-more-smaller
loop-more-smaller c = search rules

pub loop-more-preserved : goal.loop-more-preserved
loop-more-preserved c = search rules
