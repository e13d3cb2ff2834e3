use Rattle.figures.proofs.Rules.{rules}
use Rattle.figures.proofs.fill.Goals as goal

pub returns-then-more-eq0 : goal.returns-then-more-eq0
returns-then-more-eq0 c = search rules
