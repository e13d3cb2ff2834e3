use Rattle.figures.proofs.Rules.{rules}
use Rattle.figures.proofs.with_three.Goals as goal

pub returns : goal.returns
returns c = search rules
