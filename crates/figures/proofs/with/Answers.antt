use Rattle.figures.proofs.Rules.{rules}
use Rattle.figures.proofs.with.Goals as goal

pub returns : goal.returns
returns c = search rules
