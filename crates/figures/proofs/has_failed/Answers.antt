use Rattle.figures.proofs.Rules.{rules}
use Rattle.figures.proofs.has_failed.Goals as goal

pub returns : goal.returns
returns c = search rules
