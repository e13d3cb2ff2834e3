use Rattle.figures.proofs.Rules.{rules}
use Rattle.figures.proofs.print.Goals as goal

pub returns-in-Err : goal.returns-in-Err
returns-in-Err c = search rules

pub returns : goal.returns
returns c = search rules
