use Rattle.figures.proofs.Rules.{rules}
use Rattle.figures.proofs.stop_of.Goals as goal

pub returns-in-Ok : goal.returns-in-Ok
returns-in-Ok c = search rules

pub returns-in-Err : goal.returns-in-Err
returns-in-Err c = search rules
