use Rattle.figures.proofs.Rules.{rules}
use Rattle.figures.proofs.text_of_line.Goals as goal

pub returns-in-None : goal.returns-in-None
returns-in-None c = search rules

pub returns-in-Some : goal.returns-in-Some
returns-in-Some c = search rules
