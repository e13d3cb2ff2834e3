use Rattle.figures.proofs.Rules.{rules}
use Rattle.figures.proofs.text_of.Goals as goal

pub returns-in-Image : goal.returns-in-Image
returns-in-Image c = search rules

pub returns-in-Total : goal.returns-in-Total
returns-in-Total c = search rules

pub returns-in-TooMany : goal.returns-in-TooMany
returns-in-TooMany c = search rules
