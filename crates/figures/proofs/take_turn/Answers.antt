use Rattle.figures.proofs.Rules.{rules}
use Rattle.figures.proofs.take_turn.Goals as goal

pub returns-then-has_failed : goal.returns-then-has_failed
returns-then-has_failed c = search rules

pub returns : goal.returns
returns c = search rules
