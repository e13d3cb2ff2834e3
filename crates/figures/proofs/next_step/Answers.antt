use Rattle.figures.proofs.Rules.{rules}
use Rattle.figures.proofs.next_step.Goals as goal

pub returns-then-said-eq0 : goal.returns-then-said-eq0
returns-then-said-eq0 c = search rules

pub returns-then-totals-eq-MOST_IMAGES : goal.returns-then-totals-eq-MOST_IMAGES
returns-then-totals-eq-MOST_IMAGES c = search rules

pub counted-requires-clause-images_lt_most_images : goal.counted-requires-clause-images_lt_most_images
counted-requires-clause-images_lt_most_images c = search rules

pub counted-requires-clause-of_sheet : goal.counted-requires-clause-of_sheet
counted-requires-clause-of_sheet c = search rules

pub returns : goal.returns
returns c = search rules
