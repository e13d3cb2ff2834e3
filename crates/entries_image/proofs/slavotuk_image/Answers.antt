use Rattle.entries_image.proofs.Rules.{rules}
use Rattle.entries_image.proofs.slavotuk_image.Goals as goal

pub returns-then-written-eq0 : goal.returns-then-written-eq0
returns-then-written-eq0 c = search rules

pub returns : goal.returns
returns c = search rules
