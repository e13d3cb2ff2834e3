use Rattle.entries_unprotected.proofs.Rules.{rules}
use Rattle.entries_unprotected.proofs.pairs_of.Goals as goal

pub loop-i-init : goal.loop-i-init
loop-i-init c = search rules

pub bounds-provisioned-i : goal.bounds-provisioned-i
bounds-provisioned-i c = search rules

pub bounds-words-i : goal.bounds-words-i
bounds-words-i c = search rules

pub bounds-seconds-i : goal.bounds-seconds-i
bounds-seconds-i c = search rules

pub loop-i-preserved : goal.loop-i-preserved
loop-i-preserved c = search rules
