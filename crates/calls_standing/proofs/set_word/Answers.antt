use Rattle.calls.specs.Calls.{protection}
use Rattle.calls_claim.proofs.Rules.{rules}
use Rattle.calls_standing.proofs.set_word.Goals as goal

pub returns-in-Err : goal.returns-in-Err
unfolding protection
returns-in-Err c = search rules
