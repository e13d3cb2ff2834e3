use Rattle.calls_unprotected.proofs.Rules.{continue-done}
use Rattle.calls_unprotected.proofs.continue_saved.Goals as goal

pub returns-in-Ok : goal.returns-in-Ok
returns-in-Ok c = continue-done c.args.st c.args.s c.accepted.ensures c.args.c c.args.name c.continued.ensures c.in-Ok.ensures
