use Rattle.calls_unprotected.proofs.Rules.{drop-done}
use Rattle.calls_unprotected.proofs.drop_elevation.Goals as goal

pub returns-in-Ok : goal.returns-in-Ok
returns-in-Ok c = drop-done c.args.st c.args.s c.accepted.ensures c.with_table.ensures c.removed-t.ensures c.in-Ok.ensures
