use Rattle.calls_unprotected.proofs.Rules.{elevate-done}
use Rattle.calls_unprotected.proofs.elevate.Goals as goal

pub returns-in-Ok : goal.returns-in-Ok
returns-in-Ok c = elevate-done c.args.st c.args.s c.accepted.ensures c.with_table.ensures c.args.c c.args.name c.appended-t.ensures c.args.verdict c.elevation-p.ensures c.in-Ok.ensures
