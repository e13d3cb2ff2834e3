use Rattle.calls_unprotected.proofs.Rules.{start-done}
use Rattle.calls_unprotected.proofs.start.Goals as goal

pub returns-in-Ok : goal.returns-in-Ok
returns-in-Ok c = start-done c.args.st c.args.s c.accepted.ensures c.with_table.ensures c.args.c c.args.name c.appended-t.ensures c.user_process-p.ensures c.in-Ok.ensures
