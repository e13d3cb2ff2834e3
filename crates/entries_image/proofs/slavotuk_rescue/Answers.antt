use Rattle.entries_image.proofs.Rules.{rescue-refused, rescue-done}
use Rattle.entries_image.proofs.slavotuk_rescue.Goals as goal

pub returns-in-Ok : goal.returns-in-Ok
returns-in-Ok c = rescue-done c.args.bytes.now c.args.image.now c.args.cleared.now c.args.kept.now c.args.dropped.now c.in-Ok.ensures c.from.ensures

pub returns-in-Err : goal.returns-in-Err
returns-in-Err c =
    rescue-refused c.args.bytes.now c.args.image.now c.args.cleared.now c.args.kept.now c.args.dropped.now c.in-Err.refusal c.in-Err.ensures
    c.from-in-Err.ensures c.from-in-Err-2.ensures
