use Rattle.table.specs.Table.{is_active_in}
use Rattle.table_removal.proofs.Rules.{rules, kept_none, kept-all}
use Rattle.table_removal.proofs.without_session.Goals as goal

pub loop-p-init : goal.loop-p-init
loop-p-init c = kept_none (is_active_in c.args.s) c.args.t c.standing-p-items.ensures (search rules) c.empty-left.ensures

pub returns : goal.returns
returns c = kept-all c.args.t c.args.s c.loop-p.invariant c.standing-p-items.ensures c.loop-p-test.false
