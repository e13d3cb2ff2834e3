use borrow.Author.Rules.{rules}
use Rattle.entries_call.proofs.Rules.{put-back-written}
use Rattle.entries_call.proofs.put_back.Goals as goal

pub returns-then-may_change : goal.returns-then-may_change
returns-then-may_change c = put-back-written c.args.state.now c.args.outcome (search rules) c.may_change.ensures c.if-may_change.true c.write.ensures
