use Rattle.entries_record.proofs.Rules.{rules, record-refused, record-passed}
use Rattle.entries_record.proofs.record.Goals as goal

pub returns-then-not-is_ready : goal.returns-then-not-is_ready
returns-then-not-is_ready c = search rules

pub returns-in_err-by : goal.returns-in_err-by
returns-in_err-by c =
    record-refused c.args.state.now c.args.s c.args.claim c.args.class c.are_in_range.ensures c.is_ready.ensures c.if-not-is_ready.false c.check.result c.check.ensures
    c.from_residual.result c.in_err-by.was (search rules)

pub returns : goal.returns
returns c =
    record-passed c.args.state.now c.args.s c.args.claim c.args.class c.are_in_range.ensures c.is_ready.ensures c.if-not-is_ready.false c.check.result c.check.ensures
    c.in_ok-by.was c.count.ensures c.record_test.ensures
