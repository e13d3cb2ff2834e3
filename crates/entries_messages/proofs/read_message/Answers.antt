use Rattle.message_fields_write.proofs.Laws.{passed_on}
use Rattle.entries_messages.proofs.Rules.{message-argument, message-refused, message-done}
use Rattle.entries_messages.proofs.read_message.Goals as goal

pub returns-then-values-ne-VALUES : goal.returns-then-values-ne-VALUES
returns-then-values-ne-VALUES c = message-argument c.args.message.now c.args.values.now c.args.rest.now c.if-values-ne-VALUES.true

pub returns-in_err-read : goal.returns-in_err-read
returns-in_err-read c =
    message-refused c.args.message.now c.args.values.now c.args.rest.now c.if-values-ne-VALUES.false c.read_message.result c.read_message.ensures
    c.in_err-read.was (passed_on c.from_residual.ensures)

pub returns : goal.returns
returns c =
    message-done c.args.message.now c.args.values.now c.args.rest.now c.if-values-ne-VALUES.false c.read_message.result c.read_message.ensures
    c.in_ok-read.was c.copy_from_slice.ensures.after
