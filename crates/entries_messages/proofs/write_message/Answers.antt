use Rattle.message_fields_write.proofs.Laws.{passed_on}
use Rattle.entries_messages.proofs.Rules.{write-argument, write-message-refused, write-message-done}
use Rattle.entries_messages.proofs.write_message.Goals as goal

pub returns-in_err-given : goal.returns-in_err-given
returns-in_err-given c =
    write-argument c.args.code c.args.values.now c.args.rest.now c.args.buffer.now c.args.written.now c.seven.ensures c.in_err-given.was
    (passed_on c.from_residual.ensures)

pub returns-in_err-written : goal.returns-in_err-written
returns-in_err-written c =
    write-message-refused c.args.code c.args.values.now c.args.rest.now c.args.buffer.now c.args.written.now c.seven.ensures c.in_ok-given.was
    c.byte_of-byte.ensures c.write_message.result c.write_message.ensures c.in_err-written.was (passed_on c.from_residual-in_err-written.ensures)

pub returns : goal.returns
returns c =
    write-message-done c.args.code c.args.values.now c.args.rest.now c.args.buffer.now c.args.written.now c.seven.ensures c.in_ok-given.was
    c.byte_of-byte.ensures c.write_message.result c.write_message.ensures c.in_ok-written.was
