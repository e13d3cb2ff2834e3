use Rattle.message_fields_write.proofs.Laws.{passed_on}
use Rattle.entries_messages.proofs.Rules.{put-kind, put-argument, put_refused, put-done}
use Rattle.entries_messages.proofs.write_piece.Goals as goal

pub returns-in_err-shape : goal.returns-in_err-shape
returns-in_err-shape c =
    put-kind c.args.kind c.args.values.now c.args.rest.now c.args.buffer.now c.args.written.now c.shape_of.ensures c.in_err-shape.was
    (passed_on c.from_residual.ensures)

pub returns-in_err-given : goal.returns-in_err-given
returns-in_err-given c =
    put-argument c.args.kind c.args.values.now c.args.rest.now c.args.buffer.now c.args.written.now c.shape_of.ensures c.in_ok-shape.was
    c.seven.ensures c.in_err-given.was (passed_on c.from_residual-in_err-given.ensures)

pub returns-in_err-written : goal.returns-in_err-written
returns-in_err-written c =
    put_refused c.args.kind c.args.values.now c.args.rest.now c.args.buffer.now c.args.written.now c.shape_of.ensures c.in_ok-shape.was
    c.seven.ensures c.in_ok-given.was c.write_piece.result c.write_piece.ensures c.in_err-written.was (passed_on c.from_residual-in_err-written.ensures)

pub returns : goal.returns
returns c =
    put-done c.args.kind c.args.values.now c.args.rest.now c.args.buffer.now c.args.written.now c.shape_of.ensures c.in_ok-shape.was
    c.seven.ensures c.in_ok-given.was c.write_piece.result c.write_piece.ensures c.in_ok-written.was
