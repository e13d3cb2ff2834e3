use Rattle.message_fields_write.proofs.Laws.{passed_on}
use Rattle.entries_messages.proofs.Rules.{piece_kind, piece-values, piece-none, piece-done}
use Rattle.entries_messages.proofs.read_piece.Goals as goal

pub returns-in_err-shape : goal.returns-in_err-shape
returns-in_err-shape c =
    piece_kind c.args.kind c.args.bytes.now c.args.values.now c.args.rest.now c.args.next.now c.shape_of.ensures c.in_err-shape.was
    (passed_on c.from_residual.ensures)

pub returns-then-values-ne-VALUES : goal.returns-then-values-ne-VALUES
returns-then-values-ne-VALUES c =
    piece-values c.args.kind c.args.bytes.now c.args.values.now c.args.rest.now c.args.next.now c.shape_of.ensures c.in_ok-shape.was
    c.if-values-ne-VALUES.true

pub returns-in_default : goal.returns-in_default
returns-in_default c =
    piece-none c.args.kind c.args.bytes.now c.args.values.now c.args.rest.now c.args.next.now c.shape_of.ensures c.in_ok-shape.was
    c.if-values-ne-VALUES.false c.piece_in.ensures c.in_default.is

pub returns : goal.returns
returns c =
    piece-done c.args.kind c.args.bytes.now c.args.values.now c.args.rest.now c.args.next.now c.shape_of.ensures c.in_ok-shape.was
    c.if-values-ne-VALUES.false c.piece_in.ensures c.in-Some.is c.copy_from_slice.ensures.after
