use Rattle.message_write.proofs.Rules.{piece-put}
use Rattle.message_write.proofs.write_piece.Goals as goal

pub returns : goal.returns
returns c = piece-put c.args.shape c.args.values c.args.rest.now c.args.buffer.now c.rest_of.ensures c.rest_length-follow.ensures c.write_body.result c.write_body.ensures
