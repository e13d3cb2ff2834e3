use Rattle.message_write.proofs.Rules.{message-kept, code-place, reserved-place, message-put}
use Rattle.message_write.proofs.write_message.Goals as goal

pub returns-in_err-long : goal.returns-in_err-long
returns-in_err-long c =
    message-kept c.args.code c.args.values c.args.rest.now c.args.buffer.now c.shape_of-shape.ensures c.rest_of.ensures c.fits_rest-carried.ensures
    c.write_body.result c.write_body.ensures c.from_residual.result c.in_err-long.was c.from_residual.ensures

pub bounds-buffer-0 : goal.bounds-buffer-0
bounds-buffer-0 c =
    code-place c.args.code c.args.values c.args.rest.now c.args.buffer.now c.shape_of-shape.ensures c.rest_of.ensures c.fits_rest-carried.ensures
    c.write_body.result c.write_body.ensures c.in_ok-long.was

pub bounds-buffer-1 : goal.bounds-buffer-1
bounds-buffer-1 c =
    reserved-place c.args.code c.args.values c.args.rest.now c.args.buffer.now c.shape_of-shape.ensures c.rest_of.ensures c.fits_rest-carried.ensures
    c.write_body.result c.write_body.ensures c.in_ok-long.was c.args.code

pub returns : goal.returns
returns c =
    message-put c.args.code c.args.values c.args.rest.now c.args.buffer.now c.shape_of-shape.ensures c.rest_of.ensures c.fits_rest-carried.ensures
    c.write_body.result c.write_body.ensures c.in_ok-long.was
