use Rattle.std.proofs.Common.{sym}
use Rattle.image_read.proofs.Rules.{image-read}
use Rattle.image_read.proofs.read_image.Goals as goal

pub returns-in-Ok : goal.returns-in-Ok
returns-in-Ok c = image-read c.args.b.now (sym c.in-Ok.ensures) c.saved_rows.ensures c.read_saved-saved.ensures c.closed_module.ensures
