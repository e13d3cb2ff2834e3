use Rattle.entries_image.proofs.Rules.{rules}
use Rattle.entries_image.proofs.slavotuk_restore.Goals as goal

pub returns : goal.returns
returns c = search rules
