use Rattle.std.proofs.Common.{◌+◌, get_or}
use Rattle.rows.proofs.Rules.{made}
use Rattle.names.proofs.Rules.{word-said, rules}
use Rattle.names.proofs.word.Goals as goal

pub returns : goal.returns
returns c =
    word-said c.args.bytes.now c.from_fn.result c.args.at c.told-bytes c.fits-bytes c.requires c.from_le_bytes.ensures c.from_fn.ensures.items.long
    (made _ (λ i. get_or c.args.bytes.now (c.args.at + i) 0) c.from_fn.ensures.items (λ x r q w. search rules))
