use Rattle.std.proofs.Common.{get_or}
use Rattle.rows.proofs.Rules.{made, rules}
use Rattle.rows.proofs.first_bytes.Goals as goal

pub returns : goal.returns
returns g c = made _ (λ i. get_or c.args.bytes.now i 0) c.from_fn.ensures.items (λ x r q w. search rules)
