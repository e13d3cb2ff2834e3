use Rattle.std.proofs.Common.{drop, arith}
use Rattle.module_state.specs.Module.{credential_count}
use Rattle.state_layout.specs.Layout.{credential_size, credentials_at, grants_from}
use Rattle.state_read.proofs.Rules.{rules, made-rows, chunk-at}
use Rattle.state_read.proofs.read_credentials.Goals as goal

pub returns : goal.returns
returns c =
    made-rows _ _ grants_from credential_count credential_size (drop credentials_at c.args.s.now)
    (λ i y f h k. let e = chunk-at credential_count credential_size credentials_at 709 c.args.s.now i c.as_chunks.ensures.front c.told-s (omega arith) h in search (rules, e))
    c.from_fn.ensures.items
