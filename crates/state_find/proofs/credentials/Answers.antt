use Rattle.std.proofs.Common.{arith, refl}
use Rattle.module_state.specs.Module.{credential_count}
use Rattle.state_layout.specs.Layout.{credential_size, credentials_at}
use Rattle.state_find.proofs.Rules.{chunks-part}
use Rattle.state_find.proofs.credentials.Goals as goal

pub returns : goal.returns
returns c = chunks-part credential_count credential_size credentials_at c.args.s.now c.as_chunks.ensures.front (omega (arith, c.told-s)) refl
