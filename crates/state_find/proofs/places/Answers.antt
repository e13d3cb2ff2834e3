use Rattle.std.proofs.Common.{arith, refl}
use Rattle.table.specs.Table.{places}
use Rattle.state_layout.specs.Layout.{place_size, places_at}
use Rattle.state_find.proofs.Rules.{chunks-part}
use Rattle.state_find.proofs.places.Goals as goal

pub returns : goal.returns
returns c = chunks-part places place_size places_at c.args.s.now c.as_chunks.ensures.front (omega (arith, c.told-s)) refl
