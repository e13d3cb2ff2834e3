use Rattle.std.proofs.Common.{drop, arith}
use Rattle.table.specs.Table.{places}
use Rattle.state_layout.specs.Layout.{place_size, places_at, process_from, places_in}
use Rattle.state_read.proofs.Rules.{rules, made-rows, chunk-at}
use Rattle.state_read.proofs.read_places.Goals as goal

pub returns : goal.returns
unfolding places_in
returns c =
    made-rows _ _ process_from places place_size (drop places_at c.args.s.now)
    (λ i y f h k. let e = chunk-at places place_size places_at 636 c.args.s.now i c.as_chunks.ensures.front c.told-s (omega arith) h in search (rules, e))
    c.from_fn.ensures.items
