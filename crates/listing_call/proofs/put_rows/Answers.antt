use Rattle.rows.proofs.Loops.{chosen-room}
use Rattle.table.proofs.Rules.{no_process}
use Rattle.listing_call.proofs.Rules.{rules, rows-begin, rows_end, rows-counted}
use Rattle.listing_call.proofs.put_rows.Goals.{then-is_listed, else-is_listed}
use Rattle.listing_call.proofs.put_rows.Goals as goal

pub loop-p-init : goal.loop-p-init
loop-p-init c = rows-begin c.args.t c.args.wanted c.standing-p-items.ensures (search rules) c.requires

pub slice_bounds-put_row-end : goal.slice_bounds-put_row-end
slice_bounds-put_row-end c =
    let room = chosen-room c.loop-p.invariant no_process c.loop-p-test.true c.is_listed.ensures c.if-is_listed.true in
    search (rules, room)

pub loop-p-preserved : goal.loop-p-preserved
loop-p-preserved c = elim c.if-is_listed.branch [ then-is_listed w ↦ search rules | else-is_listed w ↦ search rules ]

pub returns : goal.returns
returns c = (
  rows-counted c.args.t c.args.wanted c.standing-p-items.ensures c.loop-p.invariant c.loop-p-test.false,
  rows_end c.args.t c.args.wanted c.standing-p-items.ensures c.loop-p.invariant c.loop-p-test.false,
)
