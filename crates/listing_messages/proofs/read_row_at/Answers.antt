use Rattle.listing_messages.proofs.Rules.{row-past, row-answer}
use Rattle.listing_messages.proofs.read_row_at.Goals as goal

pub returns-then-from-at : goal.returns-then-from-at
returns-then-from-at c = row-past c.args.message.now c.args.at c.in_ok-count.ensures c.from.ensures c.if-from-at.true

pub returns : goal.returns
returns c = row-answer c.args.message.now c.args.at c.in_ok-count.ensures c.from.ensures c.if-from-at.false c.read_row.ensures c.ok_or.ensures.value
