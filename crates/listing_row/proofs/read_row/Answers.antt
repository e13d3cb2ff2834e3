use Rattle.listing_row.proofs.Rules.{row-none, row-named, row-got}
use Rattle.listing_row.proofs.read_row.Goals as goal

pub returns-then-not-is_row : goal.returns-then-not-is_row
returns-then-not-is_row c = row-none c.args.part.now c.is_row.ensures c.if-not-is_row.true

pub returns-in_err-read_name : goal.returns-in_err-read_name
returns-in_err-read_name c = row-named c.args.part.now c.is_row.ensures c.if-not-is_row.false c.read_name.ensures c.in_err-read_name.was

pub returns : goal.returns
returns c =
    row-got c.args.part.now c.is_row.ensures c.if-not-is_row.false c.read_name.ensures c.in_ok-read_name.was c.number16.ensures c.type_numbered.ensures
