use Rattle.entries_listing.proofs.Rules.{row-refused, row-nowhere, row_done}
use Rattle.entries_listing.proofs.slavotuk_read_row.Goals as goal

pub returns-in-Err : goal.returns-in-Err
returns-in-Err c = row-refused c.args.message.now c.args.at c.args.credential.now c.args.kind.now c.args.name.now c.in-Err.refusal c.in-Err.ensures c.number.ensures

pub returns-then-name-ne-NAME_LENGTH : goal.returns-then-name-ne-NAME_LENGTH
returns-then-name-ne-NAME_LENGTH c =
    row-nowhere c.args.message.now c.args.at c.args.credential.now c.args.kind.now c.args.name.now c.in-Ok.ensures c.if-name-ne-NAME_LENGTH.true c.number-then-name-ne-NAME_LENGTH.ensures

pub returns : goal.returns
returns c =
    row_done c.args.message.now c.args.at c.args.credential.now c.args.kind.now c.args.name.now c.in-Ok.ensures c.if-name-ne-NAME_LENGTH.false c.type_number.ensures c.put_name.ensures c.from.ensures
