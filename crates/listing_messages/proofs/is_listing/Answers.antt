use Rattle.std.proofs.Common.{◌∙◌}
use Rattle.listing_messages.proofs.Rules.{listing-rows}
use Rattle.listing_messages.proofs.is_listing.Goals as goal

pub returns : goal.returns
returns c =
    listing-rows c.args.message.now (c.from.ensures ∙ c.head_number.ensures) c.is_headed.ensures c.if-not-is_headed.false c.as_chunks.ensures.front c.are_rows.ensures
