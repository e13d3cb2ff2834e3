use Rattle.message_pieces.proofs.Rules.{rules}
use Rattle.message_pieces.proofs.part_in.Goals as goal

pub slice_bounds-piece_in-count : goal.slice_bounds-piece_in-count
slice_bounds-piece_in-count c = search (rules, c.in_ok-front.was)

pub slice_bounds-piece_in-start : goal.slice_bounds-piece_in-start
slice_bounds-piece_in-start c = search (rules, c.in_ok-front.was)

pub overflow_add-result : goal.overflow_add-result
overflow_add-result c = search (rules, c.in_ok-front.was, c.in_ok-back.was)

pub returns : goal.returns
returns c = search (rules, c.in_ok-front.was, c.in_ok-back.was)
