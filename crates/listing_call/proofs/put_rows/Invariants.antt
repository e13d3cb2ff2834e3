use lib.ListN.{length}
use Rattle.listing_call.proofs.Rules.{Writing}
use Rattle.listing_call.proofs.put_rows.Given as goal

abbrev pub invariant-loop-p : goal.invariant-loop-p
invariant-loop-p l = Writing l.wanted l.p-items (length l.p-items) l.initial.buffer l.buffer l.k l.p-index
