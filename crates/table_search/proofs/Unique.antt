-- No second answer meets the contract of any public function of this crate.
-- Assumes nothing.
use mathlib.Core.Path.{sym, ◌∙◌}
use Rattle.lists.proofs.Once.{OneAnswer}
use Rattle.table_search.proofs.find_active.Kinds as find-active-kinds
use Rattle.table_search.proofs.find_active.Reads as find-active
use Rattle.table_search.proofs.find_named.Kinds as find-named-kinds
use Rattle.table_search.proofs.find_named.Reads as find-named
use Rattle.table_search.proofs.count_among.Kinds as count-among-kinds
use Rattle.table_search.proofs.count_among.Reads as count-among

pub find-active-once : OneAnswer 0 find-active-kinds.ps find-active-kinds.r find-active.Post
find-active-once κs a x y s t p q = p ∙ sym q

pub find-named-once : OneAnswer 0 find-named-kinds.ps find-named-kinds.r find-named.Post
find-named-once κs a x y s t p q = p ∙ sym q

pub count-among-once : OneAnswer 0 count-among-kinds.ps count-among-kinds.r count-among.Post
count-among-once κs a x y s t p q = p ∙ sym q
