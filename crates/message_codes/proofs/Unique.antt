-- No second answer meets the contract of any public function of this crate. Assumes nothing.
use mathlib.Core.Path.{sym, ◌∙◌}
use Rattle.lists.proofs.Once.{OneAnswer}
use Rattle.message_codes.proofs.shape_of.Kinds as shape-of-kinds
use Rattle.message_codes.proofs.shape_of.Reads as shape_of
use Rattle.message_codes.proofs.piece_of.Kinds as piece-of-kinds
use Rattle.message_codes.proofs.piece_of.Reads as piece_of

pub shape-of-once : OneAnswer 0 shape-of-kinds.ps shape-of-kinds.r shape_of.Post
shape-of-once κs a x y s t p q = p ∙ sym q

pub piece-of-once : OneAnswer 0 piece-of-kinds.ps piece-of-kinds.r piece_of.Post
piece-of-once κs a x y s t p q = p ∙ sym q
