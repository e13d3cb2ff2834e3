-- No second answer meets the contract of any public function of this crate. Assumes nothing.
use mathlib.Core.Path.{sym, ◌∙◌}
use Rattle.lists.proofs.Once.{OneAnswer}
use Rattle.message_pieces.proofs.rest_length.Kinds as rest-length-kinds
use Rattle.message_pieces.proofs.rest_length.Reads as rest-length
use Rattle.message_pieces.proofs.piece_in.Kinds as piece-in-kinds
use Rattle.message_pieces.proofs.piece_in.Reads as piece-in
use Rattle.message_pieces.proofs.fits_rest.Kinds as fits-rest-kinds
use Rattle.message_pieces.proofs.fits_rest.Reads as fits-rest

pub rest-length-once : OneAnswer 0 rest-length-kinds.ps rest-length-kinds.r rest-length.Post
rest-length-once κs a x y s t p q = p ∙ sym q

pub piece-in-once : OneAnswer 1 piece-in-kinds.ps piece-in-kinds.r piece-in.Post
piece-in-once κs a x y s t p q = p ∙ sym q

pub fits-rest-once : OneAnswer 1 fits-rest-kinds.ps fits-rest-kinds.r fits-rest.Post
fits-rest-once κs a x y s t p q = p ∙ sym q
