-- The definitions of this crate, for those who use them: what is answered of a piece; and a piece, or a part, that stands at the front of bytes ends
-- within them.
-- Assumes nothing.
use Prim.Native.Nat.{ℕ, ◌-◌, ◌≤◌}
use mathlib.Core.Path.{◌≡◌}
use mathlib.Core.Bool.{true, false}
use Rattle.std.specs.Prelude.{Some, None, is_some}
use mathlib.Core.List.{List}
use native.Mathlib.Omega.{arith}
use borrow.Author.Tests.{leb-true}
use lib.Dec.{leb}
use lib.ListN.{length, length-drop}
use Rattle.message_formats.specs.declared.Shape.{Shape}
use Rattle.message_formats.specs.declared.Part.{Part}
use Rattle.message_fields.specs.Fields.{fields, are_allowed, values_of, head_long}
use Rattle.lists.proofs.Tests.{split, and_left, and_right}
use Rattle.message_pieces.specs.Pieces.{piece_long, is_piece, piece_in, first, second, behind, is_part, part_long}

module _ (shape : Shape) (b : List ℕ) where
  pub piece-taken : is_piece shape b ≡ true → piece_in shape b ≡ Some (record { values = values_of shape b; rest = head_long shape; long = piece_long shape b })
  unfolding piece_in
  piece-taken e = rw e

  pub piece-none : is_piece shape b ≡ false → piece_in shape b ≡ None
  unfolding piece_in
  piece-none e = rw e

  pub piece-fits : is_some (piece_in shape b) ≡ is_piece shape b
  unfolding piece_in
  piece-fits = split (is_piece shape b) (λ e. rw e) (λ e. rw e)

pub is-piece-long : (shape : Shape) (b : List ℕ) → is_piece shape b ≡ true → piece_long shape b ≤ length b
unfolding is_piece
is-piece-long shape b e =
    leb-true (piece_long shape b) (length b) (and_left (leb (piece_long shape b) (length b)) (are_allowed (fields shape) (values_of shape b)) e)

module _ (part : Part) (b : List ℕ) (e : is_part part b ≡ true) where
  pub is-part-first : is_piece (first part) b ≡ true
  unfolding is_part
  is-part-first = and_left (is_piece (first part) b) (is_piece (second part) (behind part b)) e

  pub is-part-second : is_piece (second part) (behind part b) ≡ true
  unfolding is_part
  is-part-second = and_right (is_piece (first part) b) (is_piece (second part) (behind part b)) e

  second-long : piece_long (second part) (behind part b) ≤ length b - piece_long (first part) b
  unfolding behind
  second-long =
      rw length-drop at (is-piece-long (second part) (behind part b) is-part-second)

  pub is-part-long : part_long part b ≤ length b
  unfolding part_long
  is-part-long = omega (arith, is-piece-long (first part) b is-part-first, second-long)
