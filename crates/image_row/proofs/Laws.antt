-- What a part of a row's length says, and what is written into one; a part of another length.
-- Assumes nothing.
use Rattle.std.specs.Prelude.{Some}
use Prim.Native.Nat.{ℕ}
use mathlib.Core.Path.{◌≡◌}
use mathlib.Core.List.{List}
use borrow.Author.Tests.{eq-eqb, ne_eqb}
use lib.ListN.{length}
use Rattle.image.specs.declared.SavedRow.{SavedRow}
use Rattle.image.specs.Image.{saved_size, saved_bytes, saved_from, is_whole, read_saved, saved_over}

module _ (part : List ℕ) where
  module _ (h : length part ≡ saved_size) where
    pub row_read : read_saved part ≡ Some (saved_from part)
    unfolding read_saved is_whole
    row_read = rw (eq-eqb (length part) saved_size h)

    pub row-over : (r : SavedRow) → saved_over part r ≡ saved_bytes r
    unfolding saved_over is_whole
    row-over r = rw (eq-eqb (length part) saved_size h)

  module _ (h : length part ≡ saved_size → ⊥) where
    pub no-row-over : (r : SavedRow) → saved_over part r ≡ part
    unfolding saved_over is_whole
    no-row-over r = rw (ne_eqb (length part) saved_size h)
