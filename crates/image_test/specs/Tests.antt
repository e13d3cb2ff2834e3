-- The test of what comes after a head that fits.
use Rattle.std.specs.Prelude.{ℕ, Bool, ◌&&◌, List, eqb, length}
use Rattle.module_state.specs.declared.Grants.{Grants}
use Rattle.image.specs.declared.ImageHead.{ImageHead}
use Rattle.image.specs.Image.{image_long, saved_among, image_fits}

-- the length, the words and the rows
unfoldable pub rest_fits : List ℕ → ImageHead → List Grants → Bool
rest_fits b h grants =
    eqb (length b) (image_long h.offset h.rows) && image_fits (record { offset = h.offset; grants = grants; saved = saved_among h.offset h.rows b })
