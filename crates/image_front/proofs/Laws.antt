-- What a caller has of the front of an image that was written: in either layout it ends where the rows begin.
-- Assumes nothing.
use Prim.Native.Nat.{ℕ}
use mathlib.Core.Path.{◌≡◌, ◌∙◌}
use mathlib.Core.Bool.{true}
use mathlib.Core.List.{List}
use lib.ListN.{length}
use Rattle.rows.specs.Rows.{over, Put}
use Rattle.module_state.specs.Module.{credential_count}
use Rattle.module_state.specs.declared.Grants.{Grants}
use Rattle.image.specs.Image.{is_row_offset, front_bytes, front_long}
use Rattle.image.proofs.Laws.{front-long, front_at}

pub front-put : (grants : List Grants) (n offset : ℕ) {old new : List ℕ} → length grants ≡ credential_count → is_row_offset offset ≡ true → new ≡ over 0 (front_long offset) (front_bytes grants n offset) old
    → Put 0 offset (front_bytes grants n offset) old new
front-put grants n offset {old} eight o e = record { long = front-long grants n offset eight ∙ at; is = e ∙ rw at }
  where
    at : front_long offset ≡ offset
    at = front_at offset o
