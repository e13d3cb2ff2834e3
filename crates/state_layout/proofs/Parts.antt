use Rattle.state_layout.specs.Layout.{credential_size, place_size, credentials_at, places_at, state_length}
use Rattle.table.specs.Table.{places}
use Rattle.module_state.specs.Module.{credential_count}
-- The parts of a slice that the functions over it take: how long they are.
-- Assumes nothing.
use Prim.Native.Nat.{ℕ, ◌+◌, ◌-◌, ◌*◌, ◌<◌}
use mathlib.Core.Path.{◌≡◌}
use mathlib.Core.List.{List}
use native.Mathlib.Omega.{arith}
use lib.ListN.{length, take, drop, length-take, length-drop}

module _ (s : List ℕ) (i : ℕ) (h : length s ≡ state_length) where
  pub grants-part : i < credential_count → length (take (credentials_at + i * credential_size + credential_size - (credentials_at + i * credential_size)) (drop (credentials_at + i * credential_size) s)) ≡ credential_size
  grants-part k = simp (length-take, length-drop) (omega arith)

  pub place-part : i < places → length (take (places_at + i * place_size + place_size - (places_at + i * place_size)) (drop (places_at + i * place_size) s)) ≡ place_size
  place-part k = simp (length-take, length-drop) (omega arith)
