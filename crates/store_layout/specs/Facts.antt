-- What holds of a store that a slice can hold.
use Rattle.std.specs.Prelude.{◌≤◌, ◌≡◌, length}
use Rattle.lists.specs.Each.{Each}
use Rattle.rows.specs.Bytes.{Bytes}
use Rattle.module_state.specs.Module.{credential_count}
use Rattle.store_layout.specs.Store.{Held, Store, parameters_size}

pub record FormedHeld (h : Held) : Type 0 where
  pub few : length h.parameters ≤ parameters_size
  pub bytes : Bytes h.parameters

pub record FormedStore (store : Store) : Type 0 where
  pub all : length store.held ≡ credential_count
  pub each : Each FormedHeld store.held
