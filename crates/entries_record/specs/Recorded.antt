-- The record on a slice: its arguments' ranges, and the count of its claim, where the next number of the claim's process lies.
use Rattle.std.specs.Prelude.{ℕ, ◌+◌, Bool, ◌&&◌, List}
use Rattle.names.specs.declared.Session.{Session}
use Rattle.table.specs.declared.Active.TheVariants.{UserOf}
use Rattle.module_state.specs.Module.{is_session, active_place, active_process}
use Rattle.module_state.specs.Claim.{is_in_range}
use Rattle.module_state.specs.declared.Claim.{Claim}
use Rattle.module_state.specs.declared.Claim.TheVariants.{Elevated, ByUser}
use Rattle.module_state.specs.declared.Class.{Class}
use Rattle.calls.specs.Calls.{is_device}
use Rattle.state_layout.specs.Layout.{state_of, next_written}

-- "handle over 3, credential over 7 .., class of a record under 4 or over 31" are argument errors
unfoldable pub are_in_range : Session → Claim → Class → Bool
are_in_range s claim class = is_session s && (is_in_range claim && is_device class)

-- "adds one to that process's next number". "Elevated claims have no number"
unfoldable pub counted_in : List ℕ → Session → Claim → List ℕ
counted_in b s Elevated = b
counted_in b s (ByUser u) =
    next_written b (active_place (state_of b) (UserOf s u.credential)) ((active_process (state_of b) (UserOf s u.credential)).next + 1)
