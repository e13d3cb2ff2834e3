-- Calls one after another.
use Rattle.std.specs.Prelude.{ℕ, List, [], ◌∷◌}
use Rattle.module_state.specs.declared.State.{State}
use Rattle.calls.specs.Calls.{Call, number, outcome}

-- the state after a call, refused or not
unfoldable pub step : State → Call → State
step st call = (outcome st call).state

-- the state after calls
unfoldable pub run : State → List Call → State
run st [] = st
run st (call ∷ calls) = run (step st call) calls

-- the number that each was answered
unfoldable pub numbers : State → List Call → List ℕ
numbers st [] = []
numbers st (call ∷ calls) = number st call ∷ numbers (step st call) calls
