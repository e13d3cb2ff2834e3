-- "Numbers a call can answer": no call on a slice answers another.
-- Assumes nothing.
use Prim.Native.Nat.{ℕ}
use mathlib.Core.Bool.{Bool}
use mathlib.Core.Path.{refl}
use mathlib.Core.List.{List}
use Rattle.module_state.specs.Numbers as No
use Rattle.calls.specs.Calls.{Call}
use Rattle.calls.proofs.Facts.{known-unless, known-then, number-known}
use Rattle.state_layout.specs.Layout.{state_of}
use Rattle.entries_call.specs.CallEntry.{holds_number, entry_number, CallEntry}

pub entry_known : {fine : Bool} {before after : List ℕ} {call : Call} {answer : ℕ} → CallEntry fine before call answer after → No.IsKnown answer
unfolding entry_number
entry_known {before = before} {call = call} e = rw e.number_is (known-then _ _ (known-unless 1 _ refl) (number-known (state_of before) call))

pub holds-known : (bytes : List ℕ) → No.IsKnown (holds_number bytes)
unfolding holds_number
holds-known bytes = known-unless 1 _ refl
