-- The list call's entry: what it answers, what it leaves in the lent state and in the response, and the length that it returns.
use Rattle.std.specs.Prelude.{ℕ, ◌≡◌, Bool, cond, List, length}
use Rattle.names.specs.declared.Session.{Session}
use Rattle.module_state.specs.declared.Claim.{Claim}
use Rattle.calls.specs.Calls.{ListProcesses, listed}
use Rattle.calls.specs.declared.Wanted.{Wanted}
use Rattle.state_layout.specs.Layout.{state_of}
use Rattle.listing_messages.specs.Wire.{listed_bytes}
use Rattle.entries_call.specs.CallEntry.{is_made, CallEntry}

-- where no call is made, the response stays and the length is 0
unfoldable pub entry_response : Bool → List ℕ → Session → Claim → Wanted → List ℕ → List ℕ
entry_response fine before s claim wanted old = cond (is_made fine before) (listed_bytes (state_of before) s claim wanted old) old

unfoldable pub entry_length : Bool → List ℕ → Session → Claim → Wanted → ℕ → ℕ
entry_length fine before s claim wanted room = cond (is_made fine before) (listed (state_of before) s claim wanted room).length 0

pub record ListEntry (fine : Bool) (before : List ℕ) (s : Session) (claim : Claim) (wanted : Wanted) (old : List ℕ) (answer : ℕ) (after new : List ℕ) (long : ℕ) : Type 0 where
  pub entry : CallEntry fine before (ListProcesses s claim wanted (length old)) answer after
  pub response-is : new ≡ entry_response fine before s claim wanted old
  pub length-is : long ≡ entry_length fine before s claim wanted (length old)
