-- What the list call wrote is read back: from the buffer that it leaves, by the readers of its message.
-- Assumes nothing.
use Prim.Native.Nat.{ℕ, ◌<◌, ◌≤◌}
use mathlib.Core.Path.{◌≡◌}
use mathlib.Core.List.{List}
use borrow.Author.Tests.{eq-eqb}
use lib.ListN.{length, get_or, take, drop}
use lib.Seq.{take_at}
use Rattle.lists.specs.Each.{Each}
use Rattle.names.specs.Names.{zero_row}
use Rattle.names.specs.declared.Row.{Row}
use Rattle.names.specs.declared.Session.{Session}
use Rattle.names.proofs.Laws.{RowFits}
use Rattle.module_state.specs.declared.Claim.{Claim}
use Rattle.module_state.specs.declared.State.{State}
use Rattle.calls.specs.Calls.{ListProcesses, number, listed}
use Rattle.calls.specs.Listing.{rows_of, message_length, listing}
use Rattle.calls.specs.declared.Wanted.{Wanted}
use Rattle.listing_messages.specs.Wire.{read_count, read_row_at, listed_bytes}
use Rattle.listing_messages.proofs.Laws.{length-listing, count-back, row-at-back, row-past-back}
use Rattle.listing_call.proofs.Laws.{list-accepted}

-- the message is these rows': its count, the row at each place, and past the last the answer 1
pub record ReadsAs (rows : List Row) (message : List ℕ) : Type 0 where
  pub count : read_count message ≡ record { number = 0; count = length rows }
  pub row : (at : ℕ) → at < length rows → read_row_at message at ≡ record { number = 0; row = get_or rows at zero_row }
  pub past : (at : ℕ) → length rows ≤ at → read_row_at message at ≡ record { number = 1; row = zero_row }

module _ (st : State) (s : Session) (claim : Claim) (wanted : Wanted) (old : List ℕ) where
  -- an accepted one: the first bytes of the buffer, as many as the call answers, are read as the rows of the wanted credential
  pub listed_back : number st (ListProcesses s claim wanted (length old)) ≡ 0 → Each RowFits (rows_of st wanted) → length (rows_of st wanted) ≤ 65535 → ReadsAs (rows_of st wanted) (take (listed st s claim wanted (length old)).length (listed_bytes st s claim wanted old))
  unfolding listed
  listed_back e fit few =
      rw (eq-eqb (number st (ListProcesses s claim wanted (length old))) 0 e, list-accepted st s claim wanted old e, take_at (listing (rows_of st wanted)) (drop (message_length (length (rows_of st wanted))) old) (message_length (length (rows_of st wanted))) (length-listing (rows_of st wanted) fit))
      (record { count = count-back (rows_of st wanted) fit few; row = row-at-back (rows_of st wanted) fit few; past = row-past-back (rows_of st wanted) fit few })
