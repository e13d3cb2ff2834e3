-- What the list entry wrote, read again.
-- Assumes nothing.
use Prim.Native.Nat.{ℕ, ◌≤◌}
use mathlib.Core.Path.{◌≡◌, sym}
use mathlib.Core.Bool.{Bool, true}
use mathlib.Core.List.{List}
use native.Mathlib.Omega.{arith}
use lib.ListN.{length, take, length-map}
use Rattle.lists.specs.Lists.{select}
use Rattle.lists.proofs.Each.{each-imp}
use Rattle.lists.proofs.Lists.{length-select}
use Rattle.lists.proofs.Tests.{and_right}
use Rattle.rows.specs.Bytes.{Bytes}
use Rattle.names.specs.declared.Session.{Session}
use Rattle.names.proofs.Laws.{RowFits}
use Rattle.table.specs.Table.{standing, is_among}
use Rattle.table.specs.declared.Process.{Process}
use Rattle.module_state.specs.Numbers as No
use Rattle.module_state.specs.declared.Claim.{Claim}
use Rattle.module_state.proofs.Laws.{clear_first, clear-rest, clear-unless}
use Rattle.calls.specs.Calls.{ListProcesses, number}
use Rattle.calls.specs.Listing.{among_of, row_of, rows_of}
use Rattle.calls.specs.declared.Wanted.{Wanted}
use Rattle.module_rules.specs.Facts.{FormedProcess, IsState}
use Rattle.state_layout.specs.Layout.{state_of, holds_state}
use Rattle.state_layout.proofs.Laws.{holds-is}
use Rattle.listing_call.proofs.Laws.{rows_fit, rows-of}
use Rattle.listing_call.proofs.Back.{ReadsAs, listed_back}
use Rattle.entries_call.specs.CallEntry.{is_made, entry_number}
use Rattle.entries_protected.specs.Listing.{entry_response, entry_length, ListEntry}

module _ {fine : Bool} {before old after new : List ℕ} {s : Session} {claim : Claim} {wanted : Wanted} {long : ℕ} (bytes : Bytes before) (e : ListEntry fine before s claim wanted old 0 after new long) where
  was-made : is_made fine before ≡ true
  unfolding entry_number
  was-made = clear-unless No.argument tt _ (clear_first _ _ (sym e.entry.number_is))

  was-accepted : number (state_of before) (ListProcesses s claim wanted (length old)) ≡ 0
  unfolding entry_number
  was-accepted = clear-rest _ _ (sym e.entry.number_is)

  was-state : IsState (state_of before)
  unfolding is_made
  was-state = holds-is before (and_right fine (holds_state before) was-made) bytes

  few : length (rows_of (state_of before) wanted) ≤ 65535
  unfolding rows_of
  few =
      let m : length (rows_of (state_of before) wanted) ≡ length (select (is_among (among_of wanted)) (standing (state_of before).table)) = length-map (select (is_among (among_of wanted)) (standing (state_of before).table)) row_of in
      omega (arith, m, length-select (is_among (among_of wanted)) (standing (state_of before).table), was-state.rules.few)

  -- where it answered 0, the response's first bytes, as many as the length says, are read as the rows of the wanted credential
  pub list_back : ReadsAs (rows_of (state_of before) wanted) (take long new)
  unfolding entry_response entry_length
  list_back =
      rw (e.response-is, e.length-is, was-made)
      (listed_back (state_of before) s claim wanted old was-accepted
      (rw (rows-of (state_of before) wanted) (rows_fit wanted (standing (state_of before).table) (each-imp fits was-state.formed.each)))
      few)
    where
      fits : (p : Process) → FormedProcess p → RowFits (row_of p)
      fits p f = record { credential = omega (arith, f.credential); name = f.name }
