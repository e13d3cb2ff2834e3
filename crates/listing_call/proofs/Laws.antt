-- What callers cite: what the writer and the list call leave in the lent buffer, and that a refused one writes nothing.
-- Assumes nothing.
use Prim.Native.Nat.{ℕ, ◌+◌, ◌*◌, ◌≤◌}
use mathlib.Core.Path.{◌≡◌, refl, sym, ap, ◌∙◌}
use mathlib.Core.Bool.{cond}
use mathlib.Core.List.{List, [], ◌∷◌, ◌++◌}
use native.Mathlib.Nat.{zero-add}
use native.Mathlib.Omega.{arith}
use borrow.Author.Tests.{eq-eqb, ne_eqb, ltb-false, eqb-true, eqb-false}
use lib.Dec.{eqb}
use lib.ListN.{length, drop}
use Rattle.lists.specs.Lists.{select}
use Rattle.rows.proofs.Over.{over-room}
use Rattle.lists.specs.Each.{Each, each_nil, each-cons}
use Rattle.lists.proofs.Tests.{split}
use Rattle.names.specs.Names.{row_length}
use Rattle.names.specs.declared.Row.{Row}
use Rattle.names.specs.declared.Session.{Session}
use Rattle.names.proofs.Laws.{RowFits}
use Rattle.table.specs.Table.{standing, is_among}
use Rattle.table.specs.declared.Process.{Process}
use Rattle.module_state.specs.declared.Claim.{Claim}
use Rattle.module_state.specs.declared.State.{State}
use Rattle.module_state.proofs.Laws.{clear-rest, clear-when}
use Rattle.calls.specs.Calls.{ListProcesses, is_short, protection, list_tests, tests, number, listed}
use Rattle.calls.proofs.Cut.{accepted}
use Rattle.calls.specs.Listing.{head_length, among_of, row_of, rows_of, message_length, listing}
use Rattle.calls.specs.declared.Listed.{Listed}
use Rattle.calls.specs.declared.Wanted.{Wanted}
use Rattle.listing_messages.specs.Wire.{rows_among, listing_over, listed_bytes}

-- ---- the rows of a table whose processes have names of 48 bytes and credentials of 2
pub rows_fit : (wanted : Wanted) (l : List Process) → Each (λ p. RowFits (row_of p)) l → Each RowFits (rows_among wanted l)
unfolding rows_among select
rows_fit wanted [] each_nil = each_nil
rows_fit wanted (p ∷ l) (each-cons q g) =
    split (is_among (among_of wanted) p) (λ e. rw e (each-cons q (rows_fit wanted l g))) (λ e. rw e (rows_fit wanted l g))

-- those that the listing of a state has
pub rows-of : (st : State) (wanted : Wanted) → rows_of st wanted ≡ rows_among wanted (standing st.table)
unfolding rows_of rows_among
rows-of st wanted = refl

-- ---- the list call
module _ (st : State) (s : Session) (claim : Claim) (wanted : Wanted) (old : List ℕ) where
  -- "A refusal leaves state and buffer as they were."
  pub list-refused : (number st (ListProcesses s claim wanted (length old)) ≡ 0 → ⊥) → listed_bytes st s claim wanted old ≡ old
  unfolding listed_bytes
  list-refused h = rw (ne_eqb (number st (ListProcesses s claim wanted (length old))) 0 h)

  module _ (e : number st (ListProcesses s claim wanted (length old)) ≡ 0) where
    pub list-accepted : listed_bytes st s claim wanted old ≡ listing (rows_of st wanted) ++ drop (message_length (length (rows_of st wanted))) old
    unfolding listed_bytes
    list-accepted = rw (eq-eqb (number st (ListProcesses s claim wanted (length old))) 0 e)

    -- an accepted one has room
    pub list-room : message_length (length (rows_of st wanted)) ≤ length old
    unfolding protection tests list_tests is_short
    list-room =
        ltb-false (length old) (message_length (length (rows_of st wanted)))
        (clear-when 15 tt _ (clear-rest _ _ (accepted st (ListProcesses s claim wanted (length old)) refl e).after))

    -- so it is what the writer leaves
    pub list_written : listed_bytes st s claim wanted old ≡ listing_over (rows_among wanted (standing st.table)) old
    unfolding listing_over
    list_written =
        list-accepted
        ∙ rw (rows-of st wanted)
        (sym (over-room 0 (message_length (length rows)) (listing rows) old (rw (zero-add, ← rows-of st wanted) list-room) ∙ rw zero-add))
      where
        rows : List Row
        rows = rows_among wanted (standing st.table)

  -- by the length that calls' decision has: it is 0 exactly where the call is refused
  module _ {decided : Listed} (d : decided ≡ listed st s claim wanted (length old)) where
    long : decided.length ≡ cond (eqb (number st (ListProcesses s claim wanted (length old))) 0) (message_length (length (rows_of st wanted))) 0
    unfolding listed
    long = ap (λ (x : Listed). x.length) d

    pub list-bytes : {new : List ℕ} → (decided.length ≡ 0 → ⊥) → new ≡ listing_over (rows_among wanted (standing st.table)) old → new ≡ listed_bytes st s claim wanted old
    list-bytes h q =
        split (eqb (number st (ListProcesses s claim wanted (length old))) 0)
        (λ e. q ∙ sym (list_written (eqb-true (number st (ListProcesses s claim wanted (length old))) 0 e)))
        (λ e. absurd (h (long ∙ rw e)))

    -- so there is room where it is not
    pub list-enough : (decided.length ≡ 0 → ⊥) → message_length (length (rows_among wanted (standing st.table))) ≤ length old
    list-enough h =
        split (eqb (number st (ListProcesses s claim wanted (length old))) 0)
        (λ e. rw (rows-of st wanted) at (list-room (eqb-true (number st (ListProcesses s claim wanted (length old))) 0 e)))
        (λ e. absurd (h (long ∙ rw e)))

    pub list-stays : decided.length ≡ 0 → old ≡ listed_bytes st s claim wanted old
    unfolding message_length
    list-stays h =
        split (eqb (number st (ListProcesses s claim wanted (length old))) 0)
        (λ e. let some : decided.length ≡ head_length + row_length * length (rows_of st wanted) = long ∙ rw e in absurd (omega arith))
        (λ e. sym (list-refused (eqb-false (number st (ListProcesses s claim wanted (length old))) 0 e)))
