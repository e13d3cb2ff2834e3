-- The laws that close the needs of this crate's functions.
-- Assumes nothing.
use Rattle.std.specs.Prelude.{ℕ, ◌≡◌, Option, Some, None, Result, Ok, Err}
use mathlib.Core.Path.{sym, ◌∙◌}
use borrow.Author.Tests.{ne_eqb}
use Rattle.names.specs.declared.Name.{Name}
use Rattle.table.specs.Table.{standing, is_named, first_place}
use Rattle.table.specs.declared.Among.{Among}
use Rattle.table.proofs.Searched.{FoundAt, found_at, found_none}
use Rattle.module_state.specs.Numbers.{◌unless◌, ◌▸◌}
use Rattle.module_state.specs.Claim.{placed}
use Rattle.module_state.specs.Refusals.{placed_in, refusal_number}
use Rattle.module_state.specs.declared.Checked.{Checked}
use Rattle.module_state.specs.declared.Placed.{Placed}
use Rattle.module_state.specs.declared.Refusal.{Refusal}
use Rattle.module_state.specs.declared.Refusal.TheVariants.{NoProcess}
use Rattle.module_state.specs.declared.State.{State}
use Rattle.module_state.proofs.Laws.{stop}
use Rattle.module_state.proofs.Refusals.{row-ends, refusal-some}
use Rattle.calls.specs.Calls.{has_named, named_place, reach, kill_tests, asked}
use Rattle.calls.proofs.Rules.{rules as call-rules}

-- ---- kill: where its claim is refused; and where not, by what the search found
pub kill-refused : (st : State) (name : Name) (by : Checked) (at : ℕ) {why : Refusal} {r : Result ℕ Refusal}
    → refusal_number why ≡ by.number → r ≡ Err why → placed_in r ≡ placed (asked (kill_tests st name) by) at
unfolding placed asked kill_tests ◌▸◌
kill-refused st name by at {why} e q =
    let n : refusal_number why ≡ asked (kill_tests st name) by = row-ends _ why e in
    rw (q, ← n, ne_eqb (refusal_number why) 0 (refusal-some why))

module _ (st : State) (name : Name) (by : Checked) {among : Among} {f : Option ℕ} (z : by.number ≡ 0) (a : among ≡ reach by)
    (e : f ≡ first_place (is_named name among) (standing st.table)) where
  pub kill-missing : f ≡ None → placed_in (Err NoProcess) ≡ placed (asked (kill_tests st name) by) (named_place st name (reach by))
  unfolding placed asked kill_tests has_named ◌unless◌ ◌▸◌
  kill-missing q = rw (← a, (found_none (is_named name among) (standing st.table) (sym e ∙ q)).none, z)

  pub kill-found : {at : ℕ} → f ≡ Some at → placed_in (Ok at) ≡ placed (asked (kill_tests st name) by) (named_place st name (reach by))
  unfolding placed asked kill_tests has_named named_place ◌unless◌ ◌▸◌
  kill-found {at} q =
      let here : FoundAt (is_named name among) (standing st.table) at = found_at (is_named name among) (standing st.table) (sym e ∙ q) in
      rw (← a, here.some, ← here.is, z)

-- where its claim is refused with a number that a caller holds
pub kill-stopped : (st : State) (name : Name) (by : Checked) (at : ℕ) → (by.number ≡ 0 → ⊥) → ◌≡◌ {A = Placed} (record { number = by.number; place = 0 }) (placed (asked (kill_tests st name) by) at)
unfolding placed asked kill_tests ◌▸◌
kill-stopped st name by at h =
    let n : by.number ≡ asked (kill_tests st name) by = sym (stop _ h) in
    rw (← n, ne_eqb by.number 0 h)

pub ruleset rules = (call-rules, kill-refused, kill-missing, kill-found, kill-stopped)
