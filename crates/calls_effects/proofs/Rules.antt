-- The laws that close the goals of this crate's functions. Assumes nothing.
use Prim.Native.Nat.{ℕ, ◌+◌, ◌<◌, ◌≤◌}
use mathlib.Core.Path.{◌≡◌, refl, sym, ◌∙◌}
use mathlib.Core.List.{List, []}
use native.Mathlib.Omega.{arith}
use lib.ListN.{length, get_or, set}
use Rattle.lists.proofs.Loops.{Mapped, mapped-none, mapped-more, mapped-all}
use Rattle.module_state.specs.declared.Grants.{Grants}
use Rattle.module_state.specs.declared.State.{State}
use Rattle.module_state.specs.Module.{credential_count, taken, closed_module, unprovisioned}
use Rattle.table.specs.declared.Table.{Table}
use Rattle.table.specs.Table.{table_of}
use Rattle.calls.specs.Calls.{Call, Free, protection, number, effect, outcome, fresh}
use Rattle.calls.specs.declared.Answer.TheVariants.{Done, Refused}
use Rattle.calls.specs.declared.Outcome.{Outcome}
use Rattle.calls.proofs.Rules.{by-refusal, by-effect}
use Rattle.module_state.proofs.Refusals.{refusal-some}
use Rattle.module_state.specs.Refusals.{refusal_number}
use Rattle.module_state.specs.declared.Refusal.{Refusal}

pub take_on : {l₀ l : List Grants} {i : ℕ} {g : Grants} → Mapped taken l₀ l i → length l₀ ≡ credential_count → i < credential_count → g ≡ taken (get_or l i unprovisioned) → Mapped taken l₀ (set l i g) (i + 1)
take_on v h k e = rw e (mapped-more v unprovisioned (omega arith))

pub fresh-is : {pairs l : List Grants} {i : ℕ} {t : Table} → Mapped taken pairs l i → length pairs ≡ credential_count → credential_count ≤ i → t ≡ table_of [] → {st : State} → st ≡ closed_module l t → st ≡ fresh pairs
unfolding fresh
fresh-is v h k e q = q ∙ rw (mapped-all v (omega arith), e)

-- ---- a call done; one without a claim, refused by its tests
pub by-done : (st : State) (call : Call) {x : State} {r : Outcome} → 0 ≡ number st call → r ≡ record { state = x; answer = Done } → x ≡ effect st call → r ≡ outcome st call
by-done st call e q w = by-effect st call e refl q w

pub by-refused : (st : State) (call : Call) {n : ℕ} {r : Outcome} → r ≡ record { state = st; answer = Refused n }
    → (why : Refusal) → n ≡ refusal_number why → refusal_number why ≡ number st call → protection call ≡ Free → r ≡ outcome st call
by-refused st call q why told e p = by-refusal st call (told ∙ e) (λ z. refusal-some why (sym told ∙ z)) p q

pub ruleset rules = (mapped-none, take_on, fresh-is)
