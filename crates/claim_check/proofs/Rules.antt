-- The laws that close the needs of this crate's functions.
-- Assumes nothing.
use Rattle.std.specs.Prelude.{Option, Some, None}
use Prim.Native.Nat.{ℕ}
use mathlib.Core.Path.{◌≡◌, sym, ◌∙◌, refl}
use mathlib.Core.Bool.{true, false}
use lib.Dec.{T, ltb}
use Rattle.table.specs.Table.{found_place}
use Rattle.module_state.specs.Claim.{is_found}
use Rattle.module_state.specs.Numbers.{◌unless◌, ◌▸◌}
use Rattle.module_state.specs.declared.ClaimView.{ClaimView}
use Rattle.module_state.proofs.Laws.{stop, pass, unless-true, unless-false}
use Rattle.module_state.proofs.Refusals.{row-ends, row-goes-on}
use Rattle.module_state.proofs.Rules.{rules as module-rules, nonzero}

-- ---- the process of a claim, by what a search found
module _ (view : ClaimView) {f : Option ℕ} (e : f ≡ view.found) where
  pub missing-stop : (n m : ℕ) → T (ltb 0 n) → f ≡ None → n ≡ n unless is_found view.found ▸ m
  missing-stop n m some q = rw (← e, q) (sym (stop m (λ z. nonzero some (sym (unless-false n {b = false} refl) ∙ z)) ∙ unless-false n {b = false} refl))

  pub found-pass : (n m : ℕ) {r k : ℕ} → f ≡ Some k → r ≡ m → r ≡ n unless is_found view.found ▸ m
  found-pass n m q a = a ∙ rw (← e, q) (sym (pass m (unless-true n {b = true} refl)))

  pub missing-last : (n : ℕ) → f ≡ None → n ≡ n unless is_found view.found
  missing-last n q = rw (← e, q) (sym (unless-false n {b = false} refl))

  pub found-last : (n : ℕ) {k : ℕ} → f ≡ Some k → 0 ≡ n unless is_found view.found
  found-last n q = rw (← e, q) (sym (unless-true n {b = true} refl))

  pub place_at : {k : ℕ} → f ≡ Some k → k ≡ found_place 0 view.found
  place_at q = rw (← e, q)

pub ruleset rules = (module-rules, row-ends, row-goes-on)
