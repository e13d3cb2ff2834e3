-- What callers cite: what it says of a claim that its check refused it, or passed it.
-- Assumes nothing.
use Prim.Native.Nat.{ℕ, ◌<◌}
use mathlib.Core.Path.{◌≡◌, refl, sym, ap, ◌∙◌}
use mathlib.Core.Bool.{Bool, true, false}
use lib.Dec.{eqb}
use lib.ListN.{length}
use borrow.Author.Tests.{eqb-true, eqb-false}
use Rattle.lists.proofs.Lists.{first-inside}
use Rattle.lists.proofs.Tests.{split, clash}
use Rattle.names.specs.declared.Session.{Session}
use Rattle.table.specs.Table.{standing, is_active}
use Rattle.table.specs.declared.Active.{Active}
use Rattle.module_state.specs.Module.{has_active, active_place}
use Rattle.module_state.specs.Claim.{checked, admitted}
use Rattle.module_state.specs.declared.Checked.{Checked}
use Rattle.module_state.specs.declared.Claim.{Claim}
use Rattle.module_state.specs.declared.State.{State}
use Rattle.module_state.proofs.Laws.{checked-number}
use Rattle.state_find.specs.Checks.{Tested, Refused, Passed, tested}

-- an active process is one of those that stand
pub active-inside : (st : State) (which : Active) → has_active st which ≡ true → active_place st which < length (standing st.table)
unfolding has_active active_place
active-inside st which h = first-inside (is_active which) (standing st.table) h

pub record RefusedWith (st : State) (s : Session) (claim : Claim) (n : ℕ) : Type 0 where
  pub is : n ≡ admitted st s claim
  pub some : n ≡ 0 → ⊥

pub record PassedWith (st : State) (s : Session) (claim : Claim) (by : Checked) : Type 0 where
  pub is : by ≡ checked st s claim
  pub clear : by.number ≡ 0

abbrev pub is_passed : Tested → Bool
is_passed (Refused n) = false
is_passed (Passed by) = true

abbrev pub refused_with : Tested → ℕ
refused_with (Refused n) = n
refused_with (Passed by) = 0

abbrev pub passed_or : Checked → Tested → Checked
passed_or other (Refused n) = other
passed_or other (Passed by) = by

module _ (st : State) (s : Session) (claim : Claim) where
  pub tested-refusal : {n : ℕ} → tested st s claim ≡ Refused n → RefusedWith st s claim n
  unfolding tested
  tested-refusal {n} e =
      split (eqb (admitted st s claim) 0)
      (λ z. clash refl (ap is_passed (rw z at e)))
      (λ z.
      let q : admitted st s claim ≡ n = ap refused_with (rw z at e) in
      record { is = sym q; some = λ y. eqb-false (admitted st s claim) 0 z (q ∙ y) })

  pub tested-pass : {by : Checked} → tested st s claim ≡ Passed by → PassedWith st s claim by
  unfolding tested
  tested-pass {by} e =
      split (eqb (admitted st s claim) 0)
      (λ z.
      let q : by ≡ checked st s claim = sym (ap (passed_or (checked st s claim)) (rw z at e)) in
      record { is = q; clear = checked-number st s claim q ∙ eqb-true (admitted st s claim) 0 z })
      (λ z. clash (ap is_passed (rw z at e)) refl)
