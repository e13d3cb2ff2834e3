-- The count where it lies: in a slice that holds a state, it makes the bytes of the counted state.
-- Assumes nothing.
use Prim.Native.Nat.{ℕ, ◌+◌}
use mathlib.Core.Path.{◌≡◌, refl, sym, ap, ◌∙◌}
use mathlib.Core.Bool.{true, false}
use mathlib.Core.List.{List}
use Rattle.rows.specs.Bytes.{Bytes}
use Rattle.lists.proofs.Tests.{split, clash}
use Rattle.names.specs.declared.Session.{Session}
use Rattle.table.specs.declared.Active.{Active}
use Rattle.table.specs.declared.Active.TheVariants.{UserOf}
use Rattle.module_state.specs.Numbers.{◌unless◌, ◌▸◌}
use Rattle.module_state.specs.Module.{is_session, active_place, active_process}
use Rattle.module_state.specs.Claim.{phase_number, is_in_range, check_number, check_of, checked, admitted, sought}
use Rattle.module_state.specs.declared.Claim.{Claim}
use Rattle.module_state.specs.declared.Claim.TheVariants.{Elevated, ByUser}
use Rattle.module_state.specs.declared.Class.{Class}
use Rattle.module_state.specs.declared.State.{State}
use Rattle.module_state.proofs.Laws.{claim-stands}
use Rattle.calls.specs.Calls.{Call, Record, is_device, protection, record_tests, number, counted, ahead_number, protected_number, passes, outcome}
use Rattle.calls.proofs.Cut.{up_to, number-stop, outcome-stopped}
use Rattle.state_layout.specs.Layout.{state_of, state_bytes, holds_state}
use Rattle.state_layout.proofs.InPlace.{next-held}
use Rattle.state_layout.proofs.Laws.{one_form}
use Rattle.state_find.proofs.Laws.{active-inside}
use Rattle.entries_record.specs.Recorded.{are_in_range, counted_in}

-- what a call leaves whose claim did not pass stands in the slice already, so nothing need be written
pub stopped-bytes : (before : List ℕ) → Bytes before → holds_state before ≡ true → (call : Call) → passes (state_of before) call ≡ false
    → state_bytes (outcome (state_of before) call).state ≡ before
stopped-bytes before g h call p = ap state_bytes (outcome-stopped (state_of before) call p) ∙ one_form before h g

-- ---- a record with an argument out of its range is refused with 1, whatever the state
module _ (st : State) (s : Session) (claim : Claim) (class : Class) (r : are_in_range s claim class ≡ false) where
  claim-outside : is_device class ≡ true → admitted st s claim ≡ 1
  unfolding are_in_range admitted checked check_of check_number phase_number ◌unless◌ ◌▸◌
  claim-outside d = split (is_in_range claim) (λ c. split (is_session s) (λ h. clash refl (rw (h, c, d) at r)) (λ h. rw (c, h))) (λ c. rw c)

  outside : up_to st (Record s claim class) ≡ 1
  unfolding ahead_number record_tests protection protected_number ◌unless◌ ◌▸◌
  outside = split (is_device class) (λ d. rw d (claim-outside d)) (λ d. rw d)

  pub outside-stops : passes st (Record s claim class) ≡ false
  unfolding passes
  outside-stops = rw outside

  pub outside-number : 1 ≡ number st (Record s claim class)
  outside-number = sym (number-stop st (Record s claim class) outside-stops ∙ outside)

-- ---- the count
pub counted-held : (b : List ℕ) → Bytes b → holds_state b ≡ true → (s : Session) (claim : Claim) → admitted (state_of b) s claim ≡ 0
    → counted_in b s claim ≡ state_bytes (counted (state_of b) s claim)
unfolding counted_in counted active_process sought
counted-held b g e s Elevated z = sym (one_form b e g)
counted-held b g e s (ByUser u) z =
    let which : Active = UserOf s u.credential in
    next-held b (active_place (state_of b) which) ((active_process (state_of b) which).next + 1) g e (active-inside (state_of b) which (claim-stands (state_of b) s (ByUser u) z))
