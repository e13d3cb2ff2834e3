-- No second answer meets the contract of any public function of this crate.
-- Assumes nothing.
use Rattle.std.specs.Prelude.{Result, Ok, Err}
use mathlib.Core.Path.{◌≡◌, refl, sym, ap, ◌∙◌}
use Rattle.lists.proofs.Tests.{clash}
use Rattle.module_state.specs.Refusals.{checked_in}
use Rattle.module_state.specs.declared.ClaimCheck.{ClaimCheck}
use Rattle.module_state.specs.declared.Refusal.{Refusal}
use Rattle.module_state.proofs.Refusals.{refusal-once, checked-once}
use Rattle.state_find.specs.Checks.{tested_in}
use Rattle.state_find.proofs.Laws.{is_passed, refused_with, passed_or}
use Rattle.lists.proofs.Once.{OneAnswer}
use Rattle.state_find.proofs.check.Kinds as check-kinds
use Rattle.state_find.proofs.check.Reads as check-reads

-- what is tested once is answered once
tested-once : (a b : Result ClaimCheck Refusal) → tested_in a ≡ tested_in b → a ≡ b
tested-once (Ok x) (Ok y) e = ap Ok (checked-once x y (ap (passed_or (checked_in x)) e))
tested-once (Ok x) (Err r) e = clash refl (ap is_passed e)
tested-once (Err r) (Ok x) e = clash (ap is_passed e) refl
tested-once (Err r) (Err s) e = ap Err (refusal-once (ap refused_with e))

pub check-once : OneAnswer 1 check-kinds.ps check-kinds.r check-reads.Post
check-once κs a x y s t p q = tested-once x y (p ∙ sym q)
