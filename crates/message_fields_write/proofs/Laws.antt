-- What a writer accepts has room, and can be carried. Assumes nothing.
use Prim.Native.Nat.{ℕ, ◌≤◌}
use Rattle.std.specs.Prelude.{Result, Err}
use Rattle.std.specs.Result.{IsErr, IsErrAnd}
use Rattle.std.proofs.lemmas.Result.{err_from_is_err_and}
use mathlib.Core.Path.{◌≡◌, ap, ◌∙◌}
use mathlib.Core.Bool.{Bool, true}
use mathlib.Core.List.{List}
use borrow.Author.Tests.{ltb-false}
use lib.Dec.{ltb}
use lib.ListN.{length}
use Rattle.module_state.specs.Numbers as No
use Rattle.module_state.specs.Numbers.{◌when◌, ◌unless◌}
use Rattle.module_state.specs.declared.Refusal.{Refusal}
use Rattle.module_state.proofs.Refusals.{placed-once}
use Rattle.module_state.proofs.Laws.{clear_first, clear-rest, clear-when, clear-unless}
use Rattle.message_fields_write.specs.Bodies.{number_for, Written, written_in}

module _ (long : ℕ) (carried : Bool) (old : List ℕ) (done : number_for long carried old ≡ No.done) where
  pub accepted-room : long ≤ length old
  unfolding number_for
  accepted-room =
      ltb-false (length old) long
      (clear-when No.room _ (ltb (length old) long) (clear_first (No.room when ltb (length old) long) (No.message unless carried) done))

  pub accepted-carried : carried ≡ true
  unfolding number_for
  accepted-carried = clear-unless No.message _ carried (clear-rest (No.room when ltb (length old) long) (No.message unless carried) done)

-- no two answers come to one
pub written-once : (a b : Result ℕ Refusal) → written_in a ≡ written_in b → a ≡ b
written-once a b e = placed-once a b (ap (λ (w : Written). record { number = w.number; place = w.long }) e)

-- what `?` passes on is the refusal that it met
pub passed_on : {T : Type 0} {answer : Result T Refusal} {refusal : Refusal} → IsErr answer × IsErrAnd answer (λ (r : Refusal). r ≡ refusal) → answer ≡ Err refusal
passed_on {T} {answer} h = let one : (r : Refusal) × (answer ≡ Err r) × (r ≡ _) = err_from_is_err_and answer h.1 in one.1 ∙ ap Err one.2
