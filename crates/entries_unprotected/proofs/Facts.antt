-- Making a fresh module: "Numbers a call can answer", it answers no other; and it "tests only the length".
-- Assumes nothing.
use Prim.Native.Nat.{ℕ}
use mathlib.Core.Path.{◌≡◌, refl, sym, ap, ◌∙◌}
use mathlib.Core.Bool.{true, ◌&&◌}
use mathlib.Core.List.{List}
use lib.Dec.{eqb}
use lib.ListN.{length}
use Rattle.module_state.specs.Numbers as No
use Rattle.module_state.specs.Numbers.{◌unless◌}
use Rattle.module_state.proofs.Laws.{clear-unless}
use Rattle.state_layout.specs.Layout.{state_length}
use Rattle.entries_arguments.specs.Arguments.{Handed, are_pairs}
use Rattle.calls.proofs.Facts.{known-unless}
use Rattle.entries_unprotected.specs.Fresh.{can_fresh, FreshEntry}

pub fresh-known : {before after : List ℕ} {pairs : Handed} {answer : ℕ} → FreshEntry before pairs answer after → No.IsKnown answer
fresh-known e = rw e.number_is (known-unless 1 _ refl)

-- of two slices as long as each other, whatever they hold, the same is answered, and where that is 0 the same is made
module _ {before other after made : List ℕ} {pairs : Handed} {answer number : ℕ} (long : length before ≡ length other) (e : FreshEntry before pairs answer after) (f : FreshEntry other pairs number made) where
  can-as-well : can_fresh before pairs ≡ can_fresh other pairs
  unfolding can_fresh
  can-as-well = ap (λ n. eqb n state_length && are_pairs pairs) long

  pub fresh-number : answer ≡ number
  fresh-number = e.number_is ∙ ap (λ b. No.argument unless b) can-as-well ∙ sym f.number_is

  pub fresh-bytes : number ≡ 0 → after ≡ made
  fresh-bytes done =
      let can : can_fresh other pairs ≡ true = clear-unless 1 tt _ (sym f.number_is ∙ done) in
      rw (e.bytes-are, f.bytes-are, can-as-well, can) refl
