-- "Numbers a call can answer": no entry of these answers another.
-- Assumes nothing.
use Prim.Native.Nat.{ℕ}
use mathlib.Core.Path.{refl}
use mathlib.Core.List.{List}
use Rattle.module_state.specs.Numbers as No
use Rattle.calls.proofs.Facts.{known-unless, known-when, known-then}
use Rattle.image_damaged.specs.Rescue.{rescue_number}
use Rattle.entries_image.specs.Entries.{image_number, restore_number, ImageEntry, RestoreEntry, RescueEntry}

pub image-known : {state old new : List ℕ} {answer long : ℕ} → ImageEntry state old answer new long → No.IsKnown answer
unfolding image_number
image-known e = rw e.number_is (known-then _ _ (known-unless 1 _ refl) (known-when 15 _ refl))

pub restore-known : {before image after : List ℕ} {answer : ℕ} → RestoreEntry before image answer after → No.IsKnown answer
unfolding restore_number
restore-known e = rw e.number_is (known-then _ _ (known-unless 1 _ refl) (known-unless 14 _ refl))

pub rescue-known : {bytes old new : List ℕ} {cleared kept dropped answer long cleared₁ kept₁ dropped₁ : ℕ} → RescueEntry bytes old cleared kept dropped answer new long cleared₁ kept₁ dropped₁ → No.IsKnown answer
unfolding rescue_number
rescue-known e = rw e.number_is (known-then _ _ (known-unless 14 _ refl) (known-when 15 _ refl))
