-- The entries of orders 2 and 8: what they answer, and what they leave in what they are lent.
use Rattle.std.specs.Prelude.{ℕ, ◌≡◌, cond, List, eqb, length}
use Rattle.rows.specs.Rows.{over}
use Rattle.module_state.specs.Numbers as No
use Rattle.module_state.specs.Numbers.{◌when◌, ◌unless◌, ◌▸◌}
use Rattle.state_layout.specs.Layout.{state_length, state_of, state_bytes, holds_state}
use Rattle.image_damaged.specs.Rescue as Rescue
use Rattle.image_damaged.specs.Rescue.{rows_kept, rescued, rescued_long, rescue_number}
use Rattle.image.specs.Image.{state_image, image_room, lacks_room, is_image, restored}

-- ---- the writer: 1 for "a slice that holds no state", 15 for a buffer that is too short
unfoldable pub image_number : List ℕ → ℕ → ℕ
image_number state room =
    No.argument unless holds_state state
    ▸ No.room when lacks_room (state_of state) room

pub record ImageEntry (state old : List ℕ) (answer : ℕ) (new : List ℕ) (long : ℕ) : Type 0 where
  pub number_is : answer ≡ image_number state (length old)
  -- the image, and after it what the buffer held; on a refusal all that it held
  pub image-is : new ≡ cond (eqb (image_number state (length old)) No.done) (over 0 (image_room (state_of state)) (state_image (state_of state)) old) old
  pub length-is : long ≡ cond (eqb (image_number state (length old)) No.done) (image_room (state_of state)) 0

-- ---- the restorer: "Making a fresh module tests only the length" of the slice; then 14 for bytes that are no image
unfoldable pub restore_number : List ℕ → List ℕ → ℕ
restore_number before image =
    No.argument unless eqb (length before) state_length
    ▸ No.message unless is_image image

pub record RestoreEntry (before image : List ℕ) (answer : ℕ) (after : List ℕ) : Type 0 where
  pub number_is : answer ≡ restore_number before image
  -- the slice then holds what it held
  pub bytes-are : after ≡ cond (eqb (restore_number before image) No.done) (state_bytes (restored image)) before

-- ---- rescue, which takes every slice: 14 where header or words can't be used, then 15
pub record RescueEntry (bytes old : List ℕ) (cleared kept dropped answer : ℕ) (new : List ℕ) (long cleared₁ kept₁ dropped₁ : ℕ) : Type 0 where
  pub number_is : answer ≡ rescue_number bytes (length old)
  -- the good image, and after it what the buffer held; on a refusal all that it held
  pub image-is : new ≡ cond (eqb (rescue_number bytes (length old)) No.done) (over 0 (rescued_long bytes) (rescued bytes) old) old
  pub length-is : long ≡ cond (eqb (rescue_number bytes (length old)) No.done) (rescued_long bytes) 0
  -- "It reports how many nonzero words it cleared, rows kept, and the place of each row dropped"; a refusal leaves what stood there
  pub cleared-is : cleared₁ ≡ cond (eqb (rescue_number bytes (length old)) No.done) (Rescue.cleared bytes) cleared
  pub kept-is : kept₁ ≡ cond (eqb (rescue_number bytes (length old)) No.done) (length (rows_kept bytes)) kept
  pub dropped-is : dropped₁ ≡ cond (eqb (rescue_number bytes (length old)) No.done) (Rescue.dropped bytes) dropped
