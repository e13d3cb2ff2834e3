-- The laws of order 8 over the entry's contract: what it wrote is accepted, in the layout that it had; what is accepted it leaves as it is; its counts add up.
-- Assumes nothing.
use Prim.Native.Nat.{ℕ, ◌+◌, ◌≤◌}
use mathlib.Core.Path.{◌≡◌, sym, ◌∙◌}
use mathlib.Core.Bool.{true}
use mathlib.Core.List.{List, ◌++◌}
use native.Mathlib.Omega.{arith}
use borrow.Author.Tests.{eq-eqb, ltb-false, le-ltb}
use lib.Dec.{ltb}
use lib.ListN.{length, take, drop}
use lib.Seq.{take_at}
use Rattle.lists.proofs.Tests.{split}
use Rattle.rows.specs.Bytes.{Bytes}
use Rattle.rows.proofs.Over.{over-room}
use Rattle.module_state.specs.Numbers.{◌when◌, ◌unless◌, ◌▸◌}
use Rattle.state_layout.specs.Layout.{state_length}
use Rattle.image.specs.Image.{head_in, is_image}
use Rattle.image_damaged.specs.Rescue.{is_usable, places_told, rescued, rescued_long, rescue_number}
use Rattle.image_damaged.proofs.Laws.{LeavesAll, leaves_all, kept-all, rescued-long, rescue-same, rescue-counts, rescued-accepted, rescued-layout, rescued-length, rescued-bytes}
use Rattle.entries_image.specs.Entries.{restore_number, RestoreEntry, RescueEntry}

-- ---- what a number of 0 tells: the bytes are usable, and the buffer has the room
module _ (bytes : List ℕ) (room : ℕ) where
  usable-by : rescue_number bytes room ≡ 0 → is_usable bytes ≡ true
  unfolding rescue_number ◌unless◌ ◌▸◌
  usable-by z = split (is_usable bytes) (λ u. u) (λ u. absurd (omega (arith, rw u at z)))

  room_by : rescue_number bytes room ≡ 0 → rescued_long bytes ≤ room
  unfolding rescue_number ◌unless◌ ◌when◌ ◌▸◌
  room_by z =
      split (ltb room (rescued_long bytes))
      (λ l. absurd (omega (arith, rw (usable-by z, l) at z)))
      (λ l. ltb-false room (rescued_long bytes) l)

  done-by : is_usable bytes ≡ true → rescued_long bytes ≤ room → rescue_number bytes room ≡ 0
  unfolding rescue_number ◌unless◌ ◌when◌ ◌▸◌
  done-by u l = rw (u, le-ltb room (rescued_long bytes) l)

module _ {bytes old new : List ℕ} {cleared kept dropped answer long cleared₁ kept₁ dropped₁ : ℕ} (v : RescueEntry bytes old cleared kept dropped answer new long cleared₁ kept₁ dropped₁) (g : Bytes bytes) where
  -- ---- where it is done
  module _ (z : answer ≡ 0) where
    number : rescue_number bytes (length old) ≡ 0
    number = sym v.number_is ∙ z

    usable : is_usable bytes ≡ true
    usable = usable-by bytes (length old) number

    long-is : long ≡ rescued_long bytes
    long-is = v.length-is ∙ rw number

    -- what lies in front of the buffer then
    pub written_is : take long new ≡ rescued bytes
    written_is =
        let written : new ≡ rescued bytes ++ drop (0 + rescued_long bytes) old = v.image-is ∙ rw number (over-room 0 (rescued_long bytes) (rescued bytes) old (omega (arith, room_by bytes (length old) number))) in
        rw (long-is, written) (take_at (rescued bytes) (drop (0 + rescued_long bytes) old) (rescued_long bytes) (rescued-length bytes g usable))

    -- "Its output is always accepted by the reader"; "The layout stays."
    pub entry-accepted : is_image (take long new) ≡ true
    entry-accepted = rw written_is (rescued-accepted bytes g usable)

    pub entry-layout : (head_in (take long new)).offset ≡ (head_in bytes).offset
    entry-layout = rw written_is (rescued-layout bytes g usable)

    pub entry-bytes : Bytes (take long new)
    entry-bytes = rw written_is (rescued-bytes bytes g usable)

    -- so a module is made from it
    pub entry-restored : {before after : List ℕ} {number : ℕ} → length before ≡ state_length → RestoreEntry before (take long new) number after → number ≡ 0
    unfolding restore_number ◌unless◌ ◌▸◌
    entry-restored {before} l r = r.number_is ∙ rw (eq-eqb (length before) state_length l, entry-accepted)

    -- "kept plus dropped equals the stated rows, missing ones counted as dropped"
    pub entry-counts : kept₁ + length (places_told 16 0 dropped₁) ≡ (head_in bytes).rows
    entry-counts = rw (v.kept-is, v.dropped-is, number) (rescue-counts bytes usable)

  -- ---- "on an accepted image it changes nothing", and reports nothing
  pub record Unchanged : Type 0 where
    pub done : answer ≡ 0
    pub length-same : long ≡ length bytes
    pub bytes_same : take long new ≡ bytes
    pub cleared-none : cleared₁ ≡ 0
    pub kept-all : kept₁ ≡ (head_in bytes).rows
    pub dropped-none : dropped₁ ≡ 0

  pub entry-unchanged : is_image bytes ≡ true → length bytes ≤ length old → Unchanged
  entry-unchanged e l =
      let all : LeavesAll bytes = leaves_all bytes e in
      let same : rescued_long bytes ≡ length bytes = rescued-long bytes e in
      let number : rescue_number bytes (length old) ≡ 0 = done-by bytes (length old) all.usable-is (rw same l) in
      let done : answer ≡ 0 = v.number_is ∙ number in
      record {
        done = done;
        length-same = long-is done ∙ same;
        bytes_same = written_is done ∙ rescue-same bytes e g;
        cleared-none = v.cleared-is ∙ rw number all.cleared-none;
        kept-all = v.kept-is ∙ rw number (kept-all bytes e);
        dropped-none = v.dropped-is ∙ rw number all.dropped-none;
      }

-- ---- so to rescue twice is to rescue once: of what was written, into any buffer that has the room
pub entry-twice : {bytes old new : List ℕ} {cleared kept dropped answer long cleared₁ kept₁ dropped₁ : ℕ} (v : RescueEntry bytes old cleared kept dropped answer new long cleared₁ kept₁ dropped₁) (g : Bytes bytes) (z : answer ≡ 0)
    → {old' new' : List ℕ} {c k d answer' long' c₁ k₁ d₁ : ℕ} (w : RescueEntry (take long new) old' c k d answer' new' long' c₁ k₁ d₁) → length (take long new) ≤ length old' → Unchanged w (entry-bytes v g z)
entry-twice v g z w l = entry-unchanged w (entry-bytes v g z) (entry-accepted v g z) l
