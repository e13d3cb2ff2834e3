-- The laws that close the needs of this crate's functions by `search rules`: each premise is as a place's record has it.
-- Assumes nothing.
use Rattle.std.specs.Prelude.{Option, Some, None, unwrap_or, Ok, Err}
use Prim.Native.Nat.{ℕ}
use mathlib.Core.Path.{◌≡◌, refl, sym, ap, ◌∙◌}
use mathlib.Core.Bool.{Bool, true, false, not}
use mathlib.Core.List.{List}
use native.Mathlib.Omega.{arith}
use borrow.Author.Rules.{rules as std_rules}
use borrow.Author.Tests.{not-true, not-false, eqb-true, eq-eqb, ne_eqb, ltb-true}
use lib.Dec.{eqb}
use lib.ListN.{length}
use Rattle.lists.proofs.Tests.{split}
use Rattle.rows.specs.Rows.{over}
use Rattle.rows.proofs.Over.{over-short}
use Rattle.module_state.specs.Numbers.{◌when◌, ◌unless◌, ◌▸◌}
use Rattle.module_state.specs.Refusals.{refusal_number}
use Rattle.module_state.specs.declared.Refusal.{Refusal}
use Rattle.module_state.specs.declared.State.{State}
use Rattle.module_state.proofs.Refusals.{refusal-some}
use Rattle.state_layout.specs.Layout.{state_length, state_of, state_written, holds_state}
use Rattle.state_layout.proofs.Laws.{state-written}
use Rattle.image_damaged.specs.declared.Report.{Report}
use Rattle.image_damaged.specs.Rescue.{Rescued, rescue_number, rescue_answer, rescued_in, RescueWritten}
use Rattle.image.specs.Image.{image_long, state_image, image_room, lacks_room, is_image, restored, read_image, ImageWritten}
use Rattle.entries_image.specs.Entries.{image_number, restore_number, ImageEntry, RestoreEntry, RescueEntry}

-- ---- the writer: no image is 0 bytes long, and a buffer that is too short is kept
room-some : (st : State) → image_room st ≡ 0 → ⊥
unfolding image_room image_long
room-some st e = omega arith

short-kept : (st : State) (old : List ℕ) → lacks_room st (length old) ≡ true → over 0 (image_room st) (state_image st) old ≡ old
unfolding lacks_room
short-kept st old t = over-short 0 (image_room st) (state_image st) old (omega (arith, ltb-true (length old) (image_room st) t))

module _ (state old : List ℕ) {h : Bool} (e : h ≡ holds_state state) where
  pub image-none : not h ≡ true → ImageEntry state old 1 old 0
  unfolding image_number ◌unless◌ ◌▸◌
  image-none n = let z : holds_state state ≡ false = sym e ∙ not-true h n in record { number_is = rw z; image-is = rw z; length-is = rw z }

  module _ (n : not h ≡ false) {st : State} (s : st ≡ state_of state) {long : ℕ} {new : List ℕ} (w : ImageWritten st old long new) where
    holds : holds_state state ≡ true
    holds = sym e ∙ not-false h n

    written : ImageWritten (state_of state) old long new
    written = rw (← s) w

    pub image-short : long ≡ 0 → ImageEntry state old 15 new long
    unfolding image_number ◌unless◌ ◌when◌ ◌▸◌
    image-short z =
        split (lacks_room (state_of state) (length old))
        (λ t. record { number_is = rw (holds, t); image-is = written.bytes-are ∙ rw (holds, t) (short-kept (state_of state) old t); length-is = z ∙ rw (holds, t) })
        (λ t. absurd (room-some (state_of state) (sym (written.length-is ∙ rw t) ∙ z)))

    pub image-done : (long ≡ 0 → ⊥) → {done : ℕ} → done ≡ 0 → ImageEntry state old done new long
    unfolding image_number ◌unless◌ ◌when◌ ◌▸◌
    image-done z d =
        split (lacks_room (state_of state) (length old))
        (λ t. absurd (z (written.length-is ∙ rw t)))
        (λ t. record { number_is = d ∙ rw (holds, t); image-is = written.bytes-are ∙ rw (holds, t); length-is = written.length-is ∙ rw (holds, t) })

-- ---- the restorer
module _ (before image : List ℕ) where
  pub restore-long : (length before ≡ state_length → ⊥) → RestoreEntry before image 1 before
  unfolding restore_number ◌unless◌ ◌▸◌
  restore-long h = let z = ne_eqb (length before) state_length h in record { number_is = rw z; bytes-are = rw z }

  module _ (k : length before ≡ state_length) {r : Option State} (e : r ≡ read_image image) where
    pub restore-refused : r ≡ None → RestoreEntry before image 14 before
    unfolding restore_number ◌unless◌ ◌▸◌ read_image
    restore-refused n =
        let z : is_image image ≡ false = split (is_image image)
        (λ t. let some : ◌≡◌ {A = Option State} (Some (restored image)) None = (rw t at (sym e)) ∙ n in absurd cc)
        (λ t. t)
        in
        record { number_is = rw (eq-eqb (length before) state_length k, z); bytes-are = rw (eq-eqb (length before) state_length k, z) }

    pub restore-done : {next : State} → r ≡ Some next → {after : List ℕ} → after ≡ state_written before next → {done : ℕ} → done ≡ 0 → RestoreEntry before image done after
    unfolding restore_number ◌unless◌ ◌▸◌ read_image
    restore-done {next} n w d =
        let z : is_image image ≡ true = split (is_image image)
        (λ t. t)
        (λ t. let none : ◌≡◌ {A = Option State} None (Some next) = (rw t at (sym e)) ∙ n in absurd cc)
        in
        let some : ◌≡◌ {A = Option State} (Some (restored image)) (Some next) = (rw z at (sym e)) ∙ n in
        let s : next ≡ restored image = sym (ap (λ (x : Option State). unwrap_or x next) some) in
        record { number_is = d ∙ rw (eq-eqb (length before) state_length k, z); bytes-are = w ∙ rw (state-written before _ k, s, eq-eqb (length before) state_length k, z) }

-- ---- rescue
module _ (bytes old : List ℕ) {answer : Rescued} {new : List ℕ} (w : RescueWritten bytes old answer new) (cleared kept dropped : ℕ) where
  abbrev number : ℕ
  number = rescue_number bytes (length old)

  answered : answer.number ≡ number
  unfolding rescue_answer
  answered = rw w.answer-is (split (eqb number 0) (λ z. rw z (sym (eqb-true number 0 z))) (λ z. rw z))

  refused-rescue : (answer.number ≡ 0 → ⊥) → RescueEntry bytes old cleared kept dropped answer.number new answer.length cleared kept dropped
  unfolding rescue_answer
  refused-rescue n =
      let z : eqb number 0 ≡ false = ne_eqb number 0 (λ e. n (answered ∙ e)) in
      record {
        number_is = answered;
        image-is = w.bytes-are;
        length-is = rw (w.answer-is, z);
        cleared-is = rw z;
        kept-is = rw z;
        dropped-is = rw z;
      }

  done-rescue : answer.number ≡ 0 → RescueEntry bytes old cleared kept dropped 0 new answer.length answer.cleared answer.kept answer.dropped
  unfolding rescue_answer
  done-rescue e =
      let z : eqb number 0 ≡ true = eq-eqb number 0 (sym answered ∙ e) in
      record {
        number_is = sym e ∙ answered;
        image-is = w.bytes-are;
        length-is = rw (w.answer-is, z);
        cleared-is = rw (w.answer-is, z);
        kept-is = rw (w.answer-is, z);
        dropped-is = rw (w.answer-is, z);
      }

module _ (bytes old : List ℕ) {new : List ℕ} (cleared kept dropped : ℕ) where
  pub rescue-refused : (refusal : Refusal) → RescueWritten bytes old (rescued_in (Err refusal)) new → {byte number : ℕ} → byte ≡ refusal_number refusal → number ≡ byte
      → RescueEntry bytes old cleared kept dropped number new 0 cleared kept dropped
  rescue-refused refusal w e q = rw (q, e) (refused-rescue bytes old w cleared kept dropped (refusal-some refusal))

  pub rescue-done : {report : Report} → RescueWritten bytes old (rescued_in (Ok report)) new → {number : ℕ} → number ≡ 0
      → RescueEntry bytes old cleared kept dropped number new report.length report.cleared report.kept report.dropped
  rescue-done w e = rw e (done-rescue bytes old w cleared kept dropped refl)

pub ruleset rules = (std_rules, image-none, image-short, image-done, restore-long, restore-refused, restore-done)
