-- The laws that close the needs of this crate's functions by `search rules`: each premise is as a place's record has it.
-- Assumes nothing.
use Prim.Native.Nat.{ℕ, ◌+◌, ◌<◌, ◌≤◌}
use mathlib.Core.Path.{◌≡◌, sym, ap, ◌∙◌}
use mathlib.Core.Bool.{Bool, ◌&&◌}
use mathlib.Core.List.{List, [], ◌∷◌}
use native.Mathlib.Omega.{arith}
use borrow.Author.Rules.{rules as std_rules}
use borrow.Author.Tests.{ne_eqb}
use lib.Dec.{eqb}
use lib.ListN.{length, get_or, set, length-set, length-append}
use Rattle.rows.specs.Rows.{over}
use Rattle.rows.proofs.Over.{over-room, over-length}
use Rattle.std.specs.Prelude.{Result, Ok, Err}
use Rattle.std.specs.Result.{IsErr, IsErrAnd}
use Rattle.module_state.specs.Refusals.{number_of}
use Rattle.module_state.specs.declared.Refusal.{Refusal}
use Rattle.module_state.proofs.Refusals.{refusal-some}
use Rattle.message_formats.specs.declared.Shape.{Shape}
use Rattle.message_formats.specs.declared.Rest.{Rest}
use Rattle.message_formats.specs.Formats.{rest_of}
use Rattle.message_fields.specs.Fields.{fields, are_allowed, head_long}
use Rattle.message_fields.proofs.Laws.{bytes-length}
use Rattle.message_fields_write.specs.Bodies.{body_bytes, body_long, number_for, given, Written, written, written_in}
use Rattle.message_fields_write.proofs.Laws.{accepted-room, passed_on}
use Rattle.message_pieces.specs.Pieces.{rest_long, fits_rest}
use Rattle.message_codes.specs.Codes.{shape_of}
use Rattle.message_read.specs.Messages.{head_of}
use Rattle.message_write.specs.Written.{shape_for, message_bytes, message_long, carries, write_number, carries_piece, write_piece_number, written_over}

-- ---- a code and the reserved byte, before bytes that were written behind them
before : (code n : ℕ) (x old : List ℕ) → 2 + n ≤ length old → set (set (over 2 n x old) 0 code) 1 0 ≡ over 0 (2 + n) (code ∷ 0 ∷ x) old
before code n x [] h = absurd (omega arith)
before code n x (a ∷ []) h = absurd (omega arith)
before code n x (a ∷ b ∷ old) h =
    let z : 0 + (2 + n) ≤ length (a ∷ b ∷ old) = omega arith in
    let s : 0 + (2 + n) ≡ 2 + n = omega arith in
    rw (over-room 2 n x (a ∷ b ∷ old) h, over-room 0 (2 + n) (code ∷ 0 ∷ x) (a ∷ b ∷ old) z, s)

-- ---- a message
module _ (code : ℕ) (values rest old : List ℕ) {l : Shape} {r : Rest} {carried : Bool}
    (e : l ≡ shape_of code (get_or values 0 0)) (w : r ≡ rest_of l) (f : carried ≡ fits_rest r values rest) where
  number : ℕ
  number = number_for (2 + body_long l rest) (are_allowed (fields l) values && carried) old

  long-is : 2 + body_long l rest ≡ message_long code values rest
  unfolding message_long head_of body_long shape_for
  long-is = rw e (omega arith)

  number_is : number ≡ write_number code values rest old
  unfolding number write_number carries shape_for
  number_is = rw (long-is, f, w, e)

  module _ (done : Result ℕ Refusal) {mid : List ℕ}
      (d : (written_in done ≡ written (number_for (2 + body_long l rest) (are_allowed (fields l) values && carried) old) (2 + body_long l rest))
      × (mid ≡ given (number_for (2 + body_long l rest) (are_allowed (fields l) values && carried) old) (over 2 (body_long l rest) (body_bytes l values rest) old) old)) where
    answered : written_in done ≡ written (write_number code values rest old) (message_long code values rest)
    unfolding number
    answered = d.0 ∙ rw (← number_is, ← long-is)

    number-done : number_of done ≡ number
    unfolding number written
    number-done = ap (λ (x : Written). x.number) d.0

    -- refused
    pub message-kept : {refusal : Refusal} (answer : Result ℕ Refusal) → done ≡ Err refusal → IsErr answer × IsErrAnd answer (λ (r : Refusal). r ≡ refusal)
        → (written_in answer ≡ written (write_number code values rest old) (message_long code values rest))
        × (mid ≡ written_over (write_number code values rest old) (message_long code values rest) (message_bytes code values rest) old)
    unfolding number written_over given
    message-kept {refusal} answer s t =
        let other : number ≡ 0 → ⊥ = λ z. refusal-some refusal (sym (ap number_of s) ∙ number-done ∙ z) in
        (ap written_in (passed_on t ∙ sym s) ∙ answered, d.1 ∙ rw (← number_is, ne_eqb number 0 other))

    module _ {long : ℕ} (s : done ≡ Ok long) where
      none : number ≡ 0
      none = sym number-done ∙ ap number_of s

      room : 2 + body_long l rest ≤ length old
      unfolding number
      room = accepted-room (2 + body_long l rest) (are_allowed (fields l) values && carried) old none

      mid-is : mid ≡ over 2 (body_long l rest) (body_bytes l values rest) old
      unfolding number given
      mid-is = d.1 ∙ rw none

      mid-long : length mid ≡ length old
      unfolding body_long body_bytes head_long
      mid-long = ap length mid-is ∙ over-length 2 (body_long l rest) (body_bytes l values rest) old (rw (length-append, bytes-length))

      pub code-place : 0 < length mid
      code-place = omega (arith, room, mid-long)

      pub reserved-place : (x : ℕ) → 1 < length (set mid 0 x)
      reserved-place x = rw length-set (omega (arith, room, mid-long))

      pub message-put : (written_in (Ok long) ≡ written (write_number code values rest old) (message_long code values rest))
          × (set (set mid 0 code) 1 0 ≡ written_over (write_number code values rest old) (message_long code values rest) (message_bytes code values rest) old)
      unfolding written_over given message_bytes shape_for
      message-put =
          (ap written_in (sym s) ∙ answered, rw (← number_is, none, ← long-is, ← e, mid-is) (before code (body_long l rest) (body_bytes l values rest) old room))

-- ---- a piece
module _ (l : Shape) (values rest old : List ℕ) {r : Rest} {follow : ℕ} (w : r ≡ rest_of l) (f : follow ≡ rest_long r values) where
  abbrev piece-number : ℕ
  piece-number = number_for (0 + body_long l rest) (are_allowed (fields l) values && eqb (length rest) follow) old

  piece-number-is : piece-number ≡ write_piece_number l values rest old
  unfolding write_piece_number carries_piece
  piece-number-is = let z : 0 + body_long l rest ≡ body_long l rest = omega arith in rw (z, f, w)

  pub piece-put : (done : Result ℕ Refusal) {new : List ℕ}
      → (written_in done ≡ written piece-number (0 + body_long l rest)) × (new ≡ given piece-number (over 0 (body_long l rest) (body_bytes l values rest) old) old)
      → (written_in done ≡ written (write_piece_number l values rest old) (body_long l rest))
      × (new ≡ written_over (write_piece_number l values rest old) (body_long l rest) (body_bytes l values rest) old)
  unfolding written_over
  piece-put done d = let z : 0 + body_long l rest ≡ body_long l rest = omega arith in (d.0 ∙ rw (piece-number-is, z), d.1 ∙ rw piece-number-is)

pub ruleset rules = (std_rules, message-kept, code-place, reserved-place, message-put, piece-put)
