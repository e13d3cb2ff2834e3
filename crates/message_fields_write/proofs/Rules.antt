-- The laws that close the needs of this crate's functions by `search rules`: each premise is as a place's record has it. A loop's record says what is
-- still to be written over what the buffer has. Assumes nothing.
use Prim.Native.Nat.{ℕ, ◌+◌, ◌<◌, ◌≤◌}
use mathlib.Core.Path.{◌≡◌, sym, ap, ◌∙◌}
use mathlib.Core.Bool.{Bool, true, false, ◌&&◌, not}
use mathlib.Core.List.{List, ◌∷◌, ◌++◌}
use native.Mathlib.Omega.{arith}
use borrow.Author.Rules.{rules as std_rules}
use borrow.Author.Tests.{not-true, not-false, leb-true, leb-false, lt-ltb, le-ltb}
use lib.Dec.{leb}
use lib.ListN.{length, get_or, drop, drop_of_length-le}
use lib.Seq.{drop-drop, get_or-drop}
use mir.Val.{Fits}
use mir.Syntax.{w64}
use Rattle.rows.specs.Bytes.{bytes_of, width_of}
use Rattle.rows.specs.Rows.{over}
use Rattle.rows.proofs.Bytes.{length-bytes, width_is}
use Rattle.rows.proofs.Over.{over-append, Left, left-all, left-none, left-next}
use Rattle.std.specs.Prelude.{Result, Ok, Err}
use Rattle.module_state.specs.declared.Refusal.{Refusal}
use Rattle.module_state.specs.declared.Refusal.TheVariants.{Room, Message}
use Rattle.module_state.specs.Numbers.{◌when◌, ◌unless◌, ◌▸◌}
use Rattle.message_formats.specs.declared.Field.{Field}
use Rattle.message_formats.specs.declared.Field.TheVariants.{Unused}
use Rattle.message_formats.specs.declared.Form.{Form}
use Rattle.message_formats.specs.declared.Shape.{Shape}
use Rattle.message_formats.specs.Formats.{form_of, fields_of}
use Rattle.message_formats.proofs.Laws.{width-most}
use Rattle.message_fields.specs.Fields.{fields, long_of, field_bytes, are_allowed, head_long, fields_tested}
use Rattle.message_fields.specs.declared.FieldsTested.{FieldsTested}
use Rattle.message_fields.proofs.Laws.{length_fields, fields-from, bytes-length}
use Rattle.message_fields_write.specs.Bodies.{body_bytes, body_long, number_for, given, written, written_in}

-- ---- the fields of a shape
pub record FieldsTo (start : ℕ) (l : Shape) (values old new : List ℕ) (place at : ℕ) : Type 0 where
  pub within : place + long_of (drop at (fields l)) ≤ length old
  pub remains : Left start (long_of (fields l)) (field_bytes (fields l) values) old place (long_of (drop at (fields l))) (field_bytes (drop at (fields l)) (drop at values)) new

pub fields-begin : (start : ℕ) (l : Shape) (values old : List ℕ) → start + head_long l ≤ length old → FieldsTo start l values old old start 0
unfolding head_long
fields-begin start l values old h = record { within = h; remains = left-all start (long_of (fields l)) (field_bytes (fields l) values) old h }

module _ {start : ℕ} {l : Shape} {values old new : List ℕ} {place at : ℕ} (v : FieldsTo start l values old new place at) where
  pub fields-length : length new ≡ length old
  fields-length = v.remains.long

  module _ {f : Field} {form : Form} (h : at < 7) (p : f ≡ get_or (fields_of l) at Unused) (q : form ≡ form_of f) where
    width_same : width_of form.width ≡ form.width
    width_same = width_is form.width (rw q (width-most f))

    next : drop at (fields l) ≡ f ∷ drop (at + 1) (fields l)
    next = fields-from l at h ∙ rw p

    -- the field that is to be written, before the others
    ahead : Left start (long_of (fields l)) (field_bytes (fields l) values) old place (form.width + long_of (drop (at + 1) (fields l)))
        (bytes_of form.width (get_or values at 0) ++ field_bytes (drop (at + 1) (fields l)) (drop (at + 1) values)) new
    unfolding long_of field_bytes
    ahead =
        let z : at + 0 ≡ at = omega arith in
        rw (next, ← q, get_or-drop, z, drop-drop) at v.remains

    within-next : place + form.width + long_of (drop (at + 1) (fields l)) ≤ length old
    unfolding long_of
    within-next = omega (arith, rw (next, ← q) at v.within)

    pub place-fits : Fits w64 (length old) → Fits w64 (place + form.width)
    place-fits w = omega (arith, within-next)

    pub fields-on : {last : List ℕ} → last ≡ over place (width_of form.width) (bytes_of (width_of form.width) (get_or values at 0)) new → FieldsTo start l values old last (place + form.width) (at + 1)
    fields-on e =
        record {
          within = within-next;
          remains =
              rw (e, width_same)
              (left-next form.width (long_of (drop (at + 1) (fields l))) (bytes_of form.width (get_or values at 0)) (field_bytes (drop (at + 1) (fields l)) (drop (at + 1) values)) (length-bytes form.width (get_or values at 0)) ahead);
        }

  pub fields-end : 7 ≤ at → new ≡ over start (head_long l) (field_bytes (fields l) values) old
  unfolding long_of field_bytes head_long
  fields-end h =
      let k : length (fields l) ≤ at = rw (length_fields l) h in
      left-none (rw (drop_of_length-le (fields l) k) at v.remains)

-- ---- fields and what follows them
module _ (at : ℕ) (l : Shape) (values rest : List ℕ) (carried : Bool) (old : List ℕ) {tested : FieldsTested} (e : tested ≡ fields_tested l values) where
  abbrev number : ℕ
  number = number_for (at + body_long l rest) (are_allowed (fields l) values && carried) old

  abbrev IsAnswer : Result ℕ Refusal → Type 0
  IsAnswer r = written_in r ≡ written number (at + body_long l rest)

  abbrev IsContent : List ℕ → Type 0
  IsContent new = new ≡ given number (over at (body_long l rest) (body_bytes l values rest) old) old

  long-is : tested.long ≡ head_long l
  unfolding fields_tested
  long-is = ap (λ (x : FieldsTested). x.long) e

  body_is : tested.long + length rest ≡ body_long l rest
  unfolding body_long
  body_is = rw long-is

  fine-is : (tested.allowed && carried) ≡ (are_allowed (fields l) values && carried)
  unfolding fields_tested
  fine-is = ap (λ (x : FieldsTested). x.allowed && carried) e

  module _ {b : Bool} (g : b ≡ leb (at + (tested.long + length rest)) (length old)) where
    there : b ≡ leb (at + body_long l rest) (length old)
    there = g ∙ rw body_is

    module _ (n : not b ≡ true) where
      no_room : 15 ≡ number
      unfolding number_for ◌when◌ ◌▸◌
      no_room = rw (lt-ltb (length old) (at + body_long l rest) (leb-false (at + body_long l rest) (length old) (sym there ∙ not-true b n)))

      pub short-answer : IsAnswer (Err Room)
      unfolding written given
      short-answer = rw (← no_room)

      pub short-content : IsContent old
      unfolding given
      short-content = rw (← no_room)

    module _ (n : not b ≡ false) where
      room : at + body_long l rest ≤ length old
      room = leb-true (at + body_long l rest) (length old) (sym there ∙ not-false b n)

      module _ (m : not (tested.allowed && carried) ≡ true) where
        not_carried : 14 ≡ number
        unfolding number_for ◌when◌ ◌unless◌ ◌▸◌
        not_carried = rw (le-ltb (length old) (at + body_long l rest) room, sym fine-is ∙ not-true (tested.allowed && carried) m)

        pub refused-answer : IsAnswer (Err Message)
        unfolding written given
        refused-answer = rw (← not_carried)

        pub refused-content : IsContent old
        unfolding given
        refused-content = rw (← not_carried)

      pub end-room : at + head_long l ≤ length old
      end-room = omega (arith, room, body_is, long-is)

      pub end_fits : Fits w64 (length old) → Fits w64 (at + tested.long)
      end_fits w = omega (arith, room, body_is)

      pub sum_fits : Fits w64 (length old) → Fits w64 (at + tested.long + length rest)
      sum_fits w = omega (arith, room, body_is)

      module _ (m : not (tested.allowed && carried) ≡ false) where
        all-carried : 0 ≡ number
        unfolding number_for ◌when◌ ◌unless◌ ◌▸◌
        all-carried = rw (le-ltb (length old) (at + body_long l rest) room, sym fine-is ∙ not-false (tested.allowed && carried) m)

        pub done-answer : IsAnswer (Ok (at + tested.long + length rest))
        unfolding written given
        done-answer = let s : at + tested.long + length rest ≡ at + body_long l rest = omega (arith, body_is) in rw (← all-carried, s)

        pub done-content : {mid new : List ℕ} → mid ≡ over at (head_long l) (field_bytes (fields l) values) old → new ≡ over (at + tested.long) (length rest) rest mid → IsContent new
        unfolding given body_long body_bytes head_long
        done-content p q =
            let r : at + long_of (fields l) + length rest ≤ length old = omega (arith, room, body_is, long-is) in
            rw (← all-carried) (q ∙ sym (over-append at (long_of (fields l)) (length rest) (field_bytes (fields l) values) rest old (bytes-length (fields l) values) r ∙ rw (p, long-is)))

pub ruleset rules = (std_rules, fields-begin, fields-length, place-fits, fields-on, fields-end, short-answer, short-content, refused-answer, refused-content, end-room, end_fits, sum_fits, done-answer, done-content)
