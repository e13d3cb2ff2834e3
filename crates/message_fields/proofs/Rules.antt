-- The laws that close the needs of this crate's functions by `search rules`: each premise is as a place's record has it.
-- Assumes nothing.
use Prim.Native.Nat.{ℕ, ◌+◌, ◌*◌, ◌<◌, ◌≤◌}
use mathlib.Core.Path.{◌≡◌, refl, sym, ◌∙◌}
use mathlib.Core.Bool.{Bool, true, false, ◌&&◌}
use mathlib.Core.List.{List, [], ◌∷◌, ◌++◌, append-nil}
use native.Mathlib.Numerals.{add-one}
use native.Mathlib.Omega.{arith}
use borrow.Author.Rules.{rules as std_rules}
use lib.ListN.{length, get_or, take, drop, set, length-set, drop_of_length-le}
use lib.Seq.{drop-drop, get_or-drop, take_all, take-suc-set, append_snoc}
use mir.Val.{Fits}
use mir.Syntax.{w64}
use Rattle.std.specs.Prelude.{Result, Ok, Err}
use Rattle.rows.specs.Bytes.{number_at, width_of}
use Rattle.rows.proofs.Bytes.{width_is}
use Rattle.rows.proofs.Loops.{and-true, and_assoc}
use Rattle.message_formats.specs.declared.Field.{Field}
use Rattle.message_formats.specs.declared.Field.TheVariants.{Unused}
use Rattle.message_formats.specs.declared.Form.{Form}
use Rattle.message_formats.specs.declared.Shape.{Shape}
use Rattle.message_formats.specs.Formats.{form_of, meant, is_allowed, fields_of}
use Rattle.message_formats.proofs.Laws.{width-most}
use Rattle.message_fields.specs.Fields.{fields, long_of, values_in, are_allowed, head_long, values_of, fields_read, fields_tested}
use Rattle.message_fields.specs.declared.FieldsRead.{FieldsRead}
use Rattle.message_fields.specs.declared.FieldsTested.{FieldsTested}
use Rattle.message_fields.proofs.Laws.{length_fields, fields-from}

width_few : (f : Field) {form : Form} → form ≡ form_of f → form.width ≤ 8
width_few f e = rw e (width-most f)

-- ---- the fields of a shape, one after the other: what is done of the first `at`
pub record Measured (l : Shape) (long at : ℕ) : Type 0 where
  pub low : long ≤ 8 * at
  pub is : long_of (fields l) ≡ long + long_of (drop at (fields l))

pub record Read (l : Shape) (b out : List ℕ) (ok : Bool) (place at : ℕ) : Type 0 where
  pub measured : Measured l place at
  pub long : length out ≡ 7
  pub is : values_in (fields l) b ≡ take at out ++ values_in (drop at (fields l)) (drop place b)
  pub may : are_allowed (fields l) (values_in (fields l) b) ≡ (ok && are_allowed (drop at (fields l)) (values_in (drop at (fields l)) (drop place b)))

pub record Tested (l : Shape) (values : List ℕ) (ok : Bool) (place at : ℕ) : Type 0 where
  pub measured : Measured l place at
  pub may : are_allowed (fields l) values ≡ (ok && are_allowed (drop at (fields l)) (drop at values))

measured-none : (l : Shape) → Measured l 0 0
measured-none l = record { low = omega arith; is = omega arith }

module _ (l : Shape) where
  pub read-begin : (b out : List ℕ) → length out ≡ 7 → Read l b out true 0 0
  read-begin b out e = record { measured = measured-none l; long = e; is = refl; may = refl }

  pub tested-begin : (values : List ℕ) → Tested l values true 0 0
  tested-begin values = record { measured = measured-none l; may = refl }

module _ (l : Shape) {at : ℕ} {f : Field} {form : Form} (h : at < 7) (p : f ≡ get_or (fields_of l) at Unused) (q : form ≡ form_of f) where
  next : drop at (fields l) ≡ f ∷ drop (at + 1) (fields l)
  next = fields-from l at h ∙ rw p

  module _ {place : ℕ} (v : Measured l place at) where
    measured-fits : Fits w64 (place + form.width)
    measured-fits = record { fits = omega (arith, v.low, width_few f q) }

    measured-on : Measured l (place + form.width) (at + 1)
    unfolding long_of
    measured-on = record { low = omega (arith, v.low, width_few f q); is = v.is ∙ rw (next, q) (omega arith) }

  module _ {b out : List ℕ} {ok : Bool} {place : ℕ} (v : Read l b out ok place at) where
    pub read_fits : Fits w64 (place + form.width)
    read_fits = measured-fits v.measured

    module _ {n r : ℕ} (i : n ≡ number_at (width_of form.width) place b) (e : r ≡ meant form n) where
      value-is : r ≡ meant (form_of f) (number_at (form_of f).width place b)
      value-is = e ∙ rw (i, width_is form.width (width_few f q), q)

      pub read-on : {a : Bool} → a ≡ is_allowed form r → Read l b (set out at r) (ok && a) (place + form.width) (at + 1)
      unfolding values_in number_at are_allowed
      read-on {a} t =
          let inside : at < length out = omega (arith, v.long) in
          record {
            measured = measured-on v.measured;
            long = length-set out at r ∙ v.long;
            is = v.is ∙ rw (next, add-one, take-suc-set out at r inside, append_snoc, value-is, q, drop-drop);
            may = v.may ∙ rw (next, ← and_assoc, t, value-is, q, drop-drop);
          }

  module _ {values : List ℕ} {ok : Bool} {place : ℕ} (v : Tested l values ok place at) where
    pub tested-fits : Fits w64 (place + form.width)
    tested-fits = measured-fits v.measured

    pub tested-on : {a : Bool} → a ≡ is_allowed form (get_or values at 0) → Tested l values (ok && a) (place + form.width) (at + 1)
    unfolding are_allowed
    tested-on {a} t =
        let z : at + 0 ≡ at = omega arith in
        record { measured = measured-on v.measured; may = v.may ∙ rw (next, ← and_assoc, t, q, get_or-drop, z, drop-drop) }

module _ (l : Shape) {at : ℕ} (h : 7 ≤ at) where
  past : drop at (fields l) ≡ []
  past = let k : length (fields l) ≤ at = rw (length_fields l) h in drop_of_length-le (fields l) k

  measured-end : {place : ℕ} → Measured l place at → place ≡ long_of (fields l)
  unfolding long_of
  measured-end v = sym (v.is ∙ rw past (omega arith))

  module _ {b out : List ℕ} {ok : Bool} {place : ℕ} (v : Read l b out ok place at) where
    said : values_in (fields l) b ≡ out
    unfolding values_in
    said = let k : length out ≤ at = omega (arith, v.long) in v.is ∙ rw (past, append-nil, take_all at out k)

    may : are_allowed (fields l) (values_in (fields l) b) ≡ ok
    unfolding are_allowed
    may = v.may ∙ rw past (and-true ok)

    pub read-taken : ok ≡ true → ◌≡◌ {A = Result FieldsRead FieldsRead} (Ok (record { long = place; values = out })) (fields_read l b)
    unfolding fields_read head_long values_of
    read-taken t = rw (measured-end v.measured, may, t, said)

    pub read-refused : ok ≡ false → ◌≡◌ {A = Result FieldsRead FieldsRead} (Err (record { long = place; values = out })) (fields_read l b)
    unfolding fields_read head_long values_of
    read-refused t = rw (measured-end v.measured, may, t, said)

  pub tested-end : {values : List ℕ} {ok : Bool} {place : ℕ} → Tested l values ok place at → ◌≡◌ {A = FieldsTested} (record { long = place; allowed = ok }) (fields_tested l values)
  unfolding fields_tested are_allowed head_long
  tested-end {values} {ok} v = let may : are_allowed (fields l) values ≡ ok = v.may ∙ rw past (and-true ok) in rw (measured-end v.measured, ← may)

pub ruleset rules = (std_rules, read-begin, read_fits, read-on, read-taken, read-refused, tested-begin, tested-fits, tested-on, tested-end)
