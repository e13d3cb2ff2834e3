-- The fields of every shape: what was written for them is read. Assumes nothing.
use Prim.Native.Nat.{ℕ, ◌^◌, ◌<◌, ◌≤◌}
use mathlib.Core.Path.{◌≡◌, refl, ap}
use mathlib.Core.Bool.{true}
use mathlib.Core.List.{List, [], ◌∷◌, ◌++◌, append_assoc}
use native.Mathlib.Nat.{mod-eq_of_lt}
use native.Mathlib.Omega.{arith}
use lib.Dec.{eqb, leb}
use borrow.Author.Tests.{leb-true, eqb-false}
use lib.ListN.{length, get_or, take, drop}
use lib.Seq.{take_at, drop_at}
use Rattle.lists.proofs.Tests.{split, and_left, and_right}
use Rattle.rows.specs.Bytes.{bytes_of, number_of}
use Rattle.rows.proofs.Bytes.{length-bytes, number-back}
use Rattle.message_formats.specs.declared.Field.{Field}
use Rattle.message_formats.specs.declared.Field.TheVariants.{Unused}
use Rattle.message_formats.specs.declared.Shape.{Shape}
use Rattle.message_formats.specs.Formats.{form_of, meant, is_allowed, fields_of}
use Rattle.message_formats.proofs.Laws.{form-sound, bits-sound}
use Rattle.message_fields.specs.Fields.{fields, values_in, are_allowed, field_bytes}
use Rattle.message_fields.proofs.Laws.{fields-from}

-- ---- one field: a value that may stand in it has no reserved bit, and its bytes hold it
module _ (f : Field) (v : ℕ) (h : is_allowed (form_of f) v ≡ true) where
  at_most : v ≤ (form_of f).most
  unfolding is_allowed
  at_most = leb-true v (form_of f).most (and_right (leb (form_of f).least v) (leb v (form_of f).most) h)

  means-itself : meant (form_of f) v ≡ v
  unfolding meant
  means-itself =
      split (eqb (form_of f).values 0)
      (λ e. rw e)
      (λ e. rw e (mod-eq_of_lt (omega (arith, at_most, bits-sound f (eqb-false (form_of f).values 0 e)))))

  value-fits : v < 256 ^ (form_of f).width
  value-fits = omega (arith, at_most, form-sound f)

  value-back : (y : List ℕ) → meant (form_of f) (number_of (take (form_of f).width (bytes_of (form_of f).width v ++ y))) ≡ v
  value-back y =
      rw (take_at (bytes_of (form_of f).width v) y (form_of f).width (length-bytes (form_of f).width v), number-back (form_of f).width v value-fits)
      means-itself

-- ---- the fields of a shape
pub values-back : (fs : List Field) (vs y : List ℕ) → length vs ≡ length fs → are_allowed fs vs ≡ true → values_in fs (field_bytes fs vs ++ y) ≡ vs
unfolding values_in field_bytes are_allowed
values-back [] [] y e h = refl
values-back [] (v ∷ vs) y e h = absurd (omega arith)
values-back (f ∷ fs) [] y e h = absurd (omega arith)
values-back (f ∷ fs) (v ∷ vs) y e h =
    let bytes : List ℕ = bytes_of (form_of f).width v in
    let q : values_in fs (field_bytes fs vs ++ y) ≡ vs = values-back fs vs y (omega arith) (and_right (is_allowed (form_of f) v) (are_allowed fs vs) h) in
    rw (append_assoc bytes (field_bytes fs vs) y, value-back f v (and_left (is_allowed (form_of f) v) (are_allowed fs vs) h) (field_bytes fs vs ++ y), drop_at bytes (field_bytes fs vs ++ y) (form_of f).width (length-bytes (form_of f).width v), q)

-- ---- a first field of one byte: the first byte is the first value
pub first_field : (shape : Shape) → get_or (fields shape) 0 Unused ≡ get_or (fields_of shape) 0 Unused
first_field shape = ap (λ (fs : List Field). get_or fs 0 Unused) (fields-from shape 0 (omega arith))

pub first_byte : (fs : List Field) (vs y : List ℕ) → (form_of (get_or fs 0 Unused)).width ≡ 1 → 0 < length fs → are_allowed fs vs ≡ true → get_or (field_bytes fs vs ++ y) 0 0 ≡ get_or vs 0 0
unfolding field_bytes are_allowed bytes_of
first_byte [] vs y w e h = absurd (omega arith)
first_byte (f ∷ fs) vs y w e h =
    let allowed : is_allowed (form_of f) (get_or vs 0 0) ≡ true = and_left (is_allowed (form_of f) (get_or vs 0 0)) (are_allowed fs (drop 1 vs)) h in
    let small : get_or vs 0 0 < 256 = rw w at (value-fits f (get_or vs 0 0) allowed) in
    rw w (mod-eq_of_lt small)
