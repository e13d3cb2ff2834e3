-- The definitions of this crate, for those who use them: seven fields, as many values, as many bytes as the fields have, which are few; and the
-- first of the fields from a place on. Assumes nothing.
use Prim.Native.Nat.{ℕ, zero, suc, ◌+◌, ◌*◌, ◌-◌, ◌<◌, ◌≤◌}
use Rattle.std.specs.Prelude.{cond, Option, Some, None, Result, Ok, Err}
use Rattle.std.specs.Result.{result_ok}
use Rattle.std.proofs.lemmas.Option.{none-some, same_Some}
use mathlib.Core.Path.{◌≡◌, refl, sym, ap, ◌∙◌}
use mathlib.Core.Bool.{Bool, true, false}
use mathlib.Core.List.{List, [], ◌∷◌, ◌++◌}
use native.Mathlib.Numerals.{add-one}
use native.Mathlib.Omega.{arith}
use lib.ListN.{length, get_or, drop, replicate, length-append}
use lib.Seq.{drop-cons}
use Rattle.lists.specs.Lists.{padded}
use Rattle.lists.proofs.Lists.{length-padded}
use Rattle.lists.proofs.Tests.{split}
use Rattle.rows.proofs.Bytes.{length-bytes}
use Rattle.message_formats.specs.declared.Field.{Field}
use Rattle.message_formats.specs.declared.Field.TheVariants.{Unused}
use Rattle.message_formats.specs.declared.Shape.{Shape}
use Rattle.message_formats.specs.Formats.{fields_of}
use Rattle.message_formats.proofs.Laws.{width-most, few-fields}
use Rattle.message_fields.specs.Fields.{fields, long_of, are_allowed, field_bytes, head_long, values_of, fields_read}
use Rattle.message_fields.specs.declared.FieldsRead.{FieldsRead}

-- what stands past the end of a list may be written there
get_d-padded : {A : Type 0} (z : A) (l : List A) (k i : ℕ) → get_or (l ++ replicate k z) i z ≡ get_or l i z
get_d-padded z [] zero i = refl
get_d-padded z [] (suc k) zero = refl
get_d-padded z [] (suc k) (suc i) = get_d-padded z [] k i
get_d-padded z (x ∷ l) k zero = refl
get_d-padded z (x ∷ l) k (suc i) = get_d-padded z l k i

module _ (l : Shape) where
  pub length_fields : length (fields l) ≡ 7
  unfolding fields
  length_fields = length-padded 7 Unused (fields_of l) (few-fields l)

  -- the field at a place and those behind it
  pub fields-from : (at : ℕ) → at < 7 → drop at (fields l) ≡ get_or (fields_of l) at Unused ∷ drop (at + 1) (fields l)
  unfolding fields padded
  fields-from at h =
      let k : at < length (fields l) = rw length_fields h in
      drop-cons (fields l) at Unused k ∙ rw (get_d-padded Unused (fields_of l) (7 - length (fields_of l)) at, add-one)

pub bytes-length : (fs : List Field) (values : List ℕ) → length (field_bytes fs values) ≡ long_of fs
unfolding field_bytes long_of
bytes-length [] values = refl
bytes-length (f ∷ fs) values = rw (length-append, length-bytes, bytes-length fs (drop 1 values))

-- eight bytes for each field
pub long-fields : (fs : List Field) → long_of fs ≤ 8 * length fs
unfolding long_of
long-fields [] = omega arith
long-fields (f ∷ fs) = omega (arith, width-most f, long-fields fs)

pub long-most : (l : Shape) → long_of (fields l) ≤ 56
long-most l = omega (arith, long-fields (fields l), length_fields l)

-- ---- what is answered of the fields at the front of bytes
module _ {A : Type 0} (t : Bool) (x : A) {o : Option A} (e : o ≡ cond t (Some x) None) where
  pub none-where : o ≡ None → t ≡ false
  none-where n = split t (λ h. absurd (none-some x (sym n ∙ e ∙ rw h))) (λ h. h)

  pub some-where : {y : A} → o ≡ Some y → t ≡ true
  some-where {y} s = split t (λ h. h) (λ h. absurd (none-some y (sym (sym s ∙ e ∙ rw h))))

  pub some_is : {y : A} → o ≡ Some y → y ≡ x
  some_is {y} s = same_Some y x (sym s ∙ e ∙ rw (some-where s))

ok-where : {A : Type 0} (t : Bool) (x y : A) → result_ok (cond t (Ok x) (Err y)) ≡ cond t (Some x) None
ok-where t x y = split t (λ h. rw h) (λ h. rw h)

pub ok-fields : (shape : Shape) (b : List ℕ) {said : Result FieldsRead FieldsRead} {read : Option FieldsRead} → said ≡ fields_read shape b → read ≡ result_ok said → read ≡ result_ok (fields_read shape b)
ok-fields shape b e q = q ∙ ap result_ok e

module _ (shape : Shape) (b : List ℕ) {read : Option FieldsRead} (e : read ≡ result_ok (fields_read shape b)) where
  pub read-denied : read ≡ None → are_allowed (fields shape) (values_of shape b) ≡ false
  unfolding fields_read
  read-denied = none-where _ _ (e ∙ ok-where _ _ _)

  module _ {x : FieldsRead} (s : read ≡ Some x) where
    pub read-allowed : are_allowed (fields shape) (values_of shape b) ≡ true
    unfolding fields_read
    read-allowed = some-where _ _ (e ∙ ok-where _ _ _) s

    pub read-long : x.long ≡ head_long shape
    unfolding fields_read
    read-long = ap (λ (r : FieldsRead). r.long) (some_is _ _ (e ∙ ok-where _ _ _) s)

    pub read-values : x.values ≡ values_of shape b
    unfolding fields_read
    read-values = ap (λ (r : FieldsRead). r.values) (some_is _ _ (e ∙ ok-where _ _ _) s)
