-- The shapes of the codes, for those who use them: which codes the chooser matters for, and that it is then the first field, of one byte, so that the
-- third byte of a message is the first of its values. Assumes nothing.
use Prim.Native.Nat.{ℕ}
use mathlib.Core.Path.{◌≡◌, refl, ap, ◌∙◌}
use mathlib.Core.List.{List, [], ◌∷◌}
use mathlib.Core.Logic.{◌⊎◌, inl, inr}
use lib.Dec.{eqb}
use lib.ListN.{get_or}
use borrow.Author.Tests.{eqb-true, eqb-false, ne_eqb}
use Rattle.lists.specs.Each.{Each, each_nil, each-cons}
use Rattle.lists.proofs.Tests.{split}
use Rattle.message_formats.specs.declared.Field.TheVariants.{Unused}
use Rattle.message_formats.specs.declared.Shape.{Shape}
use Rattle.message_formats.specs.declared.Shape.TheVariants.{NoMessage, ChangeCredential, ChangePolicies}
use Rattle.message_formats.specs.Formats.{form_of, fields_of}
use Rattle.message_codes.specs.Codes.{Meaning, find, operations, errors, requests, responses, shape_of}

pub chooser-apart : (code c d : ℕ) → (code ≡ 0x83 → ⊥) → (code ≡ 0x85 → ⊥) → (code ≡ 0x7f → ⊥) → shape_of code c ≡ shape_of code d
unfolding shape_of find requests responses
chooser-apart code c d h i j = rw (ne_eqb code 0x83 h, ne_eqb code 0x85 i, ne_eqb code 0x7f j)

-- the first field of a shape has one byte
abbrev pub FirstByte : Shape → Type 0
FirstByte shape = (form_of (get_or (fields_of shape) 0 Unused)).width ≡ 1

find_first : (n : ℕ) (l : List Meaning) → Each (λ (e : Meaning). FirstByte e.means) l → (find n l ≡ NoMessage → ⊥) → FirstByte (find n l)
unfolding find
find_first n [] each_nil h = absurd (h refl)
find_first n (e ∷ es) (each-cons p ps) h = split (eqb n e.code) (λ t. rw t p) (λ t. rw t (find_first n es ps (λ q. h (rw t q))))

operations-first : (change : Shape) → FirstByte change → Each (λ (e : Meaning). FirstByte e.means) (operations change)
unfolding operations form_of fields_of
operations-first change p = each-cons p (each-cons refl (each-cons refl each_nil))

errors-first : Each (λ (e : Meaning). FirstByte e.means) errors
unfolding errors form_of fields_of
errors-first = search (each_nil, each-cons) depth 14

module _ (code c : ℕ) (h : shape_of code c ≡ NoMessage → ⊥) where
  first-in : (l : List Meaning) → Each (λ (e : Meaning). FirstByte e.means) l → shape_of code c ≡ find c l → FirstByte (shape_of code c)
  first-in l p same = rw same (find_first c l p (λ q. h (same ∙ q)))

  pub chooser-first : (code ≡ 0x83) ⊎ (code ≡ 0x85) ⊎ (code ≡ 0x7f) → FirstByte (shape_of code c)
  unfolding shape_of find requests responses form_of fields_of
  chooser-first (inl e) = first-in (operations ChangeCredential) (operations-first ChangeCredential refl) (rw e)
  chooser-first (inr (inl e)) = first-in (operations ChangePolicies) (operations-first ChangePolicies refl) (rw e)
  chooser-first (inr (inr e)) = first-in errors errors-first (rw e)

  -- a message has the shape of another chooser too, where that is the same or the first field has not one byte
  pub chooser-same : (d : ℕ) → (FirstByte (shape_of code c) → d ≡ c) → shape_of code d ≡ shape_of code c
  chooser-same d g =
      let by : (code ≡ 0x83) ⊎ (code ≡ 0x85) ⊎ (code ≡ 0x7f) → shape_of code d ≡ shape_of code c = λ w. ap (shape_of code) (g (chooser-first w)) in
      split (eqb code 0x83) (λ e. by (inl (eqb-true code 0x83 e)))
      (λ e. split (eqb code 0x85) (λ f. by (inr (inl (eqb-true code 0x85 f))))
      (λ f. split (eqb code 0x7f) (λ k. by (inr (inr (eqb-true code 0x7f k))))
      (λ k. chooser-apart code d c (eqb-false code 0x83 e) (eqb-false code 0x85 f) (eqb-false code 0x7f k))))
