-- The laws that close the needs of this crate's functions by `search rules`: each premise is as a place's record has it.
-- Assumes nothing.
use Prim.Native.Nat.{ℕ, suc, ◌+◌, ◌-◌, ◌*◌, ◌/◌, ◌%◌, ◌<◌, ◌≤◌}
use mathlib.Core.Path.{◌≡◌, refl, sym, ap, ◌∙◌}
use mathlib.Core.List.{List, ◌∷◌}
use native.Mathlib.Numerals.{add-one}
use native.Mathlib.Omega.{arith}
use borrow.Author.Rules.{rules as std_rules}
use lib.Dec.{eqb}
use lib.ListN.{length, get_or, drop, set, replicate, length-replicate}
use lib.Seq.{drop-cons}
use Rattle.lists.proofs.Loops.{Copied, copied_none, copied_more, copied_all}
use Rattle.rows.specs.Bytes.{number_of, number_at}
use Rattle.rows.proofs.Loops.{FilledBy, filled-begin, filled_next, filled-done}
use Rattle.module_state.specs.Module.{credential_count, word_size}
use Rattle.module_state.specs.declared.Grants.{Grants}
use Rattle.image.specs.Image.{numbers_in, words_from, grants_said}
use Rattle.image.proofs.Rows.{grants-length}

-- ---- the numbers
-- ---- the words
module _ {b words₀ words : List ℕ} {at i : ℕ} (v : FilledBy number_of credential_count word_size at b words₀ words i) where
  pub words-next : i < credential_count → {w : ℕ} → w ≡ number_at 4 (at + i * word_size) b → FilledBy number_of credential_count word_size at b words₀ (set words i w) (i + 1)
  unfolding number_at
  words-next h {w} e =
      let k : at + i * word_size + word_size - (at + i * word_size) ≡ word_size = omega arith in
      filled_next v h (rw k e)

  pub words-done : credential_count ≤ i → words ≡ words_from at b
  unfolding numbers_in
  words-done h = filled-done v h

-- ---- the credentials: the first i are said, and the rest is what is left of the mask with the words from i on
pub record SaidTo (mask : ℕ) (words seconds : List ℕ) (out₀ out : List Grants) (left i : ℕ) : Type 0 where
  pub long : length words ≡ credential_count
  pub many : length seconds ≡ length words
  pub done : Copied (grants_said mask words seconds) out₀ out i
  pub rest : drop i (grants_said mask words seconds) ≡ grants_said left (drop i words) (drop i seconds)

pub said-begin : (mask : ℕ) (words seconds : List ℕ) (none : Grants) → length words ≡ credential_count → length seconds ≡ credential_count
    → SaidTo mask words seconds (replicate credential_count none) (replicate credential_count none) mask 0
said-begin mask words seconds none h k =
    let many : length seconds ≡ length words = k ∙ sym h in
    record {
      long = h;
      many = many;
      done =
          copied_none (grants_said mask words seconds) (replicate credential_count none)
          (length-replicate credential_count none ∙ sym (grants-length mask words seconds many ∙ h));
      rest = refl;
    }

module _ {mask : ℕ} {words seconds : List ℕ} {out₀ out : List Grants} {left i : ℕ} (v : SaidTo mask words seconds out₀ out left i) where
  abbrev all : List Grants
  all = grants_said mask words seconds

  all-long : length all ≡ credential_count
  all-long = grants-length mask words seconds v.many ∙ v.long

  pub said-next : i < credential_count
      → SaidTo mask words seconds out₀ (set out i (record { provisioned = eqb (left % 2) 1; words = record { grant = get_or words i 0; second = get_or seconds i 0 } })) (left / 2) (i + 1)
  unfolding grants_said
  said-next h =
      let x : Grants = record { provisioned = eqb (left % 2) 1; words = record { grant = get_or words i 0; second = get_or seconds i 0 } } in
      let rest : List Grants = grants_said (left / 2) (drop (suc i) words) (drop (suc i) seconds) in
      let k : i < length words = omega (arith, v.long) in
      let m : i < length seconds = omega (arith, v.long, v.many) in
      let l : i < length all = omega (arith, all-long) in
      let e : drop i all ≡ x ∷ rest = v.rest ∙ rw (drop-cons words i 0 k, drop-cons seconds i 0 m) in
      let f : get_or all i x ∷ drop (suc i) all ≡ x ∷ rest = sym (drop-cons all i x l) ∙ e in
      let g : get_or all i x ≡ x = ap (λ (m : List Grants). get_or m 0 x) f in
      record {
        long = v.long;
        many = v.many;
        done = rw g at (copied_more v.done x l);
        rest = rw add-one (ap (λ (m : List Grants). drop 1 m) f);
      }

  pub said-done : credential_count ≤ i → out ≡ grants_said mask words seconds
  said-done h = copied_all v.done (omega (arith, all-long))

pub ruleset rules = (std_rules, filled-begin, words-next, words-done, said-begin, said-next, said-done)
