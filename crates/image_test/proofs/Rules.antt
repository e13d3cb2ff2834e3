-- The laws that close the goals of this crate's functions.
-- Assumes nothing.
use Rattle.std.specs.Prelude.{◌&&◌, Ok, Err}
use Rattle.std.specs.List.{list_all}
use Rattle.std.specs.Simd.{first_chunks}
use Rattle.rows.proofs.Chunks.{chunks_rows, all_every, all_map}
use Prim.Native.Nat.{ℕ, zero, suc, ◌+◌, ◌-◌, ◌*◌, ◌/◌, ◌<◌, ◌≤◌}
use mathlib.Core.Path.{◌≡◌, refl, sym, ap, ◌∙◌}
use mathlib.Core.Bool.{Bool, true, false}
use mathlib.Core.List.{List, [], ◌∷◌, map}
use native.Mathlib.Omega.{arith}
use borrow.Author.Tests.{eqb-true}
use mir.Syntax.{w64}
use mir.Val.{Fits}
use lib.Dec.{eqb}
use lib.Seq.{drop-cons, take_all}
use lib.ListN.{length, take, drop, get_or, length-drop}
use Rattle.rows.specs.Rows.{rows, every, pairwise}
use Rattle.module_state.specs.declared.Grants.{Grants}
use Rattle.image.specs.declared.ImageHead.{ImageHead}
use Rattle.image.specs.Image.{saved_size, image_long, head_in, grants_among, grants_in, saved_from, saved_among, saved_in, image_in, is_keepable, differ, head_fits, words_fit, image_fits, is_image, image_test, SavedLie}
use Rattle.image.proofs.Rows.{saved-name}
use Rattle.image.proofs.Laws.{offset-low, head-has}
use Rattle.image_test.specs.Tests.{rest_fits}

-- ---- the rows' names: the first row of those left, and the later ones
module _ (left : List (List ℕ)) (d : List ℕ) (h : 1 ≤ length left) where
  parts : left ≡ get_or left 0 d ∷ take (length left - 1) (drop 1 left)
  parts = drop-cons left 0 d (omega arith) ∙ ap (λ (l : List (List ℕ)). get_or left 0 d ∷ l) (sym (take_all (length left - 1) (drop 1 left) (rw length-drop (omega arith))))

  module _ {t : Bool} (e : t ≡ list_all (λ other. differ (saved_from (get_or left 0 d)) (saved_from other)) (take (length left - 1) (drop 1 left))) {all : Bool} (v : all ≡ pairwise differ (map saved_from left)) where
    first-told : t ≡ every (differ (saved_from (get_or left 0 d))) (map saved_from (take (length left - 1) (drop 1 left)))
    first-told = e ∙ all_map (differ (saved_from (get_or left 0 d))) saved_from (take (length left - 1) (drop 1 left))

    pub pair-fails : t ≡ false → false ≡ all
    unfolding pairwise
    pair-fails n = sym (v ∙ ap (λ (l : List (List ℕ)). pairwise differ (map saved_from l)) parts ∙ rw (← first-told, n))

    pub pairs-go : t ≡ true → all ≡ pairwise differ (map saved_from (take (length left - 1) (drop 1 left)))
    unfolding pairwise
    pairs-go n = v ∙ ap (λ (l : List (List ℕ)). pairwise differ (map saved_from l)) parts ∙ rw (← first-told, n)

pub pairs-done : (left : List (List ℕ)) {all : Bool} → length left < 1 → all ≡ pairwise differ (map saved_from left) → true ≡ all
unfolding pairwise
pairs-done [] h v = sym v
pairs-done (x ∷ left) h v = absurd (omega arith)

-- ---- the rows as arrays
pub chunks-there : {part l : List ℕ} {saved : List (List ℕ)} → part ≡ l → saved ≡ first_chunks saved_size (length part / saved_size) part → saved ≡ rows (length l / saved_size) saved_size l
chunks-there {part} {l} e q = q ∙ rw e (chunks_rows saved_size (length l / saved_size) l)

-- where rows lie whole, as many as stand there
pub whole-rows : {b : List ℕ} {offset n : ℕ} → SavedLie b offset n → length (drop offset b) / saved_size ≡ n
unfolding image_long
whole-rows v = rw length-drop (omega (arith, v.long))

-- ---- the whole
module _ (b : List ℕ) (h : ImageHead) (e : head_fits h ≡ true) where
  pub long-part : Fits w64 (h.rows * saved_size)
  long-part = omega (arith, (head-has h e).few)

  pub long-fits : Fits w64 (h.offset + h.rows * saved_size)
  long-fits = omega (arith, (head-has h e).few, offset-low h.offset (head-has h e).offset)

  pub length-asked : eqb (length b) (h.offset + h.rows * saved_size) ≡ eqb (length b) (image_long h.offset h.rows)
  unfolding image_long
  length-asked = refl

  module _ {long : Bool} (l : long ≡ eqb (length b) (image_long h.offset h.rows)) where
    pub rest-short : long ≡ false → (grants : List Grants) → false ≡ rest_fits b h grants
    unfolding rest_fits
    rest-short m grants = rw (← l, m)

    module _ (y : long ≡ true) where
      pub rest-lies : SavedLie b h.offset h.rows
      rest-lies =
          record {
            few = (head-has h e).few;
            from = (head-has h e).offset;
            long = eqb-true (length b) (image_long h.offset h.rows) (sym l ∙ y);
          }

      module _ (grants : List Grants) {words : Bool} (w : words ≡ list_all words_fit grants) where
        words-told : words ≡ every words_fit grants
        words-told = w ∙ all_every words_fit grants

        pub rest-words : words ≡ false → words ≡ rest_fits b h grants
        unfolding rest_fits image_fits
        rest-words m = rw (← l, y, ← words-told, m)

        module _ (m : words ≡ true) {saved : List (List ℕ)} (s : saved ≡ rows h.rows saved_size (drop h.offset b)) {keep : Bool} (q : keep ≡ list_all (λ row. is_keepable grants (saved_from row)) saved) where
          keep-told : keep ≡ every (is_keepable grants) (saved_among h.offset h.rows b)
          keep-told = q ∙ all_map (is_keepable grants) saved_from saved ∙ rw s

          pub rest-rows : keep ≡ false → keep ≡ rest_fits b h grants
          unfolding rest_fits image_fits
          rest-rows o = rw (← l, y, ← words-told, m, ← keep-told, o)

          pub rest_all : keep ≡ true → {d : Bool} → d ≡ pairwise differ (map saved_from saved) → d ≡ rest_fits b h grants
          unfolding rest_fits image_fits
          rest_all o r = r ∙ rw (← l, y, ← words-told, m, ← keep-told, o, s)

module _ (b : List ℕ) {h : ImageHead} {grants : List Grants} (e : h ≡ head_in b) (g : grants ≡ grants_among h.mask h.offset b) where
  grants-are : grants ≡ grants_in b
  unfolding grants_in
  grants-are = g ∙ rw e

  image-is : is_image b ≡ head_fits h && rest_fits b h grants
  unfolding is_image rest_fits image_in saved_in
  image-is = rw (grants-are, e)

  module _ {t : Bool} (f : t ≡ head_fits h) where
    pub test-goes : t ≡ true → head_fits h ≡ true
    test-goes n = sym f ∙ n

    pub test-head : t ≡ false → Err (record { head = h; grants = grants }) ≡ image_test b
    unfolding image_test
    test-head n = rw (image-is, ← f, n, grants-are, e)

    module _ (n : t ≡ true) {fits : Bool} (r : fits ≡ rest_fits b h grants) where
      pub test-fits : fits ≡ true → Ok (record { head = h; grants = grants }) ≡ image_test b
      unfolding image_test
      test-fits y = rw (image-is, ← f, n, ← r, y, grants-are, e)

      pub test-rest : fits ≡ false → Err (record { head = h; grants = grants }) ≡ image_test b
      unfolding image_test
      test-rest y = rw (image-is, ← f, n, ← r, y, grants-are, e)

pub ruleset rules = (saved-name, pair-fails, pairs-go, pairs-done, chunks-there, whole-rows, long-part, long-fits, length-asked, rest-short, rest-lies, rest-words, rest-rows, rest_all, test-goes, test-head, test-fits, test-rest)
