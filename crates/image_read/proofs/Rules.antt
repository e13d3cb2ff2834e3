-- The laws that close the goals of this crate's functions.
-- Assumes nothing.
use Rattle.std.specs.Prelude.{Some, None, Result, Ok, Err, is_ok}
use Rattle.std.specs.Result.{result_unwrap_or}
use Prim.Native.Nat.{ℕ, suc, ◌+◌, ◌-◌, ◌/◌, ◌<◌, ◌≤◌}
use mathlib.Core.Path.{◌≡◌, sym, ap, ◌∙◌}
use mathlib.Core.Bool.{true}
use mathlib.Core.List.{List, [], ◌∷◌, ◌++◌, map}
use native.Mathlib.Numerals.{add-one}
use native.Mathlib.Omega.{arith}
use lib.ListN.{length, take, drop, get_or, set, replicate, length-map, length-append, get_or-map}
use lib.Seq.{take_all, take-suc, length-take-le, append_snoc, set_at}
use Rattle.lists.specs.Lists.{padded}
use Rattle.lists.proofs.Lists.{get_d_any}
use Rattle.lists.proofs.Tests.{split, clash}
use Rattle.rows.specs.Rows.{rows}
use Rattle.rows.proofs.Rows.{rows-length}
use Rattle.table.specs.Table.{table_of, places, free_place}
use Rattle.table.specs.declared.Process.{Process}
use Rattle.table.specs.declared.Table.{Table}
use Rattle.module_state.specs.Module.{closed_module}
use Rattle.module_state.specs.declared.State.{State}
use Rattle.image.specs.declared.ImageParts.{ImageParts}
use Rattle.image.specs.declared.SavedRow.{SavedRow}
use Rattle.image.specs.Image.{saved_size, head_in, grants_in, saved_from, saved_in, image_in, is_image, image_test, saved_process, restored, read_image, SavedLie}
use Rattle.image.proofs.Laws.{image-lies}
use Rattle.image_test.proofs.Rules.{whole-rows}

-- ---- the rows: the first i are read, and the places past them are free
abbrev pub stand_in : List (List ℕ) → List Process
stand_in saved = map saved_process (map saved_from saved)

pub record ReadTo (saved : List (List ℕ)) (out : List Process) (i : ℕ) : Type 0 where
  pub low : i ≤ length saved
  pub few : length saved ≤ places
  pub is : out ≡ padded places free_place (take i (stand_in saved))

stand-many : (saved : List (List ℕ)) → length (stand_in saved) ≡ length saved
stand-many saved = length-map (map saved_from saved) saved_process ∙ length-map saved saved_from

pub read-begin : {t : Table} (saved : List (List ℕ)) → length saved ≤ places → t ≡ table_of [] → ReadTo saved t.places 0
unfolding table_of
read-begin saved h e = record { low = omega arith; few = h; is = rw e }

module _ {saved : List (List ℕ)} {out : List Process} {i : ℕ} (v : ReadTo saved out i) where
  pub read_next : (d : List ℕ) {r : SavedRow} {p : Process} → i < length saved → r ≡ saved_from (get_or saved i d) → p ≡ saved_process r → ReadTo saved (set out i p) (i + 1)
  unfolding padded
  read_next d {r} {p} h e f =
      let l : List Process = stand_in saved in
      let m : i < length l = rw (stand-many saved) h in
      let q : p ≡ get_or l i p = f ∙ ap saved_process (e ∙ sym (get_or-map saved_from saved i d)) ∙ sym (get_or-map saved_process (map saved_from saved) i (saved_from d)) ∙ get_d_any l i (saved_process (saved_from d)) p m in
      let t : take (i + 1) l ≡ take i l ++ (p ∷ []) = rw add-one (take-suc l i p m) ∙ ap (λ o. take i l ++ (o ∷ [])) (sym q) in
      let k : length (take i l) ≡ i = length-take-le i l (omega (arith, m)) in
      let c : length (take i l ++ (p ∷ [])) ≡ i + 1 = rw length-append (omega (arith, k)) in
      let left : places - i ≡ suc (places - (i + 1)) = omega (arith, v.few, h) in
      record {
        low = omega (arith, h);
        few = v.few;
        is = rw (v.is, t, c, k, left, append_snoc) (set_at (take i l) free_place (replicate (places - (i + 1)) free_place) p i k);
      }

  pub read_done : length saved ≤ i → ◌≡◌ {A = Table} (record { places = out; count = length saved }) (table_of (stand_in saved))
  unfolding table_of
  read_done h =
      let l : List Process = stand_in saved in
      let m : length l ≡ length saved = stand-many saved in
      let t : take i l ≡ l = take_all i l (omega (arith, m)) in
      rw (v.is, t, m)

-- ---- the module
module _ (b : List ℕ) where
  pub image-not : {parts : ImageParts} → image_test b ≡ Err parts → None ≡ read_image b
  unfolding read_image image_test
  image-not e = split (is_image b) (λ t. clash (rw t) (ap is_ok e)) (λ t. rw t)

  module _ {parts : ImageParts} (e : image_test b ≡ Ok parts) where
    tested : is_image b ≡ true
    unfolding image_test
    tested = split (is_image b) (λ t. t) (λ t. clash (ap is_ok e) (rw t))

    parts-are : parts ≡ record { head = head_in b; grants = grants_in b }
    unfolding image_test
    parts-are = sym (ap (λ (o : Result ImageParts ImageParts). result_unwrap_or o parts) (rw tested at e))

    pub image-lie : SavedLie b parts.head.offset parts.head.rows
    image-lie = rw parts-are (image-lies b tested)

    module _ {saved : List (List ℕ)} (f : saved ≡ rows (length (drop parts.head.offset b) / saved_size) saved_size (drop parts.head.offset b)) where
      said : saved ≡ rows parts.head.rows saved_size (drop parts.head.offset b)
      said = f ∙ ap (λ n. rows n saved_size (drop parts.head.offset b)) (whole-rows image-lie)

      pub image-few : length saved ≤ places
      image-few = rw (said, rows-length) image-lie.few

      pub image-read : {t : Table} {st : State} → t ≡ table_of (stand_in saved) → st ≡ closed_module parts.grants t → Some st ≡ read_image b
      unfolding read_image restored image_in saved_in
      image-read g h = rw (h, g, said, parts-are, tested)

pub ruleset rules = (read-begin, read_next, read_done, image-not, image-few, image-read)
