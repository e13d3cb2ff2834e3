-- The laws that close the needs of this crate's functions by `search rules`: each premise is as a place's record has it.
-- Assumes nothing.
use Rattle.std.specs.Prelude.{Some}
use Rattle.std.specs.List.{list_all}
use Prim.Native.Nat.{ℕ, suc, ◌+◌, ◌-◌, ◌*◌, ◌^◌, ◌<◌, ◌≤◌}
use mathlib.Core.Path.{◌≡◌, refl, sym, ap, ◌∙◌}
use mathlib.Core.Bool.{Bool, true, false, cond, not}
use mathlib.Core.List.{List, [], ◌∷◌, ◌++◌, map, append-nil}
use native.Mathlib.Nat.{zero-add, pow-suc}
use native.Mathlib.Numerals.{add-one}
use native.Mathlib.Omega.{arith}
use borrow.Author.Rules.{rules as std_rules}
use borrow.Author.Tests.{lt-ltb, le-ltb, ne_eqb, eq-eqb, leb-true, not-true, not-false, eqb-true}
use borrow.Rule.Slice.PartMut.{put_mid}
use mir.Syntax.{w16, w64}
use mir.Val.{Fits, bool_byte as from_bool}
use lib.Dec.{eqb, leb}
use lib.Pow.{pow_mono}
use lib.ListN.{length, get_or, take, drop, set, length-set, length-take, length-drop, length-append, drop_of_length-le}
use lib.Seq.{take_at, set_split, drop-cons, drop-drop, length-take-le, append_snoc}
use Rattle.lists.specs.Lists.{sum, join}
use Rattle.lists.proofs.Lists.{length-mapped}
use Rattle.lists.proofs.Tests.{split, and_left}
use Rattle.rows.specs.Bytes.{bits_number}
use Rattle.rows.specs.Rows.{rows, every, over, Put}
use Rattle.rows.proofs.Bytes.{bits_small, bits-more}
use Rattle.rows.proofs.Rows.{rows-length, row-at}
use Rattle.rows.proofs.Over.{put-length, put_next}
use Rattle.rows.proofs.Loops.{and-false, Wrote, wrote-begin, wrote-length, wrote-room, wrote-part, wrote_on, wrote-all}
use Rattle.names.specs.Names.{same_name}
use Rattle.table.specs.Table.{places}
use Rattle.module_state.specs.Module.{unprovisioned, credential_count}
use Rattle.module_state.specs.Numbers.{◌when◌, ◌unless◌, ◌▸◌}
use Rattle.module_state.specs.declared.Grants.{Grants}
use Rattle.image.specs.declared.ImageHead.{ImageHead}
use Rattle.image.specs.declared.SavedRow.{SavedRow}
use Rattle.image.specs.Image.{words_at, saved_size, is_row_offset, image_long, image_bytes, front_bytes, front_long, head_in, grants_among, grants_in, saved_from, saved_bytes, is_whole, read_saved, saved_over, is_keepable, differ, head_fits}
use Rattle.image_damaged.specs.Rescue.{Rescued, is_usable, nonzero, words_cleared, has_new_name, cleared, stated, is_kept, kept_with, keep, rows_kept, are_dropped, rows_dropped, dropped, rescued_image, rescued, rescued_long, rescue_number, refused_by, rescue_answer, RescueWritten}
use Rattle.image.proofs.Rows.{SummedTo, sum-begin, sum-few, sum-next, sum_done}
use Rattle.image.proofs.Laws.{offset-low, Head, front-rows}
use Rattle.image_damaged.proofs.Laws.{with-kept, with-dropped, usable-head, usable-is, taken-bytes}
use Rattle.image_row.proofs.Laws.{row_read, row-over}
use Rattle.image_front.proofs.Laws.{front-put}
use Rattle.image_rescue.specs.Sorted.{SortedAs}
use Rattle.image_rescue.specs.declared.Sorted.{Sorted}

-- ---- the head and the words
module _ (b : List ℕ) {h : ImageHead} (e : h ≡ head_in b) {t : Bool} (f : t ≡ head_fits h) where
  pub usable-not : t ≡ false → false ≡ is_usable b
  unfolding is_usable
  usable-not n = rw (← e, ← f, n, and-false (leb words_at (length b)))

  pub usable-words : t ≡ true → leb h.offset (length b) ≡ is_usable b
  usable-words n =
      let fits : head_fits (head_in b) ≡ true = rw e at (sym f ∙ n) in
      split (leb (head_in b).offset (length b))
      (λ l. rw (e, l) (sym (usable-is b fits (leb-true (head_in b).offset (length b) l))))
      (λ l. rw (e, l) (unfold is_usable in rw (l, and-false (head_fits (head_in b)), and-false (leb words_at (length b)))))

module _ (word : ℕ) where
  pub nonzero-byte : from_bool (not (eqb word 0)) ≡ nonzero word
  unfolding nonzero
  nonzero-byte = split (eqb word 0) (λ e. rw e) (λ e. rw e)

  nonzero-low : nonzero word ≤ 1
  unfolding nonzero
  nonzero-low = split (eqb word 0) (λ e. rw e (omega arith)) (λ e. rw e (omega arith))

pub both-fit : (a b : ℕ) {x y : ℕ} → x ≡ nonzero a → y ≡ nonzero b → Fits w16 (x + y)
both-fit a b p q = omega (arith, p, q, nonzero-low a, nonzero-low b)

module _ (g : Grants) where
  pub cleared-none : g.provisioned ≡ true → 0 ≡ words_cleared g
  unfolding words_cleared
  cleared-none e = rw e

  pub cleared_both : {x y : ℕ} → g.provisioned ≡ false → x ≡ nonzero g.words.grant → y ≡ nonzero g.words.second → x + y ≡ words_cleared g
  unfolding words_cleared
  cleared_both e p q = rw (e, p, q)

  cleared-few : words_cleared g ≤ 2
  unfolding words_cleared
  cleared-few = split g.provisioned (λ e. rw e (omega arith)) (λ e. rw e (omega (arith, nonzero-low g.words.grant, nonzero-low g.words.second)))

module _ {grants : List Grants} {s i : ℕ} (v : SummedTo words_cleared 2 grants s i) where
  module _ (h : i < credential_count) {x : ℕ} (e : x ≡ words_cleared (get_or grants i unprovisioned)) where
    few : x ≤ 2
    few = rw e (cleared-few (get_or grants i unprovisioned))

    pub cleared-fit : Fits w16 (s + x)
    cleared-fit = omega (arith, sum-few v h e few)

    pub cleared-next : SummedTo words_cleared 2 grants (s + x) (i + 1)
    cleared-next = sum-next v h e few

-- ---- a row's name with those kept before
new_names : (held : List SavedRow) (row : SavedRow) → list_all (λ q. not (same_name q.name row.name)) held ≡ has_new_name held row
unfolding has_new_name every differ
new_names [] row = refl
new_names (q ∷ held) row = rw (new_names held row)

-- ---- a row by itself
module _ (b : List ℕ) (at : ℕ) where
  abbrev part : List ℕ
  part = take saved_size (drop at b)

  abbrev lent : List ℕ
  lent = take (at + saved_size - at) (drop at b)

  same-part : lent ≡ part
  same-part = let e : at + saved_size - at ≡ saved_size = omega arith in rw e

  module _ (h : at + saved_size ≤ length b) where
    long : length part ≡ saved_size
    long = simp (length-take, length-drop) (omega arith)

    whole : is_whole part ≡ true
    unfolding is_whole
    whole = eq-eqb (length part) saved_size long

    pub saved-is : read_saved lent ≡ Some (saved_from part)
    saved-is = rw same-part (row_read part long)

    module _ (grants : List Grants) (before : List SavedRow) {k : Bool} (e : k ≡ is_keepable grants (saved_from lent)) where
      pub kept-not : k ≡ false → false ≡ is_kept grants before part
      unfolding is_kept
      kept-not n = rw (whole, rw same-part at (sym e ∙ n))

      pub kept_new : k ≡ true → {row : SavedRow} {n : Bool} → row ≡ saved_from part → n ≡ list_all (λ q. not (same_name q.name row.name)) before → n ≡ is_kept grants before part
      unfolding is_kept
      kept_new n {row} f g = g ∙ new_names before row ∙ rw (f, whole, rw same-part at (sym e ∙ n))

  pub kept-cut : (grants : List Grants) (before : List SavedRow) → length b < at + saved_size → false ≡ is_kept grants before part
  unfolding is_kept is_whole
  kept-cut grants before h =
      let short : length part ≡ saved_size → ⊥ = λ e. omega (arith, length-take saved_size (drop at b), length-drop at b, e) in
      rw (ne_eqb (length part) saved_size short)

-- ---- the stated rows: of the first i, those kept are in front of the array, and those dropped are told
abbrev parts_of : List ℕ → ℕ → ℕ → List (List ℕ)
parts_of b offset n = rows n saved_size (drop offset b)

pub record Sorting (grants : List Grants) (b : List ℕ) (offset n : ℕ) (held : List SavedRow) (kept dropped bit i : ℕ) : Type 0 where
  pub small : n ≤ places
  pub low : i ≤ n
  pub few : kept ≤ i
  pub long : length held ≡ places
  pub rest : keep grants [] (parts_of b offset n) ≡ keep grants (take kept held) (drop i (parts_of b offset n))
  pub told : List Bool
  pub told-many : length told ≡ i
  pub flags : are_dropped grants [] (parts_of b offset n) ≡ told ++ are_dropped grants (take kept held) (drop i (parts_of b offset n))
  pub dropped-is : dropped ≡ bits_number told
  pub bit_is : bit ≡ 2 ^ i

pub sorting-begin : (grants : List Grants) (b : List ℕ) (offset n : ℕ) (held : List SavedRow) → n ≤ places → length held ≡ places
    → Sorting grants b offset n held 0 0 1 0
unfolding bits_number
sorting-begin grants b offset n held h l =
    record { small = h; low = omega arith; few = omega arith; long = l; rest = refl; told = []; told-many = refl; flags = refl; dropped-is = refl; bit_is = refl }

module _ {grants : List Grants} {b : List ℕ} {offset n : ℕ} {held : List SavedRow} {kept dropped bit i : ℕ} (v : Sorting grants b offset n held kept dropped bit i) where
  abbrev parts : List (List ℕ)
  parts = parts_of b offset n

  parts-many : length parts ≡ n
  parts-many = rows-length n saved_size (drop offset b)

  abbrev before : List SavedRow
  before = take kept held

  module _ (h : i < n) where
    abbrev here : List ℕ
    here = take saved_size (drop (offset + i * saved_size) b)

    ahead : drop i parts ≡ here ∷ drop (i + 1) parts
    ahead = drop-cons parts i [] (rw parts-many h) ∙ rw (row-at n saved_size (drop offset b) i [] h, drop-drop (i * saved_size) offset b, add-one)

    bit-low : bit ≤ 2048
    bit-low = let k : i ≤ 11 = omega (arith, v.small) in omega (arith, v.bit_is, pow_mono k)

    pub bit-fits : Fits w16 (bit * 2)
    bit-fits = omega (arith, bit-low)

    dropped-low : dropped < bit
    dropped-low = rw (v.dropped-is, v.bit_is, ← v.told-many) (bits_small v.told)

    pub dropped-fits : Fits w16 (dropped + bit)
    dropped-fits = omega (arith, bit-low, dropped-low)

    pub at-fits : is_row_offset offset ≡ true → Fits w64 (offset + i * saved_size)
    at-fits o = omega (arith, offset-low offset o, v.small)

    pub at_low : is_row_offset offset ≡ true → offset + i * saved_size ≤ 65535
    at_low o = omega (arith, offset-low offset o, v.small)

    pub kept-places : kept ≤ places
    kept-places = omega (arith, v.few, v.small)

    pub kept-inside : kept < places
    kept-inside = omega (arith, v.few, v.small)

    module _ {t : Bool} (e : t ≡ is_kept grants before here) where
      pub kept_whole : t ≡ true → offset + i * saved_size + saved_size ≤ length b
      unfolding is_kept is_whole
      kept_whole y =
          let is : length here ≡ saved_size = eqb-true (length here) saved_size (and_left (eqb (length here) saved_size) _ (sym e ∙ y)) in
          omega (arith, length-take saved_size (drop (offset + i * saved_size) b), length-drop (offset + i * saved_size) b, is)

      turned : {held' : List SavedRow} {kept' dropped' : ℕ} → length held' ≡ places → kept' ≤ i + 1 → take kept' held' ≡ kept_with grants before here → dropped' ≡ dropped + cond (not t) bit 0
          → Sorting grants b offset n held' kept' dropped' (bit * 2) (i + 1)
      unfolding keep are_dropped
      turned m w k d =
          record {
            small = v.small;
            low = omega arith;
            few = w;
            long = m;
            rest = v.rest ∙ rw (ahead, k);
            told = v.told ++ (not t ∷ []);
            told-many = rw length-append (omega (arith, v.told-many));
            flags = v.flags ∙ rw (ahead, k, ← e) (sym (append_snoc v.told (not t) (are_dropped grants (kept_with grants before here) (drop (i + 1) parts))));
            dropped-is = d ∙ rw (bits-more v.told (not t), v.told-many, ← v.dropped-is, ← v.bit_is);
            bit_is = rw (add-one, pow-suc, v.bit_is);
          }

      pub sorted-kept : t ≡ true → {row : SavedRow} {held' : List SavedRow} {kept' dropped' : ℕ} → row ≡ saved_from here → held' ≡ set held kept row → kept' ≡ kept + 1 → dropped' ≡ dropped
          → Sorting grants b offset n held' kept' dropped' (bit * 2) (i + 1)
      sorted-kept y {row} r s p q =
          let room : kept < length held = rw v.long kept-inside in
          let front : length (before ++ (row ∷ [])) ≡ kept + 1 = rw length-append (omega (arith, length-take-le kept held (omega arith))) in
          let put : set held kept row ≡ (before ++ (row ∷ [])) ++ drop (suc kept) held = set_split held kept row room ∙ sym (append_snoc before row (drop (suc kept) held)) in
          let with_row : take (kept + 1) (set held kept row) ≡ before ++ (row ∷ []) = rw put (take_at (before ++ (row ∷ [])) (drop (suc kept) held) (kept + 1) front) in
          rw (s, p, q) (turned (length-set held kept row ∙ v.long) (omega (arith, v.few)) (with_row ∙ rw (with-kept grants before here (sym e ∙ y), r)) (rw y (omega arith)))

      pub sorted-dropped : t ≡ false → {held' : List SavedRow} {kept' dropped' : ℕ} → held' ≡ held → kept' ≡ kept → dropped' ≡ dropped + bit → Sorting grants b offset n held' kept' dropped' (bit * 2) (i + 1)
      sorted-dropped y s p q = rw (s, p, q) (turned v.long (omega (arith, v.few)) (sym (with-dropped grants before here (sym e ∙ y))) (rw y))

  pub sorted_all : n ≤ i → SortedAs grants (rows n saved_size (drop offset b)) (record { rows = held; kept = kept; dropped = dropped })
  unfolding keep are_dropped
  sorted_all h =
      let past : length parts ≤ i = omega (arith, parts-many) in
      let none : drop i parts ≡ [] = drop_of_length-le parts past in
      record {
        few = omega (arith, v.few, v.low, v.small);
        rows_are = sym (v.rest ∙ rw none);
        dropped-are = v.dropped-is ∙ ap bits_number (sym (v.flags ∙ rw none (append-nil v.told)));
      }

-- ---- the rows written: the first i are
pub record PutTo (offset : ℕ) (held : List SavedRow) (old new : List ℕ) (i : ℕ) : Type 0 where
  pub from : is_row_offset offset ≡ true
  pub few : length held ≤ places
  pub wrote : Wrote saved_bytes saved_size offset held old new i

pub put-begin : (offset : ℕ) (held : List SavedRow) {old : List ℕ} → is_row_offset offset ≡ true → length held ≤ places → image_long offset (length held) ≤ length old → PutTo offset held old old 0
unfolding image_long
put-begin offset held {old} o h r = record { from = o; few = h; wrote = wrote-begin saved_bytes saved_size offset held old r }

module _ {offset : ℕ} {held : List SavedRow} {old new : List ℕ} {i : ℕ} (v : PutTo offset held old new i) where
  pub putting-length : length new ≡ length old
  putting-length = wrote-length v.wrote

  module _ (h : i < length held) where
    pub put-fits : Fits w64 (offset + i * saved_size)
    put-fits = omega (arith, offset-low offset v.from, v.few)

    pub put-ends : Fits w64 (offset + i * saved_size + saved_size)
    put-ends = omega (arith, offset-low offset v.from, v.few)

    pub put-room : offset + i * saved_size + saved_size ≤ length new
    put-room = wrote-room v.wrote h

    pub put_on : (d : SavedRow) {ys : List ℕ} → ys ≡ saved_over (take (offset + i * saved_size + saved_size - (offset + i * saved_size)) (drop (offset + i * saved_size) new)) (get_or held i d)
        → length ys ≡ length (take (offset + i * saved_size + saved_size - (offset + i * saved_size)) (drop (offset + i * saved_size) new))
        → PutTo offset held old (put_mid (offset + i * saved_size) (offset + i * saved_size + saved_size - (offset + i * saved_size)) new ys) (i + 1)
    put_on d e g = record { from = v.from; few = v.few; wrote = wrote_on v.wrote d h (e ∙ row-over _ (wrote-part v.wrote h) (get_or held i d)) g }

  pub put_all : length held ≤ i → Put offset (length held * saved_size) (join (map saved_bytes held)) old new
  put_all h = wrote-all v.wrote h

-- ---- the image written: its front, and its rows
module _ (offset : ℕ) (held : List SavedRow) (o : is_row_offset offset ≡ true) (h : length held ≤ places) where
  pub kept-fits : Fits w16 (length held)
  kept-fits = omega arith

  pub offset-fits : Fits w16 offset
  offset-fits = omega (arith, offset-low offset o)

  module _ (old : List ℕ) (grants : List Grants) (r : image_long offset (length held) ≤ length old) {front : List ℕ}
      (p : front ≡ over 0 (front_long offset) (front_bytes grants (length held) offset) old) (eight : length grants ≡ credential_count) where
    in-front : Put 0 offset (front_bytes grants (length held) offset) old front
    in-front = front-put grants (length held) offset eight o p

    pub front-room : image_long offset (length held) ≤ length front
    front-room = rw (put-length in-front) r

    pub image-put : {new : List ℕ} → Put offset (length held * saved_size) (join (map saved_bytes held)) front new
        → new ≡ over 0 (image_long offset (length held)) (image_bytes (record { offset = offset; grants = grants; saved = held })) old
    unfolding image_long
    image-put {new} q =
        let behind : Put (0 + offset) (length held * saved_size) (join (map saved_bytes held)) front new = rw zero-add q in
        (put_next in-front behind (omega arith)).is ∙ ap (λ x. over 0 (offset + length held * saved_size) x old) (sym (front-rows (record { offset = offset; grants = grants; saved = held })))

-- ---- the whole
refusal : (b old : List ℕ) {number : ℕ} → rescue_number b (length old) ≡ number → eqb number 0 ≡ false → {answer : Rescued} → answer ≡ refused_by number → RescueWritten b old answer old
unfolding rescue_answer
refusal b old n z a = record { answer-is = a ∙ rw (n, z); bytes-are = rw (n, z) }

module _ (b old : List ℕ) {h : ImageHead} (e : h ≡ head_in b) {u : Bool} (f : u ≡ is_usable b) where
  pub rescue-message : not u ≡ true → {answer : Rescued} → answer ≡ refused_by 14 → RescueWritten b old answer old
  rescue-message n =
      let number : rescue_number b (length old) ≡ 14 = unfold rescue_number ◌unless◌ ◌▸◌ in rw (sym f ∙ not-true u n) in
      refusal b old number refl

  module _ (n : not u ≡ false) where
    usable : is_usable b ≡ true
    usable = sym f ∙ not-false u n

    has : Head h
    has = rw e (usable-head b usable)

    pub rescue-from : is_row_offset h.offset ≡ true
    rescue-from = has.offset

    pub rescue-few : h.rows ≤ places
    rescue-few = has.few

    module _ {grants : List Grants} (g : grants ≡ grants_among h.mask h.offset b) {sorted : Sorted} (s : SortedAs grants (rows h.rows saved_size (drop h.offset b)) sorted) where
      grants-are : grants ≡ grants_in b
      unfolding grants_in
      grants-are = g ∙ rw e

      pub long-part : Fits w64 (sorted.kept * saved_size)
      long-part = omega (arith, s.few)

      pub long-fits : Fits w64 (h.offset + sorted.kept * saved_size)
      long-fits = omega (arith, s.few, offset-low h.offset rescue-from)

      pub sorted-few : sorted.kept ≤ places
      sorted-few = s.few

      rows_are : take sorted.kept sorted.rows ≡ rows_kept b
      unfolding rows_kept stated
      rows_are = s.rows_are ∙ rw (grants-are, e)

      dropped-are : sorted.dropped ≡ dropped b
      unfolding dropped rows_dropped stated
      dropped-are = s.dropped-are ∙ rw (grants-are, e)

      module _ (l : length sorted.rows ≡ places) where
        abbrev held : List SavedRow
        held = take sorted.kept sorted.rows

        held-many : length held ≡ sorted.kept
        held-many = length-take-le sorted.kept sorted.rows (omega (arith, s.few))

        pub rescue-held : length held ≤ places
        rescue-held = omega (arith, held-many, s.few)

        kept-many : sorted.kept ≡ length (rows_kept b)
        kept-many = sym held-many ∙ ap length rows_are

        long-is : h.offset + sorted.kept * saved_size ≡ rescued_long b
        unfolding rescued_long image_long
        long-is = rw (e, kept-many)

        image-long : image_long h.offset (length held) ≡ rescued_long b
        unfolding image_long
        image-long = rw held-many long-is

        image-is : image_bytes (record { offset = h.offset; grants = grants; saved = held }) ≡ rescued b
        unfolding rescued rescued_image
        image-is = rw (grants-are, rows_are, e) (sym (taken-bytes (head_in b).offset (grants_in b) (rows_kept b)))

        lacking : length old < h.offset + sorted.kept * saved_size → rescue_number b (length old) ≡ 15
        unfolding rescue_number ◌unless◌ ◌when◌ ◌▸◌
        lacking k = rw (usable, lt-ltb (length old) (rescued_long b) (rw long-is at k))

        pub rescue-room : length old < h.offset + sorted.kept * saved_size → {answer : Rescued} → answer ≡ refused_by 15 → RescueWritten b old answer old
        rescue-room k = refusal b old (lacking k) refl

        module _ (k : h.offset + sorted.kept * saved_size ≤ length old) where
          pub rescue-space : image_long h.offset (length held) ≤ length old
          unfolding image_long
          rescue-space = rw held-many k

          done : rescue_number b (length old) ≡ 0
          unfolding rescue_number ◌unless◌ ◌when◌ ◌▸◌
          done = rw (usable, le-ltb (length old) (rescued_long b) (rw long-is at k))

          pub rescue-done : {new : List ℕ} {c : ℕ} → new ≡ over 0 (image_long h.offset (length held)) (image_bytes (record { offset = h.offset; grants = grants; saved = held })) old
              → c ≡ sum (map words_cleared grants)
              → RescueWritten b old (record { number = 0; length = h.offset + sorted.kept * saved_size; cleared = c; kept = sorted.kept; dropped = sorted.dropped }) new
          unfolding rescue_answer cleared
          rescue-done w c = record { answer-is = rw (done, c, grants-are, long-is, kept-many, dropped-are); bytes-are = w ∙ rw (done, image-is, image-long) }

pub ruleset rules = (std_rules, length-mapped, usable-not, usable-words, nonzero-byte, cleared-none, both-fit, cleared_both, sum-begin, cleared-fit, cleared-next, sum_done, saved-is, kept-not, kept_new, kept-cut, sorting-begin, bit-fits, dropped-fits, at-fits, at_low, kept-places, kept-inside, kept_whole, sorted-kept, sorted-dropped, sorted_all, put-begin, putting-length, put-fits, put-ends, put-room, put_on, put_all, kept-fits, offset-fits, front-room, image-put, rescue-message, rescue-from, rescue-few, long-part, long-fits, sorted-few, rescue-held, rescue-room, rescue-space, rescue-done)
