-- The laws of order 8. "Its output is always accepted by the reader, and on an accepted image it changes nothing"; "kept plus dropped equals the stated rows".
-- Which row is kept is one rule for both: the reader accepts exactly what rescue leaves as it is.
-- Assumes nothing.
use Prim.Native.Nat.{ℕ, zero, suc, ◌+◌, ◌*◌, ◌≤◌}
use mathlib.Core.Path.{◌≡◌, refl, sym, ap, ◌∙◌}
use mathlib.Core.Logic.{◌↔◌}
use mathlib.Core.Bool.{Bool, true, false, cond, ◌&&◌}
use mathlib.Core.List.{List, [], ◌∷◌, ◌++◌, map, append-nil}
use native.Mathlib.Omega.{arith}
use borrow.Author.Tests.{eqb-true, leb-true, eq-eqb, le-leb}
use lib.Dec.{eqb, leb}
use lib.ListN.{length, get_or, drop, length-append, length-map, length-drop, get_or-map}
use lib.Seq.{append_snoc}
use Rattle.lists.specs.Lists.{sum}
use Rattle.lists.specs.Each.{Each, each_nil, each-cons, Pairs, pairs-nil, pairs-cons}
use Rattle.lists.proofs.Tests.{split, and_left, and_right, and_both}
use Rattle.lists.proofs.Each.{each-imp, each-imp₂, each_all, each_append, pairs-append}
use Rattle.rows.specs.Bytes.{Bytes, bits_number}
use Rattle.rows.specs.Rows.{rows, every}
use Rattle.rows.proofs.Bytes.{bytes_drop, bits-first, bits-rest}
use Rattle.rows.proofs.Rows.{rows-length, rows-bytes, rows_whole, every-by, by-every, pairwise-by, by-pairwise}
use Rattle.rows.proofs.Loops.{and-true, and_assoc}
use Rattle.table.specs.Table.{places}
use Rattle.module_state.specs.Module.{unprovisioned, words_of, taken}
use Rattle.module_state.specs.declared.Grants.{Grants}
use Rattle.module_state.specs.declared.Words.{Words}
use Rattle.module_rules.proofs.Laws.{words-taken}
use Rattle.image.specs.declared.SavedRow.{SavedRow}
use Rattle.image.specs.Image.{words_at, saved_size, saved_name_at, image_long, Image, mask_of, grant_in, second_in, seconds_bytes, image_bytes, head_in, grants_in, saved_from, saved_in, image_in, is_whole, is_owner, is_keepable, differ, head_fits, words_fit, image_fits, is_image}
use Rattle.image_damaged.specs.Rescue.{is_usable, nonzero, words_cleared, cleared, stated, has_new_name, is_kept, kept_with, keep, rows_kept, are_dropped, rows_dropped, places_of, dropped, places_told, rescued_image, rescued, rescued_long}
use Rattle.image.proofs.Rows.{NoSecond, RowFits, saved-codec, taken-same, words-fit}
use Rattle.image.proofs.Laws.{each_map, each-unmap, pairs-map, pairs-unmap, Head, head-has, Sound, sound, image, offset-high, Fit, grants-eight, grants-words, no-seconds, saved-length, image-is, image-back, image-bytes, image-forth}

-- ---- the words: none is cleared exactly where all fit
nonzero-none : (word : ℕ) → nonzero word ≡ 0 → eqb word 0 ≡ true
unfolding nonzero
nonzero-none word e = split (eqb word 0) (λ t. t) (λ t. absurd (omega (arith, rw t at e)))

none-nonzero : (word : ℕ) → eqb word 0 ≡ true → nonzero word ≡ 0
unfolding nonzero
none-nonzero word e = rw e

fits-cleared : (g : Grants) → words_fit g ≡ true → words_cleared g ≡ 0
unfolding words_fit words_cleared
fits-cleared g e =
    split g.provisioned
    (λ p. rw p)
    (λ p.
    let both : (eqb g.words.grant 0 && eqb g.words.second 0) ≡ true = rw p at e in
    rw (p, none-nonzero g.words.grant (and_left (eqb g.words.grant 0) _ both), none-nonzero g.words.second (and_right (eqb g.words.grant 0) _ both)))

cleared-fits : (g : Grants) → words_cleared g ≡ 0 → words_fit g ≡ true
unfolding words_fit words_cleared
cleared-fits g e =
    split g.provisioned
    (λ p. rw p)
    (λ p.
    let none : nonzero g.words.grant + nonzero g.words.second ≡ 0 = rw p at e in
    rw p (and_both (nonzero-none g.words.grant (omega arith)) (nonzero-none g.words.second (omega arith))))

all-cleared : {l : List Grants} → Each (λ g. words_fit g ≡ true) l → sum (map words_cleared l) ≡ 0
unfolding sum
all-cleared each_nil = refl
all-cleared (each-cons {x = g} e v) = rw (fits-cleared g e, all-cleared v)

none-cleared : (l : List Grants) → sum (map words_cleared l) ≡ 0 → Each (λ g. words_fit g ≡ true) l
unfolding sum
none-cleared [] e = each_nil
none-cleared (g ∷ l) e = each-cons (cleared-fits g (omega arith)) (none-cleared l (omega arith))

-- ---- the rows: which are kept, and which are dropped
module _ (grants : List Grants) where
  new-snoc : (before : List SavedRow) (r x : SavedRow) → has_new_name (before ++ (r ∷ [])) x ≡ (has_new_name before x && differ r x)
  unfolding has_new_name every
  new-snoc [] r x = and-true (differ r x)
  new-snoc (q ∷ before) r x = rw (new-snoc before r x) (sym (and_assoc (differ q x) (has_new_name before x) (differ r x)))

  module _ (before : List SavedRow) (part : List ℕ) where
    pub with-kept : is_kept grants before part ≡ true → kept_with grants before part ≡ before ++ (saved_from part ∷ [])
    unfolding kept_with
    with-kept t = rw t

    pub with-dropped : is_kept grants before part ≡ false → kept_with grants before part ≡ before
    unfolding kept_with
    with-dropped t = rw t

    record Kept : Type 0 where
      pub whole : length part ≡ saved_size
      pub keepable : is_keepable grants (saved_from part) ≡ true
      pub new : has_new_name before (saved_from part) ≡ true

    kept-has : is_kept grants before part ≡ true → Kept
    unfolding is_kept is_whole
    kept-has t =
        let rest = and_right (eqb (length part) saved_size) _ t in
        record {
          whole = eqb-true (length part) saved_size (and_left (eqb (length part) saved_size) _ t);
          keepable = and_left (is_keepable grants (saved_from part)) _ rest;
          new = and_right (is_keepable grants (saved_from part)) _ rest;
        }

    kept-is : Kept → is_kept grants before part ≡ true
    unfolding is_kept is_whole
    kept-is v = and_both (eq-eqb (length part) saved_size v.whole) (and_both v.keepable v.new)

  -- of parts that are all whole, may all be kept and have names that all differ
  record AllKept (before : List SavedRow) (l : List (List ℕ)) : Type 0 where
    pub whole : Each (λ p. length p ≡ saved_size) l
    pub keepable : Each (λ p. is_keepable grants (saved_from p) ≡ true) l
    pub new : Each (λ p. has_new_name before (saved_from p) ≡ true) l
    pub names : Pairs (λ p q. differ (saved_from p) (saved_from q) ≡ true) l

  all_keep : (before : List SavedRow) (l : List (List ℕ)) → Each (λ p. length p ≡ saved_size) l → Each (λ p. is_keepable grants (saved_from p) ≡ true) l → Each (λ p. has_new_name before (saved_from p) ≡ true) l
      → Pairs (λ p q. differ (saved_from p) (saved_from q) ≡ true) l → (keep grants before l ≡ before ++ map saved_from l) × (bits_number (are_dropped grants before l) ≡ 0)
  unfolding keep are_dropped bits_number
  all_keep before [] each_nil each_nil each_nil pairs-nil = (sym (append-nil before), refl)
  all_keep before (p ∷ l) (each-cons w ws) (each-cons k ks) (each-cons n ns) (pairs-cons d ds) =
      let t : is_kept grants before p ≡ true = kept-is before p (record { whole = w; keepable = k; new = n }) in
      let rest = all_keep (before ++ (saved_from p ∷ [])) l ws ks (each-imp₂ (λ x a e. new-snoc before (saved_from p) (saved_from x) ∙ and_both a e) ns d) ds in
      (rw (with-kept before p t) (rest.0 ∙ append_snoc before (saved_from p) (map saved_from l)), rw (with-kept before p t, t, rest.1))

  keep_all : (before : List SavedRow) (l : List (List ℕ)) → bits_number (are_dropped grants before l) ≡ 0 → AllKept before l
  unfolding are_dropped bits_number
  keep_all before [] e = record { whole = each_nil; keepable = each_nil; new = each_nil; names = pairs-nil }
  keep_all before (p ∷ l) e =
      split (is_kept grants before p)
      (λ t.
      let here : Kept before p = kept-has before p t in
      let left : bits_number (are_dropped grants (before ++ (saved_from p ∷ [])) l) * 2 + 0 ≡ 0 = rw (t, with-kept before p t) at e in
      let rest : AllKept (before ++ (saved_from p ∷ [])) l = keep_all (before ++ (saved_from p ∷ [])) l (omega arith) in
      let both : Each (λ x. (has_new_name before (saved_from x) && differ (saved_from p) (saved_from x)) ≡ true) l = each-imp (λ x h. sym (new-snoc before (saved_from p) (saved_from x)) ∙ h) rest.new in
      record {
        whole = each-cons here.whole rest.whole;
        keepable = each-cons here.keepable rest.keepable;
        new = each-cons here.new (each-imp (λ x h. and_left (has_new_name before (saved_from x)) (differ (saved_from p) (saved_from x)) h) both);
        names = pairs-cons (each-imp (λ x h. and_right (has_new_name before (saved_from x)) (differ (saved_from p) (saved_from x)) h) both) rest.names;
      })
      (λ t. absurd (omega (arith, rw t at e)))

  -- what is kept may be kept, and its names differ, whatever the parts are
  record Good (l : List SavedRow) : Type 0 where
    pub keepable : Each (λ r. is_keepable grants r ≡ true) l
    pub names : Pairs (λ p q. differ p q ≡ true) l
    pub fits : Each RowFits l
    pub bytes : Each (λ r. Bytes r.name.bytes) l

  good-with : (before : List SavedRow) (part : List ℕ) → Bytes part → Good before → Good (kept_with grants before part)
  good-with before part h v =
      split (is_kept grants before part)
      (λ t.
      let here : Kept before part = kept-has before part t in
      rw (with-kept before part t)
      (record {
        keepable = each_append (saved_from part) v.keepable here.keepable;
        names = pairs-append (saved_from part) v.names (every-by (λ q d. d) before (unfold has_new_name in here.new));
        fits = each_append (saved_from part) v.fits (saved-codec.good part here.whole h refl);
        bytes = each_append (saved_from part) v.bytes (unfold saved_from in bytes_drop saved_name_at part h);
      }))
      (λ t. rw (with-dropped before part t) v)

  keep-good : (before : List SavedRow) {l : List (List ℕ)} → Each Bytes l → Good before → Good (keep grants before l)
  unfolding keep
  keep-good before each_nil v = v
  keep-good before (each-cons {x = part} h hs) v = keep-good (kept_with grants before part) hs (good-with before part h v)

  -- each part is kept or dropped
  abbrev trues : List Bool → ℕ
  trues l = sum (map (λ f. cond f 1 0) l)

  kept-or-dropped : (before : List SavedRow) (l : List (List ℕ)) → length (keep grants before l) + trues (are_dropped grants before l) ≡ length before + length l
  unfolding keep are_dropped sum
  kept-or-dropped before [] = refl
  kept-or-dropped before (p ∷ l) =
      split (is_kept grants before p)
      (λ t. rw (with-kept before p t, t) (omega (arith, kept-or-dropped (before ++ (saved_from p ∷ [])) l, length-append before (saved_from p ∷ []))))
      (λ t. rw (with-dropped before p t, t) (omega (arith, kept-or-dropped before l)))

  drops-length : (before : List SavedRow) (l : List (List ℕ)) → length (are_dropped grants before l) ≡ length l
  unfolding are_dropped
  drops-length before [] = refl
  drops-length before (p ∷ l) = rw (drops-length (kept_with grants before p) l)

-- ---- the report's number tells the places
bits_none : bits_number [] ≡ 0
unfolding bits_number
bits_none = refl

places-none : (n at : ℕ) → places_told n at 0 ≡ []
unfolding places_told
places-none zero at = refl
places-none (suc n) at = places-none n (at + 1)

pub places-back : (n at : ℕ) (l : List Bool) → length l ≤ n → places_told n at (bits_number l) ≡ places_of at l
unfolding places_told places_of
places-back n at [] h = ap (places_told n at) bits_none ∙ places-none n at
places-back zero at (f ∷ l) h = absurd (omega arith)
places-back (suc n) at (f ∷ l) h = rw (bits-first f l, bits-rest f l, places-back n (at + 1) l (omega arith))

places-many : (at : ℕ) (l : List Bool) → length (places_of at l) ≡ sum (map (λ f. cond f 1 0) l)
unfolding places_of sum
places-many at [] = refl
places-many at (true ∷ l) = omega (arith, places-many (at + 1) l)
places-many at (false ∷ l) = omega (arith, places-many (at + 1) l)

-- ---- usable bytes
record Usable (b : List ℕ) : Type 0 where
  pub fits : head_fits (head_in b) ≡ true
  pub words : (head_in b).offset ≤ length b

usable : (b : List ℕ) → is_usable b ≡ true → Usable b
unfolding is_usable
usable b u =
    let rest = and_right (leb words_at (length b)) _ u in
    record {
      fits = and_left (head_fits (head_in b)) _ rest;
      words = leb-true (head_in b).offset (length b) (and_right (head_fits (head_in b)) _ rest);
    }

pub usable-head : (b : List ℕ) → is_usable b ≡ true → Head (head_in b)
usable-head b u = head-has (head_in b) (usable b u).fits

-- which are so where the head fits and the words are there: a whole header is asked for by that
pub usable-is : (b : List ℕ) → head_fits (head_in b) ≡ true → (head_in b).offset ≤ length b → is_usable b ≡ true
unfolding is_usable
usable-is b h w =
    let whole : words_at ≤ length b = omega (arith, offset-high (head_in b).offset (head-has (head_in b) h).offset) in
    and_both (le-leb words_at (length b) whole) (and_both h (le-leb (head_in b).offset (length b) w))

stated-length : (b : List ℕ) → length (stated b) ≡ (head_in b).rows
unfolding stated
stated-length b = rows-length (head_in b).rows saved_size (drop (head_in b).offset b)

-- the law of counts, of any bytes: each stated row is kept or dropped
pub counts-are : (b : List ℕ) → length (rows_kept b) + length (places_of 0 (rows_dropped b)) ≡ (head_in b).rows
unfolding rows_kept rows_dropped
counts-are b = rw (places-many 0 (are_dropped (grants_in b) [] (stated b))) (omega (arith, kept-or-dropped (grants_in b) [] (stated b), stated-length b))

pub kept-few : (b : List ℕ) → length (rows_kept b) ≤ (head_in b).rows
kept-few b = omega (arith, counts-are b)

module _ (b : List ℕ) (u : is_usable b ≡ true) where
  -- so the report tells the places: "the place of each row dropped"
  pub places-are : places_told 16 0 (dropped b) ≡ places_of 0 (rows_dropped b)
  unfolding dropped rows_dropped
  places-are = places-back 16 0 (are_dropped (grants_in b) [] (stated b)) (rw (drops-length (grants_in b) [] (stated b), stated-length b) (omega (arith, (usable-head b u).few)))

  -- "kept plus dropped equals the stated rows, missing ones counted as dropped"
  pub rescue-counts : length (rows_kept b) + length (places_told 16 0 (dropped b)) ≡ (head_in b).rows
  rescue-counts = rw places-are (counts-are b)

-- ---- an image is written with the words of the unprovisioned taken as zero, whatever they are
module _ (g : Grants) where
  taken-words : words_of (taken g) ≡ words_of g
  unfolding taken words_of
  taken-words = split g.provisioned (λ e. rw e) (λ e. rw e)

  taken-grant : grant_in (taken g) ≡ grant_in g
  unfolding grant_in
  taken-grant = ap (λ (w : Words). w.grant) taken-words

  taken-second : second_in (taken g) ≡ second_in g
  unfolding second_in
  taken-second = ap (λ (w : Words). w.second) taken-words

  taken-provisioned : (taken g).provisioned ≡ g.provisioned
  unfolding taken
  taken-provisioned = refl

map_same : {A : Type 0} (f : Grants → A) → ((g : Grants) → f (taken g) ≡ f g) → (l : List Grants) → map f (map taken l) ≡ map f l
map_same f e [] = refl
map_same f e (g ∷ l) = rw (e g, map_same f e l)

pub taken-bytes : (offset : ℕ) (l : List Grants) (saved : List SavedRow)
    → image_bytes (record { offset = offset; grants = map taken l; saved = saved }) ≡ image_bytes (record { offset = offset; grants = l; saved = saved })
unfolding image_bytes mask_of seconds_bytes
taken-bytes offset l saved = rw (map_same (λ (g : Grants). g.provisioned) taken-provisioned l, map_same grant_in taken-grant l, map_same second_in taken-second l)

-- ---- "Its output is always accepted by the reader", and "The layout stays."
owner-same : (l : List Grants) (i : ℕ) → (get_or (map taken l) i unprovisioned).provisioned ≡ (get_or l i unprovisioned).provisioned
unfolding taken words_of
owner-same l i = ap (λ (g : Grants). g.provisioned) (get_or-map taken l i unprovisioned)

keepable-same : (l : List Grants) (r : SavedRow) → is_keepable (map taken l) r ≡ is_keepable l r
unfolding is_keepable is_owner
keepable-same l r = rw (owner-same l r.owner.0)

none-second : {l : List Grants} → Each NoSecond l → Each NoSecond (map taken l)
unfolding taken words_of
none-second each_nil = each_nil
none-second (each-cons {x = g} p v) = each-cons {x = taken g} (record { zero = split g.provisioned (λ e. rw e p.zero) (λ e. rw e) }) (none-second v)

module _ (b : List ℕ) (g : Bytes b) (u : is_usable b ≡ true) where
  v : Usable b
  v = usable b u

  good : Good (grants_in b) (rows_kept b)
  unfolding rows_kept stated
  good =
      keep-good (grants_in b) [] (rows-bytes (head_in b).rows saved_size (drop (head_in b).offset b) (bytes_drop (head_in b).offset b g))
      (record { keepable = each_nil; names = pairs-nil; fits = each_nil; bytes = each_nil })

  rescued-fit : Fit (rescued_image b)
  unfolding rescued_image
  rescued-fit =
      record {
        offset = (usable-head b u).offset;
        eight = length-map (grants_in b) taken ∙ grants-eight b;
        words = words-taken (grants-words b g (usable-head b u).offset v.words);
        seconds = λ n. none-second (no-seconds b n);
        few = omega (arith, kept-few b, (usable-head b u).few);
        each = good.fits;
      }

  rescued-fits : image_fits (rescued_image b) ≡ true
  unfolding image_fits rescued_image
  rescued-fits =
      and_both (by-every words-fit rescued-fit.words)
      (and_both (by-every (λ r k. keepable-same (grants_in b) r ∙ k) good.keepable) (by-pairwise (λ p q d. d) good.names))

  pub rescued-accepted : is_image (rescued b) ≡ true
  unfolding rescued
  rescued-accepted = image-is rescued-fit rescued-fits

  -- it says what was kept, in the layout that it had
  pub rescued-says : image_in (rescued b) ≡ rescued_image b
  unfolding rescued
  rescued-says = image-back rescued-fit

  pub rescued-layout : (head_in (rescued b)).offset ≡ (head_in b).offset
  unfolding image_in rescued_image
  rescued-layout = ap (λ (i : Image). i.offset) rescued-says

  pub rescued-length : length (rescued b) ≡ rescued_long b
  unfolding image_in rescued_image rescued_long
  rescued-length =
      let rows : (head_in (rescued b)).rows ≡ length (rows_kept b) = sym (saved-length (rescued b)) ∙ ap (λ (i : Image). length i.saved) rescued-says in
      (image (rescued b) rescued-accepted).long ∙ rw (rescued-layout, rows)

  pub rescued-bytes : Bytes (rescued b)
  unfolding rescued rescued_image
  rescued-bytes = image-bytes (rescued_image b) good.bytes

-- ---- "on an accepted image it changes nothing", and reports nothing
pub record LeavesAll (b : List ℕ) : Type 0 where
  pub usable-is : is_usable b ≡ true
  pub long : length b ≡ image_long (head_in b).offset (head_in b).rows
  pub cleared-none : cleared b ≡ 0
  pub dropped-none : dropped b ≡ 0

module _ (b : List ℕ) (e : is_image b ≡ true) where
  rows_all : (rows_kept b ≡ saved_in b) × (dropped b ≡ 0)
  unfolding rows_kept dropped rows_dropped stated saved_in image_in image_long
  rows_all =
      let parts : List (List ℕ) = rows (head_in b).rows saved_size (drop (head_in b).offset b) in
      let held : Sound (image_in b) = sound (image_in b) (image b e).fits in
      let room : (head_in b).rows * saved_size ≤ length (drop (head_in b).offset b) = simp length-drop (omega (arith, (image b e).long)) in
      all_keep (grants_in b) [] parts
      (rows_whole (head_in b).rows saved_size (drop (head_in b).offset b) room)
      (each-unmap saved_from parts (every-by (λ r q. q) (map saved_from parts) held.keepable))
      (each_all parts (λ p. unfold has_new_name every in refl))
      (pairs-unmap saved_from parts (pairwise-by (λ p q d. d) (map saved_from parts) held.names))

  words-all : Each (λ g. words_fit g ≡ true) (grants_in b)
  unfolding image_in
  words-all = every-by (λ g q. q) (grants_in b) (sound (image_in b) (image b e).fits).words

  image-usable : is_usable b ≡ true
  unfolding is_image image_long
  image-usable = usable-is b (and_left (head_fits (head_in b)) _ e) (omega (arith, (image b e).long))

  pub leaves_all : LeavesAll b
  unfolding cleared
  leaves_all = record { usable-is = image-usable; long = (image b e).long; cleared-none = all-cleared words-all; dropped-none = rows_all.1 }

  same-image : rescued_image b ≡ image_in b
  unfolding rescued_image image_in
  same-image = rw (taken-same words-all, rows_all.0)

  pub kept-all : length (rows_kept b) ≡ (head_in b).rows
  kept-all = ap length rows_all.0 ∙ saved-length b

  pub rescued-long : rescued_long b ≡ length b
  unfolding rescued_long
  rescued-long = rw kept-all (sym (image b e).long)

  pub rescue-same : Bytes b → rescued b ≡ b
  unfolding rescued
  rescue-same g = ap image_bytes same-image ∙ image-forth b g e

-- ---- so the reader accepts exactly what rescue leaves as it is
pub reader-is : (b : List ℕ) → (is_image b ≡ true) ↔ LeavesAll b
unfolding is_image image_fits image_in saved_in cleared dropped rows_dropped stated
reader-is b = (
  leaves_all b,
  λ v.
      let kept = keep_all (grants_in b) [] (rows (head_in b).rows saved_size (drop (head_in b).offset b)) v.dropped-none in
      and_both (usable b v.usable-is).fits
      (and_both (eq-eqb (length b) (image_long (head_in b).offset (head_in b).rows) v.long)
      (and_both (by-every (λ g q. q) (none-cleared (grants_in b) v.cleared-none))
      (and_both (by-every (λ r q. q) (each_map saved_from kept.keepable)) (by-pairwise (λ p q d. d) (pairs-map saved_from kept.names))))),
)

pub reader-exactly : (b : List ℕ) → Bytes b → (is_image b ≡ true) ↔ ((is_usable b ≡ true) × (rescued b ≡ b))
reader-exactly b g = (λ e. (image-usable b e, rescue-same b e g), λ v. rw v.1 at (rescued-accepted b g v.0))

-- and to rescue twice is to rescue once
pub rescued-twice : (b : List ℕ) → Bytes b → is_usable b ≡ true → rescued (rescued b) ≡ rescued b
rescued-twice b g u = rescue-same (rescued b) (rescued-accepted b g u) (rescued-bytes b g u)
