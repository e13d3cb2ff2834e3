-- "Words, owners and rows in order have one image.", which "holds among those of the new layout": an image is the bytes of what it holds, in its own layout; in
-- the new one it is those of the module that it makes; and a state's image makes the module that the state is after a power cycle.
-- Assumes nothing.
use Prim.Native.Nat.{ℕ, ◌+◌, ◌-◌, ◌*◌, ◌<◌, ◌≤◌}
use mathlib.Core.Path.{◌≡◌, refl, sym, ap, ◌∙◌}
use mathlib.Core.Logic.{◌↔◌, ◌⊎◌, inl, inr, ⊎_elim}
use mathlib.Core.Bool.{true, false}
use mathlib.Core.List.{List, [], ◌∷◌, ◌++◌, map, append-nil, append_assoc}
use native.Mathlib.Omega.{arith}
use mir.Syntax.{w64}
use mir.Val.{Fits}
use lib.Dec.{eqb, leb, ltb}
use lib.ListN.{length, take, drop, replicate, length-append, length-map, length-take, length-drop, length-replicate}
use lib.Seq.{take_all, take_at, drop_at, drop-drop}
use borrow.Author.Tests.{eqb-true, leb-true, ltb-true, eq-eqb, le-leb, lt-ltb, not-true}
use Rattle.lists.specs.Lists.{join, select}
use Rattle.lists.specs.Each.{Each, each_nil, each-cons, Pairs, pairs-nil, pairs-cons}
use Rattle.lists.proofs.Tests.{split, clash, and_left, and_right, and_both}
use Rattle.lists.proofs.Lists.{length-select}
use Rattle.lists.proofs.Each.{each-imp, each-imp₂, each_both, pairs-imp}
use Rattle.rows.specs.Bytes.{Bytes, bytes_of, number_of, number_at}
use Rattle.rows.specs.Rows.{rows, every, pairwise}
use Rattle.rows.proofs.Bytes.{bytes_drop, number-back, number-taken, part-front}
use Rattle.rows.proofs.Rows.{each-bytes, bytes-each, number-each, each_append, rows-length, every-by, by-every, pairwise-by, by-pairwise, each_take, each-replicate, array_back, array-forth, array-good}
use Rattle.names.specs.Names.{name_length, same_name}
use Rattle.names.proofs.Laws.{differ-iff}
use Rattle.names.specs.declared.Credential.{Credential}
use Rattle.names.specs.declared.Kind.{Kind}
use Rattle.names.specs.declared.Kind.TheVariants.{User, Elevation, Saved}
use Rattle.table.specs.Table.{standing, table_of, places, is_saved, is_active}
use Rattle.table.specs.declared.Active.{Active}
use Rattle.table.specs.declared.Active.TheVariants.{UserOf, ElevationIn}
use Rattle.table.specs.declared.Process.{Process}
use Rattle.table.proofs.Laws.{standing-of, whole_of}
use Rattle.module_state.specs.Module.{closed_session, provisioned, session_count, credential_count, word_size}
use Rattle.module_state.specs.declared.Grants.{Grants}
use Rattle.module_state.specs.declared.State.{State}
use Rattle.module_rules.specs.Facts.{AreWords, processes, Owned, Apart, FormedGrants, FormedProcess, IsState, Wide}
use Rattle.module_rules.proofs.Laws.{provisioned-low}
use Rattle.image.specs.declared.ImageHead.{ImageHead}
use Rattle.image.specs.declared.SavedRow.{SavedRow}
use Rattle.image.specs.Image.{mask_at, word_count_at, word_offset_at, row_count_at, row_offset_at, words_at, words_size, seconds_at, saved_at, old_saved_at, saved_size, has_seconds, is_row_offset, image_long, Image, numbers_bytes, numbers_in, head_numbers, mask_of, grant_in, second_in, seconds_bytes, saved_bytes, image_bytes, front_bytes, front_long, head_in, words_from, seconds_from, grants_in, saved_from, saved_in, image_in, is_owner, is_keepable, differ, head_fits, words_fit, image_fits, is_image, saved_process, module_of, restored, saved_row, is_saved_one, saved_of, image_of, state_image, renewed, cycled, image_room, SavedLie}
use Rattle.image.proofs.Rows.{every-anything, Small, number-codec, numbers-long, numbers-each, mask-small, grant-is, second_is, words-fit, grants-back, grants-length, mask-back, words_back, said-words, words-formed, NoSecond, said-zero, seconds-zero, RowFits, rows_long, saved-codec, each-select, pairs-select}

-- ---- lists made by a function
module _ {A B : Type 0} (f : A → B) where
  pub each_map : {P : B → Type 0} {l : List A} → Each (λ x. P (f x)) l → Each P (map f l)
  each_map each_nil = each_nil
  each_map (each-cons p v) = each-cons p (each_map v)

  pub each-unmap : {P : B → Type 0} (l : List A) → Each P (map f l) → Each (λ x. P (f x)) l
  each-unmap [] each_nil = each_nil
  each-unmap (x ∷ l) (each-cons p v) = each-cons p (each-unmap l v)

  pub pairs-map : {R : B → B → Type 0} {l : List A} → Pairs (λ x y. R (f x) (f y)) l → Pairs R (map f l)
  pairs-map pairs-nil = pairs-nil
  pairs-map (pairs-cons p v) = pairs-cons (each_map p) (pairs-map v)

  pub pairs-unmap : {R : B → B → Type 0} (l : List A) → Pairs R (map f l) → Pairs (λ x y. R (f x) (f y)) l
  pairs-unmap [] pairs-nil = pairs-nil
  pairs-unmap (x ∷ l) (pairs-cons p v) = pairs-cons (each-unmap l p) (pairs-unmap l v)

-- ---- the rows lie at 74 in the new layout, and at 42 in the old one
pub new-at : (offset : ℕ) → has_seconds offset ≡ true → offset ≡ saved_at
unfolding has_seconds
new-at offset e = eqb-true offset saved_at e

pub old-at : (offset : ℕ) → is_row_offset offset ≡ true → has_seconds offset ≡ false → offset ≡ old_saved_at
unfolding is_row_offset
old-at offset e n = eqb-true offset old_saved_at (rw n at e)

pub offset-is : (offset : ℕ) → is_row_offset offset ≡ true → (offset ≡ saved_at) ⊎ (offset ≡ old_saved_at)
offset-is offset e = split (has_seconds offset) (λ n. inl (new-at offset n)) (λ n. inr (old-at offset e n))

pub offset-low : (offset : ℕ) → is_row_offset offset ≡ true → offset ≤ saved_at
offset-low offset e = ⊎_elim (λ n. omega arith) (λ n. omega arith) (offset-is offset e)

pub offset-high : (offset : ℕ) → is_row_offset offset ≡ true → old_saved_at ≤ offset
offset-high offset e = ⊎_elim (λ n. omega arith) (λ n. omega arith) (offset-is offset e)

-- no length belongs to both
pub length-tells : (n m : ℕ) → image_long saved_at n ≡ image_long old_saved_at m → ⊥
unfolding image_long
length-tells n m e = omega arith

-- ---- what the head of an image has
pub record Head (h : ImageHead) : Type 0 where
  pub mask : h.mask < 256
  pub words : h.words ≡ credential_count
  pub from : h.from ≡ words_at
  pub few : h.rows ≤ places
  pub offset : is_row_offset h.offset ≡ true

pub head-has : (h : ImageHead) → head_fits h ≡ true → Head h
unfolding head_fits
head-has h e =
    let e₁ = and_right (ltb h.mask 256) _ e in
    let e₂ = and_right (eqb h.words credential_count) _ e₁ in
    let e₃ = and_right (eqb h.from words_at) _ e₂ in
    record {
      mask = ltb-true h.mask 256 (and_left (ltb h.mask 256) _ e);
      words = eqb-true h.words credential_count (and_left (eqb h.words credential_count) _ e₁);
      from = eqb-true h.from words_at (and_left (eqb h.from words_at) _ e₂);
      few = leb-true h.rows places (and_left (leb h.rows places) _ e₃);
      offset = and_right (leb h.rows places) _ e₃;
    }

-- what it holds
pub record Sound (i : Image) : Type 0 where
  pub words : every words_fit i.grants ≡ true
  pub keepable : every (is_keepable i.grants) i.saved ≡ true
  pub names : pairwise differ i.saved ≡ true

pub sound : (i : Image) → image_fits i ≡ true → Sound i
unfolding image_fits
sound i e =
    let e₁ = and_right (every words_fit i.grants) _ e in
    record {
      words = and_left (every words_fit i.grants) _ e;
      keepable = and_left (every (is_keepable i.grants) i.saved) _ e₁;
      names = and_right (every (is_keepable i.grants) i.saved) _ e₁;
    }

-- and what bytes have that are one
pub record IsImage (b : List ℕ) : Type 0 where
  pub head : Head (head_in b)
  pub long : length b ≡ image_long (head_in b).offset (head_in b).rows
  pub fits : image_fits (image_in b) ≡ true

pub image : (b : List ℕ) → is_image b ≡ true → IsImage b
unfolding is_image
image b e =
    let asked : ℕ = image_long (head_in b).offset (head_in b).rows in
    let e₁ = and_right (head_fits (head_in b)) _ e in
    record {
      head = head-has (head_in b) (and_left (head_fits (head_in b)) _ e);
      long = eqb-true (length b) asked (and_left (eqb (length b) asked) _ e₁);
      fits = and_right (eqb (length b) asked) _ e₁;
    }

pub image-lies : (b : List ℕ) → is_image b ≡ true → SavedLie b (head_in b).offset (head_in b).rows
image-lies b e = record { few = (image b e).head.few; from = (image b e).head.offset; long = (image b e).long }

-- ---- where a row lies
abbrev pub row_at : List ℕ → ℕ → ℕ → List ℕ
row_at b offset i = take (offset + i * saved_size + saved_size - (offset + i * saved_size)) (drop (offset + i * saved_size) b)

module _ (b : List ℕ) {offset n i : ℕ} (v : SavedLie b offset n) (k : i < n) where
  pub saved-room : offset + i * saved_size + saved_size ≤ length b
  unfolding image_long
  saved-room = omega (arith, v.long)

  pub saved-part : length (row_at b offset i) ≡ saved_size
  saved-part = simp (length-take, length-drop) (omega (arith, saved-room))

  pub saved-fits : Fits w64 (offset + i * saved_size)
  saved-fits = omega (arith, offset-low offset v.from, v.few)

  pub saved-ends : Fits w64 (offset + i * saved_size + saved_size)
  saved-ends = omega (arith, offset-low offset v.from, v.few)

-- ---- how long the bytes of an image are
head-long : (mask n offset : ℕ) → length (numbers_bytes 2 (head_numbers mask n offset)) ≡ words_at
unfolding numbers_bytes join bytes_of
head-long mask n offset = refl

module _ (offset : ℕ) (l : List Grants) where
  seconds-new : has_seconds offset ≡ true → seconds_bytes offset l ≡ numbers_bytes word_size (map second_in l)
  unfolding seconds_bytes
  seconds-new n = rw n

  seconds-old : has_seconds offset ≡ false → seconds_bytes offset l ≡ []
  unfolding seconds_bytes
  seconds-old n = rw n

  seconds-long : length l ≡ credential_count → seconds_at + length (seconds_bytes offset l) ≡ front_long offset
  unfolding front_long
  seconds-long eight = split (has_seconds offset) (λ n. rw (seconds-new n, n, numbers-long, length-map, eight)) (λ n. rw (seconds-old n, n))

-- what stands before the rows
pub front-long : (grants : List Grants) (n offset : ℕ) → length grants ≡ credential_count → length (front_bytes grants n offset) ≡ front_long offset
unfolding front_bytes
front-long grants n offset eight =
    simp length-append
    (omega (arith, head-long (mask_of grants) n offset, numbers-long word_size (map grant_in grants), length-map grants grant_in, seconds-long offset grants eight, eight))

-- in either layout they begin where it ends
pub front_at : (offset : ℕ) → is_row_offset offset ≡ true → front_long offset ≡ offset
unfolding front_long
front_at offset o = split (has_seconds offset) (λ n. rw n (sym (new-at offset n))) (λ n. rw n (sym (old-at offset o n)))

pub front-rows : (i : Image) → image_bytes i ≡ front_bytes i.grants (length i.saved) i.offset ++ join (map saved_bytes i.saved)
unfolding image_bytes front_bytes
front-rows i = simp append_assoc

image-long : (i : Image) → is_row_offset i.offset ≡ true → length i.grants ≡ credential_count → Each (λ r. length r.name.bytes ≡ name_length) i.saved
    → length (image_bytes i) ≡ image_long i.offset (length i.saved)
unfolding image_long
image-long i o eight n = rw (front-rows i, length-append, front-long i.grants (length i.saved) i.offset eight, front_at i.offset o, rows_long n)

-- the image of any state that a function has
pub long-is : {st : State} → Wide st → length (state_image st) ≡ image_room st
unfolding state_image image_of image_room saved_of standing saved_row has_seconds is_row_offset
long-is {st} w =
    image-long (image_of st) refl w.credentials
    (each_map saved_row (each-imp (λ p h. h.1) (each-select is_saved_one (each_take st.table.count (each-imp (λ p v. v.name) w.each)))))

-- its bytes are bytes where those of its names are
seconds-each : (offset : ℕ) (l : List Grants) → Each (λ a. a < 256) (seconds_bytes offset l)
seconds-each offset l = split (has_seconds offset) (λ e. rw (seconds-new offset l e) (numbers-each word_size (map second_in l))) (λ e. rw (seconds-old offset l e) each_nil)

rows-each : {l : List SavedRow} → Each (λ r. Bytes r.name.bytes) l → Each (λ a. a < 256) (join (map saved_bytes l))
unfolding join saved_bytes
rows-each each_nil = each_nil
rows-each (each-cons {x = r} p v) = each_append (each_append (number-each 2 r.owner.0) (each_append (number-each 2 r.next) (bytes-each r.name.bytes p))) (rows-each v)

pub image-bytes : (i : Image) → Each (λ r. Bytes r.name.bytes) i.saved → Bytes (image_bytes i)
unfolding image_bytes
image-bytes i n = each-bytes (each_append (numbers-each 2 _) (each_append (numbers-each word_size _) (each_append (seconds-each i.offset i.grants) (rows-each n))))

-- ---- the processes that an image restores
pub stands-is : (b : List ℕ) → standing (restored b).table ≡ map saved_process (saved_in b)
unfolding restored image_in
stands-is b = standing-of (map saved_process (saved_in b))

-- ---- an image with its rows from another offset on
abbrev pub laid : ℕ → Image → Image
laid offset i = record { offset = offset; grants = i.grants; saved = i.saved }

renewed-new : (b : List ℕ) → has_seconds (head_in b).offset ≡ true → renewed b ≡ b
unfolding renewed
renewed-new b n = rw n

-- ---- eight words, one after another, and what follows them
eight-back : (l y : List ℕ) → length l ≡ credential_count → Each (Small word_size) l → numbers_in credential_count word_size (numbers_bytes word_size l ++ y) ≡ l
unfolding numbers_in numbers_bytes
eight-back l y eight small = rw eight at (array_back (number-codec word_size) y small)

-- ---- an image that can be written: what its bytes say is that image
pub record Fit (i : Image) : Type 0 where
  pub offset : is_row_offset i.offset ≡ true
  pub eight : length i.grants ≡ credential_count
  pub words : Each FormedGrants i.grants
  -- "The reader still takes the old layout, second words zero"
  pub seconds : has_seconds i.offset ≡ false → Each NoSecond i.grants
  pub few : length i.saved ≤ places
  pub each : Each RowFits i.saved

module _ {i : Image} (f : Fit i) where
  abbrev b : List ℕ
  b = image_bytes i

  abbrev saved : List ℕ
  saved = join (map saved_bytes i.saved)

  abbrev firsts : List ℕ
  firsts = map grant_in i.grants

  abbrev seconds : List ℕ
  seconds = map second_in i.grants

  abbrev behind : List ℕ
  behind = seconds_bytes i.offset i.grants ++ saved

  firsts-many : length firsts ≡ credential_count
  firsts-many = length-map i.grants grant_in ∙ f.eight

  seconds-many : length seconds ≡ credential_count
  seconds-many = length-map i.grants second_in ∙ f.eight

  firsts-small : Each (Small word_size) firsts
  firsts-small = each_map grant_in (each-imp (λ g v. rw (grant-is g v) v.words.grant) f.words)

  seconds-small : Each (Small word_size) seconds
  seconds-small = each_map second_in (each-imp (λ g v. rw (second_is g v) v.words.second) f.words)

  seconds-none : has_seconds i.offset ≡ false → seconds ≡ replicate credential_count 0
  seconds-none n = rw f.eight at (seconds-zero (f.seconds n))

  mask_low : mask_of i.grants < 256
  mask_low = rw f.eight at (mask-small i.grants)

  mask_is : (head_in b).mask ≡ mask_of i.grants
  unfolding head_in number_at image_bytes numbers_bytes join bytes_of
  mask_is = number-back 2 (mask_of i.grants) (omega (arith, mask_low))

  words-is : (head_in b).words ≡ credential_count
  unfolding head_in number_at number_of image_bytes numbers_bytes join bytes_of
  words-is = refl

  from_is : (head_in b).from ≡ words_at
  unfolding head_in number_at number_of image_bytes numbers_bytes join bytes_of
  from_is = refl

  count-is : (head_in b).rows ≡ length i.saved
  unfolding head_in number_at image_bytes numbers_bytes join bytes_of
  count-is = number-back 2 (length i.saved) (omega (arith, f.few))

  row-offset-is : (head_in b).offset ≡ i.offset
  unfolding head_in number_at image_bytes numbers_bytes join bytes_of
  row-offset-is = number-back 2 i.offset (omega (arith, offset-low i.offset f.offset))

  head-is : head_fits (head_in b) ≡ true
  unfolding head_fits
  head-is =
      rw (mask_is, words-is, from_is, count-is, row-offset-is)
      (and_both (lt-ltb (mask_of i.grants) 256 mask_low) (and_both (le-leb (length i.saved) places f.few) f.offset))

  from-words : drop words_at b ≡ numbers_bytes word_size firsts ++ behind
  unfolding image_bytes
  from-words =
      drop_at (numbers_bytes 2 (head_numbers (mask_of i.grants) (length i.saved) i.offset)) (numbers_bytes word_size firsts ++ behind) words_at (head-long (mask_of i.grants) (length i.saved) i.offset)

  firsts-long : length (numbers_bytes word_size firsts) ≡ words_size
  firsts-long = numbers-long word_size firsts ∙ rw firsts-many

  from-seconds : drop seconds_at b ≡ behind
  from-seconds = sym (drop-drop words_size words_at b) ∙ rw from-words (drop_at (numbers_bytes word_size firsts) behind words_size firsts-long)

  from-saved : drop i.offset b ≡ saved
  from-saved =
      let front : List ℕ = front_bytes i.grants (length i.saved) i.offset in
      let long : length front ≡ i.offset = front-long i.grants (length i.saved) i.offset f.eight ∙ front_at i.offset f.offset in
      rw (front-rows i) (drop_at front saved i.offset long)

  firsts-are : words_from words_at b ≡ firsts
  firsts-are = rw from-words (eight-back firsts behind firsts-many firsts-small)

  seconds-are : seconds_from i.offset b ≡ seconds
  unfolding seconds_from
  seconds-are =
      split (has_seconds i.offset)
      (λ n. rw (n, from-seconds, seconds-new i.offset i.grants n) (eight-back seconds saved seconds-many seconds-small))
      (λ n. rw n (sym (seconds-none n)))

  grants-are : grants_in b ≡ i.grants
  unfolding grants_in
  grants-are = rw (mask_is, row-offset-is, firsts-are, seconds-are) (grants-back f.words)

  saved-are : saved_in b ≡ i.saved
  unfolding saved_in
  saved-are = rw (count-is, row-offset-is, from-saved, ← append-nil saved) (array_back saved-codec [] f.each)

  pub image-back : image_in (image_bytes i) ≡ i
  unfolding image_in
  image-back = rw (row-offset-is, grants-are, saved-are)

  pub image-is : image_fits i ≡ true → is_image (image_bytes i) ≡ true
  unfolding is_image
  image-is fits =
      let long : length b ≡ image_long i.offset (length i.saved) = image-long i f.offset f.eight (each-imp (λ r v. v.name) f.each) in
      rw (head-is, count-is, row-offset-is, image-back) (and_both (eq-eqb (length b) (image_long i.offset (length i.saved)) long) fits)

  -- ---- and in the new layout they are the bytes of the same image there
  renewed-parts : has_seconds i.offset ≡ false → renewed b ≡ take row_offset_at b ++ (bytes_of 2 saved_at ++ (numbers_bytes word_size firsts ++ (replicate words_size 0 ++ saved)))
  unfolding renewed
  renewed-parts n =
      let words : take words_size (drop words_at b) ≡ numbers_bytes word_size firsts = rw from-words (take_at (numbers_bytes word_size firsts) behind words_size firsts-long) in
      let rows : drop old_saved_at b ≡ saved = ap (λ (o : ℕ). drop o b) (sym (old-at i.offset f.offset n)) ∙ from-saved in
      rw (row-offset-is, n, words, rows)

  renewed-old : has_seconds i.offset ≡ false → renewed b ≡ image_bytes (laid saved_at i)
  unfolding image_bytes numbers_bytes seconds_bytes has_seconds join bytes_of
  renewed-old n = renewed-parts n ∙ rw (seconds-none n)

  renewed-bytes : renewed b ≡ image_bytes (laid saved_at i)
  renewed-bytes =
      split (has_seconds i.offset)
      (λ n. renewed-new b (ap has_seconds row-offset-is ∙ n) ∙ ap (λ (o : ℕ). image_bytes (laid o i)) (new-at i.offset n))
      renewed-old

-- ---- bytes that are an image: they are those of what they say
five-parts : (m c o n p : ℕ) (y : List ℕ) → numbers_bytes 2 (m ∷ c ∷ o ∷ n ∷ p ∷ []) ++ y ≡ bytes_of 2 m ++ (bytes_of 2 c ++ (bytes_of 2 o ++ (bytes_of 2 n ++ (bytes_of 2 p ++ y))))
unfolding numbers_bytes join bytes_of
five-parts m c o n p y = refl

words-eight : (at : ℕ) (b : List ℕ) → length (words_from at b) ≡ credential_count
unfolding numbers_in
words-eight at b = length-map (rows credential_count word_size (drop at b)) number_of ∙ rows-length credential_count word_size (drop at b)

seconds-eight : (offset : ℕ) (b : List ℕ) → length (seconds_from offset b) ≡ credential_count
unfolding seconds_from
seconds-eight offset b = split (has_seconds offset) (λ n. rw n (words-eight seconds_at b)) (λ n. rw n)

as_many : (offset : ℕ) (b : List ℕ) → length (seconds_from offset b) ≡ length (words_from words_at b)
as_many offset b = seconds-eight offset b ∙ sym (words-eight words_at b)

pub grants-eight : (b : List ℕ) → length (grants_in b) ≡ credential_count
unfolding grants_in
grants-eight b = grants-length (head_in b).mask (words_from words_at b) (seconds_from (head_in b).offset b) (as_many (head_in b).offset b) ∙ words-eight words_at b

pub saved-length : (b : List ℕ) → length (saved_in b) ≡ (head_in b).rows
unfolding saved_in
saved-length b = length-map (rows (head_in b).rows saved_size (drop (head_in b).offset b)) saved_from ∙ rows-length (head_in b).rows saved_size (drop (head_in b).offset b)

-- the words that bytes have, where they have all of them
module _ (b : List ℕ) (g : Bytes b) where
  module _ (at : ℕ) (r : at + words_size ≤ length b) where
    behind' : words_size ≤ length (drop at b)
    behind' = simp length-drop (omega arith)

    words_small : Each (Small word_size) (words_from at b)
    unfolding numbers_in
    words_small = array-good (number-codec word_size) credential_count (drop at b) behind' (bytes_drop at b g) (every-anything (rows credential_count word_size (drop at b)))

    words-forth : numbers_bytes word_size (words_from at b) ≡ take words_size (drop at b)
    unfolding numbers_bytes numbers_in
    words-forth = array-forth (number-codec word_size) credential_count (drop at b) behind' (bytes_drop at b g) (every-anything (rows credential_count word_size (drop at b)))

  module _ (o : is_row_offset (head_in b).offset ≡ true) (r : (head_in b).offset ≤ length b) where
    seconds-small' : Each (Small word_size) (seconds_from (head_in b).offset b)
    unfolding seconds_from
    seconds-small' =
        split (has_seconds (head_in b).offset)
        (λ n. rw n (words_small seconds_at (omega (arith, new-at (head_in b).offset n))))
        (λ n. rw n (each-replicate credential_count 0 (omega arith)))

    pub grants-words : Each (λ x. AreWords x.words) (grants_in b)
    unfolding grants_in
    grants-words =
        said-words (head_in b).mask (words_from words_at b) (seconds_from (head_in b).offset b)
        (words_small words_at (omega (arith, offset-high (head_in b).offset o))) seconds-small'

-- and the second words of an old image
pub no-seconds : (b : List ℕ) → has_seconds (head_in b).offset ≡ false → Each NoSecond (grants_in b)
unfolding grants_in seconds_from
no-seconds b n = rw n (said-zero (head_in b).mask (words_from words_at b) credential_count)

module _ (b : List ℕ) (g : Bytes b) (e : is_image b ≡ true) where
  v : IsImage b
  v = image b e

  abbrev offset : ℕ
  offset = (head_in b).offset

  abbrev words : List ℕ
  words = words_from words_at b

  abbrev seconds' : List ℕ
  seconds' = seconds_from offset b

  -- its parts
  room : old_saved_at ≤ length b
  unfolding image_long
  room = omega (arith, v.long, offset-high offset v.head.offset)

  room-new : has_seconds offset ≡ true → saved_at ≤ length b
  unfolding image_long
  room-new n = omega (arith, v.long, new-at offset n)

  rows-room : length (drop offset b) ≡ (head_in b).rows * saved_size
  unfolding image_long
  rows-room = simp length-drop (omega (arith, v.long))

  saved-fit : Each RowFits (saved_in b)
  unfolding saved_in
  saved-fit = array-good saved-codec (head_in b).rows (drop offset b) (omega (arith, rows-room)) (bytes_drop offset b g) (every-anything (rows (head_in b).rows saved_size (drop offset b)))

  said-formed : Each FormedGrants (grants_in b)
  unfolding image_in
  said-formed =
      words-formed (grants-words b g v.head.offset (unfold image_long in omega (arith, v.long)))
      (every-by (λ x q. q) (grants_in b) (sound (image_in b) v.fits).words)

  pub image-fit : Fit (image_in b)
  unfolding image_in
  image-fit = record { offset = v.head.offset; eight = grants-eight b; words = said-formed; seconds = no-seconds b; few = rw (saved-length b) v.head.few; each = saved-fit }

  -- and the bytes of what they say
  mask-of : mask_of (grants_in b) ≡ (head_in b).mask
  unfolding grants_in
  mask-of = mask-back (head_in b).mask words seconds' (as_many offset b) (rw (words-eight words_at b) v.head.mask)

  said-back : (map grant_in (grants_in b) ≡ words) × (map second_in (grants_in b) ≡ seconds')
  unfolding grants_in
  said-back = words_back (head_in b).mask words seconds' (as_many offset b) (unfold grants_in in said-formed)

  five-forth : numbers_bytes 2 (number_at 2 mask_at b ∷ number_at 2 word_count_at b ∷ number_at 2 word_offset_at b ∷ number_at 2 row_count_at b ∷ number_at 2 row_offset_at b ∷ []) ++ drop words_at b ≡ b
  five-forth =
      let known : old_saved_at ≤ length b = room in
      five-parts (number_at 2 mask_at b) (number_at 2 word_count_at b) (number_at 2 word_offset_at b) (number_at 2 row_count_at b) (number_at 2 row_offset_at b) (drop words_at b)
      ∙ rw (
        number-taken 2 mask_at b g (omega arith),
        number-taken 2 word_count_at b g (omega arith),
        number-taken 2 word_offset_at b g (omega arith),
        number-taken 2 row_count_at b g (omega arith),
        number-taken 2 row_offset_at b g (omega arith),
        part-front 2 row_offset_at b,
        part-front 2 row_count_at b,
        part-front 2 word_offset_at b,
        part-front 2 word_count_at b,
      )
      (part-front 2 mask_at b)

  head-forth : numbers_bytes 2 (head_numbers (head_in b).mask (head_in b).rows (head_in b).offset) ++ drop words_at b ≡ b
  head-forth =
      let five : numbers_bytes 2 ((head_in b).mask ∷ (head_in b).words ∷ (head_in b).from ∷ (head_in b).rows ∷ (head_in b).offset ∷ []) ++ drop words_at b ≡ b = unfold head_in in five-forth in
      rw (v.head.words, v.head.from) at five

  seconds-forth : seconds_bytes offset (grants_in b) ++ drop offset b ≡ drop seconds_at b
  seconds-forth =
      split (has_seconds offset)
      (λ n.
      let said : seconds' ≡ words_from seconds_at b = (unfold seconds_from in rw n) in
      rw (seconds-new offset (grants_in b) n, said-back.1, said, words-forth b g seconds_at (room-new n)) (ap (λ (o : ℕ). take words_size (drop seconds_at b) ++ drop o b) (new-at offset n) ∙ part-front words_size seconds_at b))
      (λ n. rw (seconds-old offset (grants_in b) n) (ap (λ (o : ℕ). drop o b) (old-at offset v.head.offset n)))

  rows-forth : join (map saved_bytes (saved_in b)) ≡ drop offset b
  unfolding saved_in
  rows-forth =
      array-forth saved-codec (head_in b).rows (drop offset b) (omega (arith, rows-room)) (bytes_drop offset b g) (every-anything (rows (head_in b).rows saved_size (drop offset b)))
      ∙ take_all ((head_in b).rows * saved_size) (drop offset b) (omega (arith, rows-room))

  pub image-forth : image_bytes (image_in b) ≡ b
  unfolding image_bytes image_in
  image-forth = rw (mask-of, said-back.0, saved-length b, words-forth b g words_at room, rows-forth, seconds-forth, part-front words_size words_at b) head-forth

-- ---- the module that an image makes is a state, and its image is that one
owner-by : (st : State) (c : Credential) → provisioned st c ≡ is_owner st.credentials c
unfolding provisioned is_owner
owner-by st c = refl

row_back : (l : List SavedRow) → map saved_row (select is_saved_one (map saved_process l)) ≡ l
unfolding select saved_row saved_process
row_back [] = refl
row_back (r ∷ l) = rw (row_back l)

module _ {i : Image} (f : Fit i) (e : image_fits i ≡ true) where
  abbrev module' : State
  module' = module_of i

  abbrev stand : List Process
  stand = map saved_process i.saved

  keeps : Each (λ r. is_keepable i.grants r ≡ true) i.saved
  keeps = every-by (λ r q. q) i.saved (sound i e).keepable

  owner-is : (r : SavedRow) → is_keepable i.grants r ≡ true → provisioned module' r.owner ≡ true
  unfolding is_keepable
  owner-is r q = owner-by module' r.owner ∙ and_left (is_owner i.grants r.owner) _ q

  owned : (r : SavedRow) → is_keepable i.grants r ≡ true → Owned module' (saved_process r)
  unfolding saved_process
  owned r q = record { owner = owner-is r q; seated = λ s. clash s refl }

  formed : (r : SavedRow) → RowFits r → is_keepable i.grants r ≡ true → FormedProcess (saved_process r)
  unfolding saved_process is_keepable
  formed r v q =
      record {
        credential = provisioned-low module' r.owner f.eight (owner-is r q);
        session = omega arith;
        next = v.next;
        name = v.name;
        saved = λ s. refl;
        elevation = λ s. clash refl (ap is_saved s);
        counted = λ s. leb-true 1 r.next (and_right (is_owner i.grants r.owner) _ q);
      }

  idle : (p q : SavedRow) (which : Active) → is_active which (saved_process p) ≡ true → ⊥
  unfolding is_active saved_process
  idle p q (UserOf s c) a = clash a refl
  idle p q (ElevationIn s) a = clash a refl

  apart : (p q : SavedRow) → differ p q ≡ true → Apart (saved_process p) (saved_process q)
  unfolding differ saved_process
  apart p q d = record { names = (differ-iff p.name q.name).0 (not-true (same_name p.name q.name) d); alone = λ which a c. idle p q which a }

  stands : processes module' ≡ stand
  stands = standing-of stand

  many : length stand ≤ places
  many = rw (length-map i.saved saved_process) f.few

  pub module-state : IsState (module_of i)
  module-state =
      record {
        rules =
            record {
              few = rw stands many;
              each = rw stands (each_map saved_process (each-imp owned keeps));
              pairs = rw stands (pairs-map saved_process (pairwise-by apart i.saved (sound i e).names));
            };
        formed =
            record {
              sessions = length-replicate session_count closed_session;
              credentials = f.eight;
              places = whole_of stand many;
              words = f.words;
              each = rw stands (each_map saved_process (each-imp₂ formed f.each keeps));
              tidy = ap table_of (sym stands);
            };
      }

  pub image-again : image_of (module_of i) ≡ laid saved_at i
  unfolding image_of saved_of
  image-again = rw (stands, row_back i.saved)

module _ (b : List ℕ) (g : Bytes b) (e : is_image b ≡ true) where
  pub image-state : IsState (restored b)
  unfolding restored
  image-state = module-state (image-fit b g e) (image b e).fits

  again : image_of (restored b) ≡ laid saved_at (image_in b)
  unfolding restored
  again = image-again (image-fit b g e) (image b e).fits

  -- an image that was restored and is written again is in the new layout
  pub renewed-is : state_image (restored b) ≡ renewed b
  unfolding state_image
  renewed-is = rw again (sym (renewed-bytes (image-fit b g e)) ∙ ap renewed (image-forth b g e))

  -- ---- "Words, owners and rows in order have one image.", and it "holds among those of the new layout"
  pub one-image : has_seconds (head_in b).offset ≡ true → state_image (restored b) ≡ b
  one-image n = renewed-is ∙ renewed-new b n

-- ---- a state's image
is-saved : (k : Kind) → is_saved k ≡ true → k ≡ Saved
is-saved User e = clash e refl
is-saved Elevation e = clash e refl
is-saved Saved e = refl

module _ {st : State} (v : IsState st) where
  abbrev chosen : List Process
  chosen = select is_saved_one (standing st.table)

  row_fits : (p : Process) → FormedProcess p → RowFits (saved_row p)
  unfolding saved_row
  row_fits p f = record { owner = omega (arith, f.credential); next = f.next; name = f.name }

  pub state-fit : Fit (image_of st)
  unfolding image_of saved_of has_seconds is_row_offset
  state-fit =
      record {
        offset = refl;
        seconds = λ n. clash refl n;
        eight = v.formed.credentials;
        words = v.formed.words;
        few = rw (length-map chosen saved_row) (omega (arith, length-select is_saved_one (standing st.table), v.rules.few));
        each = each_map saved_row (each-imp (λ p h. row_fits p h.1) (each-select is_saved_one v.formed.each));
      }

  keepable : (p : Process) → Owned st p → FormedProcess p → is_saved_one p ≡ true → is_keepable st.credentials (saved_row p) ≡ true
  unfolding is_keepable saved_row
  keepable p o f k = and_both (sym (owner-by st p.credential) ∙ o.owner) (le-leb 1 p.next (f.counted (is-saved p.kind k)))

  all-keepable : every (is_keepable st.credentials) (saved_of st) ≡ true
  unfolding saved_of
  all-keepable =
      by-every (λ r q. q) (each_map saved_row (each-imp (λ p h. keepable p h.1.0 h.1.1 h.0) (each-select is_saved_one (each_both v.rules.each v.formed.each))))

  rows-differ : (p q : Process) → Apart p q → differ (saved_row p) (saved_row q) ≡ true
  unfolding differ saved_row
  rows-differ p q a = rw ((differ-iff p.name q.name).1 a.names)

  all-differ : pairwise differ (saved_of st) ≡ true
  unfolding saved_of
  all-differ = by-pairwise (λ r q d. d) (pairs-map saved_row (pairs-imp rows-differ (pairs-select is_saved_one v.rules.pairs)))

  pub state-fits : image_fits (image_of st) ≡ true
  unfolding image_fits image_of
  state-fits = and_both (by-every words-fit v.formed.words) (and_both all-keepable all-differ)

  -- what a module wrote is always accepted
  pub state-image : is_image (state_image st) ≡ true
  unfolding state_image
  state-image = image-is state-fit state-fits

  pub state-new : has_seconds (head_in (state_image st)).offset ≡ true
  unfolding state_image image_of has_seconds
  state-new = ap has_seconds (row-offset-is state-fit)

  pub state-restored : restored (state_image st) ≡ cycled st
  unfolding state_image restored cycled
  state-restored = ap module_of (image-back state-fit)

  -- the processes that it restores are those that are saved
  same-process : (p : Process) → FormedProcess p → is_saved_one p ≡ true → saved_process (saved_row p) ≡ p
  unfolding saved_process saved_row
  same-process p f k =
      let is : p.kind ≡ Saved = is-saved p.kind k in
      process-is Saved 0 is (f.saved is)
    where
      process-is : (k : Kind) (s : ℕ) → p.kind ≡ k → p.session.0 ≡ s → record { credential = p.credential; kind = k; session = record { 0 = s }; next = p.next; name = p.name } ≡ p
      process-is k s e f = rw (← e, ← f)

  same-all : {l : List Process} → Each (λ p. saved_process (saved_row p) ≡ p) l → map saved_process (map saved_row l) ≡ l
  same-all each_nil = refl
  same-all (each-cons e h) = rw (e, same-all h)

  pub stands-cycled : processes (cycled st) ≡ select is_saved_one (processes st)
  unfolding cycled image_of saved_of
  stands-cycled =
      standing-of (map saved_process (map saved_row chosen))
      ∙ same-all (each-imp (λ p h. same-process p h.1 h.0) (each-select is_saved_one v.formed.each))

-- ---- an image renewed is one of the new layout that makes the same module; renewed again it is itself
pub record Renewed (b : List ℕ) : Type 0 where
  pub image : is_image (renewed b) ≡ true
  pub new : has_seconds (head_in (renewed b)).offset ≡ true
  pub once : renewed (renewed b) ≡ renewed b
  pub makes : restored (renewed b) ≡ restored b

module _ (b : List ℕ) (g : Bytes b) (e : is_image b ≡ true) where
  same-module : cycled (restored b) ≡ restored b
  unfolding cycled
  same-module = ap module_of (again b g e) ∙ (unfold restored in refl)

  pub renewed-image : Renewed b
  renewed-image =
      let v : IsState (restored b) = image-state b g e in
      let is : state_image (restored b) ≡ renewed b = renewed-is b g e in
      let new : has_seconds (head_in (renewed b)).offset ≡ true = rw is at (state-new v) in
      record { image = rw is at (state-image v); new = new; once = renewed-new (renewed b) new; makes = ap restored (sym is) ∙ state-restored v ∙ same-module }

-- ---- two images that make one module: they are equal, or one is old and the other is its new one
pub data Alike (a b : List ℕ) : Type 0 where
  same : a ≡ b → Alike a b
  first-old : has_seconds (head_in a).offset ≡ false → b ≡ renewed a → Alike a b
  second-old : has_seconds (head_in b).offset ≡ false → a ≡ renewed b → Alike a b

module _ (a b : List ℕ) (g : Bytes a) (h : Bytes b) (p : is_image a ≡ true) (q : is_image b ≡ true) where
  -- they do exactly where they are equal in the new layout
  pub image-across : (restored a ≡ restored b) ↔ (renewed a ≡ renewed b)
  image-across = (
    λ e. sym (renewed-is a g p) ∙ ap state_image e ∙ renewed-is b h q,
    λ e. sym (renewed-image a g p).makes ∙ ap restored e ∙ (renewed-image b h q).makes,
  )

  -- those of one layout are equal
  pub image-once : (head_in a).offset ≡ (head_in b).offset → restored a ≡ restored b → a ≡ b
  unfolding image_in
  image-once o e =
      let one : laid saved_at (image_in a) ≡ laid saved_at (image_in b) = sym (again a g p) ∙ ap image_of e ∙ again b h q in
      let held : image_in a ≡ image_in b = ap (laid (head_in a).offset) one ∙ ap (λ (n : ℕ). laid n (image_in b)) o in
      sym (image-forth a g p) ∙ ap image_bytes held ∙ image-forth b h q

  -- so an old one and its new one are the only pair
  pub image-pairs : restored a ≡ restored b → Alike a b
  image-pairs e =
      let one : renewed a ≡ renewed b = image-across.0 e in
      split (has_seconds (head_in a).offset)
      (λ m. split (has_seconds (head_in b).offset) (λ n. same (sym (renewed-new a m) ∙ one ∙ renewed-new b n)) (λ n. second-old n (sym (renewed-new a m) ∙ one)))
      (λ m.
      split (has_seconds (head_in b).offset)
      (λ n. first-old m (sym (one ∙ renewed-new b n)))
      (λ n. same (image-once (old-at (head_in a).offset (image a p).head.offset m ∙ sym (old-at (head_in b).offset (image b q).head.offset n)) e)))

-- ---- so the bytes that are an image of the new layout are those that some state's image is, and no others
pub record Written (b : List ℕ) : Type 0 where
  pub state : State
  pub is : IsState state
  pub bytes : state_image state ≡ b

pub image-exactly : (b : List ℕ) → Bytes b → ((is_image b ≡ true) × (has_seconds (head_in b).offset ≡ true)) ↔ Written b
image-exactly b g = (
  λ e. record { state = restored b; is = image-state b g e.0; bytes = one-image b g e.0 e.1 },
  λ v. (rw v.bytes at (state-image v.is), rw v.bytes at (state-new v.is)),
)
