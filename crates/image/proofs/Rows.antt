-- The codecs of an image: a number of k bytes, a mask with words, a row.
-- Assumes nothing.
use Rattle.std.specs.Prelude.{Some}
use Prim.Native.Nat.{ℕ, zero, suc, ◌+◌, ◌*◌, ◌/◌, ◌%◌, ◌^◌, ◌<◌, ◌≤◌}
use mathlib.Core.Path.{◌≡◌, refl, sym, ap}
use mathlib.Core.Bool.{Bool, true, false, not, ◌&&◌}
use mathlib.Core.List.{List, [], ◌∷◌, ◌++◌, map}
use native.Mathlib.Nat.{pow-suc, div-lt_iff_lt-mul, div-add-mod', zero-mul, suc-mul, mul-le-mul_right, add_comm}
use native.Mathlib.Omega.{arith}
use lib.Dec.{eqb}
use lib.ListN.{length, get_or, take, drop, replicate, length-append, length-drop, length-map}
use borrow.Author.Tests.{eqb-true, not-false}
use Rattle.lists.specs.Lists.{join, select, reject, sum}
use Rattle.lists.specs.Each.{Each, each_nil, each-cons, Pairs}
use Rattle.lists.proofs.Tests.{split, and_left, and_right}
use Rattle.lists.proofs.Loops.{Summed, summed-none, summed-few, summed-more, summed-all}
use Rattle.lists.proofs.Each.{each-imp₂, each-reject, each_left, pairs-reject}
use Rattle.rows.specs.Bytes.{Bytes, bytes_of, number_of, number_at, bits_number}
use Rattle.rows.specs.Rows.{every}
use Rattle.rows.proofs.Bytes.{length-bytes, number-back, number-forth, number_small, number_in, number-low, number-taken, part-front, bit-forth, bits_small, bits-first, bits-rest}
use Rattle.rows.proofs.Rows.{number-each, each_append, Codec}
use Rattle.names.specs.Names.{name_length, read_name}
use Rattle.names.proofs.Laws.{name-last}
use Rattle.module_state.specs.Module.{unprovisioned, credential_count, word_size, no_words, words_of, taken}
use Rattle.module_state.specs.declared.Grants.{Grants}
use Rattle.module_state.specs.declared.Words.{Words}
use Rattle.module_rules.specs.Facts.{AreWords, FormedGrants}
use Rattle.image.specs.declared.SavedRow.{SavedRow}
use Rattle.image.specs.Image.{saved_owner_at, saved_next_at, saved_name_at, saved_size, numbers_bytes, mask_of, grant_in, second_in, grants_said, saved_bytes, saved_from, words_fit}

-- ---- every list of as many bytes is a number, or a row
abbrev pub anything : List ℕ → Bool
anything b = true

pub every-anything : (l : List (List ℕ)) → every anything l ≡ true
unfolding every
every-anything [] = refl
every-anything (b ∷ l) = every-anything l

-- ---- a number of k bytes
abbrev pub Small : ℕ → ℕ → Type 0
Small k n = n < 256 ^ k

pub number-codec : (k : ℕ) → Codec k (bytes_of k) number_of anything (Small k) (Small k)
number-codec k =
    record {
      wide = λ n h. h;
      long = λ n h. length-bytes k n;
      only = λ n h e. h;
      back = λ n h. number-back k n h;
      fits = λ n h. refl;
      forth = λ b e h t. rw (← e) (number-forth b h);
      good = λ b e h t. rw (← e) (number_small b h);
    }

-- numbers, one after another, whatever they are
pub numbers-long : (k : ℕ) (l : List ℕ) → length (numbers_bytes k l) ≡ length l * k
unfolding numbers_bytes join
numbers-long k [] = sym (zero-mul k)
numbers-long k (n ∷ l) = rw (length-append, length-bytes, suc-mul) (omega (arith, numbers-long k l))

pub numbers-each : (k : ℕ) (l : List ℕ) → Each (λ a. a < 256) (numbers_bytes k l)
unfolding numbers_bytes join
numbers-each k [] = each_nil
numbers-each k (n ∷ l) = each_append (number-each k n) (numbers-each k l)

-- ---- a mask with words
pub mask-small : (l : List Grants) → mask_of l < 2 ^ length l
unfolding mask_of
mask-small l = rw length-map at (bits_small (map (λ (g : Grants). g.provisioned) l))

-- the words of a credential that is not provisioned are written as 0, and were 0
words-is : (g : Grants) → FormedGrants g → words_of g ≡ g.words
unfolding words_of
words-is g v = split g.provisioned (λ e. rw e) (λ e. rw e (sym (v.zero e)))

pub grant-is : (g : Grants) → FormedGrants g → grant_in g ≡ g.words.grant
unfolding grant_in
grant-is g v = ap (λ (w : Words). w.grant) (words-is g v)

pub second_is : (g : Grants) → FormedGrants g → second_in g ≡ g.words.second
unfolding second_in
second_is g v = ap (λ (w : Words). w.second) (words-is g v)

pub words-fit : (g : Grants) → FormedGrants g → words_fit g ≡ true
unfolding words_fit
words-fit g v = split g.provisioned (λ e. rw e) (λ e. rw (e, v.zero e))

words-kept : (g : Grants) → words_fit g ≡ true → g.provisioned ≡ false → g.words ≡ no_words
unfolding words_fit
words-kept g e f =
    let both : (eqb g.words.grant 0 && eqb g.words.second 0) ≡ true = rw f at e in
    words_are g.words 0 0
    (eqb-true g.words.grant 0 (and_left (eqb g.words.grant 0) _ both))
    (eqb-true g.words.second 0 (and_right (eqb g.words.grant 0) _ both))
  where
    words_are : (w : Words) (a b : ℕ) → w.grant ≡ a → w.second ≡ b → w ≡ record { grant = a; second = b }
    words_are w a b p q = rw (← p, ← q)

pub grants-back : {l : List Grants} → Each FormedGrants l → grants_said (mask_of l) (map grant_in l) (map second_in l) ≡ l
unfolding grants_said mask_of
grants-back each_nil = refl
grants-back (each-cons {x = g} {l = l} v h) =
    let flags : List Bool = map (λ (g : Grants). g.provisioned) l in
    rw (bits-first g.provisioned flags, bits-rest g.provisioned flags, grant-is g v, second_is g v, grants-back h)

-- where there are as many words of each kind
pub grants-length : (m : ℕ) (ws ss : List ℕ) → length ss ≡ length ws → length (grants_said m ws ss) ≡ length ws
unfolding grants_said
grants-length m [] ss l = refl
grants-length m (w ∷ ws) [] l = absurd (omega arith)
grants-length m (w ∷ ws) (s ∷ ss) l = rw (grants-length (m / 2) ws ss (omega arith))

pub mask-back : (m : ℕ) (ws ss : List ℕ) → length ss ≡ length ws → m < 2 ^ length ws → mask_of (grants_said m ws ss) ≡ m
unfolding grants_said mask_of bits_number
mask-back m [] ss l h = omega arith
mask-back m (w ∷ ws) [] l h = absurd (omega arith)
mask-back m (w ∷ ws) (s ∷ ss) l h =
    let positive : 0 < 2 = omega arith in
    let rest : m / 2 < 2 ^ length ws = (div-lt_iff_lt-mul {k = 2} {x = m} {y = 2 ^ length ws} positive).1 (rw pow-suc at h) in
    let low : m % 2 < 2 = omega arith in
    rw (mask-back (m / 2) ws ss (omega arith) rest, bit-forth (m % 2) low) (div-add-mod' m 2)

pub words_back : (m : ℕ) (ws ss : List ℕ) → length ss ≡ length ws → Each FormedGrants (grants_said m ws ss) → (map grant_in (grants_said m ws ss) ≡ ws) × (map second_in (grants_said m ws ss) ≡ ss)
unfolding grants_said
words_back m [] [] l v = (refl, refl)
words_back m [] (s ∷ ss) l v = absurd (omega arith)
words_back m (w ∷ ws) [] l v = absurd (omega arith)
words_back m (w ∷ ws) (s ∷ ss) l (each-cons {x = g} p v) =
    let rest = words_back (m / 2) ws ss (omega arith) v in
    (rw (grant-is g p, rest.0), rw (second_is g p, rest.1))

pub said-words : (m : ℕ) (ws ss : List ℕ) → Each (Small word_size) ws → Each (Small word_size) ss → Each (λ g. AreWords g.words) (grants_said m ws ss)
unfolding grants_said
said-words m [] ss s t = each_nil
said-words m (w ∷ ws) [] s t = each_nil
said-words m (w ∷ ws) (x ∷ ss) (each-cons p s) (each-cons r t) = each-cons (record { grant = p; second = r }) (said-words (m / 2) ws ss s t)

pub words-formed : {l : List Grants} → Each (λ g. AreWords g.words) l → Each (λ g. words_fit g ≡ true) l → Each FormedGrants l
words-formed = each-imp₂ (λ g w e. record { words = w; zero = words-kept g e })

-- so what fits is taken as it is
pub taken-same : {l : List Grants} → Each (λ g. words_fit g ≡ true) l → map taken l ≡ l
unfolding taken words_of
taken-same each_nil = refl
taken-same (each-cons {x = g} e v) = rw (taken-same v) (split g.provisioned (λ p. rw p (rw (← p))) (λ p. rw (p, ← words-kept g e p) (rw (← p))))

-- "second words zero"
pub record NoSecond (g : Grants) : Type 0 where
  pub zero : g.words.second ≡ 0

pub said-zero : (m : ℕ) (ws : List ℕ) (n : ℕ) → Each NoSecond (grants_said m ws (replicate n 0))
unfolding grants_said
said-zero m [] n = each_nil
said-zero m (w ∷ ws) zero = each_nil
said-zero m (w ∷ ws) (suc n) = each-cons (record { zero = refl }) (said-zero (m / 2) ws n)

pub seconds-zero : {l : List Grants} → Each NoSecond l → map second_in l ≡ replicate (length l) 0
unfolding second_in words_of
seconds-zero each_nil = refl
seconds-zero (each-cons {x = g} p v) = rw (seconds-zero v) (split g.provisioned (λ e. rw (e, p.zero)) (λ e. rw e))

-- ---- a row
pub record RowFits (r : SavedRow) : Type 0 where
  pub owner : r.owner.0 < 256 ^ 2
  pub next : r.next < 256 ^ 2
  pub name : length r.name.bytes ≡ name_length

saved-long : (r : SavedRow) → length r.name.bytes ≡ name_length → length (saved_bytes r) ≡ saved_size
unfolding saved_bytes
saved-long r h = simp length-append (omega (arith, length-bytes 2 r.owner.0, length-bytes 2 r.next))

-- rows, one after another: their length, whatever else is in them
pub rows_long : {l : List SavedRow} → Each (λ r. length r.name.bytes ≡ name_length) l → length (join (map saved_bytes l)) ≡ length l * saved_size
unfolding join
rows_long each_nil = sym (zero-mul saved_size)
rows_long (each-cons {x} {l} p w) = rw (length-append, suc-mul, saved-long x p, rows_long w) (add_comm saved_size (length l * saved_size))

module _ (r : SavedRow) (w : RowFits r) where
  owner-at : number_at 2 saved_owner_at (saved_bytes r) ≡ r.owner.0
  unfolding saved_bytes
  owner-at = number_in 2 r.owner.0 [] (bytes_of 2 r.next ++ r.name.bytes) w.owner

  next-at : number_at 2 saved_next_at (saved_bytes r) ≡ r.next
  unfolding saved_bytes bytes_of
  next-at = number_in 2 r.next (bytes_of 2 r.owner.0) r.name.bytes w.next

  name-at : drop saved_name_at (saved_bytes r) ≡ r.name.bytes
  unfolding saved_bytes bytes_of
  name-at = refl

  saved-back : saved_from (saved_bytes r) ≡ r
  unfolding saved_from
  saved-back = rw (owner-at, next-at, name-at)

module _ (b : List ℕ) (n : length b ≡ saved_size) (h : Bytes b) where
  saved-forth : saved_bytes (saved_from b) ≡ b
  unfolding saved_bytes saved_from
  saved-forth =
      rw (number-taken 2 saved_owner_at b h (omega arith), number-taken 2 saved_next_at b h (omega arith), part-front 2 saved_next_at b)
      (part-front 2 saved_owner_at b)

  saved-fits : RowFits (saved_from b)
  unfolding saved_from
  saved-fits =
      record { owner = number-low 2 saved_owner_at b h; next = number-low 2 saved_next_at b h; name = simp length-drop (omega arith) }

-- the name in a row, as the code reads it
pub saved-name : (row : List ℕ) → length row ≡ saved_size → read_name (take name_length (drop saved_name_at row)) ≡ Some (saved_from row).name
unfolding saved_from
saved-name row h = name-last row saved_name_at h

pub saved-codec : Codec saved_size saved_bytes saved_from anything RowFits RowFits
saved-codec =
    record {
      wide = λ p v. v;
      long = λ p v. saved-long p v.name;
      only = λ p v e. v;
      back = saved-back;
      fits = λ p v. refl;
      forth = λ b n h e. saved-forth b n h;
      good = λ b n h e. saved-fits b n h;
    }

-- ---- the elements that pass a test are those that do not fail it
module _ {A : Type 0} (f : A → Bool) where
  pub select-reject : (l : List A) → select f l ≡ reject (λ x. not (f x)) l
  unfolding select reject
  select-reject [] = refl
  select-reject (x ∷ l) = split (f x) (λ e. rw (e, select-reject l)) (λ e. rw (e, select-reject l))

  pub each-select : {P : A → Type 0} {l : List A} → Each P l → Each (λ x. (f x ≡ true) × P x) (select f l)
  each-select {l = l} h =
      rw (select-reject l)
      (each-imp₂ (λ x e p. (not-false (f x) e, p)) (each_left (λ x. not (f x)) l) (each-reject (λ x. not (f x)) h))

  pub pairs-select : {R : A → A → Type 0} {l : List A} → Pairs R l → Pairs R (select f l)
  pairs-select {l = l} h = rw (select-reject l) (pairs-reject (λ x. not (f x)) h)

-- ---- numbers of the credentials, each small, summed up: s of the first i
pub record SummedTo (f : Grants → ℕ) (most : ℕ) (grants : List Grants) (s i : ℕ) : Type 0 where
  pub long : length grants ≡ credential_count
  pub summed : Summed f most grants s i

pub sum-begin : (f : Grants → ℕ) (most : ℕ) (grants : List Grants) → length grants ≡ credential_count → SummedTo f most grants 0 0
sum-begin f most grants h = record { long = h; summed = summed-none f most grants }

module _ {f : Grants → ℕ} {most : ℕ} {grants : List Grants} {s i : ℕ} (v : SummedTo f most grants s i) where
  module _ (h : i < credential_count) {x : ℕ} (e : x ≡ f (get_or grants i unprovisioned)) (k : x ≤ most) where
    pub sum-few : s + x ≤ credential_count * most
    sum-few =
        let on : i + 1 ≤ credential_count = omega arith in
        let all : (i + 1) * most ≤ credential_count * most = mul-le-mul_right most on in
        omega (arith, rw (← e) at (summed-few v.summed unprovisioned (rw v.long h) (rw (← e) k)))

    pub sum-next : SummedTo f most grants (s + x) (i + 1)
    sum-next = record { long = v.long; summed = rw e (summed-more v.summed unprovisioned (rw v.long h) (rw (← e) k)) }

  pub sum_done : credential_count ≤ i → s ≡ sum (map f grants)
  sum_done h = summed-all v.summed (rw v.long h)
