-- Laws of records in rows of bytes. `Codec` is what a record type shows once; the laws below it are for an array of such records.
-- Assumes nothing.
use Prim.Native.Nat.{ℕ, zero, suc, ◌+◌, ◌-◌, ◌*◌, ◌/◌, ◌%◌, ◌<◌, ◌≤◌}
use mathlib.Core.Path.{◌≡◌, refl, sym, ap, ◌∙◌}
use mathlib.Core.Bool.{Bool, true, ◌&&◌}
use mathlib.Core.List.{List, [], ◌∷◌, ◌++◌, map, append_assoc}
use native.Mathlib.Nat.{zero-add, zero-mul, suc-mul, add_comm}
use native.Mathlib.Omega.{arith}
use borrow.Author.Tests.{eqb-true}
use lib.ListN.{length, get_or, take, drop, set, replicate, length-take, length-drop, length-append, length-replicate, replicate-append-replicate, take-append-drop}
use lib.Seq.{split_at, set_split, length-take-le, take_at, drop_at, drop-drop, take-add}
use Rattle.rows.specs.Bytes.{Bytes, is_zero, bytes_of, number_at}
use Rattle.rows.specs.Rows.{rows, every, pairwise}
use Rattle.rows.proofs.Bytes.{bytes_take, bytes_drop, number-zeros}
use Rattle.lists.specs.Each.{Each, each_nil, each-cons, Pairs, pairs-nil, pairs-cons}
use Rattle.lists.specs.Lists.{join}
use Rattle.lists.proofs.Tests.{and_left, and_right}
use Rattle.lists.proofs.Each.{each-imp}

-- ---- bytes, each by itself
pub each-bytes : {l : List ℕ} → Each (λ a. a < 256) l → Bytes l
each-bytes each_nil i = omega arith
each-bytes (each-cons h r) zero = h
each-bytes (each-cons h r) (suc i) = each-bytes r i

pub bytes-each : (l : List ℕ) → Bytes l → Each (λ a. a < 256) l
bytes-each [] h = each_nil
bytes-each (a ∷ l) h = each-cons (h 0) (bytes-each l (λ i. h (suc i)))

pub number-each : (k n : ℕ) → Each (λ a. a < 256) (bytes_of k n)
unfolding bytes_of
number-each zero n = each_nil
number-each (suc k) n = each-cons {x = n % 256} (omega arith) (number-each k (n / 256))

-- ---- rows
pub rows-length : (n k : ℕ) (b : List ℕ) → length (rows n k b) ≡ n
unfolding rows
rows-length zero k b = refl
rows-length (suc n) k b = ap suc (rows-length n k (drop k b))

pub rows-bytes : (n k : ℕ) (b : List ℕ) → Bytes b → Each Bytes (rows n k b)
unfolding rows
rows-bytes zero k b h = each_nil
rows-bytes (suc n) k b h = each-cons {x = take k b} (bytes_take k b h) (rows-bytes n k (drop k b) (bytes_drop k b h))

-- each is whole where there are enough bytes
pub rows_whole : (n k : ℕ) (b : List ℕ) → n * k ≤ length b → Each (λ r. length r ≡ k) (rows n k b)
unfolding rows
rows_whole zero k b h = each_nil
rows_whole (suc n) k b h =
    let enough : n * k + k ≤ length b = rw (suc-mul n k) at h in
    each-cons {x = take k b} (rw length-take (omega arith)) (rows_whole n k (drop k b) (rw length-drop (omega arith)))

-- the i-th row
pub row-at : (n k : ℕ) (b : List ℕ) (i : ℕ) (d : List ℕ) → i < n → get_or (rows n k b) i d ≡ take k (drop (i * k) b)
unfolding rows
row-at zero k b i d h = absurd (omega arith)
row-at (suc n) k b zero d h = rw zero-mul
row-at (suc n) k b (suc i) d h = row-at n k (drop k b) i d (omega arith) ∙ rw (drop-drop (i * k) k b, suc-mul i k, add_comm k (i * k))

-- the rows from the c-th on
pub rows_drop : (c n k : ℕ) (b : List ℕ) → drop c (rows (c + n) k b) ≡ rows n k (drop (c * k) b)
unfolding rows
rows_drop zero n k b = rw (zero-mul, zero-add)
rows_drop (suc c) n k b =
    let e : drop (c * k) (drop k b) ≡ drop (suc c * k) b = rw (drop-drop (c * k) k b, suc-mul c k, add_comm k (c * k)) in
    let q : suc c + n ≡ suc (c + n) = omega arith in
    rw (q, ← e) (rows_drop c n k (drop k b))

-- the first c rows
pub rows_take : (c n k : ℕ) (b : List ℕ) → c ≤ n → take c (rows n k b) ≡ rows c k b
unfolding rows
rows_take zero n k b h = refl
rows_take (suc c) zero k b h = absurd (omega arith)
rows_take (suc c) (suc n) k b h = rw (rows_take c n k (drop k b) (omega arith))

pub join-append : (x y : List (List ℕ)) → join (x ++ y) ≡ join x ++ join y
unfolding join
join-append [] y = refl
join-append (a ∷ x) y = rw (join-append x y) (sym (append_assoc a (join x) (join y)))

-- ---- every
module _ {A : Type 0} where
  pub every_append : (f : A → Bool) (x y : List A) → every f x ≡ true → every f y ≡ true → every f (x ++ y) ≡ true
  unfolding every
  every_append f [] y p q = q
  every_append f (a ∷ x) y p q = rw (and_left (f a) (every f x) p) (every_append f x y (and_right (f a) (every f x) p) q)

  pub every-split : (f : A → Bool) (c : ℕ) (l : List A) → every f (take c l) ≡ true → every f (drop c l) ≡ true → every f l ≡ true
  every-split f c l p q = rw take-append-drop at (every_append f (take c l) (drop c l) p q)

  pub every_take : (f : A → Bool) (c : ℕ) (l : List A) → every f l ≡ true → every f (take c l) ≡ true
  unfolding every
  every_take f zero l e = refl
  every_take f (suc c) [] e = refl
  every_take f (suc c) (x ∷ l) e = rw (and_left (f x) (every f l) e) (every_take f c l (and_right (f x) (every f l) e))

  pub every_drop : (f : A → Bool) (c : ℕ) (l : List A) → every f l ≡ true → every f (drop c l) ≡ true
  unfolding every
  every_drop f zero l e = e
  every_drop f (suc c) [] e = refl
  every_drop f (suc c) (x ∷ l) e = every_drop f c l (and_right (f x) (every f l) e)

  pub every-each : (f : A → Bool) (l : List A) → every f l ≡ true → Each (λ x. f x ≡ true) l
  unfolding every
  every-each f [] e = each_nil
  every-each f (x ∷ l) e = each-cons (and_left (f x) (every f l) e) (every-each f l (and_right (f x) (every f l) e))

  pub each-every : (f : A → Bool) (l : List A) → Each (λ x. f x ≡ true) l → every f l ≡ true
  unfolding every
  each-every f [] each_nil = refl
  each-every f (x ∷ l) (each-cons p v) = rw p (each-every f l v)

  pub every-by : {f : A → Bool} {P : A → Type 0} → ((x : A) → f x ≡ true → P x) → (l : List A) → every f l ≡ true → Each P l
  every-by {f} g l e = each-imp g (every-each f l e)

  pub by-every : {f : A → Bool} {P : A → Type 0} → ((x : A) → P x → f x ≡ true) → {l : List A} → Each P l → every f l ≡ true
  by-every {f} g {l} v = each-every f l (each-imp g v)

  pub pairwise-by : {f : A → A → Bool} {R : A → A → Type 0} → ((x y : A) → f x y ≡ true → R x y) → (l : List A) → pairwise f l ≡ true → Pairs R l
  unfolding pairwise
  pairwise-by g [] e = pairs-nil
  pairwise-by {f} g (x ∷ l) e = pairs-cons (every-by (g x) l (and_left (every (f x) l) (pairwise f l) e)) (pairwise-by g l (and_right (every (f x) l) (pairwise f l) e))

  pub by-pairwise : {f : A → A → Bool} {R : A → A → Type 0} → ((x y : A) → R x y → f x y ≡ true) → {l : List A} → Pairs R l → pairwise f l ≡ true
  unfolding pairwise
  by-pairwise g pairs-nil = refl
  by-pairwise g (pairs-cons {x} {l} v w) = rw (by-every (g x) v) (by-pairwise g w)

  pub each_append : {P : A → Type 0} {x y : List A} → Each P x → Each P y → Each P (x ++ y)
  each_append each_nil w = w
  each_append (each-cons p v) w = each-cons p (each_append v w)

  pub each_take : {P : A → Type 0} (c : ℕ) {l : List A} → Each P l → Each P (take c l)
  each_take zero v = each_nil
  each_take (suc c) each_nil = each_nil
  each_take (suc c) (each-cons p v) = each-cons p (each_take c v)

  pub each-replicate : {P : A → Type 0} (n : ℕ) (a : A) → P a → Each P (replicate n a)
  each-replicate zero a p = each_nil
  each-replicate (suc n) a p = each-cons p (each-replicate n a p)

module _ {A B : Type 0} (f : A → B) where
  pub map-append : (x y : List A) → map f (x ++ y) ≡ map f x ++ map f y
  map-append [] y = refl
  map-append (a ∷ x) y = rw (map-append x y)

  pub map-drop : (c : ℕ) (l : List A) → drop c (map f l) ≡ map f (drop c l)
  map-drop zero l = refl
  map-drop (suc c) [] = refl
  map-drop (suc c) (x ∷ l) = map-drop c l

  pub map-take : (c : ℕ) (l : List A) → take c (map f l) ≡ map f (take c l)
  map-take zero l = refl
  map-take (suc c) [] = refl
  map-take (suc c) (x ∷ l) = rw (map-take c l)

  pub map-replicate : (n : ℕ) (a : A) → map f (replicate n a) ≡ replicate n (f a)
  map-replicate zero a = refl
  map-replicate (suc n) a = rw (map-replicate n a)

-- each row passes where every row does
pub row-passes : (f : List ℕ → Bool) (n k off : ℕ) (b : List ℕ) → every f (rows n k (drop off b)) ≡ true → (i : ℕ) → i < n → f (take k (drop (off + i * k) b)) ≡ true
unfolding rows every
row-passes f n k off b e i h = rw (← drop-drop (i * k) off b) (by n (drop off b) i h e)
  where
    by : (n : ℕ) (l : List ℕ) (i : ℕ) → i < n → every f (rows n k l) ≡ true → f (take k (drop (i * k) l)) ≡ true
    by zero l i h e = absurd (omega arith)
    by (suc n) l zero h e = rw zero-mul (and_left (f (take k l)) (every f (rows n k (drop k l))) e)
    by (suc n) l (suc i) h e =
        let q : drop (i * k) (drop k l) ≡ drop (suc i * k) l = rw (drop-drop (i * k) k l, suc-mul i k, add_comm k (i * k)) in
        rw (← q) (by n (drop k l) i (omega arith) (and_right (f (take k l)) (every f (rows n k (drop k l))) e))

-- bytes that are all zero
pub zeros-are : (b : List ℕ) → every is_zero b ≡ true → b ≡ replicate (length b) 0
unfolding every
zeros-are [] e = refl
zeros-are (x ∷ b) e =
    let p : x ≡ 0 = eqb-true x 0 (and_left (is_zero x) (every is_zero b) e) in
    let q : b ≡ replicate (length b) 0 = zeros-are b (and_right (is_zero x) (every is_zero b) e) in
    cc

-- a number is 0 where all is zero from a place on
pub number-clear : (k at from : ℕ) (b : List ℕ) → every is_zero (drop from b) ≡ true → from ≤ at → number_at k at b ≡ 0
unfolding number_at
number-clear k at from b e h =
    let s : from + (at - from) ≡ at = omega arith in
    let q : drop at b ≡ drop (at - from) (drop from b) = sym (drop-drop (at - from) from b ∙ rw s) in
    number-zeros (take k (drop at b)) (rw q (every_take is_zero k (drop (at - from) (drop from b)) (every_drop is_zero (at - from) (drop from b) e)))

pub are-zeros : (n : ℕ) → every is_zero (replicate n 0) ≡ true
unfolding every
are-zeros zero = refl
are-zeros (suc n) = are-zeros n

pub join-zeros : (n k : ℕ) → every is_zero (join (replicate n (replicate k 0))) ≡ true
unfolding join every
join-zeros zero k = refl
join-zeros (suc n) k = every_append is_zero (replicate k 0) (join (replicate n (replicate k 0))) (are-zeros k) (join-zeros n k)

pub rows-zeros : (n k : ℕ) → rows n k (replicate (n * k) 0) ≡ replicate n (replicate k 0)
unfolding rows
rows-zeros zero k = refl
rows-zeros (suc n) k =
    let z : ℕ = 0 in
    let m : suc n * k ≡ k + n * k = suc-mul n k ∙ add_comm (n * k) k in
    let e : replicate (suc n * k) z ≡ replicate k z ++ replicate (n * k) z = rw m (sym (replicate-append-replicate k (n * k) z)) in
    let t : take k (replicate k z ++ replicate (n * k) z) ≡ replicate k z = take_at (replicate k z) (replicate (n * k) z) k (length-replicate k z) in
    let d : drop k (replicate k z ++ replicate (n * k) z) ≡ replicate (n * k) z = drop_at (replicate k z) (replicate (n * k) z) k (length-replicate k z) in
    rw (e, t, d, rows-zeros n k)

-- the row at an index, with what comes before it and after it; and another in its place
module _ {A : Type 0} (enc : A → List ℕ) (l : List A) (i : ℕ) (h : i < length l) where
  around : (a : A) → join (map enc (take i l ++ (a ∷ drop (suc i) l))) ≡ join (map enc (take i l)) ++ (enc a ++ join (map enc (drop (suc i) l)))
  unfolding join
  around a = rw (map-append enc (take i l) (a ∷ drop (suc i) l), join-append)

  pub join-at : (d : A) → join (map enc l) ≡ join (map enc (take i l)) ++ (enc (get_or l i d) ++ join (map enc (drop (suc i) l)))
  join-at d = ap (λ (x : List A). join (map enc x)) (split_at l i d h) ∙ around (get_or l i d)

  pub join-set : (a : A) → join (map enc (set l i a)) ≡ join (map enc (take i l)) ++ (enc a ++ join (map enc (drop (suc i) l)))
  join-set a = ap (λ (x : List A). join (map enc x)) (set_split l i a h) ∙ around a

-- ---- a codec: a record type in k bytes. `fine` is the test of the bytes; `Good` is the fact of the record that the test tells, and `Wide` what
-- the types of its fields tell of any such record
pub record Codec {A : Type 0} (k : ℕ) (enc : A → List ℕ) (dec : List ℕ → A) (fine : List ℕ → Bool) (Wide Good : A → Type 0) : Type 0 where
  pub wide : (x : A) → Good x → Wide x
  pub long : (x : A) → Wide x → length (enc x) ≡ k
  pub only : (x : A) → Wide x → fine (enc x) ≡ true → Good x
  pub back : (x : A) → Good x → dec (enc x) ≡ x
  pub fits : (x : A) → Good x → fine (enc x) ≡ true
  pub forth : (b : List ℕ) → length b ≡ k → Bytes b → fine b ≡ true → enc (dec b) ≡ b
  pub good : (b : List ℕ) → length b ≡ k → Bytes b → fine b ≡ true → Good (dec b)

-- an array of such records, with more bytes after it
module _ {A : Type 0} {k : ℕ} {enc : A → List ℕ} {dec : List ℕ → A} {fine : List ℕ → Bool} {Wide Good : A → Type 0} (v : Codec k enc dec fine Wide Good) where
  pub array-wide : {l : List A} → Each Good l → Each Wide l
  array-wide w = each-imp v.wide w

  pub array_long : {l : List A} → Each Wide l → length (join (map enc l)) ≡ length l * k
  unfolding join
  array_long each_nil = sym (zero-mul k)
  array_long (each-cons {x} {l} p w) = rw (length-append, suc-mul, v.long x p, array_long w) (add_comm k (length l * k))

  module _ (y : List ℕ) where
    -- the first row of an array, and what follows it
    row_first : (x : A) (l : List A) → Wide x → take k (join (map enc (x ∷ l)) ++ y) ≡ enc x
    unfolding join
    row_first x l p = rw (append_assoc (enc x) (join (map enc l)) y) (take_at (enc x) (join (map enc l) ++ y) k (v.long x p))

    row-rest : (x : A) (l : List A) → Wide x → drop k (join (map enc (x ∷ l)) ++ y) ≡ join (map enc l) ++ y
    unfolding join
    row-rest x l p = rw (append_assoc (enc x) (join (map enc l)) y) (drop_at (enc x) (join (map enc l) ++ y) k (v.long x p))

    pub array_back : {l : List A} → Each Good l → map dec (rows (length l) k (join (map enc l) ++ y)) ≡ l
    unfolding rows
    array_back each_nil = refl
    array_back (each-cons {x} {l} p w) = rw (row_first x l (v.wide x p), row-rest x l (v.wide x p), v.back x p, array_back w)

    -- the row at an index
    pub array_row : {l : List A} → Each Wide l → (i : ℕ) (d : A) → i < length l → take k (drop (i * k) (join (map enc l) ++ y)) ≡ enc (get_or l i d)
    array_row each_nil i d h = absurd (omega arith)
    array_row (each-cons {x} {l} p w) zero d h = rw zero-mul (row_first x l p)
    array_row (each-cons {x} {l} p w) (suc i) d h =
        let q : drop (suc i * k) (join (map enc (x ∷ l)) ++ y) ≡ drop (i * k) (join (map enc l) ++ y) =
        rw (suc-mul i k, add_comm (i * k) k, ← drop-drop (i * k) k (join (map enc (x ∷ l)) ++ y), row-rest x l p)
        in
        rw q (array_row w i d (omega arith))

    pub array-fits : {l : List A} → Each Good l → every fine (rows (length l) k (join (map enc l) ++ y)) ≡ true
    unfolding rows every
    array-fits each_nil = refl
    array-fits (each-cons {x} {l} p w) = rw (row_first x l (v.wide x p), row-rest x l (v.wide x p), v.fits x p) (array-fits w)

    pub array-only : {l : List A} → Each Wide l → every fine (rows (length l) k (join (map enc l) ++ y)) ≡ true → Each Good l
    unfolding rows every
    array-only each_nil e = each_nil
    array-only (each-cons {x} {l} p w) e =
        let t : (fine (enc x) && every fine (rows (length l) k (join (map enc l) ++ y))) ≡ true = rw (row_first x l p, row-rest x l p) at e in
        each-cons (v.only x p (and_left (fine (enc x)) _ t)) (array-only w (and_right (fine (enc x)) _ t))

  pub array-forth : (n : ℕ) (b : List ℕ) → n * k ≤ length b → Bytes b → every fine (rows n k b) ≡ true → join (map enc (map dec (rows n k b))) ≡ take (n * k) b
  unfolding rows join every
  array-forth zero b h g e = rw zero-mul
  array-forth (suc n) b h g e =
      let m : suc n * k ≡ k + n * k = suc-mul n k ∙ add_comm (n * k) k in
      let s : length (take k b) ≡ k = length-take-le k b (omega arith) in
      let t : n * k ≤ length (drop k b) = simp length-drop (omega arith) in
      let p : enc (dec (take k b)) ≡ take k b =
      v.forth (take k b) s (bytes_take k b g) (and_left (fine (take k b)) (every fine (rows n k (drop k b))) e)
      in
      rw (p, array-forth n (drop k b) t (bytes_drop k b g) (and_right (fine (take k b)) (every fine (rows n k (drop k b))) e), m) (sym (take-add k (n * k) b))

  pub array-good : (n : ℕ) (b : List ℕ) → n * k ≤ length b → Bytes b → every fine (rows n k b) ≡ true → Each Good (map dec (rows n k b))
  unfolding rows every
  array-good zero b h g e = each_nil
  array-good (suc n) b h g e =
      let m : suc n * k ≡ k + n * k = suc-mul n k ∙ add_comm (n * k) k in
      let s : length (take k b) ≡ k = length-take-le k b (omega arith) in
      let t : n * k ≤ length (drop k b) = simp length-drop (omega arith) in
      each-cons
      (v.good (take k b) s (bytes_take k b g) (and_left (fine (take k b)) (every fine (rows n k (drop k b))) e))
      (array-good n (drop k b) t (bytes_drop k b g) (and_right (fine (take k b)) (every fine (rows n k (drop k b))) e))
