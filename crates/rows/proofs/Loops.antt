-- The loops over rows: one that tests every element from an index on, one that tests all pairs, one that fills an array, one that writes rows.
-- Assumes nothing.
use Prim.Native.Nat.{ℕ, suc, ◌+◌, ◌-◌, ◌*◌, ◌<◌, ◌≤◌}
use mathlib.Core.Path.{◌≡◌, refl, sym, ap, ◌∙◌}
use mathlib.Core.Bool.{Bool, true, false, ◌&&◌, not, true≢false}
use mathlib.Core.List.{List, [], ◌∷◌, ◌++◌, map, append-nil}
use native.Mathlib.Nat.{add-zero, zero-mul, suc-mul, mul-le-mul_right}
use native.Mathlib.Numerals.{add-one}
use native.Mathlib.Omega.{arith}
use lib.Bits.{bit_or, or_add_and, and_le_l, and_le_r}
use borrow.Author.Tests.{eqb-true, eq-eqb, ne_eqb, not-true, not-false}
use borrow.Rule.Slice.PartMut.{put_mid}
use lib.ListN.{length, get_or, take, drop, set, replicate, length-take, length-drop, length-replicate, length-map, get_or-map, drop_of_length-le}
use lib.Seq.{take_all, drop-drop, take-suc, drop-cons, get_or-drop, get_or-take, length-take-le}
use Rattle.lists.specs.Lists.{join, select}
use Rattle.lists.proofs.Lists.{get_d_any}
use Rattle.lists.proofs.Loops.{Copied, copied_none, copied_more, copied_all}
use Rattle.lists.proofs.Tests.{split, below, and_left, and_right, and_both}
use Rattle.rows.proofs.Rows.{row-at, rows-length, map-append, join-append}
use Rattle.rows.proofs.Over.{over_none, over-part, put-length, put_next}
use Rattle.rows.specs.Bytes.{is_zero}
use Rattle.rows.specs.Rows.{rows, every, pairwise, Put}

-- ---- a test of every element, with an exit at the first that fails
module _ {A : Type 0} where
  pub record EveryFrom (f : A → Bool) (m : List A) (a i : ℕ) : Type 0 where
    pub low : i ≤ length m
    pub rest : every f (drop a m) ≡ every f (drop i m)

  pub every-begin : (f : A → Bool) (m : List A) (a : ℕ) → a ≤ length m → EveryFrom f m a a
  every-begin f m a h = record { low = h; rest = refl }

  pub every-on : {f : A → Bool} {m : List A} {a i : ℕ} (d : A) → EveryFrom f m a i → i < length m → f (get_or m i d) ≡ true → EveryFrom f m a (i + 1)
  unfolding every
  every-on {f} {m} {a} {i} d v h e = record { low = omega arith; rest = v.rest ∙ rw (drop-cons m i d h, e, add-one) }

  pub every-fail : {f : A → Bool} {m : List A} {a i : ℕ} (d : A) → EveryFrom f m a i → i < length m → f (get_or m i d) ≡ false → every f (drop a m) ≡ false
  unfolding every
  every-fail {f} {m} {a} {i} d v h e = v.rest ∙ rw (drop-cons m i d h, e)

  pub every-all : {f : A → Bool} {m : List A} {a i : ℕ} → EveryFrom f m a i → length m ≤ i → every f (drop a m) ≡ true
  unfolding every
  every-all {f} {m} {a} {i} v h = v.rest ∙ rw (drop_of_length-le m h)

  -- ---- a test of all pairs
  pub record PairsTo (f : A → A → Bool) (m : List A) (i : ℕ) : Type 0 where
    pub low : i ≤ length m
    pub rest : pairwise f m ≡ pairwise f (drop i m)

  pub pairs-begin : (f : A → A → Bool) (m : List A) → PairsTo f m 0
  pairs-begin f m = record { low = omega arith; rest = refl }

  pub pairs-on : {f : A → A → Bool} {m : List A} {i : ℕ} (d : A) → PairsTo f m i → i < length m → every (f (get_or m i d)) (drop (i + 1) m) ≡ true → PairsTo f m (i + 1)
  unfolding pairwise
  pairs-on {f} {m} {i} d v h e = record { low = omega arith; rest = v.rest ∙ rw (drop-cons m i d h, rw add-one at e, add-one) }

  pub pairs-fail : {f : A → A → Bool} {m : List A} {i : ℕ} (d : A) → PairsTo f m i → i < length m → every (f (get_or m i d)) (drop (i + 1) m) ≡ false → pairwise f m ≡ false
  unfolding pairwise
  pairs-fail {f} {m} {i} d v h e = v.rest ∙ rw (drop-cons m i d h, rw add-one at e)

  pub pairs-all : {f : A → A → Bool} {m : List A} {i : ℕ} → PairsTo f m i → length m ≤ i → pairwise f m ≡ true
  unfolding pairwise
  pairs-all {f} {m} {i} v h = v.rest ∙ rw (drop_of_length-le m h)

-- ---- zero bytes, with no exit
pub or-zero : (x y : ℕ) → is_zero (bit_or x y) ≡ (is_zero x && is_zero y)
or-zero x y =
    split (is_zero x && is_zero y)
    (λ e.
    let p : x ≡ 0 = eqb-true x 0 (and_left (is_zero x) (is_zero y) e) in
    let q : y ≡ 0 = eqb-true y 0 (and_right (is_zero x) (is_zero y) e) in
    rw (p, q))
    (λ e. rw e (ne_eqb (bit_or x y) 0 (λ h.
    let p : x ≡ 0 = omega (arith, or_add_and x y, and_le_l x y, and_le_r x y) in
    let q : y ≡ 0 = omega (arith, or_add_and x y, and_le_l x y, and_le_r x y) in
    let z : true ≡ false = sym (and_both (eq-eqb x 0 p) (eq-eqb y 0 q)) ∙ e in
    absurd (true≢false z))))

pub and-true : (b : Bool) → (b && true) ≡ b
and-true true = refl
and-true false = refl

pub and-false : (b : Bool) → (b && false) ≡ false
and-false true = refl
and-false false = refl

pub and_assoc : (a b c : Bool) → (a && b && c) ≡ (a && (b && c))
and_assoc true b c = refl
and_assoc false b c = refl

-- ---- rows of an image, tested one by one: in the form of the needs
row-part : (n k off : ℕ) (s : List ℕ) (i : ℕ) (d : List ℕ) → i < n → get_or (rows n k (drop off s)) i d ≡ take (off + i * k + k - (off + i * k)) (drop (off + i * k) s)
row-part n k off s i d h =
    let e : off + i * k + k - (off + i * k) ≡ k = omega arith in
    row-at n k (drop off s) i d h ∙ rw (e, drop-drop (i * k) off s)

pub map-part : {A : Type 0} (g : List ℕ → A) (n k off : ℕ) (s : List ℕ) (i : ℕ) (d : A) → i < n → get_or (map g (rows n k (drop off s))) i d ≡ g (take (off + i * k + k - (off + i * k)) (drop (off + i * k) s))
map-part g n k off s i d h =
    let l : i < length (map g (rows n k (drop off s))) = rw (length-map, rows-length) h in
    get_d_any (map g (rows n k (drop off s))) i d (g []) l ∙ get_or-map g (rows n k (drop off s)) i [] ∙ ap g (row-part n k off s i [] h)

-- the first i of n rows of k bytes, from an offset on, passed
pub record RowsTo (f : List ℕ → Bool) (n k off : ℕ) (s : List ℕ) (i : ℕ) : Type 0 where
  pub passed : EveryFrom f (rows n k (drop off s)) 0 i

pub rows-begin : (f : List ℕ → Bool) (n k off : ℕ) (s : List ℕ) → RowsTo f n k off s 0
rows-begin f n k off s = record { passed = every-begin f (rows n k (drop off s)) 0 (omega arith) }

module _ {f : List ℕ → Bool} {n k off : ℕ} {s : List ℕ} {i : ℕ} {b : Bool} (v : RowsTo f n k off s i) (h : i < n) (e : b ≡ f (take (off + i * k + k - (off + i * k)) (drop (off + i * k) s))) where
  here : b ≡ f (get_or (rows n k (drop off s)) i [])
  here = e ∙ ap f (sym (row-part n k off s i [] h))

  inside : i < length (rows n k (drop off s))
  inside = rw rows-length h

  pub rows_on : not b ≡ false → RowsTo f n k off s (i + 1)
  rows_on q = record { passed = every-on [] v.passed inside (sym here ∙ not-false b q) }

  pub rows-fail : not b ≡ true → false ≡ every f (rows n k (drop off s))
  rows-fail q = sym (every-fail [] v.passed inside (sym here ∙ not-true b q))

pub rows_all : {f : List ℕ → Bool} {n k off : ℕ} {s : List ℕ} {i : ℕ} → RowsTo f n k off s i → n ≤ i → true ≡ every f (rows n k (drop off s))
rows_all {f} {n} {k} {off} {s} {i} v h = let l : length (rows n k (drop off s)) ≤ i = rw rows-length h in sym (every-all v.passed l)

-- the same, of the records of the rows, from any index on
module _ {A : Type 0} where
  pub record RecordsTo (f : A → Bool) (g : List ℕ → A) (n k off : ℕ) (s : List ℕ) (a i : ℕ) : Type 0 where
    pub passed : EveryFrom f (map g (rows n k (drop off s))) a i

  pub records-begin : (f : A → Bool) (g : List ℕ → A) (n k off : ℕ) (s : List ℕ) (a : ℕ) → a ≤ n → RecordsTo f g n k off s a a
  records-begin f g n k off s a h = record { passed = every-begin f (map g (rows n k (drop off s))) a (rw (length-map, rows-length) h) }

  module _ {f : A → Bool} {g : List ℕ → A} {n k off : ℕ} {s : List ℕ} {a i : ℕ} {b : Bool} (v : RecordsTo f g n k off s a i) (h : i < n) (e : b ≡ f (g (take (off + i * k + k - (off + i * k)) (drop (off + i * k) s)))) where
    here-record : b ≡ f (get_or (map g (rows n k (drop off s))) i (g []))
    here-record = e ∙ ap f (sym (map-part g n k off s i (g []) h))

    inside-record : i < length (map g (rows n k (drop off s)))
    inside-record = rw (length-map, rows-length) h

    pub records-on : not b ≡ false → RecordsTo f g n k off s a (i + 1)
    records-on q = record { passed = every-on (g []) v.passed inside-record (sym here-record ∙ not-false b q) }

    pub records-fail : not b ≡ true → false ≡ every f (drop a (map g (rows n k (drop off s))))
    records-fail q = sym (every-fail (g []) v.passed inside-record (sym here-record ∙ not-true b q))

  pub records-all : {f : A → Bool} {g : List ℕ → A} {n k off : ℕ} {s : List ℕ} {a i : ℕ} → RecordsTo f g n k off s a i → n ≤ i → true ≡ every f (drop a (map g (rows n k (drop off s))))
  records-all {f} {g} {n} {k} {off} {s} {a} {i} v h =
      let l : length (map g (rows n k (drop off s))) ≤ i = rw (length-map, rows-length) h in
      sym (every-all v.passed l)

  -- ---- an array filled with the records of the rows
  pub record FilledBy (g : List ℕ → A) (n k off : ℕ) (s : List ℕ) (out₀ out : List A) (i : ℕ) : Type 0 where
    pub filled : Copied (map g (rows n k (drop off s))) out₀ out i

  -- from any array that is as long
  pub filled-from : (g : List ℕ → A) (n k off : ℕ) (s : List ℕ) (out : List A) → length out ≡ n → FilledBy g n k off s out out 0
  filled-from g n k off s out h =
      record { filled = copied_none (map g (rows n k (drop off s))) out (h ∙ sym (length-map (rows n k (drop off s)) g ∙ rows-length n k (drop off s))) }

  pub filled-begin : (g : List ℕ → A) (n k off : ℕ) (s : List ℕ) (z : A) → FilledBy g n k off s (replicate n z) (replicate n z) 0
  filled-begin g n k off s z = filled-from g n k off s (replicate n z) (length-replicate n z)

  pub filled_next : {g : List ℕ → A} {n k off : ℕ} {s : List ℕ} {out₀ out : List A} {i : ℕ} {x : A}
      → FilledBy g n k off s out₀ out i → i < n → x ≡ g (take (off + i * k + k - (off + i * k)) (drop (off + i * k) s)) → FilledBy g n k off s out₀ (set out i x) (i + 1)
  filled_next {g} {n} {k} {off} {s} {out₀} {out} {i} {x} v h e =
      let l : i < length (map g (rows n k (drop off s))) = rw (length-map, rows-length) h in
      let q : x ≡ get_or (map g (rows n k (drop off s))) i x = e ∙ sym (map-part g n k off s i x h) in
      record { filled = rw (← q) at (copied_more v.filled x l) }

  pub filled-done : {g : List ℕ → A} {n k off : ℕ} {s : List ℕ} {out₀ out : List A} {i : ℕ} → FilledBy g n k off s out₀ out i → n ≤ i → out ≡ map g (rows n k (drop off s))
  filled-done {g} {n} {k} {off} {s} {out₀} {out} {i} v h =
      let l : length (map g (rows n k (drop off s))) ≤ i = rw (length-map, rows-length) h in
      copied_all v.filled l

  -- ---- records written as rows, from an offset on
  pub record Wrote (enc : A → List ℕ) (k off : ℕ) (l : List A) (old new : List ℕ) (i : ℕ) : Type 0 where
    pub low : i ≤ length l
    pub room : off + length l * k ≤ length old
    pub put : Put off (i * k) (join (map enc (take i l))) old new

  pub wrote-begin : (enc : A → List ℕ) (k off : ℕ) (l : List A) (old : List ℕ) → off + length l * k ≤ length old → Wrote enc k off l old old 0
  unfolding join
  wrote-begin enc k off l old h =
      let z : 0 * k ≡ 0 = zero-mul k in
      record { low = omega arith; room = h; put = record { long = sym z; is = rw z (sym (over_none off old)) } }

  module _ {enc : A → List ℕ} {k off : ℕ} {l : List A} {old new : List ℕ} {i : ℕ} (v : Wrote enc k off l old new i) where
    pub wrote-length : length new ≡ length old
    wrote-length = put-length v.put

    -- the row that is to be written has room
    pub wrote-room : i < length l → off + i * k + k ≤ length new
    wrote-room h =
        let m : i * k + k ≤ length l * k = (let q : suc i * k ≤ length l * k = mul-le-mul_right k h in rw (suc-mul i k) at q) in
        omega (arith, v.room, wrote-length)

    -- the part that is lent for it
    pub wrote-part : i < length l → length (take (off + i * k + k - (off + i * k)) (drop (off + i * k) new)) ≡ k
    wrote-part h = simp (length-take, length-drop) (omega (arith, wrote-room h))

    pub wrote_on : {ys : List ℕ} (d : A) → i < length l → ys ≡ enc (get_or l i d) → length ys ≡ length (take (off + i * k + k - (off + i * k)) (drop (off + i * k) new))
        → Wrote enc k off l old (put_mid (off + i * k) (off + i * k + k - (off + i * k)) new ys) (i + 1)
    unfolding join
    wrote_on {ys} d h e g =
        let y : length ys ≡ k = g ∙ wrote-part h in
        let x : List ℕ = join (map enc (take i l)) in
        let j : join (map enc (take (i + 1) l)) ≡ x ++ ys = rw (add-one, take-suc l i d h, map-append enc (take i l) (get_or l i d ∷ []), join-append, append-nil, e) in
        let n : off + i * k + k - (off + i * k) ≡ k = omega arith in
        let m : (i + 1) * k ≡ i * k + k = rw add-one (suc-mul i k) in
        let last : List ℕ = put_mid (off + i * k) k new ys in
        let one : Put (off + i * k) k ys new last = record { long = y; is = over-part (off + i * k) k ys new (wrote-room h) } in
        let both : Put off (i * k + k) (x ++ ys) old last = put_next v.put one (omega (arith, wrote-room h, wrote-length)) in
        record { low = omega arith; room = v.room; put = rw (m, j, n) both }

    pub wrote-all : length l ≤ i → Put off (length l * k) (join (map enc l)) old new
    wrote-all h =
        let t : take i l ≡ l = take_all i l h in
        let q : i ≡ length l = omega (arith, v.low) in
        rw (t, q) at v.put

-- ---- the rows of those of the first n of l that pass a test, written one after another: j are written, and those of the elements from i on are left. The first
-- n are few, so that the places of their rows are small numbers
module _ {A B : Type 0} where
  pub record WroteChosen (f : A → Bool) (row : A → B) (enc : B → List ℕ) (k off most : ℕ) (l : List A) (n : ℕ) (old new : List ℕ) (j i : ℕ) : Type 0 where
    pub low : i ≤ n
    pub within : n ≤ length l
    pub small : n ≤ most
    pub few : j ≤ i
    pub wrote : Wrote enc k off (map row (select f (take n l))) old new j
    pub left : drop j (map row (select f (take n l))) ≡ map row (select f (drop i (take n l)))

  pub chosen-begin : (f : A → Bool) (row : A → B) (enc : B → List ℕ) (k off most : ℕ) (l : List A) (n : ℕ) (old : List ℕ) → n ≤ length l → n ≤ most
      → off + length (map row (select f (take n l))) * k ≤ length old → WroteChosen f row enc k off most l n old old 0 0
  chosen-begin f row enc k off most l n old h m r =
      record { low = omega arith; within = h; small = m; few = omega arith; wrote = wrote-begin enc k off (map row (select f (take n l))) old r; left = refl }

  module _ {f : A → Bool} {row : A → B} {enc : B → List ℕ} {k off most : ℕ} {l : List A} {n : ℕ} {old new : List ℕ} {j i : ℕ} (v : WroteChosen f row enc k off most l n old new j i) where
    abbrev all : List B
    all = map row (select f (take n l))

    pub chosen-length : length new ≡ length old
    chosen-length = wrote-length v.wrote

    module _ (d : A) {b : Bool} (h : i < n) (e : b ≡ f (get_or l i d)) where
      -- the element at i is the next of those from i on
      ahead : drop i (take n l) ≡ get_or l i d ∷ drop (i + 1) (take n l)
      ahead = drop-cons (take n l) i d (omega (arith, length-take-le n l v.within)) ∙ rw (get_or-take n l i d h, add-one)

      module _ (t : b ≡ true) where
        row-left : drop j all ≡ row (get_or l i d) ∷ map row (select f (drop (i + 1) (take n l)))
        unfolding select
        row-left = v.left ∙ rw (ahead, ← e, t)

        -- so there is a row for it
        row_inside : j < length all
        row_inside = below j (length all) (λ p. p) (λ p. absurd (omega (arith, ap length row-left, length-drop j all)))

        row_is : get_or all j (row d) ≡ row (get_or l i d)
        row_is = (rw add-zero at (sym (get_or-drop j all 0 (row d)))) ∙ ap (λ (x : List B). get_or x 0 (row d)) row-left

        pub chosen-room : off + j * k + k ≤ length new
        chosen-room = wrote-room v.wrote row_inside

        pub chosen-part : length (take (off + j * k + k - (off + j * k)) (drop (off + j * k) new)) ≡ k
        chosen-part = wrote-part v.wrote row_inside

        pub chosen_on : {j' : ℕ} {ys new' : List ℕ} → ys ≡ enc (row (get_or l i d)) → new' ≡ put_mid (off + j * k) (off + j * k + k - (off + j * k)) new ys → j' ≡ j + 1
            → length ys ≡ length (take (off + j * k + k - (off + j * k)) (drop (off + j * k) new)) → WroteChosen f row enc k off most l n old new' j' (i + 1)
        chosen_on q g m s =
            rw (g, m)
            (record {
              low = omega arith;
              within = v.within;
              small = v.small;
              few = omega (arith, v.few);
              wrote = wrote_on v.wrote (row d) row_inside (q ∙ ap enc (sym row_is)) s;
              left = sym (drop-drop 1 j all) ∙ ap (drop 1) row-left;
            })

      pub chosen-over : {j' : ℕ} {new' : List ℕ} → b ≡ false → new' ≡ new → j' ≡ j → WroteChosen f row enc k off most l n old new' j' (i + 1)
      unfolding select
      chosen-over t g m =
          rw (g, m)
          (record {
            low = omega arith;
            within = v.within;
            small = v.small;
            few = omega (arith, v.few);
            wrote = v.wrote;
            left = v.left ∙ rw (ahead, ← e, t);
          })

    module _ (h : n ≤ i) where
      none_left : drop j all ≡ []
      unfolding select
      none_left =
          let past : length (take n l) ≤ i = omega (arith, length-take-le n l v.within) in
          v.left ∙ rw (drop_of_length-le (take n l) past)

      pub chosen-all : Put off (length all * k) (join (map enc all)) old new
      chosen-all = wrote-all v.wrote (omega (arith, ap length none_left, length-drop j all))

      pub chosen-count : j ≡ length all
      chosen-count = omega (arith, ap length none_left, length-drop j all, v.wrote.low)
