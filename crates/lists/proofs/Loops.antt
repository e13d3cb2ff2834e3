-- The loops that compute the functions on lists: for each, a record of what holds when its test is reached, that it holds at the
-- start, that a turn keeps it, and what it says at the end.
-- Assumes nothing.
use Prim.Native.Nat.{ℕ, suc, ◌+◌, ◌-◌, ◌*◌, ◌<◌, ◌≤◌}
use mathlib.Core.Path.{◌≡◌, refl, sym, ◌∙◌}
use mathlib.Core.Bool.{Bool, true, false}
use mathlib.Core.List.{List, [], ◌∷◌, ◌++◌, map, append-nil, append_assoc}
use native.Mathlib.Nat.{add-zero, suc-mul}
use native.Mathlib.Numerals.{add-one}
use native.Mathlib.Omega.{arith}
use lib.ListN.{length, get_or, take, drop, set, length-set, length-map, replicate, length-take, length-append, drop_of_length-le, take-append-drop, length-replicate, replicate-append-replicate}
use lib.Seq.{drop-cons, get_or-take, get_or-drop, get_or-append-add, length-take-le, take-take, take-suc, take-append-le, drop-append-le, append_snoc, set_at, take_at, take_all, get_or_at}
use Rattle.lists.specs.Lists.{first_index, reject, select, remove_at, padded, sum}
use Rattle.lists.proofs.Lists.{length-remove, reject-snoc, select-snoc}

map_snoc : {A B : Type 0} (f : A → B) (l : List A) (x : A) → map f (l ++ (x ∷ [])) ≡ map f l ++ (f x ∷ [])
map_snoc f [] x = refl
map_snoc f (y ∷ ys) x = rw (map_snoc f ys x)

module _ {A : Type 0} where
  -- ---- a search through the first n of l: the i elements passed failed the test
  pub record Passed (f : A → Bool) (l : List A) (n i : ℕ) : Type 0 where
    pub low : i ≤ n
    pub within : n ≤ length l
    pub rest : first_index f (take n l) ≡ i + first_index f (drop i (take n l))

  pub passed_none : (f : A → Bool) (l : List A) (n : ℕ) → n ≤ length l → Passed f l n 0
  passed_none f l n h = record { low = omega arith; within = h; rest = omega arith }

  -- at an index below n, one element more
  ahead : (f : A → Bool) (l : List A) (n i : ℕ) (d : A) → i < n → n ≤ length l → drop i (take n l) ≡ get_or l i d ∷ drop (suc i) (take n l)
  ahead f l n i d h k =
      let s : i < length (take n l) = omega (arith, length-take-le n l k) in
      drop-cons (take n l) i d s ∙ rw (get_or-take n l i d h)

  module _ {f : A → Bool} {l : List A} {n i : ℕ} (v : Passed f l n i) where
    pub passed-more : (d : A) → i < n → f (get_or l i d) ≡ false → Passed f l n (i + 1)
    unfolding first_index
    passed-more d h e =
        record {
          low = omega arith;
          within = v.within;
          rest = v.rest ∙ rw (ahead f l n i d h v.within, e, add-one) (omega arith);
        }

    pub passed-hit : (d : A) → i < n → f (get_or l i d) ≡ true → first_index f (take n l) ≡ i
    unfolding first_index
    passed-hit d h e = v.rest ∙ rw (ahead f l n i d h v.within, e, add-zero)

    pub passed-all : n ≤ i → first_index f (take n l) ≡ n
    unfolding first_index
    passed-all h =
        let k : length (take n l) ≤ i = omega (arith, length-take-le n l v.within) in
        v.rest ∙ rw (drop_of_length-le (take n l) k) (omega arith)

  -- ---- s copied over d, which is as long: the first i are
  pub record Copied (s d l : List A) (i : ℕ) : Type 0 where
    pub low : i ≤ length s
    pub over : length d ≡ length s
    pub long : length l ≡ length d
    pub is : l ≡ take i s ++ drop i d

  pub copied_none : (s d : List A) → length d ≡ length s → Copied s d d 0
  copied_none s d e = record { low = omega arith; over = e; long = refl; is = refl }

  module _ {s d l : List A} {i : ℕ} (v : Copied s d l i) where
    pub copied_more : (z : A) → i < length s → Copied s d (set l i (get_or s i z)) (i + 1)
    copied_more z h =
        let k : i < length d = omega arith in
        record {
          low = omega arith;
          over = v.over;
          long = length-set l i (get_or s i z) ∙ v.long;
          is =
              rw (v.is, drop-cons d i z k, add-one, take-suc s i z h, append_snoc)
              (set_at (take i s) (get_or d i z) (drop (suc i) d) (get_or s i z) i (length-take-le i s v.low));
        }

    pub copied_all : length s ≤ i → l ≡ s
    copied_all h =
        let k : length d ≤ i = omega arith in
        v.is ∙ rw (drop_of_length-le d k, append-nil, take_all i s h)

  -- ---- the elements from n on replaced by z: it is done up to i
  pub record Cleared (l₀ : List A) (n : ℕ) (z : A) (l : List A) (i : ℕ) : Type 0 where
    pub low : n ≤ i
    pub within : i ≤ length l₀
    pub is : l ≡ take n l₀ ++ replicate (i - n) z ++ drop i l₀

  pub cleared-none : (l : List A) (n : ℕ) (z : A) → n ≤ length l → Cleared l n z l n
  cleared-none l n z h =
      record {
        low = omega arith;
        within = h;
        is = (let e : n - n ≡ 0 = omega arith in rw (e, append-nil) (sym (take-append-drop n l)));
      }

  module _ {l₀ : List A} {n : ℕ} {z : A} {l : List A} {i : ℕ} (v : Cleared l₀ n z l i) where
    done : length (take n l₀ ++ replicate (i - n) z) ≡ i
    done = simp (length-append, length-replicate, length-take) (omega arith)

    pub cleared_more : i < length l₀ → Cleared l₀ n z (set l i z) (i + 1)
    cleared_more h =
        let e : i + 1 - n ≡ i - n + 1 = omega arith in
        record {
          low = omega arith;
          within = omega arith;
          is =
              rw (v.is, drop-cons l₀ i z h, e, ← replicate-append-replicate (i - n) 1 z, add-one, ← append_assoc (take n l₀), append_snoc)
              (set_at (take n l₀ ++ replicate (i - n) z) (get_or l₀ i z) (drop (suc i) l₀) z i done);
        }

    pub cleared-all : length l₀ ≤ i → l ≡ padded (length l₀) z (take n l₀)
    unfolding padded
    cleared-all h =
        let e : i ≡ length l₀ = omega arith in
        let a : length (take n l₀) ≡ n = length-take-le n l₀ (omega arith) in
        let b : length l₀ ≤ i = omega arith in
        v.is ∙ rw (drop_of_length-le l₀ b, append-nil, e, a)

  -- ---- the gap at an index of the first n closed: up to i the later elements have moved up by one
  pub record Shifted (l₀ : List A) (n at : ℕ) (l : List A) (i : ℕ) : Type 0 where
    pub from : at ≤ i
    pub low : i < n
    pub within : n ≤ length l₀
    pub is : l ≡ remove_at at (take (suc i) l₀) ++ drop i l₀

  pub shifted_none : (l : List A) (n at : ℕ) → at < n → n ≤ length l → Shifted l n at l at
  unfolding remove_at
  shifted_none l n at h k = record { from = omega arith; low = h; within = k; is = sym e }
    where
      e : take at (take (suc at) l) ++ drop (suc at) (take (suc at) l) ++ drop at l ≡ l
      e =
          let a : length (take (suc at) l) ≤ suc at = simp length-take (omega arith) in
          let b : at ≤ suc at = omega arith in
          rw (drop_of_length-le (take (suc at) l) a, append-nil, take-take at (suc at) l b, take-append-drop)

  remove-snoc : (at : ℕ) (l : List A) (x : A) → at < length l → remove_at at (l ++ (x ∷ [])) ≡ remove_at at l ++ (x ∷ [])
  unfolding remove_at
  remove-snoc at l x h =
      let a : at ≤ length l = omega arith in
      let b : suc at ≤ length l = omega arith in
      rw (take-append-le at l (x ∷ []) a, drop-append-le (suc at) l (x ∷ []) b, append_assoc)

  module _ {l₀ : List A} {n at : ℕ} {l : List A} {i : ℕ} (v : Shifted l₀ n at l i) where
    -- what stands before i
    moved : length (remove_at at (take (suc i) l₀)) ≡ i
    moved =
        let k : length (take (suc i) l₀) ≡ suc i = length-take-le (suc i) l₀ (omega arith) in
        omega (arith, length-remove at (take (suc i) l₀) (omega arith))

    pub shifted-more : (d : A) → i + 1 < n → Shifted l₀ n at (set l i (get_or l (i + 1) d)) (i + 1)
    shifted-more d h = record { from = omega arith; low = h; within = v.within; is = e }
      where
        e : set l i (get_or l (i + 1) d) ≡ remove_at at (take (suc (i + 1)) l₀) ++ drop (i + 1) l₀
        e =
            let gone : List A = remove_at at (take (suc i) l₀) in
            let x : A = get_or l₀ (suc i) d in
            let r : get_or l (i + 1) d ≡ x =
            rw v.is ((rw moved at (get_or-append-add gone (drop i l₀) 1 d)) ∙ get_or-drop i l₀ 1 d ∙ rw add-one)
            in
            let m : take (suc (suc i)) l₀ ≡ take (suc i) l₀ ++ (x ∷ []) = take-suc l₀ (suc i) d (omega arith) in
            let q : remove_at at (take (suc i) l₀ ++ (x ∷ [])) ≡ gone ++ (x ∷ []) =
            remove-snoc at (take (suc i) l₀) x (omega (arith, length-take-le (suc i) l₀ (omega arith)))
            in
            let b : i < length l₀ = omega arith in
            rw (r, v.is, drop-cons l₀ i d b, add-one, m, q, append_snoc)
            (set_at gone (get_or l₀ i d) (drop (suc i) l₀) x i moved)

    -- the first n - 1 are then those that are left
    pub shifted-all : n ≤ i + 1 → take (n - 1) l ≡ remove_at at (take n l₀)
    shifted-all h =
        let e : n ≡ suc i = omega arith in
        let f : n - 1 ≡ i = omega arith in
        rw (f, e, v.is) (take_at (remove_at at (take (suc i) l₀)) (drop i l₀) i moved)

  -- ---- of the first n of l, what passes the test sifted out: k are left, at the front of m places, and the rest is z
  pub record Sifted (f : A → Bool) (l : List A) (n m : ℕ) (z : A) (out : List A) (k i : ℕ) : Type 0 where
    pub low : i ≤ n
    pub within : n ≤ length l
    pub room : n ≤ m
    pub few : k ≤ i
    pub count : k ≡ length (reject f (take i l))
    pub is : out ≡ padded m z (reject f (take i l))

  pub sifted-none : (f : A → Bool) (l : List A) (n m : ℕ) (z : A) → n ≤ length l → n ≤ m → Sifted f l n m z (replicate m z) 0 0
  unfolding reject padded
  sifted-none f l n m z h r =
      record {
        low = omega arith;
        within = h;
        room = r;
        few = omega arith;
        count = refl;
        is = (let e : m - 0 ≡ m = omega arith in rw e);
      }

  module _ {f : A → Bool} {l : List A} {n m : ℕ} {z : A} {out : List A} {k i : ℕ} (d : A) (v : Sifted f l n m z out k i) (h : i < n) where
    next : take (i + 1) l ≡ take i l ++ (get_or l i d ∷ [])
    next = rw add-one (take-suc l i d (omega arith))

    pub sifted-out : f (get_or l i d) ≡ true → Sifted f l n m z out k (i + 1)
    sifted-out e =
        let s : reject f (take (i + 1) l) ≡ reject f (take i l) = rw (next, reject-snoc, e) in
        record {
          low = omega arith;
          within = v.within;
          room = v.room;
          few = omega arith;
          count = rw s v.count;
          is = rw s v.is;
        }

    pub sifted-in : f (get_or l i d) ≡ false → Sifted f l n m z (set out k (get_or l i d)) (k + 1) (i + 1)
    unfolding padded
    sifted-in e =
        let s : reject f (take (i + 1) l) ≡ reject f (take i l) ++ (get_or l i d ∷ []) = rw (next, reject-snoc, e) in
        let c : length (reject f (take i l) ++ (get_or l i d ∷ [])) ≡ k + 1 = rw length-append (omega (arith, v.count)) in
        let r : m - k ≡ suc (m - (k + 1)) = omega arith in
        record {
          low = omega arith;
          within = v.within;
          room = v.room;
          few = omega arith;
          count = rw s (sym c);
          is =
              rw (s, c, v.is, ← v.count, r, append_snoc)
              (set_at (reject f (take i l)) z (replicate (m - (k + 1)) z) (get_or l i d) k (sym v.count));
        }

  -- ---- of the first n of l, those that pass the test counted: k of the first i
  pub record Counted (f : A → Bool) (l : List A) (n k i : ℕ) : Type 0 where
    pub low : i ≤ n
    pub within : n ≤ length l
    pub few : k ≤ i
    pub is : k ≡ length (select f (take i l))

  pub counted_none : (f : A → Bool) (l : List A) (n : ℕ) → n ≤ length l → Counted f l n 0 0
  unfolding select
  counted_none f l n h = record { low = omega arith; within = h; few = omega arith; is = refl }

  module _ {f : A → Bool} {l : List A} {n k i : ℕ} (d : A) (v : Counted f l n k i) (h : i < n) where
    reached : take (i + 1) l ≡ take i l ++ (get_or l i d ∷ [])
    reached = rw add-one (take-suc l i d (omega arith))

    pub counted-more : f (get_or l i d) ≡ true → Counted f l n (k + 1) (i + 1)
    counted-more e =
        record {
          low = omega arith;
          within = v.within;
          few = omega arith;
          is = rw (reached, select-snoc, e, length-append) (omega (arith, v.is));
        }

    pub counted-not : f (get_or l i d) ≡ false → Counted f l n k (i + 1)
    counted-not e =
        record { low = omega arith; within = v.within; few = omega arith; is = rw (reached, select-snoc, e) v.is }

  -- ---- the numbers that f makes of the elements, each small, summed up: s of the first i
  pub record Summed (f : A → ℕ) (most : ℕ) (l : List A) (s i : ℕ) : Type 0 where
    pub low : i ≤ length l
    pub few : s ≤ i * most
    pub rest : sum (map f l) ≡ s + sum (map f (drop i l))

  pub summed-none : (f : A → ℕ) (most : ℕ) (l : List A) → Summed f most l 0 0
  summed-none f most l = record { low = omega arith; few = omega arith; rest = omega arith }

  module _ {f : A → ℕ} {most : ℕ} {l : List A} {s i : ℕ} (v : Summed f most l s i) where
    module _ (d : A) (h : i < length l) (k : f (get_or l i d) ≤ most) where
      pub summed-few : s + f (get_or l i d) ≤ (i + 1) * most
      summed-few = rw (add-one, suc-mul i most) (omega (arith, v.few))

      pub summed-more : Summed f most l (s + f (get_or l i d)) (i + 1)
      unfolding sum
      summed-more = record { low = omega arith; few = summed-few; rest = v.rest ∙ rw (drop-cons l i d h, add-one) (omega arith) }

    pub summed-all : length l ≤ i → s ≡ sum (map f l)
    unfolding sum
    summed-all h = sym (v.rest ∙ rw (drop_of_length-le l h) (omega arith))

  -- ---- each element replaced by what f makes of it: the first i are
  pub record Mapped (f : A → A) (l₀ l : List A) (i : ℕ) : Type 0 where
    pub low : i ≤ length l₀
    pub is : l ≡ map f (take i l₀) ++ drop i l₀

  pub mapped-none : (f : A → A) (l : List A) → Mapped f l l 0
  mapped-none f l = record { low = omega arith; is = refl }

  module _ {f : A → A} {l₀ l : List A} {i : ℕ} (v : Mapped f l₀ l i) where
    front : length (map f (take i l₀)) ≡ i
    front = length-map (take i l₀) f ∙ length-take-le i l₀ v.low

    pub mapped-more : (d : A) → i < length l₀ → Mapped f l₀ (set l i (f (get_or l i d))) (i + 1)
    mapped-more d h =
        let at : get_or l i d ≡ get_or l₀ i d = rw (v.is, drop-cons l₀ i d h) (get_or_at (map f (take i l₀)) (get_or l₀ i d) (drop (suc i) l₀) d i front) in
        record {
          low = omega arith;
          is =
              rw (at, v.is, drop-cons l₀ i d h, add-one, take-suc l₀ i d h, map_snoc f (take i l₀) (get_or l₀ i d), append_snoc)
              (set_at (map f (take i l₀)) (get_or l₀ i d) (drop (suc i) l₀) (f (get_or l₀ i d)) i front);
        }

    pub mapped-all : length l₀ ≤ i → l ≡ map f l₀
    mapped-all h = v.is ∙ rw (drop_of_length-le l₀ h, append-nil, take_all i l₀ h)
