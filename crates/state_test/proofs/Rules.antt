-- The laws that close the needs of this crate's functions by `search rules`: each premise is as a place's record has it.
-- Assumes nothing.
use Prim.Native.Nat.{ℕ, suc, min, ◌+◌, ◌-◌, ◌%◌, ◌<◌, ◌≤◌}
use mathlib.Core.Path.{◌≡◌, refl, sym, ap, ◌∙◌}
use mathlib.Core.Bool.{Bool, true, false, ◌&&◌, ◌||◌, not}
use mathlib.Core.List.{List, [], ◌∷◌, map}
use native.Mathlib.Omega.{arith}
use borrow.Author.Count.{below_more}
use borrow.Author.Rules.{rules as std_rules}
use borrow.Author.Tests.{eqb-false, ne_eqb, lt-ltb}
use lib.Dec.{eqb, ltb}
use lib.ListN.{length, take, drop, get_or, length-map, get_or-map, replicate, length-replicate, set, length-set, length-drop}
use lib.Seq.{get_or-set_same, get_or-set_other, take_all}
use Rattle.lists.proofs.Lists.{length-mapped}
use Rattle.lists.proofs.Tests.{split, below, clash, and_left, and_both}
use Rattle.rows.specs.Rows.{rows, every, pairwise}
use Rattle.rows.proofs.Rows.{rows-length, rows_take, map-take}
use Rattle.rows.proofs.Loops.{PairsTo, pairs-begin, pairs-on, pairs-fail, pairs-all, and_assoc}
use Rattle.lists.proofs.Lists.{get_d_any}
use Rattle.rows.proofs.Chunks.{all_every}
use Rattle.names.specs.declared.Name.{Name}
use Rattle.names.specs.Names.{same_name}
use Rattle.names.specs.Words.{digest_of}
use Rattle.names.proofs.Laws.{same→name}
use Rattle.table.specs.Table.{standing, free_place, places}
use Rattle.table.specs.declared.Process.{Process}
use Rattle.state_layout.specs.Layout.{name_at, place_size, places_at, state_length, process_from, count_in, places_in, state_of, is_owned, are_apart, sound, shaped, rest_is_free, holds_state}
use Rattle.state_test.specs.Digests.{sum_of, again, round, standing_in, Digests, Sums, Behind, other_names, Unless, later_others}
use Rattle.state_fields.specs.Stands.{no_rivals, all_fit}
use Rattle.state_fields.proofs.Rules.{interchange}
use Rattle.state_layout.proofs.Laws.{Shape, shape, state-in}

-- ---- names: each as it stands
pub name-stands : (row : List ℕ) {b : List ℕ} → length row ≡ place_size → b ≡ take (place_size - name_at) (drop name_at row) → record { bytes = b } ≡ (process_from row).name
unfolding process_from
name-stands row h e = ap (λ (l : List ℕ). record { bytes = l }) (e ∙ take_all (place_size - name_at) (drop name_at row) (simp length-drop (omega arith)))

-- ---- their digests
pub record DigestsTo (l : List (List ℕ)) (d : List ℕ) (i : ℕ) : Type 0 where
  pub long : length d ≡ places
  pub each : (k : ℕ) → k < i → get_or d k 0 ≡ digest_of (get_or (standing_in l) k free_place).name

pub digests-begin : (l : List (List ℕ)) (d : List ℕ) → length d ≡ places → DigestsTo l d 0
digests-begin l d k = record { long = k; each = λ i l. absurd (omega arith) }

pub digests-on : {l : List (List ℕ)} {d : List ℕ} {i r : ℕ} {name : Name} → DigestsTo l d i → length l ≤ places → i < length l → name ≡ (process_from (get_or l i [])).name → r ≡ digest_of name → DigestsTo l (set d i r) (i + 1)
digests-on {l} {d} {i} {r} {name} v few h e f =
    let k : i < length d = omega (arith, v.long) in
    let there : i < length (standing_in l) = rw length-map h in
    let stands : get_or (standing_in l) i free_place ≡ process_from (get_or l i []) = get_d_any (standing_in l) i free_place (process_from []) there ∙ get_or-map process_from l i [] in
    record {
      long = length-set d i r ∙ v.long;
      each =
          below_more _ _
          (λ j l. get_or-set_other d i j r 0 (λ q. omega arith) ∙ v.each j l)
          (get_or-set_same d i r 0 k ∙ rw (stands, ← e) f);
    }

pub digests-all : {l : List (List ℕ)} {d : List ℕ} {i : ℕ} → DigestsTo l d i → length l ≤ i → Digests l d
digests-all v h = record { at = λ k l. v.each k (omega arith) }

-- ---- their sums
pub record SumsTo (digests sums : List ℕ) (i : ℕ) : Type 0 where
  pub long : length sums ≡ round
  pub each : (k : ℕ) → k < i → get_or sums k 0 ≡ sum_of (get_or digests (k % places) 0)

pub sums-begin : (digests : List ℕ) → SumsTo digests (replicate round 0) 0
sums-begin digests = let z : ℕ = 0 in record { long = length-replicate round z; each = λ k h. absurd (omega arith) }

pub sums_on : {digests sums : List ℕ} {i sum : ℕ} → SumsTo digests sums i → i < round → sum ≡ sum_of (get_or digests (i % places) 0) → SumsTo digests (set sums i sum) (i + 1)
sums_on {digests} {sums} {i} {sum} v h e =
    let k : i < length sums = omega (arith, v.long) in
    record {
      long = length-set sums i sum ∙ v.long;
      each = below_more _ _ (λ j l. get_or-set_other sums i j sum 0 (λ q. omega arith) ∙ v.each j l) (get_or-set_same sums i sum 0 k ∙ e);
    }

pub sums-all : {digests sums : List ℕ} {i : ℕ} → SumsTo digests sums i → round ≤ i → Sums digests sums
sums-all v h = record { at = λ k l. v.each k (omega arith) }

-- ---- two that are the same: one so far behind the other
neither_left : (a b : Bool) → (a || b) ≡ false → a ≡ false
neither_left true b e = clash refl e
neither_left false b e = refl

neither_right : (a b : Bool) → (a || b) ≡ false → b ≡ false
neither_right true b e = clash refl e
neither_right false b e = e

pub record BehindTo (sums : List ℕ) (behind : ℕ) (met : Bool) (i : ℕ) : Type 0 where
  pub other : met ≡ false → (k : ℕ) → k < i → get_or sums k 0 ≡ get_or sums (k + behind) 0 → ⊥

pub behind-begin : (sums : List ℕ) (behind : ℕ) → BehindTo sums behind false 0
behind-begin sums behind = record { other = λ e k h. absurd (omega arith) }

pub behind-on : {sums : List ℕ} {behind : ℕ} {met : Bool} {i : ℕ} → BehindTo sums behind met i → BehindTo sums behind (met || eqb (get_or sums i 0) (get_or sums (i + behind) 0)) (i + 1)
behind-on {sums} {behind} {met} {i} v =
    let same : Bool = eqb (get_or sums i 0) (get_or sums (i + behind) 0) in
    record { other = λ e. below_more _ _ (v.other (neither_left met same e)) (eqb-false (get_or sums i 0) (get_or sums (i + behind) 0) (neither_right met same e)) }

pub behind-all : {sums : List ℕ} {behind : ℕ} {met : Bool} {i : ℕ} → BehindTo sums behind met i → places ≤ i → Behind sums behind met
behind-all v h = record { other = λ e k l. v.other e k (omega arith) }

-- and so far, for all that are less
pub record RoundTo (sums : List ℕ) (met : Bool) (behind : ℕ) : Type 0 where
  pub some : 0 < behind
  pub other : met ≡ false → (far : ℕ) → far < behind → 0 < far → (k : ℕ) → k < places → get_or sums k 0 ≡ get_or sums (k + far) 0 → ⊥

pub round-begin : (sums : List ℕ) → RoundTo sums false 1
round-begin sums = record { some = omega arith; other = λ e far h p. absurd (omega arith) }

pub round-on : {sums : List ℕ} {met r : Bool} {behind : ℕ} → RoundTo sums met behind → Behind sums behind r → RoundTo sums (met || r) (behind + 1)
round-on {sums} {met} {r} {behind} v f =
    record {
      some = omega arith;
      other = λ e. below_more _ _ (v.other (neither_left met r e)) (λ p. f.other (neither_right met r e));
    }

-- a test of each element, and of each pair, by their places
every-place : {A : Type 0} (f : A → Bool) (z : A) (l : List A) → ((j : ℕ) → j < length l → f (get_or l j z) ≡ true) → every f l ≡ true
unfolding every
every-place f z [] h = refl
every-place f z (x ∷ l) h = and_both (h 0 (omega arith)) (every-place f z l (λ j k. h (suc j) (omega arith)))

pairwise-places : {A : Type 0} (f : A → A → Bool) (z : A) (l : List A) → ((i j : ℕ) → i < j → j < length l → f (get_or l i z) (get_or l j z) ≡ true) → pairwise f l ≡ true
unfolding pairwise
pairwise-places f z [] h = refl
pairwise-places f z (x ∷ l) h =
    and_both
    (every-place (f x) z l (λ j k. h 0 (suc j) (omega arith) (omega arith)))
    (pairwise-places f z l (λ i j k m. h (suc i) (suc j) (omega arith) (omega arith)))

-- of each two places one stands at most six behind the other, around the end too
module _ {l : List (List ℕ)} {digests sums : List ℕ} {met : Bool} {behind : ℕ} (h : length l ≤ places) (g : Digests l digests) (u : Sums digests sums) (v : RoundTo sums met behind) (k : again < behind) (e : met ≡ false) where
  sum-at : (i j : ℕ) → i < round → i % places ≡ j → get_or sums i 0 ≡ sum_of (get_or digests j 0)
  sum-at i j l q = u.at i l ∙ rw q

  others : (a b : ℕ) → a < b → b < length l → get_or digests a 0 ≡ get_or digests b 0 → ⊥
  others a b o m q =
      below again (b - a)
      (λ far.
      let around : b + (places - (b - a)) ≡ a + places = omega arith in
      v.other e (places - (b - a)) (omega arith) (omega arith) b (omega arith)
      (sum-at b b (omega arith) (omega arith) ∙ ap sum_of (sym q) ∙ sym (rw around (sum-at (a + places) a (omega arith) (omega arith)))))
      (λ near.
      let there : a + (b - a) ≡ b = omega arith in
      v.other e (b - a) (omega arith) (omega arith) a (omega arith)
      (sum-at a a (omega arith) (omega arith) ∙ ap sum_of q ∙ sym (rw there (sum-at b b (omega arith) (omega arith)))))

  other-names : true ≡ pairwise other_names (standing_in l)
  other-names =
      sym
      (pairwise-places other_names free_place (standing_in l)
      (λ a b o m.
      let c : b < length l = rw length-map at m in
      let p : Process = get_or (standing_in l) a free_place in
      let q : Process = get_or (standing_in l) b free_place in
      split (same_name p.name q.name)
      (λ f. absurd (others a b o c (g.at a (omega arith) ∙ ap digest_of (same→name p.name q.name f) ∙ sym (g.at b c))))
      (λ f. rw f)))

pub round-all : {l : List (List ℕ)} {digests sums : List ℕ} {met : Bool} {behind : ℕ} → length l ≤ places → Digests l digests → Sums digests sums → RoundTo sums met behind → again < behind → Unless met (pairwise other_names (standing_in l))
round-all h g u v k = record { passes = λ e. other-names h g u v k e }

-- ---- pairs
pub names-other : (a b : List ℕ) {x y : Name} {m : Bool} → x ≡ (process_from a).name → y ≡ (process_from b).name → m ≡ same_name x y → not m ≡ other_names (process_from a) (process_from b)
names-other a b p q f = rw (f, p, q)

-- no digest met, or each pair compared
pub differ-digests : (l : List Process) {m : Bool} → Unless m (pairwise other_names l) → m ≡ false → true ≡ pairwise other_names l
differ-digests l v p = v.passes p

-- each with the later ones
abbrev other_rows : List ℕ → List ℕ → Bool
other_rows a b = other_names (process_from a) (process_from b)

every-map : {A B : Type 0} (f : B → Bool) (g : A → B) (l : List A) → every f (map g l) ≡ every (λ (x : A). f (g x)) l
unfolding every
every-map f g [] = refl
every-map f g (x ∷ l) = ap (λ (b : Bool). f (g x) && b) (every-map f g l)

rows-pairs : (l : List (List ℕ)) → pairwise other_names (standing_in l) ≡ pairwise other_rows l
unfolding pairwise
rows-pairs [] = refl
rows-pairs (x ∷ l) = rw (every-map (other_names (process_from x)) process_from l, rows-pairs l)

pub record DifferTo (l : List (List ℕ)) (i : ℕ) : Type 0 where
  pub passed : PairsTo other_rows l i

pub differ-begin : (l : List (List ℕ)) → DifferTo l 0
differ-begin l = record { passed = pairs-begin other_rows l }

module _ {l : List (List ℕ)} {i : ℕ} (v : DifferTo l i) where
  module _ (h : i < length l) {b : Bool} (e : b ≡ later_others (get_or l i []) (take (length l - (i + 1)) (drop (i + 1) l))) where
    later : every (other_rows (get_or l i [])) (drop (i + 1) l) ≡ b
    later =
        let few : length (drop (i + 1) l) ≤ length l - (i + 1) = simp length-drop (omega arith) in
        sym (e ∙ rw (take_all (length l - (i + 1)) (drop (i + 1) l) few) (all_every (other_rows (get_or l i [])) (drop (i + 1) l)))

    pub differ-on : b ≡ true → DifferTo l (i + 1)
    differ-on q = record { passed = pairs-on [] v.passed h (later ∙ q) }

    pub differ-fail : b ≡ false → false ≡ pairwise other_names (standing_in l)
    differ-fail q = sym (rows-pairs l ∙ pairs-fail [] v.passed h (later ∙ q))

  pub differ-all : length l ≤ i → true ≡ pairwise other_names (standing_in l)
  differ-all h = sym (rows-pairs l ∙ pairs-all v.passed h)

-- ---- all together
few-apart : {A : Type 0} (f : A → A → Bool) (l : List A) → length l < 2 → pairwise f l ≡ true
unfolding pairwise every
few-apart f [] h = refl
few-apart f (x ∷ []) h = refl
few-apart f (x ∷ (y ∷ l)) h = absurd (omega arith)

-- two tests of each pair are each of all pairs
every-both : {A : Type 0} (f g : A → Bool) (l : List A) → every (λ (x : A). f x && g x) l ≡ (every f l && every g l)
unfolding every
every-both f g [] = refl
every-both f g (x ∷ l) = ap (λ (b : Bool). (f x && g x) && b) (every-both f g l) ∙ interchange (f x) (g x) (every f l) (every g l)

pairwise-both : {A : Type 0} (f g : A → A → Bool) (l : List A) → pairwise (λ (x y : A). f x y && g x y) l ≡ (pairwise f l && pairwise g l)
unfolding pairwise
pairwise-both f g [] = refl
pairwise-both f g (x ∷ l) = rw (every-both (f x) (g x) l, pairwise-both f g l) (interchange (every (f x) l) (every (g x) l) (pairwise f l) (pairwise g l))

module _ (b : List ℕ) {t : Bool} (e : t ≡ all_fit b) where
  abbrev owned : Bool
  owned = every (is_owned (state_of b)) (standing (state_of b).table)

  abbrev unrivalled : Bool
  unrivalled = pairwise no_rivals (standing (state_of b).table)

  abbrev named : Bool
  named = pairwise other_names (standing (state_of b).table)

  by_two : holds_state b ≡ (all_fit b && named)
  unfolding holds_state sound all_fit are_apart
  by_two =
      ap (λ (x : Bool). shaped b && (owned && x)) (pairwise-both no_rivals other_names (standing (state_of b).table))
      ∙ sym (and_assoc (shaped b) (owned && unrivalled) named ∙ ap (λ (x : Bool). shaped b && x) (and_assoc owned unrivalled named))

  pub holds-short : (length b ≡ state_length → ⊥) → false ≡ holds_state b
  unfolding all_fit shaped rest_is_free
  holds-short n = sym (by_two ∙ rw (ne_eqb (length b) state_length n))

  pub holds-unfit : t ≡ false → t ≡ holds_state b
  holds-unfit u = rw u (sym (by_two ∙ rw (← e, u)))

  module _ (u : t ≡ true) {l : List (List ℕ)} (r : l ≡ rows (min (count_in b) places) place_size (drop places_at b)) where
    fits : Shape b
    unfolding all_fit
    fits = shape b (and_left (shaped b) (owned && unrivalled) (sym e ∙ u))

    last : pairwise other_names (standing_in l) ≡ holds_state b
    unfolding standing places_in
    last =
        let every_one : min (count_in b) places ≡ count_in b = omega (arith, fits.room) in
        sym (by_two ∙ rw (← e, u, state-in b fits.long, r, every_one, map-take process_from (count_in b) (rows places place_size (drop places_at b)), rows_take (count_in b) places place_size (drop places_at b) fits.room))

    pub holds-few : length l < 2 → ltb (length l) 2 ≡ holds_state b
    holds-few m = let few : length (standing_in l) < 2 = rw length-map m in lt-ltb (length l) 2 m ∙ sym (few-apart other_names (standing_in l) few) ∙ last

    pub holds-pairs : {a : Bool} → a ≡ pairwise other_names (standing_in l) → a ≡ holds_state b
    holds-pairs m = m ∙ last

pub rows-few : (b : List ℕ) {l : List (List ℕ)} → l ≡ rows (min (count_in b) places) place_size (drop places_at b) → length l ≤ places
rows-few b r = rw (r, rows-length) (omega arith)

pub ruleset rules = (std_rules, length-mapped, name-stands, names-other, digests-begin, digests-on, digests-all, sums-begin, sums_on, sums-all, behind-begin, behind-on, behind-all, round-begin, round-on, round-all, differ-digests, differ-begin, differ-on, differ-fail, differ-all, holds-short, holds-unfit, holds-few, holds-pairs, rows-few)
