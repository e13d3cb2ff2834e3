-- The laws that close the goals of this crate's functions. Assumes nothing.
use Rattle.std.proofs.Common.{rules as std_rules, ℕ, zero, suc, ◌+◌, ◌-◌, ◌*◌, ◌/◌, ◌%◌, ◌^◌, ◌<◌, ◌≤◌, ◌≡◌, refl, sym, ap, ◌∙◌, List, [], ◌∷◌, ◌++◌, map, length, get_or, take, drop, subst, take_all, length-take, arith, w16, w32, w64}
use Rattle.std.specs.Int.{from_le_bytes, to_le_bytes, sum_through, byte_worth, byte_at, bytes_low_first}
use Rattle.std.specs.Prelude.{slice_index}
use Rattle.std.specs.Array.{IsFromFnResult, IsFromFnResultFrom}
use denote.Param.Members.{Mut, Called}
use Rattle.std.proofs.Math.Nat.{div-div-eq-div-mul, pow-suc}
use borrow.Rule.Slice.PartMut.{put_mid}
use lib.ListN.{length-drop, drop_of_length-le, set}
use lib.Seq.{drop-cons, get_or-take, get_or-drop}
use mir.Val.{Fits}
use native.Mathlib.Nat.{pow-le-pow_right}
use Rattle.lists.proofs.Tests.{below}
use Rattle.rows.specs.Bytes.{Bytes, bytes_of, number_of, number_at, width_of}
use Rattle.rows.specs.Rows.{over}
use Rattle.rows.proofs.Bytes.{number-split, number-one, number_past, number_small, bytes_take, bytes_drop, width_low, length-bytes}
use Rattle.rows.proofs.Over.{over-short, over-part, Left, left-all, left-none, left-byte}

-- ---- std's numbers of bytes, little endian, are ours
through : (k : ℕ) (b : List ℕ) → sum_through (λ i. byte_worth i (slice_index b i)) k ≡ number_of (take (suc k) b)
unfolding number_at
through zero b = sym (number-one 0 b)
through (suc k) b =
    let e : suc (suc k) ≡ suc k + 1 = omega arith in
    let last : number_of (take 1 (drop (suc k) b)) ≡ get_or b (suc k) 0 = number-one (suc k) b in
    rw (e, through k b) (sym (number-split (suc k) 1 b ∙ rw last (omega arith)))

low-first : (i k n : ℕ) → bytes_low_first i k n ≡ bytes_of k (n / 256 ^ i)
unfolding bytes_of
low-first i zero n = refl
low-first i (suc k) n = rw (low-first (suc i) k n, first i) (ap (λ x. n / 256 ^ i % 256 ∷ bytes_of k x) rest)
  where
    first : (i : ℕ) → byte_at i n ≡ n / 256 ^ i % 256
    first zero = let e : n / 1 ≡ n = omega arith in rw e
    first (suc i) = refl

    rest : n / 256 ^ suc i ≡ n / 256 ^ i / 256
    rest = rw pow-suc (sym (div-div-eq-div-mul n (256 ^ i) 256))

-- ---- bytes read, and what is said by them
pub made : {F : Type 0} (g : Mut F (ℕ × Unit {0}) ℕ) {f : F} {ys : List ℕ} {n : ℕ} (h : ℕ → ℕ) → IsFromFnResult g f ys n → ((x r : ℕ) (q : F) → Called g f (x, tt) r q → (q ≡ f) × (r ≡ h x)) → (i : ℕ) → i < n → get_or ys i 0 ≡ h i
made {F} g {f} {ys} {n} h v step i l = by n 0 f refl v.each i (omega arith) (omega arith)
  where
    by : (n i : ℕ) (p : F) → p ≡ f → IsFromFnResultFrom g p ys i n → (k : ℕ) → i ≤ k → k < i + n → get_or ys k 0 ≡ h k
    by zero i p e w k a b = absurd (omega arith)
    by (suc n) i p e (q, y, here, call, rest) k a b =
        let s : (q ≡ f) × (y ≡ h i) = step i y q (subst (λ (t : F). Called g t (i, tt) y q) e call) in
        below i k
        (λ c. by n (i + 1) q s.0 rest k (omega arith) (omega arith))
        (λ c. let z : k ≡ i = omega arith in rw z (here.1 0 ∙ s.1))

first-said : (k : ℕ) (b x : List ℕ) → length x ≡ k → ((i : ℕ) → i < k → get_or x i 0 ≡ get_or b i 0) → number_of x ≡ number_of (take k b)
unfolding number_of number_at
first-said zero b [] e s = refl
first-said zero b (y ∷ x) e s = absurd (omega arith)
first-said (suc k) b [] e s = absurd (omega arith)
first-said (suc k) [] (y ∷ x) e s =
    let h : y ≡ 0 = s 0 (omega arith) in
    let r : number_of x ≡ number_of (take k []) = first-said k [] x (omega arith) (λ i l. s (suc i) (omega arith)) in
    let z : number_of (take k []) ≡ 0 = number_past k 0 [] (omega arith) in
    rw (h, r, z)
first-said (suc k) (a ∷ b) (y ∷ x) e s =
    let h : y ≡ a = s 0 (omega arith) in
    let r : number_of x ≡ number_of (take k b) = first-said k b x (omega arith) (λ i l. s (suc i) (omega arith)) in
    rw (h, r)

pub said16 : (at : ℕ) (bytes b x : List ℕ) {n : ℕ} → n ≡ from_le_bytes w16 x → length x ≡ 2 → ((i : ℕ) → i < 2 → get_or x i 0 ≡ get_or b i 0) → b ≡ drop at bytes → n ≡ number_at 2 at bytes
unfolding number_at
said16 at bytes b x e l s f = e ∙ through 1 x ∙ ap number_of (take_all 2 x (omega arith)) ∙ first-said 2 b x l s ∙ rw f

pub said32 : (at : ℕ) (bytes b x : List ℕ) {n : ℕ} → n ≡ from_le_bytes w32 x → length x ≡ 4 → ((i : ℕ) → i < 4 → get_or x i 0 ≡ get_or b i 0) → b ≡ drop at bytes → n ≡ number_at 4 at bytes
unfolding number_at
said32 at bytes b x e l s f = e ∙ through 3 x ∙ ap number_of (take_all 4 x (omega arith)) ∙ first-said 4 b x l s ∙ rw f

pub said64 : (at w : ℕ) (bytes b x : List ℕ) {n : ℕ} → n ≡ from_le_bytes w64 x → length x ≡ 8 → ((i : ℕ) → i < 8 → get_or x i 0 ≡ get_or b i 0) → b ≡ take (width_of w) (drop at bytes) → n ≡ number_at (width_of w) at bytes
unfolding number_at
said64 at w bytes b x e l s f =
    let h : length b ≤ 8 = rw f (simp length-take (omega (arith, width_low w))) in
    e ∙ through 7 x ∙ ap number_of (take_all 8 x (omega arith)) ∙ first-said 8 b x l s ∙ ap number_of (take_all 8 b h ∙ f)

-- ---- a number of any width, read from its highest byte down: of those that are asked for and there, what the ones from `left` on say
pub record Said (at width : ℕ) (bytes : List ℕ) (number left : ℕ) : Type 0 where
  pub low : left ≤ length (take (width_of width) (drop at bytes))
  pub is : number ≡ number_of (drop left (take (width_of width) (drop at bytes)))

module _ (at width : ℕ) (bytes : List ℕ) where
  abbrev asked : List ℕ
  asked = take (width_of width) (drop at bytes)

  few : length asked ≤ 8
  few = simp length-take (omega (arith, width_low width))

  pub said-begin : {size : ℕ} → size ≡ length asked → Said at width bytes 0 size
  unfolding number_of
  said-begin {size} e =
      let past : length asked ≤ size = omega (arith, e) in
      record { low = omega (arith, e); is = rw (drop_of_length-le asked past) }

  module _ {number left : ℕ} (v : Said at width bytes number left) where
    module _ (h : 0 < left) where
      pub said-place : at + (left - 1) < length bytes
      said-place = omega (arith, v.low, length-take (width_of width) (drop at bytes), length-drop at bytes)

      here : get_or asked (left - 1) 0 ≡ get_or bytes (at + (left - 1)) 0
      here =
          let k : left - 1 < width_of width = omega (arith, v.low, length-take (width_of width) (drop at bytes)) in
          get_or-take (width_of width) (drop at bytes) (left - 1) 0 k ∙ get_or-drop at bytes (left - 1) 0

      -- the byte before `left` comes in as the lowest
      pub said-on : {x : ℕ} → x ≡ get_or bytes (at + (left - 1)) 0 → Said at width bytes (number * 256 + x) (left - 1)
      unfolding number_of
      said-on {x} e =
          let within : left - 1 < length asked = omega (arith, v.low) in
          let next : suc (left - 1) ≡ left = omega arith in
          let rest : number_of (drop (suc (left - 1)) asked) ≡ number = ap (λ (m : ℕ). number_of (drop m asked)) next ∙ sym v.is in
          record { low = omega (arith, v.low); is = rw (drop-cons asked (left - 1) 0 within, rest, here, e) }

      module _ (t : Bytes bytes) where
        small : number < 256 ^ 7
        small =
            let some : length (drop left asked) ≤ 7 = simp length-drop (omega (arith, v.low, few)) in
            let each : Bytes (drop left asked) = bytes_drop left asked (bytes_take (width_of width) (drop at bytes) (bytes_drop at bytes t)) in
            let z : 0 < 256 = omega arith in
            omega (arith, v.is, number_small (drop left asked) each, pow-le-pow_right z some)

        pub said-times : Fits w64 (number * 256)
        said-times = record { fits = omega (arith, small) }

        pub said-sum : {x : ℕ} → x ≡ get_or bytes (at + (left - 1)) 0 → Fits w64 (number * 256 + x)
        said-sum {x} e = record { fits = omega (arith, small, e, t (at + (left - 1))) }

    pub said-all : left ≤ 0 → number ≡ number_at (width_of width) at bytes
    unfolding number_at
    said-all h = let none : left ≡ 0 = omega arith in rw none at v.is

-- ---- bytes written
pub part-written : (at : ℕ) (bytes old new : List ℕ) → length bytes ≤ length old → at ≤ length old - length bytes → new ≡ bytes → put_mid at (at + length bytes - at) old new ≡ over at (length bytes) bytes old
part-written at bytes old new h k e = let z : at + length bytes - at ≡ length bytes = omega arith in rw (z, e) (over-part at (length bytes) bytes old (omega arith))

pub past-written : (at : ℕ) (bytes old : List ℕ) → length old - length bytes < at → old ≡ over at (length bytes) bytes old
past-written at bytes old h = sym (over-short at (length bytes) bytes old (omega arith))

pub short-written : (at : ℕ) (bytes old : List ℕ) → length old < length bytes → old ≡ over at (length bytes) bytes old
short-written at bytes old h = sym (over-short at (length bytes) bytes old (omega arith))

low-bytes : (k n : ℕ) → bytes_low_first 0 k n ≡ bytes_of k n
low-bytes k n = let e : n / 1 ≡ n = omega arith in low-first 0 k n ∙ ap (bytes_of k) e

low-part : (w k n : ℕ) → w ≤ k → take w (bytes_of k n) ≡ bytes_of w n
unfolding bytes_of
low-part zero k n h = refl
low-part (suc w) zero n h = absurd (omega arith)
low-part (suc w) (suc k) n h = rw (low-part w k (n / 256) (omega arith))

number-put : (k at n : ℕ) (x old new : List ℕ) → x ≡ bytes_of k n → new ≡ over at (length x) x old → new ≡ over at k (bytes_of k n) old
number-put k at n x old new e h = h ∙ rw (e, length-bytes k n)

pub put16 : (at n : ℕ) (x old new : List ℕ) → x ≡ to_le_bytes w16 n → new ≡ over at (length x) x old → new ≡ over at 2 (bytes_of 2 n) old
put16 at n x old new e h = number-put 2 at n x old new (e ∙ low-bytes 2 n) h

pub put32 : (at n : ℕ) (x old new : List ℕ) → x ≡ to_le_bytes w32 n → new ≡ over at (length x) x old → new ≡ over at 4 (bytes_of 4 n) old
put32 at n x old new e h = number-put 4 at n x old new (e ∙ low-bytes 4 n) h

pub put64 : (at w n : ℕ) (y x old new : List ℕ) → y ≡ to_le_bytes w64 n → x ≡ take (width_of w) y → new ≡ over at (length x) x old → new ≡ over at (width_of w) (bytes_of (width_of w) n) old
put64 at w n y x old new e q h =
    number-put (width_of w) at n x old new (q ∙ ap (take (width_of w)) (e ∙ low-bytes 8 n) ∙ low-part (width_of w) 8 n (width_low w)) h

-- ---- a number of any width written: what is left of it
pub record NumberTo (at size number : ℕ) (old new : List ℕ) (rest i : ℕ) : Type 0 where
  pub low : i ≤ size
  pub remains : Left at size (bytes_of size number) old (at + i) (size - i) (bytes_of (size - i) rest) new

module _ (at width number : ℕ) (old : List ℕ) {size : ℕ} (w : size ≡ width_of width) where
  pub number-over : length old < size → old ≡ over at (width_of width) (bytes_of (width_of width) number) old
  number-over h = sym (over-short at (width_of width) (bytes_of (width_of width) number) old (omega arith))

  module _ (h : size ≤ length old) where
    pub number_short : length old - size < at → old ≡ over at (width_of width) (bytes_of (width_of width) number) old
    number_short k = sym (over-short at (width_of width) (bytes_of (width_of width) number) old (omega arith))

    pub number-begin : at ≤ length old - size → NumberTo at size number old old number 0
    number-begin k =
        let p : at + 0 ≡ at = omega arith in
        let q : size - 0 ≡ size = omega arith in
        record { low = omega arith; remains = rw (p, q) (left-all at size (bytes_of size number) old (omega arith)) }

module _ {at size number : ℕ} {old new : List ℕ} {rest i : ℕ} (v : NumberTo at size number old new rest i) where
  pub number-length : length new ≡ length old
  number-length = v.remains.long

  pub number-place : i < size → at + i < length new
  number-place h = omega (arith, v.remains.room)

  pub number-on : i < size → NumberTo at size number old (set new (at + i) (rest % 256)) (rest / 256) (i + 1)
  unfolding bytes_of
  number-on h =
      let w : size - i ≡ suc (size - (i + 1)) = omega arith in
      let o : suc (size - (i + 1)) ≡ 1 + (size - (i + 1)) = omega arith in
      let p : at + (i + 1) ≡ at + i + 1 = omega arith in
      let q : Left at size (bytes_of size number) old (at + i) (suc (size - (i + 1))) (bytes_of (suc (size - (i + 1))) rest) new =
      subst (λ (n : ℕ). Left at size (bytes_of size number) old (at + i) n (bytes_of n rest) new) w v.remains
      in
      record { low = omega arith; remains = rw p (left-byte (size - (i + 1)) (rest % 256) (bytes_of (size - (i + 1)) (rest / 256)) (rw o at q)) }

  pub number-end : (width : ℕ) → size ≡ width_of width → size ≤ i → new ≡ over at (width_of width) (bytes_of (width_of width) number) old
  unfolding bytes_of
  number-end width w h = let z : size - i ≡ 0 = omega arith in rw w at (left-none (rw z at v.remains))

pub ruleset rules = (std_rules, made, said16, said32, said64, said-begin, said-place, said-times, said-sum, said-on, said-all, part-written, past-written, put16, put32, put64, short-written, number-over, number_short, number-begin, number-length, number-place, number-on, number-end)
