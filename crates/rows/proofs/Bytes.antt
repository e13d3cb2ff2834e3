-- Laws of bytes and of numbers of several bytes, for every width.
-- Assumes nothing.
use Prim.Native.Nat.{ℕ, zero, suc, ◌+◌, ◌*◌, ◌/◌, ◌%◌, ◌^◌, ◌<◌, ◌≤◌}
use mathlib.Core.Path.{◌≡◌, refl, sym, ap, ◌∙◌}
use mathlib.Core.Bool.{Bool, true, false, cond}
use mathlib.Core.List.{List, [], ◌∷◌, ◌++◌}
use native.Mathlib.Nat.{pow-suc, zero-mul, mul_assoc, div-lt_iff_lt-mul, div-add-mod'}
use native.Mathlib.Numerals.{add-one}
use native.Mathlib.Omega.{arith}
use borrow.Author.Tests.{eqb-true, lt-ltb, le-ltb, le-leb, lt-leb}
use lib.Arith.{digits_lt, digits_div, digits_mod}
use lib.Dec.{eqb}
use lib.ListN.{length, get_or, take, drop, length-take, length-drop, take-append-drop}
use lib.Seq.{get_or-drop, drop-drop, drop-cons, take_at, take_all}
use Rattle.lists.proofs.Tests.{below, and_left, and_right}
use Rattle.rows.specs.Bytes.{Bytes, is_zero, bytes_of, number_of, number_at, bits_number, byte_of, width_of}
use Rattle.rows.specs.Rows.{every}

-- ---- bytes of a part
pub bytes_take : (k : ℕ) (b : List ℕ) → Bytes b → Bytes (take k b)
bytes_take zero b h i = omega arith
bytes_take (suc k) [] h i = omega arith
bytes_take (suc k) (x ∷ xs) h zero = h 0
bytes_take (suc k) (x ∷ xs) h (suc i) = bytes_take k xs (λ j. h (suc j)) i

pub bytes_drop : (k : ℕ) (b : List ℕ) → Bytes b → Bytes (drop k b)
bytes_drop k b h i = rw (get_or-drop k b i 0) (h (k + i))

-- ---- a number in one byte
pub byte_small : (n : ℕ) → n < 256 → byte_of n ≡ n
unfolding byte_of
byte_small n h = rw (lt-ltb n 256 h)

-- a byte below 255 says what was written
pub byte-only : (n m : ℕ) → m < 255 → byte_of n ≤ m → n ≤ m
unfolding byte_of
byte-only n m h k =
    below n 256
    (λ s. rw (lt-ltb n 256 s) at k)
    (λ s. let z : 255 ≤ m = rw (le-ltb n 256 s) at k in absurd (omega arith))

-- ---- a width
pub width_is : (width : ℕ) → width ≤ 8 → width_of width ≡ width
unfolding width_of
width_is width h = rw (le-leb width 8 h)

pub width-over : (width : ℕ) → 8 < width → width_of width ≡ 8
unfolding width_of
width-over width h = rw (lt-leb width 8 h)

pub width_low : (width : ℕ) → width_of width ≤ 8
width_low width = below 8 width (λ h. rw (width-over width h) (omega arith)) (λ h. rw (width_is width h) h)

-- ---- a number of k bytes, written and read
pub length-bytes : (k n : ℕ) → length (bytes_of k n) ≡ k
unfolding bytes_of
length-bytes zero n = refl
length-bytes (suc k) n = ap suc (length-bytes k (n / 256))

pub number-back : (k n : ℕ) → n < 256 ^ k → number_of (bytes_of k n) ≡ n
unfolding number_of bytes_of
number-back zero n h = omega arith
number-back (suc k) n h =
    let positive : 0 < 256 = omega arith in
    let rest : n / 256 < 256 ^ k = (div-lt_iff_lt-mul {k = 256} {x = n} {y = 256 ^ k} positive).1 (rw pow-suc at h) in
    rw (number-back k (n / 256) rest) (div-add-mod' n 256)

-- bytes, read and written
pub number-forth : (l : List ℕ) → Bytes l → bytes_of (length l) (number_of l) ≡ l
unfolding number_of bytes_of
number-forth [] h = refl
number-forth (x ∷ xs) h =
    let small : x < 256 = h 0 in
    rw (digits_mod (number_of xs) small, digits_div (number_of xs) small, number-forth xs (λ i. h (suc i)))

pub number_small : (l : List ℕ) → Bytes l → number_of l < 256 ^ length l
unfolding number_of
number_small [] h = omega arith
number_small (x ∷ xs) h =
    let small : x < 256 = h 0 in
    rw pow-suc (digits_lt (number_small xs (λ i. h (suc i))) small)

pub number-zeros : (l : List ℕ) → every is_zero l ≡ true → number_of l ≡ 0
unfolding number_of every
number-zeros [] e = refl
number-zeros (x ∷ xs) e =
    rw (number-zeros xs (and_right (is_zero x) (every is_zero xs) e)) (omega (arith, eqb-true x 0 (and_left (is_zero x) (every is_zero xs) e)))

-- ---- the number from a place on: k + m bytes say what the first k say, and what the others do, higher up
pub number-split : (k m : ℕ) (l : List ℕ) → number_of (take (k + m) l) ≡ number_of (take m (drop k l)) * 256 ^ k + number_of (take k l)
unfolding number_of
number-split zero m l = let e : 0 + m ≡ m = omega arith in rw e (omega arith)
number-split (suc k) zero [] = let e : suc k + 0 ≡ suc (k + 0) = omega arith in rw (e, zero-mul)
number-split (suc k) (suc m) [] = let e : suc k + suc m ≡ suc (k + suc m) = omega arith in rw (e, zero-mul)
number-split (suc k) m (x ∷ l) =
    let e : suc k + m ≡ suc (k + m) = omega arith in
    let p : number_of (take m (drop k l)) * 256 ^ k * 256 ≡ number_of (take m (drop k l)) * 256 ^ suc k = mul_assoc (number_of (take m (drop k l))) (256 ^ k) 256 ∙ rw pow-suc in
    rw (e, number-split k m l) (omega (arith, p))

pub number-join : (k m at : ℕ) (b : List ℕ) → number_at (k + m) at b ≡ number_at m (at + k) b * 256 ^ k + number_at k at b
unfolding number_at
number-join k m at b = number-split k m (drop at b) ∙ rw (drop-drop k at b)

pub number-one : (at : ℕ) (b : List ℕ) → number_at 1 at b ≡ get_or b at 0
unfolding number_at number_of
number-one zero [] = refl
number-one zero (x ∷ b) = omega arith
number-one (suc at) [] = refl
number-one (suc at) (x ∷ b) = number-one at b

pub number_past : (k at : ℕ) (b : List ℕ) → length b ≤ at → number_at k at b ≡ 0
unfolding number_at number_of
number_past zero at b h = refl
number_past (suc k) zero [] h = refl
number_past (suc k) zero (x ∷ b) h = absurd (omega arith)
number_past (suc k) (suc at) [] h = refl
number_past (suc k) (suc at) (x ∷ b) h = number_past (suc k) at b (omega arith)

-- it is below 256 ^ k
pub number-low : (k at : ℕ) (b : List ℕ) → Bytes b → number_at k at b < 256 ^ k
unfolding number_at number_of
number-low k at b h = by k (drop at b) (bytes_drop at b h)
  where
    by : (k : ℕ) (l : List ℕ) → Bytes l → number_of (take k l) < 256 ^ k
    by zero l g = omega arith
    by (suc k) [] g = let rest : number_of (take k []) < 256 ^ k = by k [] g in rw pow-suc (omega arith)
    by (suc k) (x ∷ l) g = rw pow-suc (digits_lt (by k l (λ i. g (suc i))) (g 0))

-- its bytes are those that were read
pub number-taken : (k at : ℕ) (b : List ℕ) → Bytes b → at + k ≤ length b → bytes_of k (number_at k at b) ≡ take k (drop at b)
unfolding number_at
number-taken k at b h r =
    let l : length (take k (drop at b)) ≡ k = simp (length-take, length-drop) (omega arith) in
    rw l at (number-forth (take k (drop at b)) (bytes_take k (drop at b) (bytes_drop at b h)))

-- the bytes from a place on: the one there and the later ones; k of them and the later ones
pub byte-front : (at : ℕ) (b : List ℕ) → at < length b → get_or b at 0 ∷ drop (at + 1) b ≡ drop at b
byte-front at b h = sym (drop-cons b at 0 h ∙ rw add-one)

pub part-front : (k at : ℕ) (b : List ℕ) → take k (drop at b) ++ drop (at + k) b ≡ drop at b
part-front k at b = rw (← drop-drop k at b) (take-append-drop k (drop at b))

pub part-last : (k at : ℕ) (b : List ℕ) → at + k ≡ length b → take k (drop at b) ≡ drop at b
part-last k at b e = let h : length (drop at b) ≤ k = simp length-drop (omega arith) in take_all k (drop at b) h

-- a number that stands in a part, read from the whole
pub number-part : (k at n off : ℕ) (b : List ℕ) → at + k ≤ n → number_at k at (take n (drop off b)) ≡ number_at k (off + at) b
unfolding number_at
number-part k at n off b h = ap number_of (inner k at n (drop off b) h ∙ ap (take k) (drop-drop at off b))
  where
    inner : (k at n : ℕ) (l : List ℕ) → at + k ≤ n → take k (drop at (take n l)) ≡ take k (drop at l)
    inner zero at n l h = refl
    inner (suc k) zero zero l h = absurd (omega arith)
    inner (suc k) zero (suc n) [] h = refl
    inner (suc k) zero (suc n) (x ∷ l) h = rw (inner k zero n l (omega arith))
    inner (suc k) (suc at) zero l h = absurd (omega arith)
    inner (suc k) (suc at) (suc n) [] h = refl
    inner (suc k) (suc at) (suc n) (x ∷ l) h = inner (suc k) at n l (omega arith)

-- a number that was written behind x, and is read there
pub number_in : (k n : ℕ) (x y : List ℕ) → n < 256 ^ k → number_at k (length x) (x ++ (bytes_of k n ++ y)) ≡ n
unfolding number_at
number_in k n [] y h = rw (take_at (bytes_of k n) y k (length-bytes k n)) (number-back k n h)
number_in k n (a ∷ x) y h = number_in k n x y h

-- ---- flags as the bits of a number
bit-low : (f : Bool) → cond f 1 0 < 2
bit-low true = omega arith
bit-low false = omega arith

bit-back : (f : Bool) → eqb (cond f 1 0) 1 ≡ f
bit-back true = refl
bit-back false = refl

pub bit-forth : (x : ℕ) → x < 2 → cond (eqb x 1) 1 0 ≡ x
bit-forth zero h = refl
bit-forth (suc zero) h = refl
bit-forth (suc (suc x)) h = absurd (omega arith)

pub bits_small : (l : List Bool) → bits_number l < 2 ^ length l
unfolding bits_number
bits_small [] = omega arith
bits_small (f ∷ l) = rw pow-suc (digits_lt (bits_small l) (bit-low f))

-- the first flag is the lowest bit, and the others are what is left
module _ (f : Bool) (l : List Bool) where
  pub bits-first : eqb (bits_number (f ∷ l) % 2) 1 ≡ f
  unfolding bits_number
  bits-first = rw (digits_mod (bits_number l) (bit-low f)) (bit-back f)

  pub bits-rest : bits_number (f ∷ l) / 2 ≡ bits_number l
  unfolding bits_number
  bits-rest = digits_div (bits_number l) (bit-low f)

-- one more is the highest
pub bits-more : (l : List Bool) (f : Bool) → bits_number (l ++ (f ∷ [])) ≡ bits_number l + cond f (2 ^ length l) 0
unfolding bits_number
bits-more [] true = refl
bits-more [] false = refl
bits-more (x ∷ l) true = rw (bits-more l true, pow-suc) (omega arith)
bits-more (x ∷ l) false = rw (bits-more l false) (omega arith)
