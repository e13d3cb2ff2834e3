-- Bytes and numbers. A number of several bytes is little endian, at every width. The laws are in `proofs/Bytes.antt`.
use Rattle.std.specs.Prelude.{ℕ, zero, suc, ◌+◌, ◌*◌, ◌/◌, ◌%◌, ◌<◌, Bool, cond, List, [], ◌∷◌, eqb, ltb, leb, get_or, take, drop}

-- each element is a byte
abbrev pub Bytes : List ℕ → Type 0
Bytes l = (i : ℕ) → get_or l i 0 < 256

abbrev pub is_zero : ℕ → Bool
is_zero x = eqb x 0

-- the lowest k bytes of n, the lowest first
unfoldable pub bytes_of : ℕ → ℕ → List ℕ
bytes_of zero n = []
bytes_of (suc k) n = n % 256 ∷ bytes_of k (n / 256)

-- the number that bytes say, the lowest first
unfoldable pub number_of : List ℕ → ℕ
number_of [] = 0
number_of (b ∷ bs) = number_of bs * 256 + b

-- the number that k bytes say, from a place on; a byte past the end counts as 0
unfoldable pub number_at : ℕ → ℕ → List ℕ → ℕ
number_at k at b = number_of (take k (drop at b))

-- the number whose bit i is the flag at i
unfoldable pub bits_number : List Bool → ℕ
bits_number [] = 0
bits_number (flag ∷ flags) = bits_number flags * 2 + cond flag 1 0

-- how many bytes a number has that is asked for by a width: at most 8, which say every number of 64 bits. A width over 8 counts as 8
unfoldable pub width_of : ℕ → ℕ
width_of width = cond (leb width 8) width 8

-- a number in one byte. One that a byte does not hold is 255, which is out of the range of every field and argument: so it stands for no other
unfoldable pub byte_of : ℕ → ℕ
byte_of n = cond (ltb n 256) n 255
