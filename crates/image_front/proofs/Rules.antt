-- The laws that close the needs of this crate's functions by `search rules`: each premise is as a place's record has it.
-- Assumes nothing.
use Prim.Native.Nat.{ℕ, ◌+◌, ◌-◌, ◌*◌, ◌<◌, ◌≤◌}
use mathlib.Core.Path.{◌≡◌, refl, sym}
use mathlib.Core.Bool.{Bool, true, false}
use mathlib.Core.List.{List, ◌++◌, map, append-nil}
use native.Mathlib.Omega.{arith}
use borrow.Author.Rules.{rules as std_rules}
use mir.Val.{Fits}
use mir.Syntax.{w16}
use lib.Dec.{eqb}
use lib.ListN.{length}
use Rattle.lists.specs.Lists.{join}
use Rattle.lists.proofs.Tests.{split}
use Rattle.rows.specs.Bytes.{bytes_of}
use Rattle.rows.specs.Rows.{over, Put}
use Rattle.rows.proofs.Bytes.{length-bytes}
use Rattle.rows.proofs.Over.{over-short, put-length, put_next}
use Rattle.module_state.specs.Module.{credential_count, word_size}
use Rattle.module_state.specs.declared.Grants.{Grants}
use Rattle.image.specs.Image.{mask_at, word_count_at, word_offset_at, row_count_at, row_offset_at, words_at, words_size, seconds_at, saved_at, has_seconds, numbers_bytes, head_numbers, mask_of, grant_in, second_in, seconds_bytes, front_bytes, front_long, old_saved_at}
use Rattle.image_front.proofs.Rows.{Masked, masked-none, masked_low, masked-fits, masked_on, masked-all, worded-none, worded-length, worded-on, worded-all}

-- ---- the mask
module _ {l : List Grants} {mask left : ℕ} (v : Masked l mask left) where
  pub mask-double : Fits w16 (mask * 2)
  mask-double = omega (arith, masked_low v)

-- ---- a number of two bytes
number_put : (at m : ℕ) (x : List ℕ) {y : List ℕ} → y ≡ over at 2 (bytes_of 2 m) x → Put at 2 (bytes_of 2 m) x y
number_put at m x e = record { long = length-bytes 2 m; is = e }

-- ---- the head: five numbers, one after another
module _ (old : List ℕ) (mask n offset : ℕ) {a b c d new : List ℕ}
    (p : a ≡ over mask_at 2 (bytes_of 2 mask) old) (q : b ≡ over word_count_at 2 (bytes_of 2 credential_count) a) (r : c ≡ over word_offset_at 2 (bytes_of 2 words_at) b)
    (s : d ≡ over row_count_at 2 (bytes_of 2 n) c) (t : new ≡ over row_offset_at 2 (bytes_of 2 offset) d) where
  mask-put : Put mask_at 2 (bytes_of 2 mask) old a
  mask-put = number_put mask_at mask old p

  count-put : Put word_count_at 2 (bytes_of 2 credential_count) a b
  count-put = number_put word_count_at credential_count a q

  words-put : Put word_offset_at 2 (bytes_of 2 words_at) b c
  words-put = number_put word_offset_at words_at b r

  rows-put : Put row_count_at 2 (bytes_of 2 n) c d
  rows-put = number_put row_count_at n c s

  offset-put : Put row_offset_at 2 (bytes_of 2 offset) d new
  offset-put = number_put row_offset_at offset d t

  pub head-put : words_at ≤ length old → Put 0 words_at (numbers_bytes 2 (head_numbers mask n offset)) old new
  unfolding numbers_bytes join bytes_of
  head-put h = put_next (put_next (put_next (put_next mask-put count-put (omega arith)) words-put (omega arith)) rows-put (omega arith)) offset-put (omega arith)

-- ---- the layout
pub seconds-there : (offset : ℕ) → eqb offset saved_at ≡ has_seconds offset
unfolding has_seconds
seconds-there offset = refl

module _ (offset : ℕ) {b : Bool} (e : b ≡ has_seconds offset) where
  pub long-new : b ≡ true → saved_at ≡ front_long offset
  unfolding front_long
  long-new t = rw (← e, t)

  pub long-old : b ≡ false → old_saved_at ≡ front_long offset
  unfolding front_long
  long-old t = rw (← e, t)

front-least : (offset : ℕ) → seconds_at ≤ front_long offset
front-least offset = split (has_seconds offset) (λ t. omega (arith, long-new offset refl t)) (λ t. omega (arith, long-old offset refl t))

-- ---- the words, of one kind or of both
module _ (offset : ℕ) (old : List ℕ) (h : front_long offset ≤ length old) where
  pub words-room : words_at + words_size ≤ length old
  words-room = omega (arith, front-least offset)

  pub seconds-room : {x a : List ℕ} {b : Bool} → Put words_at words_size x old a → b ≡ has_seconds offset → b ≡ true → seconds_at + words_size ≤ length a
  seconds-room p s t = omega (arith, long-new offset s t, put-length p)

  module _ (l : List Grants) {words a : List ℕ} {b : Bool} (e : words ≡ map grant_in l) (p : Put words_at words_size (numbers_bytes word_size words) old a) (s : b ≡ has_seconds offset) where
    pub both-put : {seconds new : List ℕ} → b ≡ true → seconds ≡ map second_in l → Put seconds_at words_size (numbers_bytes word_size seconds) a new
        → Put words_at (front_long offset - words_at) (numbers_bytes word_size (map grant_in l) ++ seconds_bytes offset l) old new
    unfolding front_long seconds_bytes
    both-put t f q = rw (← e, ← s, t, ← f) (put_next p q (omega (arith, long-new offset s t)))

    pub grants-put : b ≡ false → Put words_at (front_long offset - words_at) (numbers_bytes word_size (map grant_in l) ++ seconds_bytes offset l) old a
    unfolding front_long seconds_bytes
    grants-put t = rw (← e, ← s, t, append-nil) p

-- ---- the head and the words
module _ (grants : List Grants) (n offset : ℕ) {old : List ℕ} {long : ℕ} (e : long ≡ front_long offset) where
  pub front-short : length old < long → old ≡ over 0 (front_long offset) (front_bytes grants n offset) old
  front-short h = sym (over-short 0 (front_long offset) (front_bytes grants n offset) old (omega (arith, e)))

  pub front-all : {mask : ℕ} {a new : List ℕ} → long ≤ length old → mask ≡ mask_of grants → Put 0 words_at (numbers_bytes 2 (head_numbers mask n offset)) old a
      → Put words_at (front_long offset - words_at) (numbers_bytes word_size (map grant_in grants) ++ seconds_bytes offset grants) a new → new ≡ over 0 (front_long offset) (front_bytes grants n offset) old
  unfolding front_bytes
  front-all h m p q =
      let all : words_at + (front_long offset - words_at) ≡ front_long offset = omega (arith, front-least offset) in
      rw (all, m) at (put_next p q (omega (arith, e, front-least offset))).is

pub head-room : (offset : ℕ) (old : List ℕ) {long : ℕ} → long ≡ front_long offset → long ≤ length old → words_at ≤ length old
head-room offset old e h = omega (arith, front-least offset)

pub ruleset rules = (std_rules, masked-none, mask-double, masked-fits, masked_on, masked-all, head-put, worded-none, worded-length, worded-on, worded-all, seconds-there, long-new, long-old, words-room, seconds-room, both-put, grants-put, front-short, front-all, head-room)
