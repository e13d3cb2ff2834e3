-- An image of each layout, worked by hand; which changes of them are no image, and what is one though it looks strange.
-- Assumes nothing.
use Prim.Native.Nat.{ℕ, zero, suc, ◌+◌, ◌-◌, ◌*◌}
use mathlib.Core.Path.{◌≡◌, refl}
use mathlib.Core.Bool.{Bool, true, false}
use mathlib.Core.List.{List, [], ◌∷◌, ◌++◌}
use lib.ListN.{length, replicate, set, take, drop}
use Rattle.lists.specs.Lists.{join, padded, select}
use Rattle.rows.specs.Bytes.{bytes_of, number_of, number_at, bits_number}
use Rattle.rows.specs.Rows.{rows, every, pairwise}
use Rattle.names.proofs.Examples.{P, Q, R}
use Rattle.names.specs.Names.{name_length, same_bytes, same_name}
use Rattle.names.specs.declared.Kind.{Kind}
use Rattle.names.specs.declared.Kind.TheVariants.{User, Saved}
use Rattle.table.specs.Table.{standing, table_of}
use Rattle.table.specs.declared.Process.{Process}
use Rattle.module_state.specs.Module.{last_session, closed_module, closed_session, unprovisioned, word_size, words_of}
use Rattle.module_state.specs.declared.Grants.{Grants}
use Rattle.module_state.specs.declared.Phase.TheVariants.{Chosen}
use Rattle.module_state.specs.declared.State.{State}
use Rattle.image.specs.declared.SavedRow.{SavedRow}
use Rattle.image.specs.Image.{mask_at, word_count_at, word_offset_at, row_count_at, row_offset_at, words_at, seconds_at, saved_at, old_saved_at, saved_owner_at, saved_next_at, saved_name_at, saved_size, has_seconds, is_row_offset, image_long, numbers_bytes, numbers_in, mask_of, grant_in, second_in, seconds_bytes, saved_bytes, image_bytes, head_in, seconds_from, grants_said, grants_in, saved_from, saved_in, image_in, is_owner, is_keepable, differ, head_fits, words_fit, image_fits, is_image, saved_process, restored, saved_row, saved_of, image_of, state_image, renewed, cycled}

-- all that an example computes with: who says `unfolding computed` has it open
unfoldable pub computed : Type 1
unfolding join padded select bytes_of number_of number_at bits_number rows every pairwise same_bytes same_name standing table_of words_of has_seconds is_row_offset image_long numbers_bytes numbers_in mask_of grant_in second_in seconds_bytes saved_bytes image_bytes head_in seconds_from grants_said grants_in saved_from saved_in image_in is_owner is_keepable differ head_fits words_fit image_fits is_image saved_process restored saved_row saved_of image_of state_image renewed cycled
computed = Type 0

abbrev process : ℕ → Kind → ℕ → List ℕ → Process
process c k n name = record { credential = record { 0 = c }; kind = k; session = record { 0 = 0 }; next = n; name = record { bytes = name } }

-- credentials 0 and 1 are provisioned: words 15 and 16, and these second words
abbrev seconds : ℕ → ℕ → List Grants
seconds a b =
    record { provisioned = true; words = record { grant = 15; second = a } }
    ∷ record { provisioned = true; words = record { grant = 16; second = b } }
    ∷ replicate 6 unprovisioned

abbrev two : List Grants
two = seconds 15 0

-- session 0 is open with version 1.0. P is a saved process of credential 0, its next number 3 as after step 11's end; R is credential 1's active user
-- process in session 0, its next number 2; Q is a saved one of credential 1, its next number 300
abbrev drawn : State
drawn =
    record {
      sessions = record { phase = Chosen } ∷ replicate last_session closed_session;
      credentials = two;
      table = table_of (process 0 Saved 3 P ∷ process 1 User 2 R ∷ process 1 Saved 300 Q ∷ []);
    }

-- its image, by parts: the mask, 8 words, from 10 on, n rows, and their offset
abbrev pub head : ℕ → ℕ → List ℕ
head n offset = 3 ∷ 0 ∷ 8 ∷ 0 ∷ 10 ∷ 0 ∷ n ∷ 0 ∷ offset ∷ 0 ∷ []

abbrev pub grants : List ℕ
grants = (15 ∷ 0 ∷ 0 ∷ 0 ∷ 16 ∷ 0 ∷ 0 ∷ 0 ∷ []) ++ replicate 24 0

abbrev marks : List ℕ
marks = (15 ∷ 0 ∷ 0 ∷ 0 ∷ []) ++ replicate 28 0

abbrev pub saved : List ℕ
saved = (0 ∷ 0 ∷ 0x03 ∷ 0x00 ∷ P) ++ (1 ∷ 0 ∷ 0x2c ∷ 0x01 ∷ Q)

abbrev bytes : List ℕ
bytes = head 2 0x4a ++ (grants ++ (marks ++ saved))

-- what it makes: the sessions closed, R gone
abbrev made : List Grants → State
made credentials = closed_module credentials (table_of (process 0 Saved 3 P ∷ process 1 Saved 300 Q ∷ []))

pub record Drawn : Type 0 where
  pub written : state_image drawn ≡ bytes
  pub long : length bytes ≡ 178
  pub accepted : is_image bytes ≡ true
  pub read : restored bytes ≡ made two
  pub after : cycled drawn ≡ made two
  pub again : state_image (made two) ≡ bytes

pub drawn-is : Drawn
unfolding computed
drawn-is = record { written = refl; long = refl; accepted = refl; read = refl; after = refl; again = refl }

-- the same in the old layout, and what it makes: "second words zero"
abbrev pub old : List ℕ
old = head 2 0x2a ++ (grants ++ saved)

pub record OldDrawn : Type 0 where
  pub long : length old ≡ 146
  pub accepted : is_image old ≡ true
  pub read : restored old ≡ made (seconds 0 0)
  -- its new one
  pub anew : renewed old ≡ head 2 0x4a ++ (grants ++ (replicate 32 0 ++ saved))
  pub again : state_image (made (seconds 0 0)) ≡ renewed old

pub old-drawn : OldDrawn
unfolding computed
old-drawn = record { long = refl; accepted = refl; read = refl; anew = refl; again = refl }

-- where a credential's words and a row begin
abbrev word : ℕ → ℕ
word c = words_at + c * word_size

abbrev second : ℕ → ℕ
second c = seconds_at + c * word_size

abbrev row_at : ℕ → ℕ
row_at i = saved_at + i * saved_size

-- a byte changed: the place, and what it holds then
abbrev changed : ℕ → ℕ → Bool
changed at byte = is_image (set bytes at byte)

-- an image without rows, of either layout
abbrev empty : List ℕ
empty = head 0 0x4a ++ (grants ++ marks)

abbrev empty-old : List ℕ
empty-old = head 0 0x2a ++ grants

-- and the bytes of n rows of different names
abbrev row : ℕ → ℕ → List ℕ → SavedRow
row c n name = record { owner = record { 0 = c }; next = n; name = record { bytes = name } }

abbrev many : ℕ → List SavedRow
many zero = []
many (suc n) = row 0 1 (n ∷ replicate 47 0) ∷ many n

abbrev of : List SavedRow → List ℕ
of l = image_bytes (record { offset = saved_at; grants = two; saved = l })

abbrev of-old : List SavedRow → List ℕ
of-old l = image_bytes (record { offset = old_saved_at; grants = two; saved = l })

pub record Refused : Type 0 where
  -- a byte too many, one too few; a row too many, one too few
  pub long : is_image (bytes ++ (0 ∷ [])) ≡ false
  pub short : is_image (take (length bytes - 1) bytes) ≡ false
  pub long-empty : is_image (empty ++ (0 ∷ [])) ≡ false
  pub short-empty : is_image (take (saved_at - 1) empty) ≡ false
  pub nothing : is_image [] ≡ false
  pub count-1 : changed row_count_at 1 ≡ false
  pub count-3 : changed row_count_at 3 ≡ false
  pub count-258 : changed (row_count_at + 1) 1 ≡ false
  -- "n at most 12"
  pub rows-13 : is_image (of (many 13)) ≡ false
  pub old-13 : is_image (of-old (many 13)) ≡ false
  -- "mask of provisioned credentials (bits 8 to 15 zero)"
  pub mask-8 : changed (mask_at + 1) 1 ≡ false
  pub mask-15 : changed (mask_at + 1) 128 ≡ false
  -- "count of words 8, offset of words 10"
  pub words-7 : changed word_count_at 7 ≡ false
  pub words-16 : changed word_count_at 16 ≡ false
  pub words-264 : changed (word_count_at + 1) 1 ≡ false
  pub words-at-11 : changed word_offset_at 11 ≡ false
  pub words-at-266 : changed (word_offset_at + 1) 1 ≡ false
  -- "with rows at offset 74": one off, that of the old layout, and 74 in the old layout
  pub rows-at-73 : changed row_offset_at 73 ≡ false
  pub rows-at-75 : changed row_offset_at 75 ≡ false
  pub rows-at-42 : changed row_offset_at 42 ≡ false
  pub rows-at-330 : changed (row_offset_at + 1) 1 ≡ false
  pub old-at-41 : is_image (set old row_offset_at 41) ≡ false
  pub old-at-43 : is_image (set old row_offset_at 43) ≡ false
  pub old-at-74 : is_image (set old row_offset_at 74) ≡ false
  pub empty-at-42 : is_image (set empty row_offset_at 42) ≡ false
  pub empty-old-at-74 : is_image (set empty-old row_offset_at 74) ≡ false
  -- the rows moved to where the head says that they are
  pub rows-moved : is_image (set (take saved_at bytes ++ (0 ∷ drop saved_at bytes)) row_offset_at (saved_at + 1)) ≡ false
  pub old-moved : is_image (set (take old_saved_at old ++ (0 ∷ drop old_saved_at old)) row_offset_at (old_saved_at + 1)) ≡ false
  -- "zero where unprovisioned": each byte of a word; and one whose credential was taken out of the mask
  pub word_low : changed (word 2) 1 ≡ false
  pub word-high : changed (word 7 + 3) 1 ≡ false
  pub second-low : changed (second 2) 1 ≡ false
  pub second-high : changed (second 7 + 3) 1 ≡ false
  pub word-left : is_image (set empty mask_at 1) ≡ false
  -- "provisioned owners"
  pub owner-2 : changed (row_at 0 + saved_owner_at) 2 ≡ false
  pub owner-8 : changed (row_at 0 + saved_owner_at) 8 ≡ false
  pub owner-256 : changed (row_at 0 + saved_owner_at + 1) 1 ≡ false
  -- "next numbers of at least 1"
  pub number-0 : changed (row_at 0 + saved_next_at) 0 ≡ false
  -- "different names"
  pub name-twice : is_image (take (row_at 1 + saved_name_at) bytes ++ P) ≡ false

pub refused : Refused
unfolding computed
refused = record { long = refl; short = refl; long-empty = refl; short-empty = refl; nothing = refl; count-1 = refl; count-3 = refl; count-258 = refl; rows-13 = refl; old-13 = refl; mask-8 = refl; mask-15 = refl; words-7 = refl; words-16 = refl; words-264 = refl; words-at-11 = refl; words-at-266 = refl; rows-at-73 = refl; rows-at-75 = refl; rows-at-42 = refl; rows-at-330 = refl; old-at-41 = refl; old-at-43 = refl; old-at-74 = refl; empty-at-42 = refl; empty-old-at-74 = refl; rows-moved = refl; old-moved = refl; word_low = refl; word-high = refl; second-low = refl; second-high = refl; word-left = refl; owner-2 = refl; owner-8 = refl; owner-256 = refl; number-0 = refl; name-twice = refl }

-- what is an image though it looks strange
pub record Accepted : Type 0 where
  -- no row; no credential either
  pub no_row : is_image empty ≡ true
  pub no-row-old : is_image empty-old ≡ true
  pub no-credential : is_image (set (set (set (replicate saved_at 0) word_count_at 8) word_offset_at 10) row_offset_at saved_at) ≡ true
  -- as many as there are places
  pub rows-12 : is_image (of (many 12)) ≡ true
  pub old-12 : is_image (of-old (many 12)) ≡ true
  -- a second word that marks a class which the grant word lacks
  pub marked-only : changed (second 1) 15 ≡ true
  -- a next number of 256, with a low byte of 0; the last, under which nothing is accepted any more
  pub number-256 : is_image (set (set bytes (row_at 0 + saved_next_at) 0) (row_at 0 + saved_next_at + 1) 1) ≡ true
  pub number-65535 : is_image (set (set bytes (row_at 0 + saved_next_at) 255) (row_at 0 + saved_next_at + 1) 255) ≡ true
  -- a name that differs in its last byte; a name of zeros
  pub name-close : is_image (take (row_at 1 + saved_name_at) bytes ++ R) ≡ true
  pub name-zero : is_image (take (row_at 1 + saved_name_at) bytes ++ replicate name_length 0) ≡ true
  -- rows of one credential, in any order
  pub owner-0 : changed (row_at 1 + saved_owner_at) 0 ≡ true
  pub turned : is_image (of (row 1 300 Q ∷ row 0 3 P ∷ [])) ≡ true

pub accepted : Accepted
unfolding computed
accepted = record { no_row = refl; no-row-old = refl; no-credential = refl; rows-12 = refl; old-12 = refl; marked-only = refl; number-256 = refl; number-65535 = refl; name-close = refl; name-zero = refl; owner-0 = refl; turned = refl }

-- order 7's step 9: no rows, words 15 and 16, second words 15 and 0; and how long an image with one row is
pub record Lengths : Type 0 where
  pub written : state_image (closed_module two (table_of [])) ≡ empty
  pub read-old : restored empty-old ≡ closed_module (seconds 0 0) (table_of [])
  pub none : length empty ≡ 74
  pub none_old : length empty-old ≡ 42
  pub one : length (of (many 1)) ≡ 126
  pub one-old : length (of-old (many 1)) ≡ 94
  pub most : length (of (many 12)) ≡ 698

pub lengths : Lengths
unfolding computed
lengths = record { written = refl; read-old = refl; none = refl; none_old = refl; one = refl; one-old = refl; most = refl }
