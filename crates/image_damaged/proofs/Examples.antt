-- Examples of order 8, one or two for each of its rules. X is the drawn image in the old layout, and Y in the new one, but that credential 1 alone has a second word, 16.
-- Assumes nothing.
use Prim.Native.Nat.{ℕ, zero, suc, ◌+◌, ◌*◌}
use mathlib.Core.Path.{◌≡◌, refl}
use mathlib.Core.List.{List, [], ◌∷◌, ◌++◌}
use lib.ListN.{take, set, replicate}
use Rattle.lists.specs.Lists.{sum}
use Rattle.names.proofs.Examples.{P, Q, R}
use Rattle.module_state.specs.Module.{taken}
use Rattle.module_state.specs.Numbers.{◌when◌, ◌unless◌, ◌▸◌}
use Rattle.image.specs.Image.{mask_at, row_count_at, row_offset_at, old_saved_at, saved_owner_at, saved_next_at, saved_name_at, saved_size, is_whole}
use Rattle.image_damaged.specs.Rescue.{Rescued, is_usable, nonzero, words_cleared, cleared, stated, has_new_name, is_kept, kept_with, keep, rows_kept, are_dropped, rows_dropped, dropped, places_told, rescued_image, rescued, rescued_long, rescue_number, rescue_answer}
use Rattle.image.proofs.Examples.{computed, head, grants, saved, old}

-- the number, the length, the cleared words, the kept rows, and the place of each row dropped
abbrev answered : Rescued → List ℕ
answered a = a.number ∷ a.length ∷ a.cleared ∷ a.kept ∷ places_told 16 0 a.dropped

-- into a buffer with room for every image, and into one of some length
abbrev told_in : ℕ → List ℕ → List ℕ
told_in room b = answered (rescue_answer b room)

abbrev told : List ℕ → List ℕ
told b = told_in 698 b

abbrev unusable : List ℕ
unusable = 14 ∷ 0 ∷ 0 ∷ 0 ∷ []

abbrev no_room : List ℕ
no_room = 15 ∷ 0 ∷ 0 ∷ 0 ∷ []

abbrev X : List ℕ
X = old

abbrev Y : List ℕ
Y = head 2 0x4a ++ (grants ++ ((0 ∷ 0 ∷ 0 ∷ 0 ∷ 16 ∷ 0 ∷ 0 ∷ 0 ∷ []) ++ (replicate 24 0 ++ saved)))

-- where a row of X begins; X with another name in row 1; X with row 0 at number 0
abbrev row_at : ℕ → ℕ
row_at i = old_saved_at + i * saved_size

abbrev second-named : List ℕ → List ℕ
second-named name = take (row_at 1 + saved_name_at) X ++ name

abbrev uncounted : List ℕ → List ℕ
uncounted b = set b (row_at 0 + saved_next_at) 0

-- no credential is provisioned, and each of n words is 1
abbrev stray : ℕ → ℕ → List ℕ
stray offset zero = 0 ∷ 0 ∷ 8 ∷ 0 ∷ 10 ∷ 0 ∷ 0 ∷ 0 ∷ offset ∷ 0 ∷ []
stray offset (suc n) = stray offset n ++ (1 ∷ 0 ∷ 0 ∷ 0 ∷ [])

-- n rows of credential 0 whose names are three in turn
abbrev three : ℕ → List ℕ
three zero = []
three (suc n) = (0 ∷ 0 ∷ 1 ∷ 0 ∷ P) ++ ((0 ∷ 0 ∷ 1 ∷ 0 ∷ Q) ++ ((0 ∷ 0 ∷ 1 ∷ 0 ∷ R) ++ three n))

pub record Examples : Type 0 where
  -- the room that is asked for is what is written
  pub room-145 : told_in 145 X ≡ no_room
  pub room-146 : told_in 146 X ≡ 0 ∷ 146 ∷ 0 ∷ 2 ∷ []
  -- a row that is cut is dropped, and one that is missing; the words are needed whole
  pub cut-145 : told (take 145 X) ≡ 0 ∷ 94 ∷ 0 ∷ 1 ∷ 1 ∷ []
  pub cut_fits : told_in 94 (take 145 X) ≡ 0 ∷ 94 ∷ 0 ∷ 1 ∷ 1 ∷ []
  pub cut-42 : told (take 42 X) ≡ 0 ∷ 42 ∷ 0 ∷ 0 ∷ 0 ∷ 1 ∷ []
  pub cut-41 : told (take 41 X) ≡ unusable
  pub cut-9 : told (take 9 X) ≡ unusable
  pub new-74 : told (take 74 Y) ≡ 0 ∷ 74 ∷ 0 ∷ 0 ∷ 0 ∷ 1 ∷ []
  pub new-73 : told (take 73 Y) ≡ unusable
  -- "bytes after those are ignored"
  pub longer-room : told_in 146 (X ++ (1 ∷ [])) ≡ 0 ∷ 146 ∷ 0 ∷ 2 ∷ []
  pub row_more : told (X ++ (0 ∷ 0 ∷ 1 ∷ 0 ∷ R)) ≡ 0 ∷ 146 ∷ 0 ∷ 2 ∷ []
  -- "up to the stated count", which is "at most 12"
  pub count-1 : told (set X row_count_at 1) ≡ 0 ∷ 94 ∷ 0 ∷ 1 ∷ []
  pub count-3 : told (set X row_count_at 3) ≡ 0 ∷ 146 ∷ 0 ∷ 2 ∷ 2 ∷ []
  pub count-13 : told (set X row_count_at 13) ≡ unusable
  -- "It clears words of unprovisioned credentials", of both kinds
  pub new-mask-1 : told (set Y mask_at 1) ≡ 0 ∷ 126 ∷ 2 ∷ 1 ∷ 1 ∷ []
  pub mask-259 : told (set X (mask_at + 1) 1) ≡ unusable
  pub stray-new : told (stray 74 16) ≡ 0 ∷ 74 ∷ 16 ∷ 0 ∷ []
  -- which row is kept
  pub number-0 : told (uncounted X) ≡ 0 ∷ 94 ∷ 0 ∷ 1 ∷ 0 ∷ []
  pub name-twice : told (second-named P) ≡ 0 ∷ 94 ∷ 0 ∷ 1 ∷ 1 ∷ []
  pub name-close : told (second-named R) ≡ 0 ∷ 146 ∷ 0 ∷ 2 ∷ []
  pub name_free : told (uncounted (second-named P)) ≡ 0 ∷ 94 ∷ 0 ∷ 1 ∷ 0 ∷ []
  pub owner-256 : told (set X (row_at 0 + saved_owner_at + 1) 1) ≡ 0 ∷ 94 ∷ 0 ∷ 1 ∷ 0 ∷ []
  pub spent : told (set (set X (row_at 1 + saved_next_at) 255) (row_at 1 + saved_next_at + 1) 255) ≡ 0 ∷ 146 ∷ 0 ∷ 2 ∷ []
  pub three-names : told ((1 ∷ 0 ∷ 8 ∷ 0 ∷ 10 ∷ 0 ∷ 12 ∷ 0 ∷ 42 ∷ 0 ∷ []) ++ (replicate 32 0 ++ three 4)) ≡ 0 ∷ 198 ∷ 0 ∷ 3 ∷ 3 ∷ 4 ∷ 5 ∷ 6 ∷ 7 ∷ 8 ∷ 9 ∷ 10 ∷ 11 ∷ []
  -- "the offsets of either layout": a damaged one is read as what it says, and the rest of the head has to fit
  pub rows-at-43 : told (set X row_offset_at 43) ≡ unusable
  pub rows-at-74 : told (set X row_offset_at 74) ≡ 0 ∷ 74 ∷ 3 ∷ 0 ∷ 0 ∷ 1 ∷ []
  -- what is written: an image as it was; row 1 moved up behind a head that counts one, where row 0 is dropped; words cleared
  pub same : rescued X ≡ X
  pub moved : rescued (uncounted X) ≡ head 1 0x2a ++ (grants ++ (1 ∷ 0 ∷ 0x2c ∷ 0x01 ∷ Q))
  pub words-cleared : rescued (set (take 74 Y) mask_at 1) ≡ set (head 0 0x4a) mask_at 1 ++ ((15 ∷ 0 ∷ 0 ∷ 0 ∷ []) ++ replicate 60 0)

pub examples : Examples
unfolding computed sum taken ◌when◌ ◌unless◌ ◌▸◌ is_whole is_usable nonzero words_cleared cleared stated has_new_name is_kept kept_with keep rows_kept are_dropped rows_dropped dropped places_told rescued_image rescued rescued_long rescue_number rescue_answer
examples = record { room-145 = refl; room-146 = refl; cut-145 = refl; cut_fits = refl; cut-42 = refl; cut-41 = refl; cut-9 = refl; new-74 = refl; new-73 = refl; longer-room = refl; row_more = refl; count-1 = refl; count-3 = refl; count-13 = refl; new-mask-1 = refl; mask-259 = refl; stray-new = refl; number-0 = refl; name-twice = refl; name-close = refl; name_free = refl; owner-256 = refl; spent = refl; three-names = refl; rows-at-43 = refl; rows-at-74 = refl; same = refl; moved = refl; words-cleared = refl }
