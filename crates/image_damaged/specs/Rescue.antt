-- Document 02, order 8: "A rescue routine takes such bytes and writes a good image to a second buffer." What it needs, which rows it keeps, what it writes and what
-- it reports. docs/IMAGE.md says what it can't know.
use Rattle.std.specs.Prelude.{ℕ, zero, suc, ◌+◌, ◌/◌, ◌%◌, ◌≡◌, Bool, cond, not, ◌&&◌, List, [], ◌∷◌, ◌++◌, map, eqb, leb, ltb, length, drop, Result, Ok, Err}
use Rattle.lists.specs.Lists.{sum}
use Rattle.rows.specs.Bytes.{bits_number}
use Rattle.rows.specs.Rows.{rows, every, over}
use Rattle.module_state.specs.Module.{taken}
use Rattle.module_state.specs.Numbers as No
use Rattle.module_state.specs.Numbers.{◌when◌, ◌unless◌, ◌▸◌}
use Rattle.module_state.specs.Refusals.{refusal_number}
use Rattle.module_state.specs.declared.Grants.{Grants}
use Rattle.module_state.specs.declared.Refusal.{Refusal}
use Rattle.image_damaged.specs.declared.Report.{Report}
use Rattle.image.specs.declared.SavedRow.{SavedRow}
use Rattle.image.specs.Image.{words_at, saved_size, image_long, Image, image_bytes, head_in, grants_in, saved_from, is_whole, is_keepable, differ, head_fits}

-- ---- "It needs a whole header with high mask bits zero, 8 words, a row count of at most 12 and the offsets of either layout, and all words."
unfoldable pub is_usable : List ℕ → Bool
is_usable b = leb words_at (length b) && (head_fits (head_in b) && leb (head_in b).offset (length b))

-- ---- "It clears words of unprovisioned credentials", and reports "how many nonzero words it cleared": of both kinds, second words too
unfoldable pub nonzero : ℕ → ℕ
nonzero word = cond (eqb word 0) 0 1

unfoldable pub words_cleared : Grants → ℕ
words_cleared g = cond g.provisioned 0 (nonzero g.words.grant + nonzero g.words.second)

unfoldable pub cleared : List ℕ → ℕ
cleared b = sum (map words_cleared (grants_in b))

-- ---- "then goes through the whole rows up to the stated count; bytes after those are ignored": the stated rows. Where the bytes end before a row does, its part of
-- them is not whole
unfoldable pub stated : List ℕ → List (List ℕ)
stated b = rows (head_in b).rows saved_size (drop (head_in b).offset b)

-- "A row is kept if its owner is provisioned, its next number is at least 1 and its name differs from all names kept before."
unfoldable pub has_new_name : List SavedRow → SavedRow → Bool
has_new_name before r = every (λ q. differ q r) before

unfoldable pub is_kept : List Grants → List SavedRow → List ℕ → Bool
is_kept grants before part = is_whole part && (is_keepable grants (saved_from part) && has_new_name before (saved_from part))

unfoldable pub kept_with : List Grants → List SavedRow → List ℕ → List SavedRow
kept_with grants before part = cond (is_kept grants before part) (before ++ (saved_from part ∷ [])) before

-- those kept of these parts, in their order, behind those kept before. The reader takes an image where all are (`reader-is` of the laws)
unfoldable pub keep : List Grants → List SavedRow → List (List ℕ) → List SavedRow
keep grants before [] = before
keep grants before (part ∷ parts) = keep grants (kept_with grants before part) parts

unfoldable pub rows_kept : List ℕ → List SavedRow
rows_kept b = keep (grants_in b) [] (stated b)

-- ---- "and the place of each row dropped": whether each stated row is, "missing ones counted as dropped"
unfoldable pub are_dropped : List Grants → List SavedRow → List (List ℕ) → List Bool
are_dropped grants before [] = []
are_dropped grants before (part ∷ parts) = not (is_kept grants before part) ∷ are_dropped grants (kept_with grants before part) parts

unfoldable pub rows_dropped : List ℕ → List Bool
rows_dropped b = are_dropped (grants_in b) [] (stated b)

-- these places, counted from `at` on
unfoldable pub places_of : ℕ → List Bool → List ℕ
places_of at [] = []
places_of at (flag ∷ flags) = cond flag (at ∷ places_of (at + 1) flags) (places_of (at + 1) flags)

-- reported as one number: bit i is the row's at place i
unfoldable pub dropped : List ℕ → ℕ
dropped b = bits_number (rows_dropped b)

-- and read again: the places of the bits that are set among the n lowest
unfoldable pub places_told : ℕ → ℕ → ℕ → List ℕ
places_told zero at mask = []
places_told (suc n) at mask = cond (eqb (mask % 2) 1) (at ∷ places_told n (at + 1) (mask / 2)) (places_told n (at + 1) (mask / 2))

-- ---- what is written. "The layout stays."
unfoldable pub rescued_image : List ℕ → Image
rescued_image b = record { offset = (head_in b).offset; grants = map taken (grants_in b); saved = rows_kept b }

unfoldable pub rescued : List ℕ → List ℕ
rescued b = image_bytes (rescued_image b)

unfoldable pub rescued_long : List ℕ → ℕ
rescued_long b = image_long (head_in b).offset (length (rows_kept b))

-- ---- "Refusals: 14 where header or words can't be used, then 15."
unfoldable pub rescue_number : List ℕ → ℕ → ℕ
rescue_number b room =
    No.message unless is_usable b
    ▸ No.room when ltb room (rescued_long b)

-- the answer: its number, and beside it the report; a refusal has none, and nobody is given its zeros
pub record Rescued : Type 0 where
  pub number : ℕ
  pub length : ℕ
  pub cleared : ℕ
  pub kept : ℕ
  pub dropped : ℕ

abbrev pub refused_by : ℕ → Rescued
refused_by number = record { number = number; length = 0; cleared = 0; kept = 0; dropped = 0 }

unfoldable pub rescue_answer : List ℕ → ℕ → Rescued
rescue_answer b room =
    cond (eqb (rescue_number b room) No.done)
    (record { number = No.done; length = rescued_long b; cleared = cleared b; kept = length (rows_kept b); dropped = dropped b })
    (refused_by (rescue_number b room))

-- as the code answers it
abbrev pub rescued_in : Result Report Refusal → Rescued
rescued_in (Ok report) =
    record { number = No.done; length = report.length; cleared = report.cleared; kept = report.kept; dropped = report.dropped }
rescued_in (Err refusal) = refused_by (refusal_number refusal)

pub record RescueWritten (b old : List ℕ) (answer : Rescued) (new : List ℕ) : Type 0 where
  pub answer-is : answer ≡ rescue_answer b (length old)
  -- later bytes are not touched, and none on a refusal
  pub bytes-are : new ≡ cond (eqb (rescue_number b (length old)) No.done) (over 0 (rescued_long b) (rescued b) old) old
