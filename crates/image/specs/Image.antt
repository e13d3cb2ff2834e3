-- Document 02, order 2: "Write an image and make a fresh module from it, with its credentials and words." What an image holds, its bytes, which bytes are one,
-- and the module that one makes. Order 7: "Images get the eight second words after the first .. The reader still takes the old layout". docs/IMAGE.md draws both.
use Rattle.std.specs.Prelude.{ℕ, ◌+◌, ◌*◌, ◌/◌, ◌%◌, ◌≤◌, ◌≡◌, Bool, true, cond, not, ◌&&◌, ◌||◌, List, [], ◌∷◌, ◌++◌, map, eqb, leb, ltb, length, get_or, take, drop, replicate, Option, Some, None, Result, Ok, Err}
use Rattle.lists.specs.Lists.{join, select}
use Rattle.rows.specs.Bytes.{bytes_of, number_of, number_at, bits_number}
use Rattle.rows.specs.Rows.{rows, every, pairwise, over}
use Rattle.names.specs.Names.{name_length, same_name}
use Rattle.names.specs.declared.Credential.{Credential}
use Rattle.names.specs.declared.Kind.TheVariants.{Saved}
use Rattle.table.specs.Table.{standing, table_of, is_saved, places}
use Rattle.table.specs.declared.Process.{Process}
use Rattle.module_state.specs.Module.{both_words, unprovisioned, words_of, credential_count, closed_module, word_size}
use Rattle.module_state.specs.declared.Grants.{Grants}
use Rattle.module_state.specs.declared.State.{State}
use Rattle.image.specs.declared.ImageHead.{ImageHead}
use Rattle.image.specs.declared.ImageParts.{ImageParts}
use Rattle.image.specs.declared.SavedRow.{SavedRow}

-- ---- where its numbers, its words and its rows lie. `src/lib.rt` has these names for the code
abbrev pub mask_at : ℕ
mask_at = 0

abbrev pub word_count_at : ℕ
word_count_at = mask_at + 2

abbrev pub word_offset_at : ℕ
word_offset_at = word_count_at + 2

abbrev pub row_count_at : ℕ
row_count_at = word_offset_at + 2

abbrev pub row_offset_at : ℕ
row_offset_at = row_count_at + 2

abbrev pub words_at : ℕ
words_at = row_offset_at + 2

abbrev pub words_size : ℕ
words_size = credential_count * word_size

abbrev pub seconds_at : ℕ
seconds_at = words_at + words_size

abbrev pub saved_at : ℕ
saved_at = seconds_at + words_size

-- the old layout has no second words: its rows lie where these would
abbrev pub old_saved_at : ℕ
old_saved_at = seconds_at

-- ---- and the fields of a row
abbrev pub saved_owner_at : ℕ
saved_owner_at = 0

abbrev pub saved_next_at : ℕ
saved_next_at = saved_owner_at + 2

abbrev pub saved_name_at : ℕ
saved_name_at = saved_next_at + 2

abbrev pub saved_size : ℕ
saved_size = saved_name_at + name_length

-- the layouts are "told apart by the rows' offset": the new one has "rows at offset 74"
unfoldable pub has_seconds : ℕ → Bool
has_seconds offset = eqb offset saved_at

-- and the old one "offset of rows 42". There is no third
unfoldable pub is_row_offset : ℕ → Bool
is_row_offset offset = has_seconds offset || eqb offset old_saved_at

-- "Its length is 42 + 52n", or 74 + 52n
unfoldable pub image_long : ℕ → ℕ → ℕ
image_long offset n = offset + n * saved_size

-- ---- what an image holds: the credentials' grants, and the rows of the saved processes; and from where on its rows lie
pub record Image : Type 0 where
  pub offset : ℕ
  pub grants : List Grants
  pub saved : List SavedRow

-- ---- numbers of k bytes, one after another: the bytes that say them, and the first n that bytes say
unfoldable pub numbers_bytes : ℕ → List ℕ → List ℕ
numbers_bytes k l = join (map (bytes_of k) l)

unfoldable pub numbers_in : ℕ → ℕ → List ℕ → List ℕ
numbers_in n k b = map number_of (rows n k b)

-- ---- "Five 2-byte little endian numbers head it: mask of provisioned credentials (bits 8 to 15 zero), count of words 8, offset of words 10,
-- count of rows n, offset of rows 42."
abbrev pub head_numbers : ℕ → ℕ → ℕ → List ℕ
head_numbers mask n offset = mask ∷ credential_count ∷ words_at ∷ n ∷ offset ∷ []

-- bit i is credential i's
unfoldable pub mask_of : List Grants → ℕ
mask_of l = bits_number (map (λ (g : Grants). g.provisioned) l)

-- ---- "Then eight 4-byte words, zero where unprovisioned", and "the eight second words after the first, zero where unprovisioned"
unfoldable pub grant_in : Grants → ℕ
grant_in g = (words_of g).grant

unfoldable pub second_in : Grants → ℕ
second_in g = (words_of g).second

unfoldable pub seconds_bytes : ℕ → List Grants → List ℕ
seconds_bytes offset grants = cond (has_seconds offset) (numbers_bytes word_size (map second_in grants)) []

-- ---- "then n rows of 52 bytes, .. credential 2, next number 2, name 48"
unfoldable pub saved_bytes : SavedRow → List ℕ
saved_bytes r = bytes_of 2 r.owner.0 ++ (bytes_of 2 r.next ++ r.name.bytes)

unfoldable pub image_bytes : Image → List ℕ
image_bytes i =
    numbers_bytes 2 (head_numbers (mask_of i.grants) (length i.saved) i.offset)
    ++ (numbers_bytes word_size (map grant_in i.grants) ++ (seconds_bytes i.offset i.grants ++ join (map saved_bytes i.saved)))

-- what stands before the rows, and how long it is in either layout
unfoldable pub front_bytes : List Grants → ℕ → ℕ → List ℕ
front_bytes grants n offset = numbers_bytes 2 (head_numbers (mask_of grants) n offset) ++ (numbers_bytes word_size (map grant_in grants) ++ seconds_bytes offset grants)

unfoldable pub front_long : ℕ → ℕ
front_long offset = cond (has_seconds offset) saved_at old_saved_at

-- ---- what bytes say, read so
unfoldable pub head_in : List ℕ → ImageHead
head_in b =
    record {
      mask = number_at 2 mask_at b;
      words = number_at 2 word_count_at b;
      from = number_at 2 word_offset_at b;
      rows = number_at 2 row_count_at b;
      offset = number_at 2 row_offset_at b;
    }

-- eight words from a place on
abbrev pub words_from : ℕ → List ℕ → List ℕ
words_from at b = numbers_in credential_count word_size (drop at b)

-- "The reader still takes the old layout, second words zero"
unfoldable pub seconds_from : ℕ → List ℕ → List ℕ
seconds_from offset b = cond (has_seconds offset) (words_from seconds_at b) (replicate credential_count 0)

-- a mask, grant words and second words, and the credentials that they say
unfoldable pub grants_said : ℕ → List ℕ → List ℕ → List Grants
grants_said mask [] seconds = []
grants_said mask (word ∷ words) [] = []
grants_said mask (word ∷ words) (second ∷ seconds) =
    record { provisioned = eqb (mask % 2) 1; words = both_words word second } ∷ grants_said (mask / 2) words seconds

-- the credentials of bytes whose head has this mask, and rows from this offset on
abbrev pub grants_among : ℕ → ℕ → List ℕ → List Grants
grants_among mask offset b = grants_said mask (words_from words_at b) (seconds_from offset b)

unfoldable pub grants_in : List ℕ → List Grants
grants_in b = grants_among (head_in b).mask (head_in b).offset b

unfoldable pub saved_from : List ℕ → SavedRow
saved_from row = record { owner = record { 0 = number_at 2 saved_owner_at row }; next = number_at 2 saved_next_at row; name = record { bytes = drop saved_name_at row } }

-- n rows from an offset on, and those that the head speaks of
abbrev pub saved_among : ℕ → ℕ → List ℕ → List SavedRow
saved_among offset n b = map saved_from (rows n saved_size (drop offset b))

unfoldable pub saved_in : List ℕ → List SavedRow
saved_in b = saved_among (head_in b).offset (head_in b).rows b

unfoldable pub image_in : List ℕ → Image
image_in b = record { offset = (head_in b).offset; grants = grants_in b; saved = saved_in b }

-- ---- one part of bytes as a row. Order 8: "whole rows"
unfoldable pub is_whole : List ℕ → Bool
is_whole part = eqb (length part) saved_size

-- a part that is not whole says no row
unfoldable pub read_saved : List ℕ → Option SavedRow
read_saved part = cond (is_whole part) (Some (saved_from part)) None

-- and one after a row was written into it
unfoldable pub saved_over : List ℕ → SavedRow → List ℕ
saved_over part r = cond (is_whole part) (saved_bytes r) part

-- ---- which rows are kept. "provisioned owners .. and next numbers of at least 1 (a save has counted one)"
unfoldable pub is_owner : List Grants → Credential → Bool
is_owner grants c = (get_or grants c.0 unprovisioned).provisioned

unfoldable pub is_keepable : List Grants → SavedRow → Bool
is_keepable grants r = is_owner grants r.owner && leb 1 r.next

-- "different names"
unfoldable pub differ : SavedRow → SavedRow → Bool
differ r q = not (same_name r.name q.name)

-- ---- "The reader accepts exactly these forms with provisioned owners, different names and next numbers of at least 1 (a save has counted one)"

-- the five numbers. "n at most 12"
unfoldable pub head_fits : ImageHead → Bool
head_fits h =
    ltb h.mask 256
    && (eqb h.words credential_count
    && (eqb h.from words_at
    && (leb h.rows places
    && is_row_offset h.offset)))

-- "zero where unprovisioned"
unfoldable pub words_fit : Grants → Bool
words_fit g = g.provisioned || (eqb g.words.grant 0 && eqb g.words.second 0)

-- what it holds: words, owners, numbers and names
unfoldable pub image_fits : Image → Bool
image_fits i = every words_fit i.grants && (every (is_keepable i.grants) i.saved && pairwise differ i.saved)

unfoldable pub is_image : List ℕ → Bool
is_image b = head_fits (head_in b) && (eqb (length b) (image_long (head_in b).offset (head_in b).rows) && image_fits (image_in b))

-- the test's answer: what it read of an image
unfoldable pub image_test : List ℕ → Result ImageParts ImageParts
image_test b =
    cond (is_image b)
    (Ok (record { head = head_in b; grants = grants_in b }))
    (Err (record { head = head_in b; grants = grants_in b }))

-- ---- the module that an image makes: a fresh one with these credentials, in which these processes stand. "Restored processes are saved ones."
unfoldable pub saved_process : SavedRow → Process
saved_process r = record { credential = r.owner; kind = Saved; session = record { 0 = 0 }; next = r.next; name = r.name }

abbrev pub module_of : Image → State
module_of i = closed_module i.grants (table_of (map saved_process i.saved))

unfoldable pub restored : List ℕ → State
restored b = module_of (image_in b)

-- ---- the image of a state, in the new layout always: "the saved processes only, in table order"
unfoldable pub saved_row : Process → SavedRow
saved_row p = record { owner = p.credential; next = p.next; name = p.name }

abbrev pub is_saved_one : Process → Bool
is_saved_one p = is_saved p.kind

abbrev pub saved_rows : List Process → List SavedRow
saved_rows l = map saved_row (select is_saved_one l)

unfoldable pub saved_of : State → List SavedRow
saved_of st = saved_rows (standing st.table)

unfoldable pub image_of : State → Image
image_of st = record { offset = saved_at; grants = st.credentials; saved = saved_of st }

unfoldable pub state_image : State → List ℕ
state_image st = image_bytes (image_of st)

-- ---- an image in the new layout: of one of the old layout the head with the other offset, the same words, second words that are zero, the same rows
unfoldable pub renewed : List ℕ → List ℕ
renewed b =
    cond (has_seconds (head_in b).offset) b
    (take row_offset_at b ++ (bytes_of 2 saved_at ++ (take words_size (drop words_at b) ++ (replicate words_size 0 ++ drop old_saved_at b))))

-- ---- what a state is after a power cycle
unfoldable pub cycled : State → State
cycled st = module_of (image_of st)

-- ---- the reader's answer. Bytes that are no image make no module
unfoldable pub read_image : List ℕ → Option State
read_image b = cond (is_image b) (Some (restored b)) None

-- ---- the writer's: how long the image of a state is, whether a buffer is too short for it, and the buffer afterwards
unfoldable pub image_room : State → ℕ
image_room st = image_long saved_at (length (saved_of st))

unfoldable pub lacks_room : State → ℕ → Bool
lacks_room st room = ltb room (image_room st)

pub record ImageWritten (st : State) (old : List ℕ) (long : ℕ) (new : List ℕ) : Type 0 where
  -- the length; 0 on a refusal
  pub length-is : long ≡ cond (lacks_room st (length old)) 0 (image_room st)
  -- later bytes are not touched, and none of a buffer that is too short
  pub bytes-are : new ≡ over 0 (image_room st) (state_image st) old

-- ---- what the reader's loops ask: n rows lie in bytes from an offset on, and nothing behind them
pub record SavedLie (b : List ℕ) (offset n : ℕ) : Type 0 where
  pub few : n ≤ places
  pub from : is_row_offset offset ≡ true
  pub long : length b ≡ image_long offset n
