-- Document 02, order 6: "A program reads standard input: images of order 2, each after its length in 2 bytes, little endian." What it says of a drawer.
use Rattle.std.specs.Prelude.{ℕ, zero, suc, ◌+◌, ◌≤◌, ◌≡◌, Bool, true, false, cond, ◌&&◌, ◌||◌, List, [], ◌∷◌, ◌++◌, map, eqb, ltb, length, take, drop, Result, Ok, Err}
use Rattle.std.specs.declared.io.Error.{Error}
use Rattle.lists.specs.Lists.{sum}
use Rattle.image_figures.specs.Figures.{length_size, size_said, line_of}
use Rattle.image_figures.specs.declared.Figures.{Figures}
use Rattle.image_figures.specs.Figures.{Line}
use Rattle.std.specs.Prelude.{Some, None}
use Rattle.figures.specs.declared.Totals.{Totals}
use Rattle.figures.specs.declared.Turn.{Turn}
use Rattle.figures.specs.declared.Step.{Step}
use Rattle.figures.specs.declared.Output.{Output}
use Rattle.figures.specs.declared.Output.TheVariants.{Image, Total, TooMany}
use Rattle.figures.specs.declared.Stop.{Stop}
use Rattle.figures.specs.declared.Stop.TheVariants.{Full, Ended, Failed}
use Rattle.figures.specs.declared.Filled.{Filled}
use Rattle.figures.specs.declared.SheetRead.{SheetRead}
use Rattle.figures.specs.declared.Told.{Told}
use Rattle.figures.specs.declared.Told.TheVariants.{Nothing, Printed, Unread, Unwritten}

-- ---- a drawer's sheets: of a length, and of the image after it, the bytes that are there
pub record Sheet : Type 0 where
  pub said : List ℕ
  pub image : List ℕ

-- the sheet at the start of bytes, and what comes after it: a length is believed, so after a cut-off image nothing comes
unfoldable pub first_sheet : List ℕ → Sheet
first_sheet b = record { said = take length_size b; image = take (size_said (take length_size b)) (drop length_size b) }

unfoldable pub after_sheet : List ℕ → List ℕ
after_sheet b = drop (length_size + size_said (take length_size b)) b

-- the most that 2 bytes say: a buffer of so many bytes holds the image of any sheet
abbrev pub longest_said : ℕ
longest_said = 65535

-- the first n sheets
unfoldable pub first_sheets : ℕ → List ℕ → List Sheet
first_sheets zero b = []
first_sheets (suc n) [] = []
first_sheets (suc n) (x ∷ b) = first_sheet (x ∷ b) ∷ first_sheets n (after_sheet (x ∷ b))

-- ---- "For each it prints a line"
unfoldable pub lines_of : List Sheet → List Line
lines_of l = map (λ (p : Sheet). line_of p.said p.image) l

-- ---- "The last line is `total` with the good images, rows and granted classes."
unfoldable pub good_ones : List Line → List Figures
good_ones [] = []
good_ones (None ∷ l) = good_ones l
good_ones (Some figures ∷ l) = figures ∷ good_ones l

unfoldable pub totals_of : List Line → Totals
totals_of l =
    record {
      images = length l;
      good = length (good_ones l);
      rows = sum (map (λ (f : Figures). f.rows) (good_ones l));
      classes = sum (map (λ (f : Figures). f.classes) (good_ones l));
    }

unfoldable pub totals_with : Line → List Line → Totals
totals_with line lines = totals_of (lines ++ (line ∷ []))

-- ---- "up to 4,096 images, bad ones counted .. Past 4,096 it prints `too many` and no total."
abbrev pub most_images : ℕ
most_images = 4096

unfoldable pub is_past : List ℕ → Bool
is_past b = ltb most_images (length (first_sheets (suc most_images) b))

-- ---- what is printed of a drawer, line by line
unfoldable pub printed_of : List ℕ → List Output
printed_of b =
    let lines : List Line = lines_of (first_sheets most_images b) in
    map Image lines ++ (cond (is_past b) TooMany (Total (totals_of lines)) ∷ [])

-- ---- the program's step, after these lines: what comes of a length and an image of which these bytes are there
unfoldable pub step_of : List ℕ → List ℕ → List Line → Step
step_of said image lines =
    cond (eqb (length said) 0) (record { totals = totals_of lines; output = Total (totals_of lines); more = false })
    (cond (eqb (length lines) most_images) (record { totals = totals_of lines; output = TooMany; more = false })
    (record { totals = totals_with (line_of said image) lines; output = Image (line_of said image); more = true }))

-- of the lines the program has the totals alone: it answers what f says of these lines, whatever lines they are
pub record After {A : Type 0} (t : Totals) (f : List Line → A) (answer : A) : Type 0 where
  pub is : (lines : List Line) → t ≡ totals_of lines → answer ≡ f lines

-- ---- what the program's totals are while it reads: those of some sheets, at most 4,096; and what a line is, that of a sheet
pub record OfSheets (t : Totals) : Type 0 where
  pub read : List Sheet
  pub few : length read ≤ most_images
  pub are : t ≡ totals_of (lines_of read)

pub record OfSheet (x : Line) : Type 0 where
  pub sheet : Sheet
  pub is : x ≡ line_of sheet.said sheet.image

-- ---- what is read: a part of a buffer is filled until it is full, the input ends or a read fails; `read` answers an error where it fails
unfoldable pub stop_of : Result ℕ Error → Stop
stop_of (Ok n) = Ended
stop_of (Err error) = Failed error

abbrev pub is_failure : Stop → Bool
is_failure Full = false
is_failure Ended = false
is_failure (Failed error) = true

pub record FilledTo (size : ℕ) (filled : Filled) : Type 0 where
  pub few : filled.count ≤ size
  pub whole : filled.stop ≡ Full → filled.count ≡ size

-- the two buffers: of a length, and of any image
pub record Buffers (said image : List ℕ) : Type 0 where
  pub for-length : length said ≡ length_size
  pub for-image : longest_said ≤ length image

-- of a sheet, the bytes that were read are what its buffers begin with: a length, and then as many as that says
unfoldable pub sheet_in : SheetRead → List ℕ → List ℕ → Sheet
sheet_in sheet said image = record { said = take sheet.said.count said; image = take sheet.image.count image }

pub record SheetIn (said image : List ℕ) (sheet : SheetRead) : Type 0 where
  pub said-there : FilledTo length_size sheet.said
  pub image-there : FilledTo (size_said (take sheet.said.count said)) sheet.image
  pub image-fits : sheet.image.count ≤ length image

unfoldable pub has_failed : SheetRead → Bool
has_failed sheet = is_failure sheet.said.stop || is_failure sheet.image.stop

-- ---- what is said in a turn
abbrev pub is_printed : Told → Bool
is_printed Nothing = false
is_printed (Printed output) = true
is_printed Unread = false
is_printed Unwritten = false

-- the last is no image's line
abbrev pub is_last : Told → Bool
is_last Nothing = false
is_last (Printed (Image line)) = false
is_last (Printed (Total totals)) = true
is_last (Printed TooMany) = true
is_last Unread = true
is_last Unwritten = true

unfoldable pub told_of : Bool → Output → Told
told_of written output = cond written (Printed output) Unwritten

-- whether a line could be written is not for the program to say
pub record SaidAs (output : Output) (told : Told) : Type 0 where
  pub written : Bool
  pub is : told ≡ told_of written output

-- ---- a turn of its loop, after these lines: where a read failed it ends; else the step of exactly the bytes that were read is printed, and the loop
-- goes on where the step does and could be written
unfoldable pub turn_of : SheetRead → Sheet → Bool → List Line → Turn
turn_of read sheet written lines =
    let step : Step = step_of sheet.said sheet.image lines in
    cond (has_failed read) (record { totals = totals_of lines; told = Unread; more = false })
    (record { totals = step.totals; told = told_of written step.output; more = written && step.more })

pub record Turned (t : Totals) (sheet : SheetRead) (said image : List ℕ) (turn : Turn) : Type 0 where
  pub written : Bool
  pub is : After t (turn_of sheet (sheet_in sheet said image) written) turn
