-- The laws that close the needs of this crate's functions by `search rules`: each premise is as a place's record has it.
-- Assumes nothing.
use Prim.Native.Nat.{ℕ, suc, ◌+◌, ◌-◌, ◌*◌, ◌<◌, ◌≤◌}
use mathlib.Core.Path.{◌≡◌, refl, sym, ap, ◌∙◌}
use mathlib.Core.Bool.{Bool, true, false, cond, true≢false, ◌&&◌, ◌||◌}
use mathlib.Core.List.{List, [], ◌∷◌, ◌++◌, map, append-nil}
use native.Mathlib.Omega.{arith}
use mir.Syntax.{w64}
use mir.Val.{Fits}
use borrow.Author.Rules.{rules as std_rules}
use borrow.Author.Tests.{eqb-false, eq-eqb, ne_eqb}
use lib.Dec.{eqb}
use lib.ListN.{length, take, drop, length-append, length-map}
use Rattle.std.specs.Prelude.{Result, Ok, Err}
use Rattle.std.specs.declared.io.Error.{Error}
use Rattle.lists.specs.Lists.{sum}
use Rattle.lists.proofs.Tests.{split, and_right}
use Rattle.io.proofs.Counting.{length-take_of_le}
use Rattle.rows.proofs.Rows.{map-append}
use Rattle.table.specs.Table.{places}
use Rattle.module_state.specs.Module.{credential_count}
use Rattle.image_figures.specs.Figures.{class_count, line_of, size_said}
use Rattle.image_figures.specs.declared.Figures.{Figures}
use Rattle.image_figures.specs.Figures.{Line}
use Rattle.std.specs.Prelude.{Some, None}
use Rattle.image_figures.proofs.Laws.{Small, SmallLine, line_small}
use Rattle.figures.specs.Drawer.{Sheet, lines_of, good_ones, totals_of, totals_with, most_images, step_of, After, OfSheets, OfSheet}
use Rattle.figures.specs.Drawer.{stop_of, is_failure, FilledTo, Buffers, sheet_in, SheetIn, has_failed, is_printed, is_last, told_of, SaidAs, turn_of, Turned}
use Rattle.figures.proofs.Texts.{spelled, text-put, text-none, number-added, three-added, line-bad, line-good, text-image, text-total, text-past}
use Rattle.figures.specs.declared.Totals.{Totals}
use Rattle.figures.specs.declared.Turn.{Turn}
use Rattle.figures.specs.declared.Step.{Step}
use Rattle.figures.specs.declared.Output.{Output}
use Rattle.figures.specs.declared.Output.TheVariants.{Image, Total, TooMany}
use Rattle.figures.specs.declared.Stop.{Stop}
use Rattle.figures.specs.declared.Stop.TheVariants.{Full, Ended, Failed}
use Rattle.figures.specs.declared.Filled.{Filled}
use Rattle.figures.specs.declared.SheetRead.{SheetRead}
use Rattle.figures.specs.declared.Told.{Told}
use Rattle.figures.specs.declared.Told.TheVariants.{Printed, Unread, Unwritten}

-- ---- the totals with one line more
sum_more : {A : Type 0} (g : A → ℕ) (l : List A) (x : A) → sum (map g (l ++ (x ∷ []))) ≡ sum (map g l) + g x
unfolding sum
sum_more g [] x = omega arith
sum_more g (y ∷ l) x = rw (sum_more g l x) (omega arith)

good-append : (a b : List Line) → good_ones (a ++ b) ≡ good_ones a ++ good_ones b
unfolding good_ones
good-append [] b = refl
good-append (None ∷ a) b = good-append a b
good-append (Some f ∷ a) b = ap (λ (l : List Figures). f ∷ l) (good-append a b)

totals-bad : (l : List Line) → ◌≡◌ {A = Totals} (record { images = (totals_of l).images + 1; good = (totals_of l).good; rows = (totals_of l).rows; classes = (totals_of l).classes }) (totals_of (l ++ (None ∷ [])))
unfolding totals_of good_ones
totals-bad l =
    let e : good_ones (l ++ (None ∷ [])) ≡ good_ones l = good-append l (None ∷ []) ∙ append-nil (good_ones l) in
    rw (length-append l (None ∷ []), e)

totals-good : (l : List Line) (f : Figures) → ◌≡◌ {A = Totals} (record { images = (totals_of l).images + 1; good = (totals_of l).good + 1; rows = (totals_of l).rows + f.rows; classes = (totals_of l).classes + f.classes }) (totals_of (l ++ (Some f ∷ [])))
unfolding totals_of good_ones
totals-good l f =
    let e : good_ones (l ++ (Some f ∷ [])) ≡ good_ones l ++ (f ∷ []) = good-append l (Some f ∷ []) in
    rw (length-append l (Some f ∷ []), e, length-append (good_ones l) (f ∷ []), sum_more (λ (f : Figures). f.rows) (good_ones l) f, sum_more (λ (f : Figures). f.classes) (good_ones l) f)

images-of : (l : List Line) → (totals_of l).images ≡ length l
unfolding totals_of
images-of l = refl

-- ---- how large they are
pub record Bounded (t : Totals) : Type 0 where
  pub good : t.good ≤ t.images
  pub rows : t.rows ≤ t.images * places
  pub classes : t.classes ≤ t.images * (credential_count * class_count)

bounded-more : (x : Line) (l : List Line) → SmallLine x → Bounded (totals_of l) → Bounded (totals_of (x ∷ l))
unfolding totals_of good_ones sum
bounded-more None l s v = record { good = omega (arith, v.good); rows = omega (arith, v.rows); classes = omega (arith, v.classes) }
bounded-more (Some f) l s v = record { good = omega (arith, v.good); rows = omega (arith, s.rows_few, v.rows); classes = omega (arith, s.classes-few, v.classes) }

bounded : (l : List Sheet) → Bounded (totals_of (lines_of l))
unfolding lines_of totals_of good_ones sum
bounded [] = record { good = omega arith; rows = omega arith; classes = omega arith }
bounded (p ∷ l) = bounded-more (line_of p.said p.image) (lines_of l) (line_small p.said p.image) (bounded l)

module _ {t : Totals} (v : OfSheets t) where
  bounds : Bounded t
  bounds = rw v.are (bounded v.read)

  images-are : length v.read ≡ t.images
  unfolding totals_of lines_of
  images-are = sym (ap (λ (u : Totals). u.images) v.are ∙ length-map v.read (λ (p : Sheet). line_of p.said p.image))

  images-few : t.images ≤ most_images
  images-few = omega (arith, images-are, v.few)

  module _ (few : t.images < most_images) where
    pub good-fits : Fits w64 (t.good + 1)
    good-fits = omega (arith, bounds.good)

    module _ {x : Line} (is : OfSheet x) {f : Figures} (e : x ≡ Some f) where
      small : Small f
      small = rw (sym is.is ∙ e) at (line_small is.sheet.said is.sheet.image)

      pub rows_fit : Fits w64 (t.rows + f.rows)
      rows_fit = omega (arith, bounds.rows, small.rows_few)

      pub classes-fit : Fits w64 (t.classes + f.classes)
      classes-fit = omega (arith, bounds.classes, small.classes-few)

-- ---- the two steps
module _ (t : Totals) {x : Line} where
  pub counted-bad : x ≡ None → After t (totals_with x) (record { images = t.images + 1; good = t.good; rows = t.rows; classes = t.classes })
  unfolding totals_with
  counted-bad e = record { is = λ l h. rw (h, e) (totals-bad l) }

  pub counted-good : {f : Figures} → x ≡ Some f → After t (totals_with x) (record { images = t.images + 1; good = t.good + 1; rows = t.rows + f.rows; classes = t.classes + f.classes })
  unfolding totals_with
  counted-good {f} e = record { is = λ l h. rw (h, e) (totals-good l f) }

pub step-few : {t : Totals} → OfSheets t → (t.images ≡ most_images → ⊥) → t.images < most_images
step-few v k = omega (arith, k, images-few v)

module _ (t : Totals) (said image : List ℕ) where
  lines-so-far : (l : List Line) → t ≡ totals_of l → t.images ≡ length l
  lines-so-far l h = ap (λ (u : Totals). u.images) h ∙ images-of l

  pub step-total : length said ≡ 0 → After t (step_of said image) (record { totals = t; output = Total t; more = false })
  unfolding step_of
  step-total e = record { is = λ l h. rw (h, e) }

  module _ (n : length said ≡ 0 → ⊥) where
    pub step_past : t.images ≡ most_images → After t (step_of said image) (record { totals = t; output = TooMany; more = false })
    unfolding step_of
    step_past e = record { is = λ l h. rw (h, ne_eqb (length said) 0 n, eq-eqb (length l) most_images (sym (lines-so-far l h) ∙ e)) }

    module _ (k : t.images ≡ most_images → ⊥) where
      pub step_line : {x : Line} {u : Totals} → x ≡ line_of said image → After t (totals_with x) u → After t (step_of said image) (record { totals = u; output = Image x; more = true })
      unfolding step_of
      step_line e c = record { is = λ l h. rw (ne_eqb (length said) 0 n, ne_eqb (length l) most_images (λ q. k (lines-so-far l h ∙ q)), c.is l h, e) }

-- ---- why a part is filled no further
pub stop-ended : {got : Result ℕ Error} {n : ℕ} → got ≡ Ok n → Ended ≡ stop_of got
unfolding stop_of
stop-ended e = rw e

pub stop-failed : {got : Result ℕ Error} {error : Error} → got ≡ Err error → Failed error ≡ stop_of got
unfolding stop_of
stop-failed e = rw e

never-full : (got : Result ℕ Error) → stop_of got ≡ Full → ⊥
unfolding stop_of
never-full (Ok n) e = cc
never-full (Err error) e = cc

-- ---- a part that is being filled keeps its length
pub record Filling (old new : List ℕ) (count : ℕ) : Type 0 where
  pub long : length new ≡ length old
  pub few : count ≤ length new

pub filling-begin : (old : List ℕ) → Filling old old 0
filling-begin old = record { long = refl; few = omega arith }

pub filled-short : {old new : List ℕ} {count : ℕ} {stop : Stop} (after : List ℕ) (got : Result ℕ Error) → Filling old new count → length after ≡ length new → stop ≡ stop_of got
    → FilledTo (length after) (record { count = count; stop = stop })
filled-short after got v same e = record { few = omega (arith, same, v.few); whole = λ f. absurd (never-full got (sym e ∙ f)) }

pub filled-whole : {old new : List ℕ} {count : ℕ} → Filling old new count → length new ≤ count → FilledTo (length new) (record { count = count; stop = Full })
filled-whole v h = record { few = v.few; whole = λ f. omega (arith, v.few) }

-- ---- a sheet in its buffers
pub buffers-kept : {said₀ image₀ : List ℕ} (said image : List ℕ) → Buffers said₀ image₀ → length said ≡ length said₀ → length image ≡ length image₀ → Buffers said image
buffers-kept said image v a b = record { for-length = a ∙ v.for-length; for-image = omega (arith, b, v.for-image) }

pub size-long : {size : ℕ} (said image : List ℕ) → Buffers said image → size < 65536 → size ≡ length (take size image)
size-long {size} said image v h = length-take_of_le size image (omega (arith, v.for-image))

pub sheet-read : {head rest : Filled} {size : ℕ} {said₀ image₀ said : List ℕ} (part : List ℕ) → Buffers said₀ image₀ → length said ≡ length said₀ → FilledTo (length said) head
    → size ≡ size_said (take head.count said) → size < 65536 → length part ≡ length (take size image₀) → FilledTo (length part) rest
    → SheetIn said (part ++ drop size image₀) (record { said = head; image = rest })
sheet-read {size = size} {said₀ = said₀} {image₀ = image₀} part v a p e h b q =
    let long = b ∙ sym (size-long said₀ image₀ v h) in
    record {
      said-there = rw (a ∙ v.for-length) at p;
      image-there = rw (long ∙ e) at q;
      image-fits = rw length-append (omega (arith, q.few));
    }

pub said-long : {said image : List ℕ} {read : SheetRead} → Buffers said image → SheetIn said image read → read.said.count ≡ length (take read.said.count said)
said-long {said} {read = read} v p = length-take_of_le read.said.count said (omega (arith, p.said-there.few, v.for-length))

pub failed-either : (read : SheetRead) {head rest : Bool} → head ≡ is_failure read.said.stop → rest ≡ is_failure read.image.stop → (head || rest) ≡ has_failed read
unfolding has_failed
failed-either read e f = rw (e, f)

-- ---- a turn
pub tells-nothing : {output : Output} → SaidAs output Unwritten
unfolding told_of
tells-nothing = record { written = false; is = refl }

pub tells-it : {output : Output} → SaidAs output (Printed output)
unfolding told_of
tells-it = record { written = true; is = refl }

is-written : (written : Bool) (output : Output) → is_printed (told_of written output) ≡ written
unfolding told_of
is-written true output = refl
is-written false output = refl

pub of-sheet : {x : Line} (said image : List ℕ) → x ≡ line_of said image → OfSheet x
of-sheet said image e = record { sheet = record { said = said; image = image }; is = e }

sheets-more : (l : List Sheet) (p : Sheet) → length l < most_images → OfSheets (totals_with (line_of p.said p.image) (lines_of l))
unfolding lines_of totals_with
sheets-more l p few =
    record {
      read = l ++ (p ∷ []);
      few = rw (length-append l (p ∷ [])) (omega arith);
      are = ap totals_of (sym (map-append (λ (p : Sheet). line_of p.said p.image) l (p ∷ [])));
    }

step-sheets : {t : Totals} (said image : List ℕ) (v : OfSheets t) → OfSheets (step_of said image (lines_of v.read)).totals
unfolding step_of
step-sheets said image v =
    let lines : List Line = lines_of v.read in
    let so_far : length v.read ≡ length lines = images-are v ∙ ap (λ (u : Totals). u.images) v.are ∙ images-of lines in
    split (eqb (length said) 0)
    (λ z. rw (z, ← v.are) v)
    (λ z.
    split (eqb (length lines) most_images)
    (λ q. rw (z, q, ← v.are) v)
    (λ q. let n = eqb-false (length lines) most_images q in rw (z, q) (sheets-more v.read (record { said = said; image = image }) (omega (arith, n, so_far, v.few)))))

-- of the three ends of a step the last alone goes on
step-counted : (said image : List ℕ) (l : List Line) → (step_of said image l).more ≡ true → (step_of said image l).totals ≡ totals_with (line_of said image) l
unfolding step_of
step-counted said image l m =
    split (eqb (length said) 0)
    (λ z. absurd (true≢false (sym (rw z at m))))
    (λ z.
    split (eqb (length l) most_images)
    (λ q. absurd (true≢false (sym (rw (z, q) at m))))
    (λ q. rw (z, q)))

-- and the others say what is last
step-last : (said image : List ℕ) (l : List Line) → (step_of said image l).more ≡ false → is_last (Printed (step_of said image l).output) ≡ true
unfolding step_of
step-last said image l m =
    split (eqb (length said) 0)
    (λ z. rw z)
    (λ z.
    split (eqb (length l) most_images)
    (λ q. rw (z, q))
    (λ q. absurd (true≢false (rw (z, q) at m))))

told-last : (written : Bool) (step : Step) → (step.more ≡ false → is_last (Printed step.output) ≡ true) → (written && step.more) ≡ false → is_last (told_of written step.output) ≡ true
unfolding told_of
told-last true step h m = h m
told-last false step h m = refl

module _ {t : Totals} (read : SheetRead) (said image : List ℕ) {failed : Bool} (e : failed ≡ has_failed read) where
  pub turned-unread : failed ≡ true → Turned t read said image (record { totals = t; told = Unread; more = false })
  unfolding turn_of
  turned-unread f = record { written = false; is = record { is = λ l h. rw (← e, f, h) } }

  pub turned-read : failed ≡ false → {step : Step} → After t (step_of (take read.said.count said) (take read.image.count image)) step
      → {told : Told} → SaidAs step.output told → {printed : Bool} → printed ≡ is_printed told
      → Turned t read said image (record { totals = step.totals; told = told; more = printed && step.more })
  unfolding turn_of sheet_in
  turned-read f a o p = record { written = o.written; is = record { is = λ l h. rw (← e, f, p, o.is, is-written o.written _, a.is l h) } }

-- where no turn comes after, what was said is last
pub record Last (told : Told) (more : Bool) : Type 0 where
  pub is : more ≡ false → is_last told ≡ true

-- what a turn leaves: the totals of some sheets; where it goes on, one image more, and where not, what is said last
module _ {t : Totals} {read : SheetRead} {said image : List ℕ} {turn : Turn} (v : OfSheets t) (s : Turned t read said image turn) where
  abbrev lines : List Line
  lines = lines_of v.read

  abbrev taken : Sheet
  taken = sheet_in read said image

  turn_is : turn ≡ turn_of read taken s.written lines
  turn_is = s.is.is lines v.are

  pub turned-sheets : OfSheets turn.totals
  unfolding turn_of
  turned-sheets =
      rw turn_is (split (has_failed read)
      (λ f. rw (f, ← v.are) v)
      (λ f. rw f (step-sheets taken.said taken.image v)))

  one-more : turn.more ≡ true → turn.totals ≡ totals_with (line_of taken.said taken.image) lines
  unfolding turn_of
  one-more m =
      let more : (turn_of read taken s.written lines).more ≡ true = sym (ap (λ (x : Turn). x.more) turn_is) ∙ m in
      rw turn_is (split (has_failed read)
      (λ f. absurd (true≢false (sym (rw f at more))))
      (λ f. rw f (step-counted taken.said taken.image lines (and_right s.written _ (rw f at more)))))

  one-image : turn.more ≡ true → turn.totals.images ≡ t.images + 1
  unfolding totals_with
  one-image m =
      let line : Line = line_of taken.said taken.image in
      ap (λ (u : Totals). u.images) (one-more m) ∙ images-of (lines ++ (line ∷ [])) ∙ length-append lines (line ∷ []) ∙ ap (λ (n : ℕ). n + 1) (sym (ap (λ (u : Totals). u.images) v.are ∙ images-of lines))

  pub turned-last : Last turn.told turn.more
  unfolding turn_of
  turned-last =
      rw turn_is (split (has_failed read)
      (λ f. rw f (record { is = λ m. refl }))
      (λ f. rw f (record { is = λ m. told-last s.written (step_of taken.said taken.image lines) (step-last taken.said taken.image lines) m })))

-- ---- the loop
pub record Reporting (said₀ image₀ said image : List ℕ) (t : Totals) (told : Told) (more : Bool) : Type 0 where
  pub said-long : length said ≡ length said₀
  pub image-long : length image ≡ length image₀
  pub buffers : Buffers said image
  pub of-sheets : OfSheets t
  pub last : Last told more

pub no_lines : record { images = 0; good = 0; rows = 0; classes = 0 } ≡ totals_of []
unfolding totals_of good_ones sum
no_lines = refl

no-sheets : OfSheets (totals_of [])
unfolding lines_of
no-sheets = record { read = []; few = omega arith; are = refl }

pub report-begin : {said image : List ℕ} {t : Totals} → Buffers said image → t ≡ totals_of [] → {told : Told} → Reporting said image said image t told true
report-begin v e = record { said-long = refl; image-long = refl; buffers = v; of-sheets = rw e no-sheets; last = record { is = λ m. absurd (true≢false m) } }

pub last-said : {told : Told} {more : Bool} → Last told more → more ≡ false → is_last told ≡ true
last-said v m = v.is m

abbrev pub turns_left : Totals → Bool → ℕ
turns_left t more = cond more (suc (most_images - t.images)) 0

pub turns-less : {t : Totals} {read : SheetRead} {said image : List ℕ} {turn : Turn} {more : Bool} → more ≡ true → OfSheets t → Turned t read said image turn → turns_left turn.totals turn.more < turns_left t more
turns-less {turn = turn} m v s =
    rw m (split turn.more
    (λ e. rw e (omega (arith, one-image v s e, images-few (turned-sheets v s))))
    (λ e. rw e (omega arith)))

pub ruleset rules = (std_rules, good-fits, rows_fit, classes-fit, counted-bad, counted-good, step-total, step_past, step-few, step_line, filling-begin, length-take_of_le, stop-failed, stop-ended, filled-short, filled-whole, buffers-kept, size-long, sheet-read, said-long, failed-either, of-sheet, spelled, text-put, text-none, number-added, three-added, line-bad, line-good, text-image, text-total, text-past, tells-nothing, tells-it, turned-unread, turned-read, turned-sheets, turned-last, no_lines, report-begin, last-said, turns-less)
