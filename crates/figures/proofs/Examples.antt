-- Document 02's example, and drawers that are damaged in one place.
-- Assumes nothing.
use Prim.Native.Nat.{ℕ}
use mathlib.Core.Path.{◌≡◌, refl}
use mathlib.Core.List.{List, [], ◌∷◌, ◌++◌, map}
use lib.ListN.{replicate, take}
use Rattle.lists.specs.Lists.{sum}
use Rattle.rows.specs.Rows.{rows}
use Rattle.module_state.specs.Module.{provisioned, has_bit}
use Rattle.image.proofs.Examples.{computed as image-computed}
use Rattle.image_figures.specs.Figures.{largest, classes_below, classes_held, classes_granted, largest_next, figures_in, is_said, size_said, is_good, line_of}
use Rattle.std.specs.Prelude.{Some, None}
use Rattle.figures.specs.Drawer.{first_sheet, after_sheet, first_sheets, lines_of, good_ones, totals_of, is_past, printed_of}
use Rattle.figures.specs.Text.{digits_up_to, number_text, number_then, three_text, line_text, text_of}
use Rattle.figures.specs.declared.Output.{Output}
use Rattle.figures.specs.declared.Output.TheVariants.{Image, Total}

abbrev good : ℕ → ℕ → ℕ → Output
good rows classes largest = Image (Some (record { rows = rows; classes = classes; largest = largest }))

abbrev bad : Output
bad = Image None

abbrev total : ℕ → ℕ → ℕ → ℕ → Output
total images good rows classes = Total (record { images = images; good = good; rows = rows; classes = classes })

-- an image: its mask, n rows and their offset, words 15 and 16 and then zeros, the last byte of the last word, and what follows
abbrev laid : ℕ → ℕ → ℕ → ℕ → List ℕ → List ℕ
laid offset mask last n behind =
    (mask ∷ 0 ∷ 8 ∷ 0 ∷ 10 ∷ 0 ∷ n ∷ 0 ∷ offset ∷ 0 ∷ []) ++ ((15 ∷ 0 ∷ 0 ∷ 0 ∷ 16 ∷ 0 ∷ 0 ∷ 0 ∷ []) ++ (replicate 23 0 ++ (last ∷ behind)))

-- of the old layout
abbrev image : ℕ → ℕ → ℕ → List ℕ → List ℕ
image mask last n saved = laid 42 mask last n saved

abbrev plain : List ℕ
plain = image 3 0 0 []

-- the larger number in the first row
abbrev saved : List ℕ
saved = (1 ∷ 0 ∷ 0x2c ∷ 0x01 ∷ replicate 48 0x22) ++ (0 ∷ 0 ∷ 7 ∷ 0 ∷ replicate 48 0x11)

abbrev two : List ℕ
two = image 3 0 2 saved

-- of the new layout, with second words 15 and 255
abbrev anew : ℕ → List ℕ → List ℕ
anew n rows = laid 74 3 0 n ((15 ∷ 0 ∷ 0 ∷ 0 ∷ 255 ∷ 0 ∷ 0 ∷ 0 ∷ []) ++ (replicate 24 0 ++ rows))

pub record Drawers : Type 0 where
  -- "One good image with no rows and words 15 and 16 prints `0 5 0`, then `total 1 0 5`."
  pub one-image : printed_of (42 ∷ 0 ∷ plain) ≡ good 0 5 0 ∷ total 1 1 0 5 ∷ []
  pub in_bytes : map text_of (good 0 5 0 ∷ total 1 1 0 5 ∷ []) ≡ (48 ∷ 32 ∷ 53 ∷ 32 ∷ 48 ∷ 10 ∷ []) ∷ (116 ∷ 111 ∷ 116 ∷ 97 ∷ 108 ∷ 32 ∷ 49 ∷ 32 ∷ 48 ∷ 32 ∷ 53 ∷ 10 ∷ []) ∷ []
  pub nothing : printed_of [] ≡ total 0 0 0 0 ∷ []
  -- "largest next number"; class 31
  pub rows-of-two : printed_of (146 ∷ 0 ∷ two) ≡ good 2 5 300 ∷ total 1 1 2 5 ∷ []
  pub class-31 : printed_of (42 ∷ 0 ∷ image 131 128 0 []) ≡ good 0 6 0 ∷ total 1 1 0 6 ∷ []
  -- order 7: "order 6 sums the first ones". Both layouts in one drawer
  pub both-layouts : printed_of (42 ∷ 0 ∷ (plain ++ (74 ∷ 0 ∷ (anew 0 [] ++ (178 ∷ 0 ∷ (anew 2 saved ++ (146 ∷ 0 ∷ two))))))) ≡ good 0 5 0 ∷ good 0 5 0 ∷ good 2 5 300 ∷ good 2 5 300 ∷ total 4 4 4 20 ∷ []
  -- each with the other's length
  pub layouts-mixed : printed_of (74 ∷ 0 ∷ (laid 42 3 0 0 (replicate 32 0) ++ (42 ∷ 0 ∷ laid 74 3 0 0 []))) ≡ bad ∷ bad ∷ total 2 0 0 0 ∷ []
  -- a word of a credential that is not provisioned makes a bad image, and is not counted
  pub unprovisioned-word : printed_of (42 ∷ 0 ∷ image 3 128 0 []) ≡ bad ∷ total 1 0 0 0 ∷ []
  -- "A bad or cut-off image, or a lone last byte": alone, and after a good one; a length of 0 goes on, and so does one that no image has
  pub lone-byte : printed_of (42 ∷ []) ≡ bad ∷ total 1 0 0 0 ∷ []
  pub lone-later : printed_of (42 ∷ 0 ∷ (plain ++ (42 ∷ []))) ≡ good 0 5 0 ∷ bad ∷ total 2 1 0 5 ∷ []
  pub cut-off : printed_of (42 ∷ 0 ∷ take 41 plain) ≡ bad ∷ total 1 0 0 0 ∷ []
  pub cut-head : printed_of (42 ∷ 0 ∷ []) ≡ bad ∷ total 1 0 0 0 ∷ []
  pub length-0 : printed_of (0 ∷ 0 ∷ 42 ∷ 0 ∷ plain) ≡ bad ∷ good 0 5 0 ∷ total 2 1 0 5 ∷ []
  pub length-43 : printed_of (43 ∷ 0 ∷ (plain ++ (0 ∷ 42 ∷ 0 ∷ plain))) ≡ bad ∷ good 0 5 0 ∷ total 2 1 0 5 ∷ []
  -- after a cut-off image nothing comes: its length reaches over the image behind it
  pub cut-reaches : printed_of (0 ∷ 1 ∷ (take 41 plain ++ (42 ∷ 0 ∷ plain))) ≡ bad ∷ total 1 0 0 0 ∷ []

pub drawers : Drawers
unfolding text_of line_text three_text number_then number_text digits_up_to printed_of first_sheets first_sheet after_sheet lines_of good_ones totals_of is_past sum largest classes_below classes_held classes_granted largest_next figures_in is_said size_said is_good line_of provisioned has_bit image-computed
drawers =
    record {
      one-image = refl;
      in_bytes = refl;
      nothing = refl;
      rows-of-two = refl;
      class-31 = refl;
      both-layouts = refl;
      layouts-mixed = refl;
      unprovisioned-word = refl;
      lone-byte = refl;
      lone-later = refl;
      cut-off = refl;
      cut-head = refl;
      length-0 = refl;
      length-43 = refl;
      cut-reaches = refl;
    }
