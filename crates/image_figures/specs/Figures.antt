-- Document 02, order 6: "For each it prints a line with the row count, the sum over credentials of how many classes each grant word holds, and the
-- largest next number (0 if there are no rows)". The figures of an image, and the line that a length and the bytes after it get.
use Rattle.std.specs.Prelude.{ℕ, zero, suc, max, Bool, cond, ◌&&◌, List, [], ◌∷◌, map, eqb, length, Option, Some, None}
use Rattle.lists.specs.Lists.{select, sum}
use Rattle.rows.specs.Bytes.{number_of}
use Rattle.module_state.specs.declared.Class.{Class}
use Rattle.module_state.specs.Module.{has_bit}
use Rattle.module_state.specs.declared.Grants.{Grants}
use Rattle.image.specs.declared.SavedRow.{SavedRow}
use Rattle.image.specs.Image.{head_in, grants_in, saved_in, is_image}
use Rattle.image_figures.specs.declared.Figures.{Figures}

-- 0 where there are none
unfoldable pub largest : List ℕ → ℕ
largest [] = 0
largest (x ∷ l) = max x (largest l)

-- ---- "how many classes each grant word holds": a word has 32 bits, and "bit k grants class k"
abbrev pub class_count : ℕ
class_count = 32

-- the first n classes, the highest first
unfoldable pub classes_below : ℕ → List Class
classes_below zero = []
classes_below (suc n) = record { 0 = n } ∷ classes_below n

unfoldable pub classes_held : ℕ → ℕ
classes_held word = length (select (has_bit word) (classes_below class_count))

-- ---- the three figures. Order 7: "order 6 sums the first ones", and no second word is counted anywhere
unfoldable pub classes_granted : List Grants → ℕ
classes_granted l = sum (map (λ (g : Grants). classes_held g.words.grant) l)

unfoldable pub largest_next : List SavedRow → ℕ
largest_next l = largest (map (λ (r : SavedRow). r.next) l)

unfoldable pub figures_in : List ℕ → Figures
figures_in b = record { rows = (head_in b).rows; classes = classes_granted (grants_in b); largest = largest_next (saved_in b) }

-- ---- "images of order 2, each after its length in 2 bytes, little endian": of either, the bytes that are there
abbrev pub length_size : ℕ
length_size = 2

-- whether the whole length is there, and how many bytes it says
unfoldable pub is_said : List ℕ → Bool
is_said said = eqb (length said) length_size

unfoldable pub size_said : List ℕ → ℕ
size_said said = cond (is_said said) (number_of said) 0

-- "A bad or cut-off image, or a lone last byte, prints `bad`.": a line has the figures of a good image, and none of another
unfoldable pub is_good : List ℕ → List ℕ → Bool
is_good said image = is_said said && (eqb (length image) (size_said said) && is_image image)

abbrev pub Line : Type 0
Line = Option Figures

unfoldable pub line_of : List ℕ → List ℕ → Line
line_of said image = cond (is_good said image) (Some (figures_in image)) None
