-- Document 02, order 6: what a line is in bytes, with its end. "with single spaces"; "prints `bad`"; "The last line is `total` with .."; "it prints `too many`".
use Rattle.std.specs.Prelude.{ℕ, zero, suc, ◌/◌, ◌%◌, ◌≡◌, cond, List, [], ◌∷◌, ◌++◌, ltb, take}
use Rattle.io.specs.Counts.{IsPrefixLen}
use Rattle.io.specs.Digits.{hex_digit_ascii}
use Rattle.image_figures.specs.Figures.{Line}
use Rattle.std.specs.Prelude.{Some, None}
use Rattle.figures.specs.declared.Output.{Output}
use Rattle.figures.specs.declared.Output.TheVariants.{Image, Total, TooMany}
use Rattle.figures.specs.declared.Text.{Text}

-- ---- a number: the digits of its tenth, and then its last; one of 64 bits has at most 20
unfoldable pub digits_up_to : ℕ → ℕ → List ℕ
digits_up_to zero n = []
digits_up_to (suc most) n = cond (ltb n 10) (hex_digit_ascii n ∷ []) (digits_up_to most (n / 10) ++ (hex_digit_ascii (n % 10) ∷ []))

abbrev pub most_digits : ℕ
most_digits = 20

unfoldable pub number_text : ℕ → List ℕ
number_text n = digits_up_to most_digits n

-- a number, and what comes after it
unfoldable pub number_then : ℕ → List ℕ → List ℕ
number_then n end = number_text n ++ end

-- ---- "with single spaces"
abbrev pub space : List ℕ
space = 32 ∷ []

abbrev pub line_end : List ℕ
line_end = 10 ∷ []

unfoldable pub three_text : ℕ → ℕ → ℕ → List ℕ
three_text one two three = number_then one space ++ (number_then two space ++ number_then three line_end)

unfoldable pub line_text : Line → List ℕ
line_text None = 98 ∷ 97 ∷ 100 ∷ line_end
line_text (Some figures) = three_text figures.rows figures.classes figures.largest

abbrev pub total_word : List ℕ
total_word = 116 ∷ 111 ∷ 116 ∷ 97 ∷ 108 ∷ space

unfoldable pub text_of : Output → List ℕ
text_of (Image line) = line_text line
text_of (Total totals) = total_word ++ three_text totals.good totals.rows totals.classes
text_of TooMany = 116 ∷ 111 ∷ 111 ∷ 32 ∷ 109 ∷ 97 ∷ 110 ∷ 121 ∷ line_end

-- ---- a text that is being made: it holds bytes as far as it has room, and so it does after more are added
abbrev pub text_size : ℕ
text_size = 80

unfoldable pub content_of : Text → List ℕ
content_of text = take text.length text.bytes

pub record Holds (bytes : List ℕ) (text : Text) : Type 0 where
  pub counts : IsPrefixLen text.length text.bytes
  pub is : content_of text ≡ take text_size bytes

pub record Added (text : Text) (bytes : List ℕ) (after : Text) : Type 0 where
  pub holds : Holds (content_of text ++ bytes) after

-- a whole line
pub record Spells (bytes : List ℕ) (text : Text) : Type 0 where
  pub counts : IsPrefixLen text.length text.bytes
  pub is : content_of text ≡ bytes
