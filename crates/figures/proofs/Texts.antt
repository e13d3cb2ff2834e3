-- The laws of the texts: what a text holds after bytes are put after it, a number's digits, and that each line has room.
-- Assumes nothing.
use Prim.Native.Nat.{ℕ, zero, suc, ◌+◌, ◌-◌, ◌/◌, ◌%◌, ◌^◌, ◌<◌, ◌≤◌}
use mathlib.Core.Path.{◌≡◌, refl, sym, ap, ◌∙◌}
use mathlib.Core.List.{List, [], ◌∷◌, ◌++◌, append-nil, append_assoc}
use native.Mathlib.Nat.{pow-suc, one-le-pow, pow-le-pow_right}
use native.Mathlib.Numerals.{add-one}
use native.Mathlib.Omega.{arith}
use mir.Syntax.{w64}
use mir.Val.{Fits}
use borrow.Author.Tests.{lt-ltb, le-ltb, ltb-true, ltb-false}
use lib.Dec.{ltb}
use lib.ListN.{length, take, drop, length-append}
use lib.Seq.{take_all, take_at, length-take-le, take-append-add}
use borrow.Rule.Slice.PartMut.{put_mid}
use Rattle.std.specs.Prelude.{min}
use Rattle.rows.specs.Rows.{over}
use Rattle.rows.proofs.Over.{over-part, over-room, over-length}
use Rattle.lists.proofs.Tests.{split, below}
use Rattle.io.specs.Counts.{IsPrefixLen}
use Rattle.io.specs.Digits.{hex_digit_ascii, last_digits, IsDigitCount}
use Rattle.io.proofs.Counting.{prefix_len_of_le}
use Rattle.image_figures.specs.declared.Figures.{Figures}
use Rattle.image_figures.specs.Figures.{Line}
use Rattle.std.specs.Prelude.{Some, None}
use Rattle.figures.specs.Text.{digits_up_to, most_digits, number_text, space, line_end, three_text, line_text, total_word, text_of, text_size, content_of, Holds, Added, Spells, number_then}
use Rattle.figures.specs.declared.Totals.{Totals}
use Rattle.figures.specs.declared.Output.{Output}
use Rattle.figures.specs.declared.Output.TheVariants.{Image, Total, TooMany}
use Rattle.figures.specs.declared.Text.{Text}

-- ---- a number's digits are those that the kit writes, at most 20
digits_are : (most k n : ℕ) → k ≤ most → IsDigitCount 10 1 n k → digits_up_to most n ≡ last_digits 10 k n
unfolding digits_up_to
digits_are most zero n h f = absurd (omega (arith, f.0))
digits_are zero (suc k) n h f = absurd (omega arith)
digits_are (suc most) (suc zero) n h f =
    let few : n < 10 = f.1 in
    let rest : n % 10 ≡ n = omega arith in
    rw (rest, lt-ltb n 10 few)
digits_are (suc most) (suc (suc k)) n h f =
    let before : suc (suc k) - 1 ≡ suc k = omega arith in
    let tenth-before : suc k - 1 ≡ k = omega arith in
    let low : 10 ^ suc k ≤ n = rw before at (f.2 (omega arith)) in
    let high : n < 10 ^ suc (suc k) = f.1 in
    let one : 1 ≤ 10 ^ k = one-le-pow k 10 (omega arith) in
    let many : 10 ≤ n = omega (arith, pow-suc 10 k) in
    let last : 10 ^ k ≤ n / 10 = omega (arith, pow-suc 10 k) in
    let next : n / 10 < 10 ^ suc k = omega (arith, pow-suc 10 (suc k)) in
    rw (le-ltb n 10 many, digits_are most (suc k) (n / 10) (omega arith) (omega arith, next, λ g. rw tenth-before last))

digits-enough : {n k : ℕ} → Fits w64 n → IsDigitCount 10 1 n k → k ≤ most_digits
digits-enough {n} {k} h f =
    split (ltb most_digits k)
    (λ e.
    let more = ltb-true most_digits k e in
    let longer : most_digits ≤ k - 1 = omega arith in
    let some : 0 < 10 = omega arith in
    let tall : 10 ^ most_digits ≤ 10 ^ (k - 1) = pow-le-pow_right some longer in
    let low : 10 ^ (k - 1) ≤ n = f.2 (omega arith) in
    absurd (omega (arith, tall, low, h)))
    (λ e. ltb-false most_digits k e)

digits-few : (most n : ℕ) → length (digits_up_to most n) ≤ most
unfolding digits_up_to
digits-few zero n = omega arith
digits-few (suc most) n =
    split (ltb n 10)
    (λ e. rw e (omega arith))
    (λ e. rw (e, length-append (digits_up_to most (n / 10)) (hex_digit_ascii (n % 10) ∷ [])) (omega (arith, digits-few most (n / 10))))

number-few : (n : ℕ) → length (number_text n) ≤ most_digits
unfolding number_text
number-few n = digits-few most_digits n

-- ---- every line has room
three-few : (one two three : ℕ) → length (three_text one two three) ≤ 63
unfolding three_text number_then
three-few one two three = simp length-append (omega (arith, number-few one, number-few two, number-few three))

text-few : (output : Output) → length (text_of output) ≤ text_size
unfolding text_of line_text
text-few (Image None) = omega arith
text-few (Image (Some f)) = omega (arith, three-few f.rows f.classes f.largest)
text-few (Total t) = omega (arith, three-few t.good t.rows t.classes)
text-few TooMany = omega arith

pub spelled : {text : Text} (output : Output) → Holds (text_of output) text → Spells (text_of output) text
spelled output v = record { counts = v.counts; is = v.is ∙ take_all text_size (text_of output) (text-few output) }

-- ---- bytes put after a text: the first i of a part are
pub record Texting (old : List ℕ) (had : ℕ) (part bytes : List ℕ) (count i : ℕ) : Type 0 where
  pub room : length bytes ≡ text_size
  pub few : count ≤ text_size
  pub low : i ≤ length part
  pub long : count ≡ length (take had old) + i
  pub is : take count bytes ≡ take had old ++ take i part

module _ (text : Text) {part bytes : List ℕ} {count i : ℕ} (v : Texting text.bytes text.length part bytes count i) where
  counts-now : IsPrefixLen count bytes
  counts-now = prefix_len_of_le count bytes (omega (arith, v.room, v.few))

  abbrev had : List ℕ
  had = take text.length text.bytes

  text-all : length part ≤ i → Added text part (record { bytes = bytes; length = count })
  unfolding content_of
  text-all h =
      let room : length (had ++ part) ≤ text_size = rw length-append (omega (arith, v.long, v.few)) in
      record { holds = record { counts = counts-now; is = v.is ∙ rw (take_all i part h) (sym (take_all text_size (had ++ part) room)) } }

  text-full : text_size ≤ count → Added text part (record { bytes = bytes; length = count })
  unfolding content_of
  text-full h =
      let whole : length had + i ≡ text_size = omega (arith, v.long, v.few) in
      record { holds = record { counts = counts-now; is = v.is ∙ sym (rw whole at (take-append-add had part i)) } }

-- as many of a part as there is room for
pub text-put : (text : Text) (part : List ℕ) {n : ℕ} {x : List ℕ} → IsPrefixLen text.length text.bytes → length text.bytes ≡ text_size → n ≡ min (length part) (text_size - text.length) → x ≡ take n part
    → Added text part (record { bytes = put_mid text.length (text.length + n - text.length) text.bytes x; length = text.length + n })
text-put text part {n} {x} c r e q =
    let front : List ℕ = take text.length text.bytes in
    let rest : List ℕ = drop (text.length + n) text.bytes in
    let many : text.length + n - text.length ≡ n = omega arith in
    let long : length x ≡ n = rw q (length-take-le n part (omega (arith, e))) in
    let room : text.length + n ≤ length text.bytes = omega (arith, e, c.0, r) in
    let is_over : put_mid text.length n text.bytes x ≡ over text.length n x text.bytes = over-part text.length n x text.bytes room in
    let put : put_mid text.length n text.bytes x ≡ (front ++ x) ++ rest = is_over ∙ over-room text.length n x text.bytes room ∙ sym (append_assoc front x rest) in
    let both : length (front ++ x) ≡ text.length + n = rw length-append (omega (arith, long, c.1)) in
    let v : Texting text.bytes text.length part (put_mid text.length n text.bytes x) (text.length + n) n = record {
      room = ap length is_over ∙ over-length text.length n x text.bytes long ∙ r;
      few = omega (arith, room, r);
      low = omega (arith, e);
      long = omega (arith, c.1);
      is = ap (take (text.length + n)) put ∙ take_at (front ++ x) rest (text.length + n) both ∙ rw q;
    }
    in
    rw many (below n (length part)
    (λ k. text-full text v (omega (arith, e, k, c.0, r)))
    (λ k. text-all text v k))

-- ---- texts one after another
pub text-none : (bytes : List ℕ) → Holds [] (record { bytes = bytes; length = 0 })
unfolding content_of
text-none bytes = record { counts = (omega arith, refl); is = refl }

cut-more : (n : ℕ) (a b : List ℕ) → take n (take n a ++ b) ≡ take n (a ++ b)
cut-more zero a b = refl
cut-more (suc n) [] b = refl
cut-more (suc n) (x ∷ a) b = ap (λ (l : List ℕ). x ∷ l) (cut-more n a b)

on : {q r : Text} {a : List ℕ} (b : List ℕ) → Holds a q → Added q b r → Holds (a ++ b) r
on {a = a} b v w = record { counts = w.holds.counts; is = w.holds.is ∙ rw v.is (cut-more text_size a b) }

added-on : {text q r : Text} {a b : List ℕ} → Added text a q → Added q b r → Added text (a ++ b) r
added-on {text = text} {a = a} {b = b} v w = record { holds = rw (← append_assoc (content_of text) a b) (on b v.holds w) }

pub number-added : {text q r : Text} {n count : ℕ} (out : List ℕ) {end : List ℕ} → Fits w64 n → IsDigitCount 10 1 n count → take count out ≡ last_digits 10 count n
    → Added text (take count out) q → Added q end r → Added text (number_then n end) r
unfolding number_then number_text
number-added {n = n} {count = count} out h f e v w = rw (digits_are most_digits count n (digits-enough h f) f ∙ sym e) (added-on v w)

pub three-added : {text first second third : Text} (one two three : ℕ) → Added text (number_then one space) first → Added first (number_then two space) second → Added second (number_then three line_end) third
    → Added text (three_text one two three) third
unfolding three_text
three-added one two three u v w = added-on u (added-on v w)

pub line-bad : {line : Line} {q r : Text} → line ≡ None → Holds [] q → Added q (98 ∷ 97 ∷ 100 ∷ line_end) r → Holds (line_text line) r
unfolding line_text
line-bad e v w = rw e (on _ v w)

pub line-good : {line : Line} {f : Figures} {q r : Text} → line ≡ Some f → Holds [] q → Added q (three_text f.rows f.classes f.largest) r → Holds (line_text line) r
unfolding line_text
line-good e v w = rw e (on _ v w)

pub text-image : {output : Output} {line : Line} {r : Text} → output ≡ Image line → Holds (line_text line) r → Holds (text_of output) r
unfolding text_of
text-image e v = rw e v

pub text-total : {output : Output} {t : Totals} {p q r : Text} → output ≡ Total t → Holds [] p → Added p total_word q → Added q (three_text t.good t.rows t.classes) r → Holds (text_of output) r
unfolding text_of
text-total e u v w = rw e (on _ u (added-on v w))

pub text-past : {output : Output} {q r : Text} → output ≡ TooMany → Holds [] q → Added q (116 ∷ 111 ∷ 111 ∷ 32 ∷ 109 ∷ 97 ∷ 110 ∷ 121 ∷ line_end) r → Holds (text_of output) r
unfolding text_of
text-past e v w = rw e (on _ v w)
