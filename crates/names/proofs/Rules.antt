-- The laws that close the needs of this crate's functions by `search rules`: each premise is as a place's record has it.
-- Assumes nothing.
use Rattle.std.proofs.Common.{◌≡◌, ℕ, zero, suc, ◌+◌, ◌-◌, ◌*◌, ◌/◌, ◌%◌, ◌^◌, ◌<◌, ◌≤◌, true, false, ◌&&◌, eqb, List, [], ◌∷◌, ◌++◌, length, get_or, take, drop, set, sym, refl, ap, ◌∙◌, add-zero, mod-lt, div-lt_iff_lt-mul, arith, length-drop, drop_of_length-le, length-take, drop-cons, drop-drop, get_or-take, get_or-drop, rules as std_rules, w64, eq-eqb, ne_eqb, eqb-true}
use native.Mathlib.Nat.{add-mod-mod, mod-add-mod}
use borrow.Author.Tests.{eqb-false}
use lib.Arith.{digits_lt, mod-mul}
use lib.Bits.{bit_xor, bit_or, xor_self, xor_add_and, and_le_l, and_le_r}
use Rattle.rows.specs.Bytes.{Bytes, is_zero, bytes_of, number_of, number_at, width_of}
use Rattle.rows.proofs.Bytes.{number-taken, part-front}
use Rattle.rows.proofs.Rules.{made, said64}
use Rattle.std.specs.Int.{from_le_bytes}
use Rattle.rows.proofs.Loops.{or-zero, and_assoc, and-true}
use Rattle.lists.proofs.Tests.{split}
use Rattle.names.specs.declared.Name.{Name}
use Rattle.names.specs.Names.{name_length, same_bytes, same_name}
use Rattle.names.specs.Words.{stride, Word, turned, stirred, stirred_in, digest_of}
use Rattle.names.proofs.Laws.{same→eq, same_refl, same-append}

-- ---- a word: eight bytes from a place on
pub word-said : (bytes x : List ℕ) (at : ℕ) {r : ℕ} → length bytes ≡ name_length → Bytes bytes → at + stride ≤ name_length → r ≡ from_le_bytes w64 x → length x ≡ stride → ((i : ℕ) → i < stride → get_or x i 0 ≡ get_or bytes (at + i) 0) → Word bytes at r
unfolding width_of
word-said bytes x at {r} h f k e l s =
    let t : r ≡ number_at stride at bytes = said64 at stride bytes (take stride (drop at bytes)) x e l (λ i c. s i c ∙ sym (get_or-take stride (drop at bytes) i 0 c ∙ get_or-drop at bytes i 0)) refl in
    record { is = t; says = ap (bytes_of stride) t ∙ number-taken stride at bytes f (omega arith) }

-- ---- two names, word by word
xor_same : (x y : ℕ) → is_zero (bit_xor x y) ≡ eqb x y
xor_same x y =
    split (eqb x y)
    (λ e. let q : x ≡ y = eqb-true x y e in rw (e, q, xor_self y))
    (λ e. let n : x ≡ y → ⊥ = eqb-false x y e in rw e (ne_eqb (bit_xor x y) 0 (λ z. n (omega (arith, xor_add_and x y, and_le_l x y, and_le_r x y)))))

-- no bit differs in two words where the bytes that they say are the same
words_same : {x y : List ℕ} {at p q : ℕ} → Word x at p → Word y at q → is_zero (bit_xor p q) ≡ same_bytes (take stride (drop at x)) (take stride (drop at y))
unfolding number_at
words_same {x} {y} {at} {p} {q} v w =
    split (eqb p q)
    (λ e.
    let s : take stride (drop at x) ≡ take stride (drop at y) = sym v.says ∙ ap (bytes_of stride) (eqb-true p q e) ∙ w.says in
    rw (xor_same p q, e, s, same_refl (take stride (drop at y))))
    (λ e. rw (xor_same p q, e)
    (split (same_bytes (take stride (drop at x)) (take stride (drop at y)))
    (λ s. absurd (eqb-false p q e (v.is ∙ ap number_of (same→eq (take stride (drop at x)) (take stride (drop at y)) s) ∙ sym w.is)))
    (λ s. sym s)))

-- the bytes from a place on: a word, and the others
same-front : (x y : List ℕ) (at : ℕ) → at + stride ≤ length x → at + stride ≤ length y → same_bytes (drop at x) (drop at y) ≡ (same_bytes (take stride (drop at x)) (take stride (drop at y)) && same_bytes (drop (at + stride) x) (drop (at + stride) y))
same-front x y at h k =
    let a : length (take stride (drop at x)) ≡ length (take stride (drop at y)) = simp (length-take, length-drop) (omega arith) in
    ap (λ (l : List ℕ). same_bytes l (drop at y)) (sym (part-front stride at x))
    ∙ ap (same_bytes (take stride (drop at x) ++ drop (at + stride) x)) (sym (part-front stride at y))
    ∙ same-append (take stride (drop at x)) (drop (at + stride) x) (take stride (drop at y)) (drop (at + stride) y) a

-- the first i words compared: what is left
pub record Compared (x y : List ℕ) (d i : ℕ) : Type 0 where
  pub low : i ≤ 6
  pub first : length x ≡ name_length
  pub second : length y ≡ name_length
  pub rest : same_bytes x y ≡ (is_zero d && same_bytes (drop (i * stride) x) (drop (i * stride) y))

pub compared-none : (x y : List ℕ) → length x ≡ name_length → length y ≡ name_length → Compared x y 0 0
compared-none x y h k = record { low = omega arith; first = h; second = k; rest = refl }

pub compared-on : {x y : List ℕ} {d i p q : ℕ} → Compared x y d i → i < 6 → Word x (i * stride) p → Word y (i * stride) q → Compared x y (bit_or d (bit_xor p q)) (i + 1)
compared-on {x} {y} {d} {i} {p} {q} v h a b =
    let next : (i + 1) * stride ≡ i * stride + stride = omega arith in
    record {
      low = omega arith;
      first = v.first;
      second = v.second;
      rest =
          v.rest
          ∙ rw (next, same-front x y (i * stride) (omega (arith, v.first)) (omega (arith, v.second)), ← words_same a b, or-zero d (bit_xor p q))
          (sym (and_assoc (is_zero d) (is_zero (bit_xor p q)) (same_bytes (drop (i * stride + stride) x) (drop (i * stride + stride) y))));
    }

pub compared-all : {x y : List ℕ} {d i : ℕ} → Compared x y d i → 6 ≤ i → is_zero d ≡ same_bytes x y
unfolding same_bytes
compared-all {x} {y} {d} {i} v h =
    let m : length x ≤ i * stride = omega (arith, v.first) in
    let n : length y ≤ i * stride = omega (arith, v.second) in
    sym (v.rest ∙ rw (drop_of_length-le x m, drop_of_length-le y n) (and-true (is_zero d)))

-- both halves are none where the whole is
halves : (d : ℕ) → is_zero (bit_or (d / 4294967296) (d % 4294967296)) ≡ is_zero d
halves d =
    or-zero (d / 4294967296) (d % 4294967296)
    ∙ split (is_zero d)
    (λ e. let z : d ≡ 0 = eqb-true d 0 e in rw (e, eq-eqb (d / 4294967296) 0 (omega arith), eq-eqb (d % 4294967296) 0 (omega arith)))
    (λ e.
    let n : d ≡ 0 → ⊥ = eqb-false d 0 e in
    split (is_zero (d / 4294967296))
    (λ f. rw (e, f) (ne_eqb (d % 4294967296) 0 (λ z. n (omega (arith, eqb-true (d / 4294967296) 0 f)))))
    (λ f. rw (e, f)))

pub same-said : (a b : Name) (d : ℕ) → is_zero d ≡ same_bytes a.bytes b.bytes → eqb (bit_or (d / 4294967296) (d % 4294967296)) 0 ≡ same_name a b
unfolding same_name
same-said a b d e = halves d ∙ e

-- ---- the digest
pub round-fits : (d : ℕ) → d < 2 ^ 64 → d % 35184372088832 * 524288 + d / 35184372088832 < 2 ^ 64
round-fits d h =
    let k : d / 35184372088832 < 524288 = (div-lt_iff_lt-mul {k = 35184372088832} {x = d} {y = 524288} (omega arith)).1 h in
    digits_lt (mod-lt d (omega arith)) k

-- eight times a number, of which the highest three bits are left out before they would be lost
eight-times : (t : ℕ) → t % 2305843009213693952 * 8 ≡ t * 8 % 2 ^ 64
eight-times t =
    let a : t * 8 / 8 ≡ t = omega arith in
    let b : t * 8 % 8 ≡ 0 = omega arith in
    sym (mod-mul (t * 8) {m = 2305843009213693952} {c = 8} (omega arith) (omega arith) ∙ rw (a, b) (add-zero (t % 2305843009213693952 * 8)))

nine-times : (t w : ℕ) → ((t + t % 2305843009213693952 * 8) % 2 ^ 64 + w) % 2 ^ 64 ≡ (9 * t + w) % 2 ^ 64
nine-times t w =
    let n : t + t * 8 ≡ 9 * t = omega arith in
    rw (eight-times t, add-mod-mod t (t * 8) (2 ^ 64), mod-add-mod (t + t * 8) (2 ^ 64) w, n)

pub stirred-said : (d w n r : ℕ)
    → n ≡ (d % 35184372088832 * 524288 + d / 35184372088832 + (d % 35184372088832 * 524288 + d / 35184372088832) % 2305843009213693952 * 8) % 2 ^ 64
    → r ≡ (n + w) % 2 ^ 64
    → r ≡ stirred d w
unfolding stirred
stirred-said d w n r e f = f ∙ rw e (nine-times (turned d) w)

-- the first i words stirred in
pub record StirredTo (bytes : List ℕ) (d i : ℕ) : Type 0 where
  pub low : i ≤ 6
  pub rest : stirred_in 6 0 bytes ≡ stirred_in (6 - i) d (drop (i * stride) bytes)

pub stirred-none : (bytes : List ℕ) → StirredTo bytes 0 0
stirred-none bytes = record { low = omega arith; rest = refl }

pub stirred-on : {bytes : List ℕ} {d i p r : ℕ} → StirredTo bytes d i → i < 6 → Word bytes (i * stride) p → r ≡ stirred d p → StirredTo bytes r (i + 1)
unfolding stirred_in number_at
stirred-on {bytes} {d} {i} {p} {r} v h w e =
    let k : 6 - i ≡ suc (6 - (i + 1)) = omega arith in
    let next : (i + 1) * stride ≡ i * stride + stride = omega arith in
    record { low = omega arith; rest = v.rest ∙ rw (k, next, ← drop-drop stride (i * stride) bytes, e, w.is) }

pub stirred-all : (name : Name) {d i : ℕ} → StirredTo name.bytes d i → 6 ≤ i → d ≡ digest_of name
unfolding digest_of stirred_in
stirred-all name {d} {i} v h = let k : 6 - i ≡ 0 = omega arith in sym (v.rest ∙ rw k)

pub ruleset rules = (std_rules, made, word-said, compared-none, compared-on, compared-all, same-said, round-fits, stirred-said, stirred-none, stirred-on, stirred-all)
