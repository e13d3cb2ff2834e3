-- The laws that close the needs of this crate's functions by `search rules`: each premise is as a place's record has it.
-- Assumes nothing.
use Rattle.std.specs.Result.{result_ok}
use Prim.Native.Nat.{ℕ, suc, ◌+◌, ◌-◌, ◌<◌, ◌≤◌}
use mathlib.Core.Path.{◌≡◌, refl, sym, ap, ◌∙◌}
use mathlib.Core.Bool.{true, false, ◌&&◌}
use mathlib.Core.List.{List}
use native.Mathlib.Omega.{arith}
use borrow.Author.Rules.{rules as std_rules}
use borrow.Author.Tests.{le-leb, lt-leb}
use mir.Val.{Fits}
use mir.Syntax.{w64}
use lib.Dec.{leb, eqb}
use lib.ListN.{length, take, drop}
use Rattle.std.specs.Prelude.{Option, Some, None}
use Rattle.lists.proofs.Tests.{split}
use Rattle.rows.proofs.Bytes.{part-last}
use Rattle.message_formats.specs.declared.Shape.{Shape}
use Rattle.message_formats.specs.declared.Part.{Part}
use Rattle.message_formats.specs.declared.Rest.{Rest}
use Rattle.message_formats.specs.Formats.{rest_of}
use Rattle.message_fields.specs.Fields.{fields, are_allowed, head_long, values_of, fields_read}
use Rattle.message_fields.specs.declared.FieldsRead.{FieldsRead}
use Rattle.message_fields.proofs.Laws.{ok-fields, none-where, some-where, some_is, read-denied, read-allowed, read-long, read-values}
use Rattle.message_pieces.specs.Pieces.{rest_long, piece_long, is_piece, piece_in, first, second, behind, is_part, part_long, part_in, are_parts}
use Rattle.message_pieces.specs.declared.Piece.{Piece}
use Rattle.message_pieces.proofs.Laws.{piece-taken, piece-none, is-piece-long, is-part-long}

-- ---- a piece, by what its fields say
module _ (shape : Shape) (b : List ℕ) {r : Option Piece} where
  refused : is_piece shape b ≡ false → r ≡ None → r ≡ piece_in shape b
  refused h e = e ∙ sym (piece-none shape b h)

  too_long : length b < piece_long shape b → r ≡ None → r ≡ piece_in shape b
  unfolding is_piece
  too_long h = refused (rw (lt-leb (piece_long shape b) (length b) h))

module _ (shape : Shape) (b : List ℕ) {read : Option FieldsRead} (p : read ≡ result_ok (fields_read shape b)) where
  pub piece-denied : {r : Option Piece} → read ≡ None → r ≡ None → r ≡ piece_in shape b
  unfolding is_piece
  piece-denied n =
      let denied : are_allowed (fields shape) (values_of shape b) ≡ false = read-denied shape b p n in
      refused shape b (split (leb (piece_long shape b) (length b)) (λ s. rw (s, denied)) (λ s. rw s))

  module _ {x : FieldsRead} (q : read ≡ Some x) where
    head-is : x.long ≡ head_long shape
    head-is = read-long shape b p q

    pub piece-headless : {r : Option Piece} → (x.long ≤ length b → ⊥) → r ≡ None → r ≡ piece_in shape b
    unfolding piece_long
    piece-headless h = too_long shape b (omega (arith, head-is))

    module _ {rest : Rest} {follow room : ℕ} (o : rest ≡ rest_of shape) (f : follow ≡ rest_long rest x.values) (w : (x.long ≤ length b) × (room ≡ length b - x.long)) where
      long-is : x.long + follow ≡ piece_long shape b
      unfolding piece_long
      long-is = rw (head-is, f, o, read-values shape b p q)

      pub piece-short : room < follow → None ≡ piece_in shape b
      piece-short h = too_long shape b (omega (arith, long-is, w.0, w.1)) refl

      pub piece-found : follow ≤ room → ◌≡◌ {A = Option Piece} (Some (record { values = x.values; rest = x.long; long = x.long + follow })) (piece_in shape b)
      unfolding is_piece
      piece-found h =
          let within : piece_long shape b ≤ length b = omega (arith, long-is, w.0, w.1) in
          rw (long-is, read-values shape b p q, head-is)
          (sym (piece-taken shape b (rw (le-leb (piece_long shape b) (length b) within, read-allowed shape b p q))))

-- ---- what was answered of a piece
module _ (shape : Shape) (b : List ℕ) {found : Option Piece} (e : found ≡ piece_in shape b) where
  denied : found ≡ None → is_piece shape b ≡ false
  unfolding piece_in
  denied = none-where _ _ e

  module _ {x : Piece} (s : found ≡ Some x) where
    granted : is_piece shape b ≡ true
    unfolding piece_in
    granted = some-where _ _ e s

    long-said : x.long ≡ piece_long shape b
    unfolding piece_in
    long-said = ap (λ (p : Piece). p.long) (some_is _ _ e s)

-- ---- a part
module _ (part : Part) (b : List ℕ) {l : Shape} {front : Option Piece} (p : l ≡ first part) (q : front ≡ piece_in l b) where
  front-is : front ≡ piece_in (first part) b
  front-is = q ∙ rw p

  pub part-no-first : {r : Option ℕ} → front ≡ None → r ≡ None → r ≡ part_in part b
  unfolding part_in is_part
  part-no-first t e = e ∙ rw (denied (first part) b front-is t)

  module _ {x : Piece} (t : front ≡ Some x) where
    front-long : x.long ≡ piece_long (first part) b
    front-long = long-said (first part) b front-is t

    pub part-start : x.long ≤ length b
    part-start = omega (arith, front-long, is-piece-long (first part) b (granted (first part) b front-is t))

    module _ {m : Shape} {back : Option Piece} (o : m ≡ second part) (s : back ≡ piece_in m (take (length b - x.long) (drop x.long b))) where
      back-is : back ≡ piece_in (second part) (behind part b)
      unfolding behind
      back-is = s ∙ rw (o, part-last (length b - x.long) x.long b (omega (arith, part-start)), front-long)

      pub part-no-second : {r : Option ℕ} → back ≡ None → r ≡ None → r ≡ part_in part b
      unfolding part_in is_part
      part-no-second u e = e ∙ rw (granted (first part) b front-is t, denied (second part) (behind part b) back-is u)

      module _ {y : Piece} (u : back ≡ Some y) where
        part-both : is_part part b ≡ true
        unfolding is_part
        part-both = rw (granted (first part) b front-is t, granted (second part) (behind part b) back-is u)

        sum_is : x.long + y.long ≡ part_long part b
        unfolding part_long
        sum_is = rw (front-long, long-said (second part) (behind part b) back-is u)

        pub part-fits : Fits w64 (length b) → Fits w64 (x.long + y.long)
        part-fits w = omega (arith, sum_is, is-part-long part b part-both)

        pub part-found : ◌≡◌ {A = Option ℕ} (Some (x.long + y.long)) (part_in part b)
        unfolding part_in
        part-found = rw (part-both, sum_is)

-- ---- so many parts: as many as are still to come are what is left
pub record PartsLeft (part : Part) (count : ℕ) (b left : List ℕ) (done : ℕ) : Type 0 where
  pub is : are_parts part count b ≡ are_parts part (count - done) left

pub parts-begin : (part : Part) (count : ℕ) (b : List ℕ) → PartsLeft part count b b 0
parts-begin part count b = let none : count - 0 ≡ count = omega arith in record { is = rw none }

module _ (part : Part) (count : ℕ) (b left : List ℕ) (done : ℕ) (h : PartsLeft part count b left done) where
  pub parts_all : count ≤ done → eqb (length left) 0 ≡ are_parts part count b
  unfolding are_parts
  parts_all z = let none : count - done ≡ 0 = omega arith in sym (h.is ∙ rw none)

  module _ (k : done < count) {found : Option ℕ} (e : found ≡ part_in part left) where
    step : are_parts part (count - done) left ≡ (is_part part left && are_parts part (count - (done + 1)) (drop (part_long part left) left))
    unfolding are_parts
    step = let one : count - done ≡ suc (count - (done + 1)) = omega arith in ap (λ n. are_parts part n left) one

    pub parts-no : found ≡ None → false ≡ are_parts part count b
    unfolding part_in
    parts-no n = let none : is_part part left ≡ false = none-where _ _ e n in sym (h.is ∙ step ∙ rw none)

    module _ {long : ℕ} (s : found ≡ Some long) where
      stands : is_part part left ≡ true
      unfolding part_in
      stands = some-where _ _ e s

      long-part : long ≡ part_long part left
      unfolding part_in
      long-part = some_is _ _ e s

      pub parts-within : long ≤ length left
      parts-within = omega (arith, long-part, is-part-long part left stands)

      pub parts-on : PartsLeft part count b (take (length left - long) (drop long left)) (done + 1)
      parts-on = record { is = h.is ∙ step ∙ rw (stands, ← long-part, part-last (length left - long) long left (omega (arith, parts-within))) }

pub ruleset rules = (ok-fields, std_rules, piece-denied, piece-headless, piece-short, piece-found, part-no-first, part-start, part-no-second, part-fits, part-found, parts-begin, parts_all, parts-no, parts-within, parts-on)
