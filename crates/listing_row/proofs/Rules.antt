-- The laws that close the needs of this crate's functions by `search rules`: each premise is as a place's record has it.
-- Assumes nothing.
use Prim.Native.Nat.{ℕ, ◌<◌, ◌≤◌}
use mathlib.Core.Path.{◌≡◌, sym, ◌∙◌}
use mathlib.Core.Bool.{Bool, true, false}
use mathlib.Core.List.{List, [], ◌∷◌, ◌++◌, append_assoc}
use native.Mathlib.Omega.{arith}
use borrow.Author.Rules.{rules as std_rules}
use lib.Dec.{eqb, leb}
use borrow.Author.Tests.{eq-eqb, ne_eqb}
use borrow.Rule.Slice.PartMut.{put_mid, same_len_mid}
use lib.ListN.{length, get_or, set, take, drop, length-set, length-take, length-drop}
use lib.Seq.{take_all}
use Rattle.rows.specs.Bytes.{bytes_of, number_at}
use Rattle.rows.specs.Rows.{over, Put}
use Rattle.rows.proofs.Bytes.{length-bytes}
use Rattle.rows.proofs.Over.{over-part, put_byte, put-length, put_next, put_whole}
use Rattle.std.specs.Prelude.{Option, Some, None}
use Rattle.names.specs.declared.Name.{Name}
use Rattle.names.specs.declared.Row.{Row}
use Rattle.names.specs.declared.RowType.{RowType}
use Rattle.names.specs.Names.{name_length, read_name, name_in, type_number, type_numbered, last_type, row_credential_at, row_credential_size, row_type_at, row_name_at, row_length, row_in, is_row, read_row}
use Rattle.names.proofs.Laws.{name-read, name-in, RowShaped, row-shaped, row_read, row-in, row-not-in}

some-none : {A : Type 0} {x : A} → Some x ≡ None → ⊥
some-none e = cc

some-same : {A : Type 0} {x y : A} → Some x ≡ Some y → x ≡ y
some-same e = cc

-- ---- rows
module _ (part : List ℕ) where
  pub row-long : length part ≡ row_length → leb (get_or part row_type_at 0) last_type ≡ is_row part
  unfolding is_row
  row-long h = rw (eq-eqb (length part) row_length h)

  pub row-short : (length part ≡ row_length → ⊥) → eqb (length part) row_length ≡ is_row part
  unfolding is_row
  row-short h = rw (ne_eqb (length part) row_length h)

  module _ {b : Bool} (e : b ≡ is_row part) where
    pub row-none : b ≡ false → None ≡ read_row part
    unfolding read_row
    row-none t = rw (sym e ∙ t)

    module _ (t : b ≡ true) where
      shaped : RowShaped part
      shaped = row-shaped part (sym e ∙ t)

      pub row-reach : {k : ℕ} → k ≤ row_length → k ≤ length part
      row-reach h = omega (arith, shaped.long)

      -- its last bytes are a name's
      module _ {read : Option Name} (a : read ≡ read_name (take name_length (drop row_name_at part))) where
        named : read ≡ Some (record { bytes = drop row_name_at part })
        named =
            let l : length (drop row_name_at part) ≡ name_length = rw length-drop (omega (arith, shaped.long)) in
            a ∙ rw (take_all name_length (drop row_name_at part) (omega arith)) (name-read (drop row_name_at part) l)

        pub row-named : {r : Option Row} → read ≡ None → r ≡ read_row part
        row-named z = absurd (some-none (sym named ∙ z))

        pub row-got : {name : Name} {n : ℕ} {kind : RowType}
            → read ≡ Some name → n ≡ number_at row_credential_size row_credential_at part → kind ≡ type_numbered (get_or part row_type_at 0)
            → ◌≡◌ {A = Option Row} (Some (record { credential = record { 0 = n }; kind = kind; name = name })) (read_row part)
        row-got {name} s c d =
            let q : name ≡ record { bytes = drop row_name_at part } = some-same (sym s ∙ named) in
            rw (q, c, d) (sym (row_read part (sym e ∙ t)))

-- the fields of a row, written one after another
module _ (part : List ℕ) (row : Row) {a : List ℕ} (h : length part ≡ row_length) (p : a ≡ over row_credential_at row_credential_size (bytes_of row_credential_size row.credential.0) part) where
  credential-put : Put row_credential_at row_credential_size (bytes_of row_credential_size row.credential.0) part a
  credential-put = record { long = length-bytes row_credential_size row.credential.0; is = p }

  long : length a ≡ row_length
  long = put-length credential-put ∙ h

  pub row_inside : (k : ℕ) → k < row_length → k < length a
  row_inside k l = omega (arith, long)

  pub row-end : (i x : ℕ) → row_length ≤ length (set a i x)
  row-end i x = simp length-set (omega (arith, long))

  pub row_same : (ys : List ℕ) (i x : ℕ) → length ys ≡ length (take name_length (drop row_name_at (set a i x))) → length (put_mid row_name_at name_length (set a i x) ys) ≡ length part
  row_same ys i x g = same_len_mid row_name_at name_length (set a i x) ys g ∙ length-set a i x ∙ put-length credential-put

  pub row_put : {c : ℕ} {ys : List ℕ} → c ≡ type_number row.kind → ys ≡ name_in (take name_length (drop row_name_at (set a row_type_at c))) row.name → length ys ≡ length (take name_length (drop row_name_at (set a row_type_at c)))
      → put_mid row_name_at name_length (set a row_type_at c) ys ≡ row_in part row
  row_put {c} {ys} r e g =
      let set_long : length (set a row_type_at c) ≡ row_length = length-set a row_type_at c ∙ long in
      let behind : length (take name_length (drop row_name_at (set a row_type_at c))) ≡ name_length = simp (length-take, length-drop) (omega arith) in
      let type_put : Put row_type_at 1 (c ∷ []) a (set a row_type_at c) = put_byte row_type_at c a (omega (arith, long)) in
      let name-put : Put row_name_at name_length ys (set a row_type_at c) (put_mid row_name_at name_length (set a row_type_at c) ys) = record { long = g ∙ behind; is = over-part row_name_at name_length ys (set a row_type_at c) (omega arith) } in
      let all : put_mid row_name_at name_length (set a row_type_at c) ys ≡ (bytes_of row_credential_size row.credential.0 ++ (c ∷ [])) ++ ys =
      put_whole (put_next (put_next credential-put type_put (omega arith)) name-put (omega arith)) h
      in
      all ∙ rw (e, name-in (take name_length (drop row_name_at (set a row_type_at c))) row.name behind, r, append_assoc) (sym (row-in part row h))

pub row_stays : (part : List ℕ) (row : Row) → (length part ≡ row_length → ⊥) → part ≡ row_in part row
row_stays part row h = sym (row-not-in part row h)

pub ruleset rules = (std_rules, row-long, row-short, row-reach, row_inside, row-end, row_same, row_put, row_stays)
