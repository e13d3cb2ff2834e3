-- What callers cite: `same` is equality of all 48 bytes, and a row that is read is the row that was written.
-- Assumes nothing.
use Rattle.std.specs.Prelude.{Option, Some, is_some, unwrap_or}
use Rattle.std.proofs.Common.{◌≡◌, ℕ, zero, suc, ◌+◌, ◌<◌, ◌≤◌, true, false, ◌&&◌, eqb, leb, ◌↔◌, List, [], ◌∷◌, ◌++◌, length, get_or, take, drop, sym, refl, ap, ◌∙◌, arith, length-drop, take_all, eq-eqb, ne_eqb, eqb-true, le-leb, leb-true}
use Rattle.rows.specs.Bytes.{Bytes, bytes_of, number_at}
use Rattle.rows.proofs.Bytes.{number_in, number-forth, number-low}
use Rattle.rows.proofs.Loops.{and_assoc}
use Rattle.rows.proofs.Rows.{Codec}
use Rattle.lists.proofs.Tests.{split, clash, and_left, and_right}
use Rattle.names.specs.declared.Kind.{Kind}
use Rattle.names.specs.declared.Kind.TheVariants.{User, Elevation, Saved}
use Rattle.names.specs.declared.Name.{Name}
use Rattle.names.specs.declared.Row.{Row}
use Rattle.names.specs.declared.RowType.{RowType}
use Rattle.names.specs.declared.RowType.TheVariants.{ActiveUser, ActiveElevation, SavedUser}
use Rattle.names.specs.Names.{name_length, same_bytes, same_name, read_name, name_in, user_type, elevation_type, last_type, type_number, type_numbered, type_of, kind_of, kind_number, kind_numbered, row_credential_at, row_credential_size, row_type_at, row_length, row_bytes, row_in, is_row, row_from, read_row}

-- ---- names
pub same→eq : (a b : List ℕ) → same_bytes a b ≡ true → a ≡ b
unfolding same_bytes
same→eq [] [] e = refl
same→eq [] (y ∷ ys) e = clash e refl
same→eq (x ∷ xs) [] e = clash e refl
same→eq (x ∷ xs) (y ∷ ys) e =
    let p : x ≡ y = eqb-true x y (and_left (eqb x y) (same_bytes xs ys) e) in
    let q : xs ≡ ys = same→eq xs ys (and_right (eqb x y) (same_bytes xs ys) e) in
    cc

pub same_refl : (a : List ℕ) → same_bytes a a ≡ true
unfolding same_bytes
same_refl [] = refl
same_refl (x ∷ xs) = rw (eq-eqb x x refl, same_refl xs)

-- bytes in two parts
pub same-append : (x y u w : List ℕ) → length x ≡ length u → same_bytes (x ++ y) (u ++ w) ≡ (same_bytes x u && same_bytes y w)
unfolding same_bytes
same-append [] y [] w h = refl
same-append [] y (b ∷ u) w h = absurd (omega arith)
same-append (a ∷ x) y [] w h = absurd (omega arith)
same-append (a ∷ x) y (b ∷ u) w h = rw (same-append x y u w (omega arith)) (sym (and_assoc (eqb a b) (same_bytes x u) (same_bytes y w)))

-- the test is true exactly where all the bytes are equal
pub same-iff : (a b : Name) → (same_name a b ≡ true) ↔ (a.bytes ≡ b.bytes)
unfolding same_name
same-iff a b = (same→eq a.bytes b.bytes, λ e. rw e (same_refl b.bytes))

-- and false exactly where they are not
pub differ-iff : (a b : Name) → (same_name a b ≡ false) ↔ (a.bytes ≡ b.bytes → ⊥)
differ-iff a b =
    (λ e q. clash ((same-iff a b).1 q) e, λ n. split (same_name a b) (λ e. absurd (n ((same-iff a b).0 e))) (λ e. e))

abbrev name_of : List ℕ → Name
name_of b = record { bytes = b }

-- so the names themselves are equal
pub same→name : (a b : Name) → same_name a b ≡ true → a ≡ b
same→name a b e = let q : a.bytes ≡ b.bytes = (same-iff a b).0 e in ap name_of q

pub name→same : (a b : Name) → a ≡ b → same_name a b ≡ true
name→same a b e = (same-iff a b).1 (ap (λ (n : Name). n.bytes) e)

-- ---- reading and writing a name, by the length of the slice
pub name-read : (part : List ℕ) → length part ≡ name_length → read_name part ≡ Some (record { bytes = part })
unfolding read_name
name-read part h = rw (eq-eqb (length part) name_length h)

-- the name in the last bytes of a row
pub name-last : (row : List ℕ) (at : ℕ) → length row ≡ at + name_length → read_name (take name_length (drop at row)) ≡ Some (record { bytes = drop at row })
name-last row at h =
    let l : length (drop at row) ≡ name_length = rw length-drop (omega arith) in
    rw (take_all name_length (drop at row) (omega arith), name-read (drop at row) l)

pub name-in : (part : List ℕ) (name : Name) → length part ≡ name_length → name_in part name ≡ name.bytes
unfolding name_in
name-in part name h = rw (eq-eqb (length part) name_length h)

pub name-not-in : (part : List ℕ) (name : Name) → (length part ≡ name_length → ⊥) → name_in part name ≡ part
unfolding name_in
name-not-in part name h = rw (ne_eqb (length part) name_length h)

-- ---- rows
pub type-back : (k : RowType) → type_numbered (type_number k) ≡ k
type-back ActiveUser = refl
type-back ActiveElevation = refl
type-back SavedUser = refl

pub type-forth : (n : ℕ) → n ≤ last_type → type_number (type_numbered n) ≡ n
type-forth zero h = refl
type-forth (suc zero) h = refl
type-forth (suc (suc n)) h = omega arith

type-low : (k : RowType) → type_number k ≤ last_type
type-low ActiveUser = omega arith
type-low ActiveElevation = omega arith
type-low SavedUser = omega arith

-- the number of a process's type, and back
pub kind-back : (k : Kind) → kind_numbered (kind_number k) ≡ k
kind-back User = refl
kind-back Elevation = refl
kind-back Saved = refl

pub kind-forth : (n : ℕ) → n ≤ last_type → kind_number (kind_numbered n) ≡ n
kind-forth zero h = refl
kind-forth (suc zero) h = refl
kind-forth (suc (suc n)) h = omega arith

pub kind-low : (k : Kind) → kind_number k ≤ last_type
kind-low k = type-low (type_of k)

pub type-saved : (n : ℕ) → (n ≡ user_type → ⊥) → (n ≡ elevation_type → ⊥) → SavedUser ≡ type_numbered n
type-saved zero a b = absurd (a refl)
type-saved (suc zero) a b = absurd (b refl)
type-saved (suc (suc n)) a b = refl

pub kind-saved : (n : ℕ) → (n ≡ user_type → ⊥) → (n ≡ elevation_type → ⊥) → Saved ≡ kind_numbered n
kind-saved n a b = ap kind_of (type-saved n a b)

-- what a row's fields hold: a credential of two bytes, a name of 48
pub record RowFits (row : Row) : Type 0 where
  pub credential : row.credential.0 < 65536
  pub name : length row.name.bytes ≡ name_length

pub length-row : (row : Row) → length row.name.bytes ≡ name_length → length (row_bytes row) ≡ row_length
unfolding bytes_of
length-row row h = omega arith

-- what was written is read
pub row_back : (row : Row) → RowFits row → read_row (row_bytes row) ≡ Some row
unfolding is_row read_row bytes_of
row_back row v =
    let c : number_at row_credential_size row_credential_at (row_bytes row) ≡ row.credential.0 = number_in row_credential_size row.credential.0 [] (type_number row.kind ∷ row.name.bytes) v.credential in
    rw (eq-eqb (length (row_bytes row)) row_length (length-row row v.name), le-leb (type_number row.kind) last_type (type-low row.kind), type-back row.kind, c)

-- it is a row
row_is : (row : Row) → RowFits row → is_row (row_bytes row) ≡ true
unfolding read_row
row_is row v =
    split (is_row (row_bytes row)) (λ e. e) (λ e. clash (ap is_some (row_back row v)) (rw e))

-- what is a row is 51 bytes long, and its type is at most 2
pub record RowShaped (part : List ℕ) : Type 0 where
  pub long : length part ≡ row_length
  pub typed : get_or part row_type_at 0 ≤ last_type

pub row-shaped : (part : List ℕ) → is_row part ≡ true → RowShaped part
unfolding is_row
row-shaped part e =
    record {
      long = eqb-true (length part) row_length (and_left (eqb (length part) row_length) (leb (get_or part row_type_at 0) last_type) e);
      typed = leb-true (get_or part row_type_at 0) last_type (and_right (eqb (length part) row_length) (leb (get_or part row_type_at 0) last_type) e);
    }

-- and so it is read
pub row_read : (part : List ℕ) → is_row part ≡ true → read_row part ≡ Some (row_from part)
unfolding read_row
row_read part e = rw e

-- what is read writes to the bytes that were read: each row has one form
pub row-forth : (part : List ℕ) → Bytes part → is_row part ≡ true → row_bytes (row_from part) ≡ part
unfolding number_at
row-forth part b e = by part b (row-shaped part e).long (row-shaped part e).typed
  where
    by : (part : List ℕ) → Bytes part → length part ≡ row_length → get_or part row_type_at 0 ≤ last_type → row_bytes (row_from part) ≡ part
    by [] b h k = absurd (omega arith)
    by (x ∷ []) b h k = absurd (omega arith)
    by (x ∷ y ∷ []) b h k = absurd (omega arith)
    by (x ∷ y ∷ z ∷ rest) b h k = rw (number-forth (x ∷ y ∷ []) two, type-forth z k)
      where
        two : Bytes (x ∷ y ∷ [])
        two zero = b 0
        two (suc zero) = b 1
        two (suc (suc i)) = omega arith

-- rows, one after another
pub row-codec : Codec row_length row_bytes row_from is_row RowFits RowFits
row-codec =
    record {
      wide = λ row v. v;
      long = λ row v. length-row row v.name;
      only = λ row v e. v;
      back = λ row v. ap (λ (r : Option Row). unwrap_or r row) (sym (row_read (row_bytes row) (row_is row v)) ∙ row_back row v);
      fits = row_is;
      forth = λ part h b e. row-forth part b e;
      good = λ part h b e. record { credential = number-low row_credential_size row_credential_at part b; name = simp length-drop (omega arith) };
    }

pub row-in : (part : List ℕ) (row : Row) → length part ≡ row_length → row_in part row ≡ row_bytes row
unfolding row_in
row-in part row h = rw (eq-eqb (length part) row_length h)

pub row-not-in : (part : List ℕ) (row : Row) → (length part ≡ row_length → ⊥) → row_in part row ≡ part
unfolding row_in
row-not-in part row h = rw (ne_eqb (length part) row_length h)
