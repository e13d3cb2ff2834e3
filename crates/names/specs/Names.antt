-- Names and rows: what their functions answer.
use Rattle.std.specs.Prelude.{ℕ, zero, suc, ◌+◌, Bool, true, false, cond, ◌&&◌, List, [], ◌∷◌, ◌++◌, length, drop, replicate, ◌==◌, nat_le, slice_index, Option, Some, None}
use Rattle.rows.specs.Bytes.{bytes_of, number_at}
use Rattle.names.specs.declared.Kind.{Kind}
use Rattle.names.specs.declared.Kind.TheVariants.{User, Elevation, Saved}
use Rattle.names.specs.declared.Name.{Name}
use Rattle.names.specs.declared.Row.{Row}
use Rattle.names.specs.declared.RowType.{RowType}
use Rattle.names.specs.declared.RowType.TheVariants.{ActiveUser, ActiveElevation, SavedUser}

-- ---- names: "Two names are equal when all 48 bytes are."
abbrev pub name_length : ℕ
name_length = 48

-- each byte equals its partner, and neither list goes on alone
unfoldable pub same_bytes : List ℕ → List ℕ → Bool
same_bytes [] [] = true
same_bytes [] (y ∷ ys) = false
same_bytes (x ∷ xs) [] = false
same_bytes (x ∷ xs) (y ∷ ys) = x == y && same_bytes xs ys

unfoldable pub same_name : Name → Name → Bool
same_name a b = same_bytes a.bytes b.bytes

-- 48 zero bytes: the name of a free place, and of what could not be read
abbrev pub zero_name : Name
zero_name = record { bytes = replicate name_length 0 }

-- a slice read as a name: of 48 bytes, these
unfoldable pub read_name : List ℕ → Option Name
read_name part = cond (length part == name_length) (Some (record { bytes = part })) None

-- a part after a name was written into it
unfoldable pub name_in : List ℕ → Name → List ℕ
name_in part name = cond (length part == name_length) name.bytes part

-- ---- types: "0 active user, 1 active elevation, 2 saved user; 004 Table 46". `src/lib.rt` has these numbers for the code
abbrev pub user_type : ℕ
user_type = 0

abbrev pub elevation_type : ℕ
elevation_type = 1

abbrev pub saved_type : ℕ
saved_type = 2

-- a number over this is no type's
abbrev pub last_type : ℕ
last_type = saved_type

abbrev pub type_number : RowType → ℕ
type_number ActiveUser = user_type
type_number ActiveElevation = elevation_type
type_number SavedUser = saved_type

-- and back; who reads a number that is no type's refuses it before
abbrev pub type_numbered : ℕ → RowType
type_numbered zero = ActiveUser
type_numbered (suc zero) = ActiveElevation
type_numbered (suc (suc n)) = SavedUser

-- the type of a process, by what it is, and back
abbrev pub type_of : Kind → RowType
type_of User = ActiveUser
type_of Elevation = ActiveElevation
type_of Saved = SavedUser

abbrev pub kind_of : RowType → Kind
kind_of ActiveUser = User
kind_of ActiveElevation = Elevation
kind_of SavedUser = Saved

-- so a process has the number of its type, wherever it is written
abbrev pub kind_number : Kind → ℕ
kind_number kind = type_number (type_of kind)

abbrev pub kind_numbered : ℕ → Kind
kind_numbered number = kind_of (type_numbered number)

-- ---- rows: "rows of 51 bytes: credential 2, type 1, name 48"; "Two-byte numbers are little endian." Each field begins where the one before it ends
abbrev pub row_credential_at : ℕ
row_credential_at = 0

abbrev pub row_credential_size : ℕ
row_credential_size = 2

abbrev pub row_type_at : ℕ
row_type_at = row_credential_at + row_credential_size

abbrev pub row_name_at : ℕ
row_name_at = row_type_at + 1

abbrev pub row_length : ℕ
row_length = row_name_at + name_length

abbrev pub row_bytes : Row → List ℕ
row_bytes row = bytes_of row_credential_size row.credential.0 ++ (type_number row.kind ∷ row.name.bytes)

-- a part after a row was written into it
unfoldable pub row_in : List ℕ → Row → List ℕ
row_in part row = cond (length part == row_length) (row_bytes row) part

-- "refuses .. a type over 2"
unfoldable pub is_row : List ℕ → Bool
is_row part = length part == row_length && nat_le (slice_index part row_type_at) last_type

abbrev pub row_from : List ℕ → Row
row_from part =
    record {
      credential = record { 0 = number_at row_credential_size row_credential_at part };
      kind = type_numbered (slice_index part row_type_at);
      name = record { bytes = drop row_name_at part };
    }

-- the row of what could not be read
abbrev pub zero_row : Row
zero_row = record { credential = record { 0 = 0 }; kind = ActiveUser; name = zero_name }

unfoldable pub read_row : List ℕ → Option Row
read_row part = cond (is_row part) (Some (row_from part)) None
