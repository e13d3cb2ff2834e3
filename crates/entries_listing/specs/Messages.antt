-- The entries that read the listing's messages: what they answer, and what they hand out.
use Rattle.std.specs.Prelude.{ℕ, ◌≡◌, cond, List, eqb, length}
use Rattle.names.specs.Names.{type_number, name_length}
use Rattle.module_state.specs.Numbers as No
use Rattle.module_state.specs.Numbers.{◌unless◌, ◌▸◌}
use Rattle.listing_messages.specs.Wire.{read_row_at}

-- a value handed out through a parameter: where the number is another than 0, the parameter stays as it was
pub record Given (number value before answer after : ℕ) : Type 0 where
  pub number_is : answer ≡ number
  pub value-is : after ≡ cond (eqb number No.done) value before

-- the row at a place. "for the row, 14 comes before 1"; a name's slice of another length than 48 is 1
unfoldable pub row_entry_number : List ℕ → ℕ → List ℕ → ℕ
row_entry_number message at name =
    (read_row_at message at).number
    ▸ No.argument unless eqb (length name) name_length

pub record RowEntry (message : List ℕ) (at credential kind : ℕ) (name : List ℕ) (answer credential₁ kind₁ : ℕ) (name₁ : List ℕ) : Type 0 where
  pub number_is : answer ≡ row_entry_number message at name
  pub credential-is : credential₁ ≡ cond (eqb (row_entry_number message at name) No.done) (read_row_at message at).row.credential.0 credential
  pub kind-is : kind₁ ≡ cond (eqb (row_entry_number message at name) No.done) (type_number (read_row_at message at).row.kind) kind
  pub name-is : name₁ ≡ cond (eqb (row_entry_number message at name) No.done) (read_row_at message at).row.name.bytes name
