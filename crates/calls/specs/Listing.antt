-- The listing: which rows, and the message that holds them ("Listing messages on the wire")
use Rattle.std.specs.Prelude.{ℕ, ◌+◌, ◌*◌, List, ◌∷◌, ◌++◌, map, length}
use Rattle.lists.specs.Lists.{select, join}
use Rattle.rows.specs.Bytes.{bytes_of}
use Rattle.names.specs.Names.{type_of, row_length, row_bytes}
use Rattle.names.specs.declared.Row.{Row}
use Rattle.table.specs.Table.{standing, is_among}
use Rattle.table.specs.declared.Among.{Among}
use Rattle.table.specs.declared.Among.TheVariants.{All, Of}
use Rattle.table.specs.declared.Process.{Process}
use Rattle.module_state.specs.declared.State.{State}
use Rattle.calls.specs.declared.Wanted.{Wanted}
use Rattle.calls.specs.declared.Wanted.TheVariants.{Every, Only}

-- "every process of the wanted credential, or all for 65535"
abbrev pub among_of : Wanted → Among
among_of Every = All
among_of (Only c) = Of c

abbrev pub row_of : Process → Row
row_of p = record { credential = p.credential; kind = type_of p.kind; name = p.name }

-- "in table order"; "none is an empty list"
unfoldable pub rows_of : State → Wanted → List Row
rows_of st wanted = map row_of (select (is_among (among_of wanted)) (standing st.table))

-- AUTH_PROCESSES: 004 Table 17
abbrev pub auth_processes : ℕ
auth_processes = 0x0e

-- "code, reserved, count in 2 bytes": where the number lies, and how long these are. `src/lib.rt` has these names for the code
abbrev pub head_number_at : ℕ
head_number_at = 2

abbrev pub head_number_size : ℕ
head_number_size = 2

abbrev pub head_length : ℕ
head_length = head_number_at + head_number_size

-- "The message has 4 + 51 × count bytes"
unfoldable pub message_length : ℕ → ℕ
message_length count = head_length + row_length * count

-- "code, reserved, count in 2 bytes, then rows of 51 bytes"
unfoldable pub listing : List Row → List ℕ
listing rows = auth_processes ∷ 0 ∷ (bytes_of head_number_size (length rows) ++ join (map row_bytes rows))
