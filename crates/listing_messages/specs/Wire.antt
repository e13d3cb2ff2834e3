-- "Listing messages on the wire": what the readers and the writers answer, and what the list call leaves in the lent buffer
use Rattle.std.specs.Prelude.{ℕ, ◌+◌, ◌*◌, Bool, cond, ◌&&◌, List, ◌∷◌, ◌++◌, map, eqb, ltb, length, get_or, take, drop, Result, Ok, Err}
use Rattle.lists.specs.Lists.{select, join}
use Rattle.rows.specs.Bytes.{bytes_of, number_at}
use Rattle.rows.specs.Rows.{rows, every, over}
use Rattle.names.specs.Names.{row_length, row_bytes, is_row, zero_row}
use Rattle.names.specs.Names as Names
use Rattle.names.specs.declared.Row.{Row}
use Rattle.names.specs.declared.Session.{Session}
use Rattle.table.specs.Table.{is_among}
use Rattle.table.specs.declared.Process.{Process}
use Rattle.module_state.specs.Numbers as No
use Rattle.module_state.specs.Numbers.{◌when◌, ◌unless◌, ◌▸◌}
use Rattle.module_state.specs.Refusals.{refusal_number}
use Rattle.module_state.specs.declared.Claim.{Claim}
use Rattle.module_state.specs.declared.Refusal.{Refusal}
use Rattle.module_state.specs.declared.State.{State}
use Rattle.calls.specs.Calls.{ListProcesses, number}
use Rattle.calls.specs.Listing.{head_number_at, head_number_size, head_length, among_of, row_of, rows_of, auth_processes, message_length, listing}
use Rattle.calls.specs.declared.Wanted.{Wanted}

-- ---- what the readers answer: a number, and beside it what is read
pub record RequestRead : Type 0 where
  pub number : ℕ
  pub credential : ℕ

pub record CountRead : Type 0 where
  pub number : ℕ
  pub count : ℕ

pub record RowAnswer : Type 0 where
  pub number : ℕ
  pub row : Row

-- as the code has it: where it is refused, the credential and the count are 0, and the row is zeros
abbrev pub request_in : Result ℕ Refusal → RequestRead
request_in (Ok credential) = record { number = No.done; credential = credential }
request_in (Err refusal) = record { number = refusal_number refusal; credential = 0 }

abbrev pub count_in : Result ℕ Refusal → CountRead
count_in (Ok count) = record { number = No.done; count = count }
count_in (Err refusal) = record { number = refusal_number refusal; count = 0 }

abbrev pub row_in : Result Row Refusal → RowAnswer
row_in (Ok row) = record { number = No.done; row = row }
row_in (Err refusal) = record { number = refusal_number refusal; row = zero_row }

-- ---- what both messages begin with. "Byte 1 is reserved: written zero": a code, the reserved byte and a number of two bytes
unfoldable pub head : ℕ → ℕ → List ℕ
head code n = code ∷ 0 ∷ bytes_of head_number_size n

-- "ignored on reading": a message has a code and a length, whatever byte 1 is
unfoldable pub is_headed : ℕ → ℕ → List ℕ → Bool
is_headed code long message = eqb (length message) long && eqb (get_or message 0 0) code

-- the number that follows the reserved byte; "Two-byte numbers are little endian."
unfoldable pub head_number : List ℕ → ℕ
head_number message = number_at head_number_size head_number_at message

-- ---- GET_AUTH_PROCESSES: 004 Table 16, "(Table 44): code, reserved, credential in 2 bytes, 65535 for all"
abbrev pub get_auth_processes : ℕ
get_auth_processes = 0x8e

unfoldable pub request : ℕ → List ℕ
request credential = head get_auth_processes credential

-- "a wrong code or any length but 4 is 14"
unfoldable pub request_number : List ℕ → ℕ
request_number message = No.message unless is_headed get_auth_processes head_length message

-- "every credential value is read and written as it stands"
unfoldable pub read_request : List ℕ → RequestRead
read_request message =
    record {
      number = request_number message;
      credential = cond (eqb (request_number message) No.done) (head_number message) 0;
    }

-- "its writer answers 15 to a buffer under 4 bytes"
unfoldable pub request_room : List ℕ → ℕ
request_room old = No.room when ltb (length old) head_length

-- ---- AUTH_PROCESSES read: "(Tables 45, 46): code, reserved, count in 2 bytes, then rows of 51 bytes"

-- the part that the row at a place has
unfoldable pub row_part : List ℕ → ℕ → List ℕ
row_part message at = take row_length (drop (head_length + at * row_length) message)

-- "it refuses with 14 a wrong code, a length under 4 or other than 4 + 51 × count, or a type over 2"; a length under 4 is other than
-- 4 + 51 × count, whatever the count
unfoldable pub is_listing : List ℕ → Bool
is_listing message =
    is_headed auth_processes (message_length (head_number message)) message
    && every is_row (rows (head_number message) row_length (drop head_length message))

unfoldable pub count_number : List ℕ → ℕ
count_number message = No.message unless is_listing message

-- "It answers with the count"
unfoldable pub read_count : List ℕ → CountRead
read_count message =
    record {
      number = count_number message;
      count = cond (eqb (count_number message) No.done) (head_number message) 0;
    }

-- "a row asked for at or past a message's count" is 1; "for the row, 14 comes before 1"
unfoldable pub row_number : List ℕ → ℕ → ℕ
row_number message at = count_number message ▸ No.argument unless ltb at (head_number message)

-- "and with the row at a place"
unfoldable pub read_row_at : List ℕ → ℕ → RowAnswer
read_row_at message at =
    record {
      number = row_number message at;
      row = cond (eqb (row_number message at) No.done) (Names.row_from (row_part message at)) zero_row;
    }

-- ---- AUTH_PROCESSES written

-- the rows of these processes: `rows_of st wanted` is that of those that stand in the state's table
unfoldable pub rows_among : Wanted → List Process → List Row
rows_among wanted l = map row_of (select (is_among (among_of wanted)) l)

-- "Rows are written one after another into the middle of the lent response, in table order."
unfoldable pub rows_over : List Row → List ℕ → List ℕ
rows_over rows old = over head_length (length rows * row_length) (join (map row_bytes rows)) old

-- "The message has 4 + 51 × count bytes and later bytes of the buffer are not touched."
unfoldable pub listing_over : List Row → List ℕ → List ℕ
listing_over rows old = over 0 (message_length (length rows)) (listing rows) old

-- ---- the list call: what it leaves in the lent buffer. "A refusal leaves state and buffer as they were."
unfoldable pub listed_bytes : State → Session → Claim → Wanted → List ℕ → List ℕ
listed_bytes st s claim wanted old =
    cond (eqb (number st (ListProcesses s claim wanted (length old))) No.done)
    (listing (rows_of st wanted) ++ drop (message_length (length (rows_of st wanted))) old)
    old
