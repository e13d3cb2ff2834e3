-- The rows of a table's processes: how many there are, and that the head and the rows are the message.
-- Assumes nothing.
use Prim.Native.Nat.{ℕ, ◌+◌, ◌*◌, ◌≤◌}
use mathlib.Core.Path.{◌≡◌, sym, ◌∙◌}
use mathlib.Core.List.{List, ◌++◌, map}
use native.Mathlib.Nat.{zero-add}
use native.Mathlib.Omega.{arith}
use lib.ListN.{length, take, drop, length-append, length-map}
use lib.Seq.{drop_at, length-take-le}
use Rattle.rows.specs.Bytes.{bytes_of}
use Rattle.rows.specs.Rows.{over}
use Rattle.rows.proofs.Over.{over-room}
use Rattle.lists.specs.Lists.{join}
use Rattle.lists.proofs.Lists.{length-select}
use Rattle.names.specs.Names.{row_length, row_bytes}
use Rattle.names.specs.declared.Row.{Row}
use Rattle.table.specs.Table.{is_among}
use Rattle.table.specs.declared.Process.{Process}
use Rattle.calls.specs.Listing.{head_length, among_of, auth_processes, message_length, listing}
use Rattle.calls.specs.declared.Wanted.{Wanted}
use Rattle.listing_messages.specs.Wire.{head, rows_among, rows_over, listing_over}

pub rows_few : (wanted : Wanted) (l : List Process) → length (rows_among wanted l) ≤ length l
unfolding rows_among
rows_few wanted l = rw length-map (length-select (is_among (among_of wanted)) l)

-- ---- the rows and the head are the message
module _ (rows : List Row) (old : List ℕ) (h : message_length (length rows) ≤ length old) where
  abbrev bytes : List ℕ
  bytes = join (map row_bytes rows)

  enough : head_length + length rows * row_length ≤ length old
  unfolding message_length
  enough = omega arith

  front : length (take head_length old) ≡ head_length
  front = length-take-le head_length old (omega (arith, enough))

  written : rows_over rows old ≡ take head_length old ++ (bytes ++ drop (head_length + length rows * row_length) old)
  unfolding rows_over
  written = over-room head_length (length rows * row_length) bytes old enough

  long : head_length ≤ length (rows_over rows old)
  long = rw (written, length-append, front) (omega arith)

  pub listing-whole : over 0 head_length (head auth_processes (length rows)) (rows_over rows old) ≡ listing_over rows old
  unfolding listing_over listing head bytes_of message_length
  listing-whole =
      let e : row_length * length rows ≡ length rows * row_length = omega arith in
      over-room 0 head_length (head auth_processes (length rows)) (rows_over rows old) long
      ∙ rw (written, drop_at (take head_length old) (bytes ++ drop (head_length + length rows * row_length) old) head_length front, e)
      (sym (over-room 0 (head_length + length rows * row_length) (listing rows) old (rw zero-add enough) ∙ rw zero-add))
