-- "Numbers a call can answer": no entry of a message answers another.
-- Assumes nothing.
use Prim.Native.Nat.{ℕ}
use mathlib.Core.Path.{refl}
use mathlib.Core.List.{List}
use Rattle.module_state.specs.Numbers as No
use Rattle.calls.proofs.Facts.{known-unless, known-when, known-then}
use Rattle.listing_messages.specs.Wire.{request_number, read_request, request_room, count_number, read_count, row_number, read_row_at}
use Rattle.entries_listing.specs.Messages.{row_entry_number}

pub request-known : (message : List ℕ) → No.IsKnown (read_request message).number
unfolding read_request request_number
request-known message = known-unless 14 _ refl

pub room-known : (buffer : List ℕ) → No.IsKnown (request_room buffer)
unfolding request_room
room-known buffer = known-when 15 _ refl

pub count-known : (message : List ℕ) → No.IsKnown (read_count message).number
unfolding read_count count_number
count-known message = known-unless 14 _ refl

pub row-known : (message : List ℕ) (at : ℕ) (name : List ℕ) → No.IsKnown (row_entry_number message at name)
unfolding row_entry_number read_row_at row_number count_number
row-known message at name = known-then _ _ (known-then _ _ (known-unless 14 _ refl) (known-unless 1 _ refl)) (known-unless 1 _ refl)
