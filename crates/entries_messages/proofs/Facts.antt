-- "Numbers a call can answer": no entry of a message answers another.
-- Assumes nothing.
use Prim.Native.Nat.{ℕ}
use mathlib.Core.Path.{refl}
use mathlib.Core.List.{List}
use Rattle.module_state.specs.Numbers as No
use Rattle.lists.proofs.Tests.{split}
use Rattle.calls.proofs.Facts.{known-unless, known-when, known-then}
use Rattle.message_fields_write.specs.Bodies.{number_for}
use Rattle.message_write.specs.Written.{write_number, write_piece_number}
use Rattle.message_read.specs.Messages.{is_message, read_message}
use Rattle.entries_messages.specs.Entries.{read_message_number, write_message_number, read_piece_number, put_piece_number}

message-known : (message : List ℕ) → No.IsKnown (read_message message).number
unfolding read_message
message-known message = split (is_message message) (λ e. rw e (record { is = refl })) (λ e. rw e (record { is = refl }))

pub read-message-known : (message values : List ℕ) → No.IsKnown (read_message_number message values)
unfolding read_message_number
read-message-known message values = known-then _ _ (known-unless 1 _ refl) (message-known message)

pub write-message-known : (code : ℕ) (values rest old : List ℕ) → No.IsKnown (write_message_number code values rest old)
unfolding write_message_number write_number number_for
write-message-known code values rest old = known-then _ _ (known-unless 1 _ refl) (known-then _ _ (known-when 15 _ refl) (known-unless 14 _ refl))

pub read-piece-known : (kind : ℕ) (bytes values : List ℕ) → No.IsKnown (read_piece_number kind bytes values)
unfolding read_piece_number
read-piece-known kind bytes values = known-then _ _ (known-unless 1 _ refl) (known-unless 14 _ refl)

pub write-piece-known : (kind : ℕ) (values rest old : List ℕ) → No.IsKnown (put_piece_number kind values rest old)
unfolding put_piece_number write_piece_number number_for
write-piece-known kind values rest old = known-then _ _ (known-unless 1 _ refl) (known-then _ _ (known-when 15 _ refl) (known-unless 14 _ refl))
