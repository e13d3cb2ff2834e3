-- The buffer that a writer is lent: what it wrote there is read, and a refused one wrote nothing. Assumes nothing.
use Prim.Native.Nat.{ℕ}
use mathlib.Core.Path.{◌≡◌}
use mathlib.Core.Bool.{Bool, true}
use mathlib.Core.List.{List, ◌++◌}
use native.Mathlib.Nat.{zero-add}
use borrow.Author.Tests.{eq-eqb, ne_eqb}
use lib.ListN.{length, take, drop}
use lib.Seq.{take_at, drop_at}
use Rattle.rows.proofs.Over.{over-room}
use Rattle.module_state.specs.Numbers as No
use Rattle.message_formats.specs.declared.Shape.{Shape}
use Rattle.message_fields_write.specs.Bodies.{body_bytes, body_long, number_for, given}
use Rattle.message_fields_write.proofs.Laws.{accepted-room, accepted-carried}
use Rattle.message_write.specs.Written.{message_bytes, carries, message_long, write_number, written_over, carries_piece, write_piece_number}
use Rattle.entries_round_trip.specs.RoundTrip.{ReadsAs, PieceReadsAs, buffer_after, buffer_after_piece}
use Rattle.entries_round_trip.proofs.Bodies.{piece-is-read}
use Rattle.entries_round_trip.proofs.Messages.{length-message, written-is-read}

-- ---- both writers
after : (long : ℕ) (carried : Bool) (old : List ℕ) → number_for long carried old ≡ No.done → (bytes : List ℕ) → written_over (number_for long carried old) long bytes old ≡ bytes ++ drop long old
unfolding written_over given
after long carried old done bytes =
    rw (eq-eqb (number_for long carried old) No.done done)
    (rw zero-add at (over-room 0 long bytes old (rw zero-add (accepted-room long carried old done))))

-- ---- a message
module _ (code : ℕ) (values rest old : List ℕ) where
  abbrev long : ℕ
  long = message_long code values rest

  module _ (done : write_number code values rest old ≡ No.done) where
    buffer-is : buffer_after code values rest old ≡ message_bytes code values rest ++ drop long old
    unfolding buffer_after write_number
    buffer-is = after long (carries code values rest) old done (message_bytes code values rest)

    done-carries : carries code values rest ≡ true
    unfolding write_number
    done-carries = accepted-carried long (carries code values rest) old done

    -- the front of the buffer is read with the values that were written
    pub buffer-is-read : length values ≡ 7 → ReadsAs code values rest (take long (buffer_after code values rest old))
    buffer-is-read seven =
        rw (buffer-is, take_at (message_bytes code values rest) (drop long old) long (length-message code values rest))
        (written-is-read code values rest seven done-carries)

    -- and its later bytes are as they were
    pub later-bytes : drop long (buffer_after code values rest old) ≡ drop long old
    later-bytes = rw buffer-is (drop_at (message_bytes code values rest) (drop long old) long (length-message code values rest))

  -- "a refused message writes nothing"
  pub refused-writes-nothing : (write_number code values rest old ≡ No.done → ⊥) → buffer_after code values rest old ≡ old
  unfolding buffer_after written_over given
  refused-writes-nothing h = rw (ne_eqb (write_number code values rest old) No.done h)

-- ---- a piece
module _ (shape : Shape) (values rest old : List ℕ) where
  module _ (done : write_piece_number shape values rest old ≡ No.done) where
    piece-buffer-is : buffer_after_piece shape values rest old ≡ body_bytes shape values rest ++ drop (body_long shape rest) old
    unfolding buffer_after_piece write_piece_number
    piece-buffer-is = after (body_long shape rest) (carries_piece shape values rest) old done (body_bytes shape values rest)

    piece-carries : carries_piece shape values rest ≡ true
    unfolding write_piece_number
    piece-carries = accepted-carried (body_long shape rest) (carries_piece shape values rest) old done

    pub piece-buffer-is-read : length values ≡ 7 → PieceReadsAs shape values rest (buffer_after_piece shape values rest old)
    piece-buffer-is-read seven = rw piece-buffer-is (piece-is-read shape values rest (drop (body_long shape rest) old) seven piece-carries)

  pub refused-piece-writes-nothing : (write_piece_number shape values rest old ≡ No.done → ⊥) → buffer_after_piece shape values rest old ≡ old
  unfolding buffer_after_piece written_over given
  refused-piece-writes-nothing h = rw (ne_eqb (write_piece_number shape values rest old) No.done h)
