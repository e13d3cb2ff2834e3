-- What one entry wrote, another reads: over the contracts of slavotuk_write_message and slavotuk_read_message, and of the two for a piece.
-- Assumes nothing.
use Prim.Native.Nat.{ℕ}
use mathlib.Core.Path.{◌≡◌, sym, ap, ◌∙◌}
use mathlib.Core.Bool.{true}
use mathlib.Core.List.{List}
use lib.Dec.{ltb}
use lib.ListN.{length, take, drop}
use borrow.Author.Tests.{eq-eqb, eqb-true}
use Rattle.std.specs.Prelude.{Some, is_some}
use Rattle.std.proofs.lemmas.Option.{same_Some}
use Rattle.rows.specs.Bytes.{byte_of}
use Rattle.module_state.specs.Numbers as No
use Rattle.module_state.specs.Numbers.{◌unless◌, ◌▸◌}
use Rattle.module_state.proofs.Laws.{clear_first, clear-rest, clear-unless, pass, unless-true}
use Rattle.lists.proofs.Tests.{and_left, and_right}
use Rattle.message_fields.specs.Fields.{head_long, values_of}
use Rattle.message_pieces.specs.Pieces.{piece_long, is_piece, piece_in}
use Rattle.message_pieces.specs.declared.Piece.{Piece}
use Rattle.message_pieces.proofs.Laws.{piece-taken, piece-fits}
use Rattle.message_codes.specs.Codes.{piece_of}
use Rattle.message_fields_write.specs.Bodies.{body_bytes, body_long, given}
use Rattle.message_write.specs.Written.{message_bytes, message_long, write_number, write_piece_number}
use Rattle.message_read.specs.Messages.{read_message}
use Rattle.entries_messages.specs.Entries.{are_seven, kinds, is_piece_argument, read_message_number, write_message_number, read_piece_number, put_piece_number, ReadEntry, PieceEntry, WriteEntry}
use Rattle.entries_round_trip.specs.RoundTrip.{ReadsAs, PieceReadsAs, buffer_after, buffer_after_piece}
use Rattle.entries_round_trip.proofs.Buffers.{buffer-is-read, piece-buffer-is-read}

-- what a slice of seven was lent for is handed out
pub given-done : {A : Type 0} {number : ℕ} (value before : A) → number ≡ No.done → given number value before ≡ value
unfolding given
given-done {A} {number} value before e = rw e

-- ---- a message: the writer's call on a buffer, and the reader's on the bytes that it says it wrote
module _ (code : ℕ) (values rest old : List ℕ) {before answer written : ℕ} {new : List ℕ}
    (w : WriteEntry (write_message_number code values rest old) (message_long (byte_of code) values rest) (message_bytes (byte_of code) values rest) old before answer new written) where
  abbrev message : List ℕ
  message = take written new

  module _ (done : answer ≡ No.done) where
    number-done : write_message_number code values rest old ≡ No.done
    number-done = sym w.number_is ∙ done

    seven : length values ≡ 7
    unfolding write_message_number are_seven
    seven = eqb-true (length values) 7 (clear-unless No.argument _ (are_seven values) (clear_first (No.argument unless are_seven values) (write_number (byte_of code) values rest old) number-done))

    accepted : write_number (byte_of code) values rest old ≡ No.done
    unfolding write_message_number
    accepted = clear-rest (No.argument unless are_seven values) (write_number (byte_of code) values rest old) number-done

    long-is : written ≡ message_long (byte_of code) values rest
    long-is = w.written_is ∙ given-done (message_long (byte_of code) values rest) before number-done

    buffer-is : new ≡ buffer_after (byte_of code) values rest old
    unfolding buffer_after
    buffer-is = w.bytes-are ∙ rw (number-done, accepted)

    reads : ReadsAs (byte_of code) values rest message
    reads = rw (long-is, buffer-is) (buffer-is-read (byte_of code) values rest old accepted seven)

    module _ (lent : List ℕ) {begin answer₁ begin₁ : ℕ} {lent₁ : List ℕ} (h : length lent ≡ 7)
        (r : ReadEntry (read_message_number message lent) (read_message message).values (read_message message).rest lent begin answer₁ lent₁ begin₁) where
      read_done : read_message_number message lent ≡ No.done
      unfolding read_message_number are_seven
      read_done = pass (read_message message).number (unless-true No.argument (eq-eqb (length lent) 7 h)) ∙ rw reads.answer

      pub entry-reads : answer₁ ≡ No.done
      entry-reads = r.number_is ∙ read_done

      pub same-values : lent₁ ≡ values
      same-values = r.values-are ∙ given-done (read_message message).values lent read_done ∙ rw reads.answer

      pub same_rest : drop begin₁ message ≡ rest
      same_rest = ap (λ (n : ℕ). drop n message) (r.rest-is ∙ given-done (read_message message).rest begin read_done) ∙ reads.behind

-- ---- a piece: the writer's call on a buffer, and the reader's on that buffer
module _ (kind : ℕ) (values rest old : List ℕ) {before answer written : ℕ} {new : List ℕ}
    (w : WriteEntry (put_piece_number kind values rest old) (body_long (piece_of kind) rest) (body_bytes (piece_of kind) values rest) old before answer new written)
    (done : answer ≡ No.done) where
  put-done : put_piece_number kind values rest old ≡ No.done
  put-done = sym w.number_is ∙ done

  argued : is_piece_argument kind values ≡ true
  unfolding put_piece_number
  argued = clear-unless No.argument _ (is_piece_argument kind values) (clear_first (No.argument unless is_piece_argument kind values) (write_piece_number (piece_of kind) values rest old) put-done)

  kind-is : ltb kind kinds ≡ true
  unfolding is_piece_argument
  kind-is = and_left (ltb kind kinds) (are_seven values) argued

  seven-values : length values ≡ 7
  unfolding is_piece_argument are_seven
  seven-values = eqb-true (length values) 7 (and_right (ltb kind kinds) (are_seven values) argued)

  put-accepted : write_piece_number (piece_of kind) values rest old ≡ No.done
  unfolding put_piece_number
  put-accepted = clear-rest (No.argument unless is_piece_argument kind values) (write_piece_number (piece_of kind) values rest old) put-done

  piece-buffer-is : new ≡ buffer_after_piece (piece_of kind) values rest old
  unfolding buffer_after_piece
  piece-buffer-is = w.bytes-are ∙ rw (put-done, put-accepted)

  piece-reads : PieceReadsAs (piece_of kind) values rest new
  piece-reads = rw piece-buffer-is (piece-buffer-is-read (piece_of kind) values rest old put-accepted seven-values)

  stands : is_piece (piece_of kind) new ≡ true
  stands = sym (piece-fits (piece_of kind) new) ∙ ap is_some piece-reads.answer

  piece-told : piece_in (piece_of kind) new ≡ Some (record { values = values_of (piece_of kind) new; rest = head_long (piece_of kind); long = piece_long (piece_of kind) new })
  piece-told = piece-taken (piece_of kind) new stands

  module _ (lent : List ℕ) {begin next answer₁ begin₁ next₁ : ℕ} {lent₁ : List ℕ} (h : length lent ≡ 7)
      (r : PieceEntry (read_piece_number kind new lent) (values_of (piece_of kind) new) (head_long (piece_of kind)) (piece_long (piece_of kind) new) lent begin next answer₁ lent₁ begin₁ next₁) where
    piece-read-done : read_piece_number kind new lent ≡ No.done
    unfolding read_piece_number is_piece_argument are_seven ◌unless◌ ◌▸◌
    piece-read-done = rw (kind-is, eq-eqb (length lent) 7 h, stands)

    pub piece-entry-reads : answer₁ ≡ No.done
    piece-entry-reads = r.number_is ∙ piece-read-done

    pub piece-same-values : lent₁ ≡ values
    piece-same-values =
        r.values-are ∙ given-done (values_of (piece_of kind) new) lent piece-read-done
        ∙ ap (λ (p : Piece). p.values) (same_Some _ _ (sym piece-told ∙ piece-reads.answer))

    pub piece-same-rest : take (length rest) (drop begin₁ new) ≡ rest
    piece-same-rest =
        ap (λ (n : ℕ). take (length rest) (drop n new)) (r.rest-is ∙ given-done (head_long (piece_of kind)) begin piece-read-done)
        ∙ piece-reads.behind

    pub piece-same-end : next₁ ≡ written
    unfolding body_long
    piece-same-end =
        r.next-is ∙ given-done (piece_long (piece_of kind) new) next piece-read-done
        ∙ ap (λ (p : Piece). p.long) (same_Some _ _ (sym piece-told ∙ piece-reads.answer))
        ∙ sym (w.written_is ∙ given-done (body_long (piece_of kind) rest) before put-done)
