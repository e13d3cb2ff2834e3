-- Each message by its name, and each piece of a list: the values of its line (message_formats/ByName) are carried, read back, and take so many bytes; and what stands
-- beside a bound of one of its fields is neither written nor read.
-- Assumes nothing.
use Prim.Native.Nat.{ℕ, suc, ◌-◌}
use mathlib.Core.Path.{◌≡◌, refl}
use mathlib.Core.Bool.{Bool, true, false, ◌&&◌, ◌||◌}
use mathlib.Core.List.{List, [], ◌∷◌, ◌++◌, map}
use lib.Dec.{eqb}
use lib.ListN.{length, get_or, take, drop, set, replicate}
use Rattle.std.specs.Prelude.{Option, Some, is_some}
use Rattle.lists.specs.Lists.{any, padded}
use Rattle.rows.specs.Bytes.{bytes_of, number_of}
use Rattle.message_formats.specs.Formats.{form_of, meant, is_allowed, fields_of, rest_of}
use Rattle.message_formats.proofs.ByName.{Held, Line, message_lines, piece_lines}
use Rattle.message_fields.specs.Fields.{fields, long_of, values_in, are_allowed, field_bytes, values_of, head_long}
use Rattle.message_pieces.specs.declared.Piece.{Piece}
use Rattle.message_pieces.specs.Pieces.{rest_long, piece_long, is_piece, piece_in, first, second, behind, is_part, part_long, are_parts, fits_rest}
use Rattle.message_codes.specs.Codes.{find, operations, errors, requests, responses, shape_of}
use Rattle.message_fields_write.specs.Bodies.{body_bytes}
use Rattle.message_write.specs.Written.{shape_for, message_bytes, carries, carries_piece}
use Rattle.message_read.specs.Messages.{shape_in, head_of, message_values, is_message, MessageAnswer, read_message}

-- ---- the message of a line, and what reading it has to answer
abbrev pub bytes : Line → List ℕ
bytes l = message_bytes l.code l.values l.follows

abbrev pub answer : Line → MessageAnswer
answer l = record { number = 0; values = l.values; rest = l.rest_begins }

-- ---- the same with another value in one of its fields: whether it is written, and whether it is read
abbrev pub written_with : Line → ℕ → ℕ → Bool
written_with l at value = carries l.code (set l.values at value) l.follows

abbrev pub read_as : MessageAnswer → ℕ → ℕ → Bool
read_as read at value = eqb read.number 0 && eqb (get_or read.values at 0) value

abbrev pub read_with : Line → ℕ → ℕ → Bool
read_with l at value = read_as (read_message (message_bytes l.code (set l.values at value) l.follows)) at value

-- of some field, from a place on, with a value that may not stand there
abbrev pub any_refused : (ℕ → ℕ → Bool) → ℕ → List Held → Bool
any_refused taken at [] = false
any_refused taken at (h ∷ hs) = any (taken at) h.refused || any_refused taken (suc at) hs

-- ---- of a piece
abbrev pub piece_bytes_of : Line → List ℕ
piece_bytes_of l = body_bytes l.shape l.values l.follows

abbrev pub piece_answer : Line → Option Piece
piece_answer l = Some (record { values = l.values; rest = l.rest_begins; long = l.long })

abbrev pub piece_written_with : Line → ℕ → ℕ → Bool
piece_written_with l at value = carries_piece l.shape (set l.values at value) l.follows

pub record ByName : Type 0 where
  -- carried, read back, and in so many bytes
  pub carried : map (λ (l : Line). carries l.code l.values l.follows) message_lines ≡ replicate 46 true
  pub read_back : map (λ (l : Line). read_message (bytes l)) message_lines ≡ map answer message_lines
  pub rest_back : map (λ (l : Line). drop l.rest_begins (bytes l)) message_lines ≡ map (λ (l : Line). l.follows) message_lines
  pub long-is : map (λ (l : Line). length (bytes l)) message_lines ≡ map (λ (l : Line). l.long) message_lines
  -- a byte more, a byte less
  pub longer-refused : map (λ (l : Line). (read_message (bytes l ++ (0 ∷ []))).number) message_lines ≡ replicate 46 14
  pub shorter-refused : map (λ (l : Line). (read_message (take (l.long - 1) (bytes l))).number) message_lines ≡ replicate 46 14
  -- beside a bound
  pub beside-not-written : map (λ (l : Line). any_refused (written_with l) 0 l.fields) message_lines ≡ replicate 46 false
  pub beside-not-read : map (λ (l : Line). any_refused (read_with l) 0 l.fields) message_lines ≡ replicate 46 false
  -- the pieces
  pub piece-carried : map (λ (l : Line). carries_piece l.shape l.values l.follows) piece_lines ≡ replicate 5 true
  pub piece-read-back : map (λ (l : Line). piece_in l.shape (piece_bytes_of l)) piece_lines ≡ map piece_answer piece_lines
  pub piece-shorter-refused : map (λ (l : Line). is_some (piece_in l.shape (take (l.long - 1) (piece_bytes_of l)))) piece_lines ≡ replicate 5 false
  pub piece-beside-not-written : map (λ (l : Line). any_refused (piece_written_with l) 0 l.fields) piece_lines ≡ replicate 5 false

pub by_name : ByName
unfolding any padded bytes_of number_of form_of meant is_allowed fields_of rest_of fields long_of values_in are_allowed field_bytes values_of head_long rest_long piece_long is_piece piece_in first second behind is_part part_long are_parts fits_rest find operations errors requests responses shape_of shape_in head_of message_values is_message read_message body_bytes shape_for message_bytes carries carries_piece
by_name =
    record {
      carried = refl;
      read_back = refl;
      rest_back = refl;
      long-is = refl;
      longer-refused = refl;
      shorter-refused = refl;
      beside-not-written = refl;
      beside-not-read = refl;
      piece-carried = refl;
      piece-read-back = refl;
      piece-shorter-refused = refl;
      piece-beside-not-written = refl;
    }
