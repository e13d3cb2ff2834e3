-- Every message: what was written is read, and a refused one hands nothing out. Assumes nothing.
use Prim.Native.Nat.{ℕ, ◌≤◌}
use mathlib.Core.Path.{◌≡◌, refl}
use mathlib.Core.Bool.{true}
use mathlib.Core.List.{List, [], append-nil}
use native.Mathlib.Omega.{arith}
use borrow.Author.Tests.{le-leb}
use lib.ListN.{length, get_or, drop}
use lib.Seq.{drop-drop}
use Rattle.lists.proofs.Tests.{split, clash, and_left, and_right, and_both}
use Rattle.module_state.specs.Numbers as No
use Rattle.message_formats.specs.declared.Shape.{Shape}
use Rattle.message_formats.specs.declared.Shape.TheVariants.{NoMessage}
use Rattle.message_formats.specs.Formats.{rest_of}
use Rattle.message_fields.specs.Fields.{fields, are_allowed, head_long}
use Rattle.message_pieces.specs.Pieces.{fits_rest}
use Rattle.message_codes.proofs.Laws.{chooser-same}
use Rattle.message_fields_write.specs.Bodies.{body_bytes}
use Rattle.message_write.specs.Written.{shape_for, message_bytes, carries, message_long}
use Rattle.message_read.specs.Messages.{shape_in, head_of, message_values, is_message, refused, read_message}
use Rattle.entries_round_trip.specs.RoundTrip.{ReadsAs}
use Rattle.entries_round_trip.proofs.Bodies.{body-long, body-rest, body-values, body-first}

-- nothing fits behind the fields of no message
never-fits : (shape : Shape) (values rest : List ℕ) → fits_rest (rest_of shape) values rest ≡ true → shape ≡ NoMessage → ⊥
unfolding fits_rest rest_of
never-fits shape values rest h e = clash (rw e at h) refl

pub length-message : (code : ℕ) (values rest : List ℕ) → length (message_bytes code values rest) ≡ message_long code values rest
unfolding message_bytes message_long head_of
length-message code values rest = omega (arith, body-long (shape_for code values) values rest)

module _ (code : ℕ) (values rest : List ℕ) (seven : length values ≡ 7) (carried : carries code values rest ≡ true) where
  abbrev shape : Shape
  shape = shape_for code values

  abbrev message : List ℕ
  message = message_bytes code values rest

  allowed : are_allowed (fields shape) values ≡ true
  unfolding carries
  allowed = and_left (are_allowed (fields shape) values) (fits_rest (rest_of shape) values rest) carried

  fitting : fits_rest (rest_of shape) values rest ≡ true
  unfolding carries
  fitting = and_right (are_allowed (fields shape) values) (fits_rest (rest_of shape) values rest) carried

  -- the third byte is the first value where the shape goes by it
  shape-back : shape_in message ≡ shape
  unfolding shape_in shape_for message_bytes
  shape-back =
      chooser-same code (get_or values 0 0) (never-fits shape values rest fitting) (get_or (body_bytes shape values rest) 0 0)
      (body-first shape values rest seven allowed)

  values-are : message_values message ≡ values
  unfolding message_values message_bytes
  values-are = rw shape-back (rw append-nil at (body-values shape values rest seven allowed []))

  rest-is : drop (head_of shape) message ≡ rest
  unfolding head_of message_bytes
  rest-is = rw (← drop-drop (head_long shape) 2 message) (body-rest shape values rest)

  room : head_of shape ≤ length message
  unfolding message_long
  room = rw (length-message code values rest) (omega arith)

  taken : is_message message ≡ true
  unfolding is_message
  taken = rw (shape-back, values-are, rest-is) (and_both (and_both (le-leb (head_of shape) (length message) room) allowed) fitting)

  answered : read_message message ≡ record { number = No.done; values = values; rest = head_of shape }
  unfolding read_message
  answered = rw (taken, values-are, shape-back)

  -- "reading what was written gives the same values": for every message that 004 has
  pub written-is-read : ReadsAs code values rest message
  unfolding message_bytes
  written-is-read = record { code_is = refl; answer = answered; behind = rw answered rest-is }

-- no value is handed out where a message is refused
pub refused-hands-nothing : (message : List ℕ) → ((read_message message).number ≡ No.done → ⊥) → read_message message ≡ refused
unfolding read_message
refused-hands-nothing message h = split (is_message message) (λ e. absurd (h (rw e))) (λ e. rw e)
