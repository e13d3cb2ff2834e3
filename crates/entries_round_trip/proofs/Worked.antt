-- Some messages with their bytes, and what is answered on both sides of some conditions: one with fields alone, one with a list, the error of a vendor.
-- Assumes nothing.
use Prim.Native.Nat.{ℕ}
use mathlib.Core.Path.{◌≡◌, refl}
use mathlib.Core.Bool.{true}
use mathlib.Core.List.{List, [], ◌∷◌, ◌++◌, map}
use lib.ListN.{replicate}
use Rattle.lists.specs.Lists.{padded}
use Rattle.rows.specs.Bytes.{bytes_of, number_of}
use Rattle.message_formats.specs.declared.Part.TheVariants.{Policy}
use Rattle.message_formats.specs.Formats.{form_of, meant, is_allowed, fields_of, rest_of}
use Rattle.message_fields.specs.Fields.{fields, long_of, values_in, are_allowed, field_bytes, values_of, head_long}
use Rattle.message_pieces.specs.Pieces.{rest_long, piece_long, is_piece, first, second, behind, is_part, part_long, are_parts, fits_rest}
use Rattle.message_codes.specs.Codes.{find, operations, errors, requests, responses, shape_of}
use Rattle.message_fields_write.specs.Bodies.{body_bytes}
use Rattle.message_write.specs.Written.{shape_for, message_bytes, carries}
use Rattle.message_read.specs.Messages.{shape_in, head_of, message_values, is_message, read_message}
use Rattle.entries_round_trip.specs.Parts.{PartHeld, piece_bytes, part_bytes}

-- END_AUTH: credential 3, persist method 1
abbrev ending : List ℕ
ending = 0x88 ∷ 0 ∷ 3 ∷ 0 ∷ 1 ∷ []

-- SET_AUTH_POLICY: PolicyChange, credential 258, one policy: registry 3, its vendor's id of two bytes, version 7, three bytes
abbrev policy : PartHeld
policy =
    record {
      front = record { values = 3 ∷ 2 ∷ replicate 5 0; rest = 0xaa ∷ 0xbb ∷ [] };
      back = record { values = 7 ∷ 3 ∷ replicate 5 0; rest = 0x11 ∷ 0x22 ∷ 0x33 ∷ [] };
    }

abbrev setting : List ℕ
setting = 0x85 ∷ 0 ∷ 1 ∷ 2 ∷ 1 ∷ 1 ∷ 0 ∷ 3 ∷ 2 ∷ 0xaa ∷ 0xbb ∷ 7 ∷ 0 ∷ 0 ∷ 0 ∷ 3 ∷ 0 ∷ 0x11 ∷ 0x22 ∷ 0x33 ∷ []

-- AUTH_ERROR of a vendor: data 5, an id of two bytes, one byte more
abbrev failing : List ℕ
failing = 0x7f ∷ 0 ∷ 0xff ∷ 5 ∷ 2 ∷ 0x34 ∷ 0x12 ∷ 0x99 ∷ []

-- messages that are refused
abbrev wrong : List (List ℕ)
wrong =
    -- persist method 3
    (0x88 ∷ 0 ∷ 3 ∷ 0 ∷ 3 ∷ [])
    -- longer, and shorter, than its fields
    ∷ (ending ++ (0 ∷ []))
    ∷ (0x88 ∷ 0 ∷ 3 ∷ 0 ∷ [])
    -- no policies at all; fewer than it says; a policy that runs past the end
    ∷ (0x85 ∷ 0 ∷ 1 ∷ 2 ∷ 1 ∷ 0 ∷ 0 ∷ [])
    ∷ (0x85 ∷ 0 ∷ 1 ∷ 2 ∷ 1 ∷ 1 ∷ 0 ∷ [])
    ∷ (0x85 ∷ 0 ∷ 1 ∷ 2 ∷ 1 ∷ 1 ∷ 0 ∷ 3 ∷ 0 ∷ 7 ∷ 0 ∷ 0 ∷ 0 ∷ 3 ∷ 0 ∷ 0x11 ∷ 0x22 ∷ [])
    -- an operation that Table 40 reserves
    ∷ (0x85 ∷ 0 ∷ 4 ∷ 2 ∷ 1 ∷ [])
    -- data with an error that has none; an error that Table 21 does not have
    ∷ (0x7f ∷ 0 ∷ 5 ∷ 1 ∷ [])
    ∷ (0x7f ∷ 0 ∷ 0x0c ∷ 0 ∷ [])
    -- an id longer than what follows
    ∷ (0x7f ∷ 0 ∷ 0xff ∷ 5 ∷ 2 ∷ 0x34 ∷ [])
    -- codes that Tables 16 and 17 do not have
    ∷ (0x80 ∷ 0 ∷ [])
    ∷ (0x10 ∷ 0 ∷ [])
    ∷ []
    ∷ []

pub record Worked : Type 0 where
  pub ending-is : message_bytes 0x88 (3 ∷ 1 ∷ replicate 5 0) [] ≡ ending
  pub setting-is : message_bytes 0x85 (1 ∷ 258 ∷ 1 ∷ replicate 4 0) (part_bytes Policy policy) ≡ setting
  pub failing-is : message_bytes 0x7f (0xff ∷ 5 ∷ 2 ∷ replicate 4 0) (0x34 ∷ 0x12 ∷ 0x99 ∷ []) ≡ failing
  pub setting-carried : carries 0x85 (1 ∷ 258 ∷ 1 ∷ replicate 4 0) (part_bytes Policy policy) ≡ true
  pub setting-read : read_message setting ≡ record { number = 0; values = 1 ∷ 258 ∷ 1 ∷ replicate 4 0; rest = 7 }
  pub failing-read : read_message failing ≡ record { number = 0; values = 0xff ∷ 5 ∷ 2 ∷ replicate 4 0; rest = 5 }
  -- the reserved byte and the reserved bits are "ignored on reading"
  pub reserved-read : read_message (0x88 ∷ 0x99 ∷ 3 ∷ 0 ∷ 0xfd ∷ []) ≡ record { number = 0; values = 3 ∷ 1 ∷ replicate 5 0; rest = 5 }
  pub wrong-refused : map (λ (m : List ℕ). (read_message m).number) wrong ≡ replicate 13 14

pub worked : Worked
unfolding padded bytes_of number_of form_of fields_of rest_of meant is_allowed fields long_of values_in are_allowed field_bytes values_of head_long rest_long piece_long is_piece first second behind is_part part_long are_parts fits_rest find operations errors requests responses shape_of shape_in head_of message_values is_message read_message body_bytes shape_for message_bytes carries piece_bytes part_bytes
worked =
    record {
      ending-is = refl;
      setting-is = refl;
      failing-is = refl;
      setting-carried = refl;
      setting-read = refl;
      failing-read = refl;
      reserved-read = refl;
      wrong-refused = refl;
    }
