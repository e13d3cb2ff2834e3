-- The fields of a message of 004 clause 9.2 and of a piece of its lists: which values bytes say, which values may stand there, and the bytes that say them.
use Rattle.std.specs.Prelude.{ℕ, ◌+◌, Bool, true, cond, ◌&&◌, List, [], ◌∷◌, ◌++◌, get_or, take, drop, Result, Ok, Err}
use Rattle.lists.specs.Lists.{padded}
use Rattle.rows.specs.Bytes.{bytes_of, number_of}
use Rattle.message_formats.specs.declared.Field.{Field}
use Rattle.message_formats.specs.declared.Field.TheVariants.{Unused}
use Rattle.message_formats.specs.declared.Shape.{Shape}
use Rattle.message_formats.specs.Formats.{form_of, meant, is_allowed, fields_of}
use Rattle.message_fields.specs.declared.FieldsRead.{FieldsRead}
use Rattle.message_fields.specs.declared.FieldsTested.{FieldsTested}

-- ---- the fields of a shape. Seven values stand for every shape, of which the unused ones are 0
abbrev pub value_count : ℕ
value_count = 7

unfoldable pub fields : Shape → List Field
fields shape = padded value_count Unused (fields_of shape)

-- how many bytes they have
unfoldable pub long_of : List Field → ℕ
long_of [] = 0
long_of (f ∷ fs) = (form_of f).width + long_of fs

-- the values that bytes say, one field after the other
unfoldable pub values_in : List Field → List ℕ → List ℕ
values_in [] b = []
values_in (f ∷ fs) b = meant (form_of f) (number_of (take (form_of f).width b)) ∷ values_in fs (drop (form_of f).width b)

-- each value may stand in its field
unfoldable pub are_allowed : List Field → List ℕ → Bool
are_allowed [] values = true
are_allowed (f ∷ fs) values = is_allowed (form_of f) (get_or values 0 0) && are_allowed fs (drop 1 values)

-- the bytes that say them
unfoldable pub field_bytes : List Field → List ℕ → List ℕ
field_bytes [] values = []
field_bytes (f ∷ fs) values = bytes_of (form_of f).width (get_or values 0 0) ++ field_bytes fs (drop 1 values)

-- ---- the fields of a shape: how many bytes they have, and what they say at the front of bytes
unfoldable pub head_long : Shape → ℕ
head_long shape = long_of (fields shape)

unfoldable pub values_of : Shape → List ℕ → List ℕ
values_of shape b = values_in (fields shape) b

-- what is answered of those at the front of bytes, whether each value may stand in its field (Ok) or not
unfoldable pub fields_read : Shape → List ℕ → Result FieldsRead FieldsRead
fields_read shape b =
    cond (are_allowed (fields shape) (values_of shape b))
    (Ok (record { long = head_long shape; values = values_of shape b }))
    (Err (record { long = head_long shape; values = values_of shape b }))

-- and of values that are to be written
unfoldable pub fields_tested : Shape → List ℕ → FieldsTested
fields_tested shape values = record { long = head_long shape; allowed = are_allowed (fields shape) values }
