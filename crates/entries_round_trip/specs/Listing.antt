-- The listing messages, as messages like the others: the values of the request and of the response, and a row as a part of a list.
use Rattle.std.specs.Prelude.{ℕ, List, [], ◌∷◌, replicate}
use Rattle.names.specs.Names.{type_number}
use Rattle.names.specs.declared.Row.{Row}
use Rattle.entries_round_trip.specs.Parts.{PartHeld}

-- one value, and the six that are not used
abbrev pub one_value : ℕ → List ℕ
one_value n = n ∷ replicate 6 0

unfoldable pub row_held : Row → PartHeld
row_held row =
    record {
      front = record { values = row.credential.0 ∷ type_number row.kind ∷ replicate 5 0; rest = row.name.bytes };
      back = record { values = replicate 7 0; rest = [] };
    }
