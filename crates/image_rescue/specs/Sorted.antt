-- What going through the stated rows leaves: those kept, in front of an array, and the places of those dropped.
use Rattle.std.specs.Prelude.{ℕ, ◌≤◌, ◌≡◌, List, [], take}
use Rattle.rows.specs.Bytes.{bits_number}
use Rattle.table.specs.Table.{places}
use Rattle.module_state.specs.declared.Grants.{Grants}
use Rattle.image_damaged.specs.Rescue.{keep, are_dropped}
use Rattle.image_rescue.specs.declared.Sorted.{Sorted}

pub record SortedAs (grants : List Grants) (parts : List (List ℕ)) (r : Sorted) : Type 0 where
  pub few : r.kept ≤ places
  pub rows_are : take r.kept r.rows ≡ keep grants [] parts
  pub dropped-are : r.dropped ≡ bits_number (are_dropped grants [] parts)
