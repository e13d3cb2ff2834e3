-- The definitions compute: a table of three, worked by hand.
-- Assumes nothing.
use Rattle.std.specs.Prelude.{Some, None}
use mathlib.Core.Path.{◌≡◌, refl}
use mathlib.Core.List.{[], ◌∷◌}
use lib.ListN.{replicate}
use Rattle.lists.specs.Lists.{first_index, reject, remove_at, padded}
use Rattle.names.specs.Names.{same_bytes, same_name}
use Rattle.names.specs.declared.Kind.{Kind}
use Rattle.names.specs.declared.Kind.TheVariants.{User, Elevation, Saved}
use Prim.Native.Nat.{ℕ}
use Rattle.table.specs.declared.Active.TheVariants.{UserOf}
use Rattle.table.specs.declared.Among.TheVariants.{SavedOf}
use Rattle.table.specs.declared.Process.{Process}
use Rattle.table.specs.declared.Table.{Table}
use Rattle.table.specs.Table.{standing, size, table_of, is_active, is_active_in, is_among, is_named, first_place, find_active, find_named, appended, removed, without_session}

abbrev process : ℕ → Kind → ℕ → ℕ → Process
process c k s byte = record { credential = record { 0 = c }; kind = k; session = record { 0 = s }; next = 0; name = record { bytes = replicate 48 byte } }

-- credential 7 has a saved process, an active one in session 1 and the elevation there
three : Table
three = appended (appended (appended (table_of []) (process 7 Saved 0 65)) (process 7 User 1 66)) (process 7 Elevation 1 67)

active-found : find_active three (UserOf (record { 0 = 1 }) (record { 0 = 7 })) ≡ Some 1
unfolding three appended size standing table_of padded first_place first_index is_active
active-found = refl

-- not in another session
active-elsewhere : find_active three (UserOf (record { 0 = 0 }) (record { 0 = 7 })) ≡ None
unfolding three appended size standing table_of padded first_place first_index is_active
active-elsewhere = refl

saved-found : find_named three (record { bytes = replicate 48 65 }) (SavedOf (record { 0 = 7 })) ≡ Some 0
unfolding three appended size standing table_of padded first_place first_index is_among is_named same_name same_bytes
saved-found = refl

-- an active process is found by its name, and not among the saved ones
active-not-saved : find_named three (record { bytes = replicate 48 66 }) (SavedOf (record { 0 = 7 })) ≡ None
unfolding three appended size standing table_of padded first_place first_index is_among is_named same_name same_bytes
active-not-saved = refl

saved-stay : without_session three (record { 0 = 1 }) ≡ table_of (process 7 Saved 0 65 ∷ [])
unfolding three without_session appended size standing table_of padded reject is_active_in
saved-stay = refl

gap-closed : standing (removed three 1) ≡ process 7 Saved 0 65 ∷ process 7 Elevation 1 67 ∷ []
unfolding three removed appended size standing table_of padded remove_at
gap-closed = refl
