-- The process table: what its functions answer.
use Rattle.std.specs.Prelude.{ℕ, Bool, true, false, cond, ◌&&◌, ◌||◌, List, [], ◌∷◌, ◌++◌, eqb, ltb, length, get_or, take, set, Option, Some, None}
use Rattle.std.specs.List.{position, count_by}
use Rattle.lists.specs.Lists.{reject, remove_at, padded}
use Rattle.names.specs.Names.{same_name, zero_name}
use Rattle.names.specs.declared.Credential.{Credential}
use Rattle.names.specs.declared.Kind.{Kind}
use Rattle.names.specs.declared.Kind.TheVariants.{User, Elevation, Saved}
use Rattle.names.specs.declared.Name.{Name}
use Rattle.names.specs.declared.Session.{Session}
use Rattle.table.specs.declared.Active.{Active}
use Rattle.table.specs.declared.Active.TheVariants.{UserOf, ElevationIn}
use Rattle.table.specs.declared.Among.{Among}
use Rattle.table.specs.declared.Among.TheVariants.{All, Of, SavedOf}
use Rattle.table.specs.declared.Process.{Process}
use Rattle.table.specs.declared.Table.{Table}

-- ---- "A table of at most 12 processes in the order of their starts."

-- how many places there are
abbrev pub places : ℕ
places = 12

-- the processes that stand, in their order: those of the first `count` places, and of all where the count is past 12
unfoldable pub standing : Table → List Process
standing t = take t.count t.places

-- how many stand
unfoldable pub size : Table → ℕ
size t = length (standing t)

-- "the places past the count mean nothing and are kept zero"
abbrev pub free_place : Process
free_place = record { credential = record { 0 = 0 }; kind = User; session = record { 0 = 0 }; next = 0; name = zero_name }

-- the table in which these stand. Each operation answers with such a table, so its free places are zero whatever they were before
unfoldable pub table_of : List Process → Table
table_of l = record { places = padded places free_place l; count = length l }

-- the process at a place
unfoldable pub process_at : Table → ℕ → Process
process_at t at = get_or (standing t) at free_place

-- ---- the tests that a search asks of a process
abbrev pub is_user : Kind → Bool
is_user User = true
is_user Elevation = false
is_user Saved = false

abbrev pub is_elevation : Kind → Bool
is_elevation User = false
is_elevation Elevation = true
is_elevation Saved = false

abbrev pub is_saved : Kind → Bool
is_saved User = false
is_saved Elevation = false
is_saved Saved = true

abbrev pub is_in : Session → Process → Bool
is_in s p = eqb p.session.0 s.0

abbrev pub is_of : Credential → Process → Bool
is_of c p = eqb p.credential.0 c.0

-- the active user process of a session and a credential; the elevation of a session
unfoldable pub is_active : Active → Process → Bool
is_active (UserOf s c) p = is_user p.kind && is_in s p && is_of c p
is_active (ElevationIn s) p = is_elevation p.kind && is_in s p

-- active in a session, as either
unfoldable pub is_active_in : Session → Process → Bool
is_active_in s p = (is_user p.kind || is_elevation p.kind) && is_in s p

-- every process; a credential's processes of every type; a credential's saved ones
unfoldable pub is_among : Among → Process → Bool
is_among All p = true
is_among (Of c) p = is_of c p
is_among (SavedOf c) p = is_saved p.kind && is_of c p

unfoldable pub is_named : Name → Among → Process → Bool
is_named name among p = is_among among p && same_name p.name name

-- ---- "The search through the table yields the first matching place as soon as it meets one."

-- "the place found, or the count where none is": what each case of a search's answer says, where n stand
abbrev pub found_place : ℕ → Option ℕ → ℕ
found_place n (Some at) = at
found_place n None = n

unfoldable pub first_place : (Process → Bool) → List Process → Option ℕ
first_place f l = position f l

abbrev pub find_active : Table → Active → Option ℕ
find_active t which = first_place (is_active which) (standing t)

abbrev pub find_named : Table → Name → Among → Option ℕ
find_named t name among = first_place (is_named name among) (standing t)

-- how many stand among those
unfoldable pub count_among : Table → Among → ℕ
count_among t among = count_by (is_among among) (standing t)

-- ---- the operations

-- a new process stands after the others, where there is room
unfoldable pub appended : Table → Process → Table
appended t p = table_of (cond (ltb (size t) places) (standing t ++ (p ∷ [])) (standing t))

unfoldable pub replaced : Table → ℕ → Process → Table
replaced t at p = table_of (set (standing t) at p)

-- "Removing one closes the gap, so a freed place is used again."
unfoldable pub removed : Table → ℕ → Table
removed t at = table_of (remove_at at (standing t))

-- "the session's active processes are removed; saved ones stay"
unfoldable pub without_session : Table → Session → Table
without_session t s = table_of (reject (is_active_in s) (standing t))
