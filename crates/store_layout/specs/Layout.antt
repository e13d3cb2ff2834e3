-- The store in 4,121 bytes, a slice of its own beside the state's. docs/STORE.md draws it.
use Rattle.std.specs.Prelude.{ℕ, ◌+◌, ◌*◌, Bool, true, cond, ◌&&◌, List, [], ◌∷◌, ◌++◌, map, eqb, leb, length, take, drop, get_or}
use Rattle.lists.specs.Lists.{join, padded}
use Rattle.rows.specs.Bytes.{is_zero, bytes_of, number_at}
use Rattle.rows.specs.Rows.{rows, every, over}
use Rattle.names.specs.declared.Credential.{Credential}
use Rattle.module_state.specs.Module.{credential_count, is_credential}
use Rattle.state_layout.specs.Layout.{set_flag, flag_number, state_of, holds_state}
use Rattle.store_layout.specs.Store.{Held, nothing, Store, empty_store, parameters_size, head_of, heads_of, fits}
use Rattle.store_layout.specs.declared.Head.{Head}

-- ---- where the fields of a credential's head lie: each begins where the one before it ends. `src/lib.rt` has these names for the code
abbrev pub lock_at : ℕ
lock_at = 0

abbrev pub length_at : ℕ
length_at = lock_at + 1

abbrev pub length_size : ℕ
length_size = 2

abbrev pub head_size : ℕ
head_size = length_at + length_size

-- ---- and the parts of the whole
abbrev pub owned_at : ℕ
owned_at = 0

abbrev pub owned_size : ℕ
owned_size = 1

abbrev pub heads_at : ℕ
heads_at = owned_at + owned_size

abbrev pub parameters_at : ℕ
parameters_at = heads_at + credential_count * head_size

abbrev pub store_length : ℕ
store_length = parameters_at + credential_count * parameters_size

-- ---- the head of a credential: a flag, and the length of its parameters, little endian
unfoldable pub head_bytes : Head → List ℕ
head_bytes h = flag_number h.locked ∷ bytes_of length_size h.length

-- the length that it says
unfoldable pub length_in : List ℕ → ℕ
length_in head = number_at length_size length_at head

unfoldable pub head_fits_in : List ℕ → Bool
head_fits_in head = leb (get_or head lock_at 0) set_flag && leb (length_in head) parameters_size

-- ---- the room of its parameters: zero past their length
unfoldable pub room_bytes : List ℕ → List ℕ
room_bytes parameters = padded parameters_size 0 parameters

unfoldable pub room_fits_in : List ℕ → List ℕ → Bool
room_fits_in head room = every is_zero (drop (length_in head) room)

-- what a head and a room say of a credential
unfoldable pub held_from : List ℕ → List ℕ → Held
held_from head room =
    record {
      locked = eqb (get_or head lock_at 0) set_flag;
      parameters = take (length_in head) room;
    }

-- of each credential
unfoldable pub helds_from : List (List ℕ) → List (List ℕ) → List Held
helds_from [] rooms = []
helds_from (head ∷ heads) [] = []
helds_from (head ∷ heads) (room ∷ rooms) = held_from head room ∷ helds_from heads rooms

unfoldable pub rooms_fit : List (List ℕ) → List (List ℕ) → Bool
rooms_fit [] rooms = true
rooms_fit (head ∷ heads) [] = true
rooms_fit (head ∷ heads) (room ∷ rooms) = room_fits_in head room && rooms_fit heads rooms

-- ---- the whole
unfoldable pub heads_in : List ℕ → List (List ℕ)
heads_in b = rows credential_count head_size (drop heads_at b)

unfoldable pub rooms_in : List ℕ → List (List ℕ)
rooms_in b = rows credential_count parameters_size (drop parameters_at b)

abbrev pub held_bytes : Held → List ℕ
held_bytes h = head_bytes (head_of h)

unfoldable pub store_bytes : Store → List ℕ
store_bytes store =
    flag_number store.owned
    ∷ (join (map held_bytes store.held) ++ join (map (λ (h : Held). room_bytes h.parameters) store.held))

abbrev pub store_in : List ℕ → Store
store_in b = record { owned = eqb (get_or b owned_at 0) set_flag; held = helds_from (heads_in b) (rooms_in b) }

-- a slice of another length is read as an empty store
unfoldable pub store_of : List ℕ → Store
store_of b = cond (eqb (length b) store_length) (store_in b) empty_store

-- ---- which bytes are a store: "this length, each field in its range, zero what is past a length"
unfoldable pub is_store : List ℕ → Bool
is_store b =
    eqb (length b) store_length
    && (leb (get_or b owned_at 0) set_flag
    && (every head_fits_in (heads_in b)
    && rooms_fit (heads_in b) (rooms_in b)))

-- ---- a pair: the state's slice holds a state, and the store's is a store that fits it
unfoldable pub holds_pair : List ℕ → List ℕ → Bool
holds_pair state store = holds_state state && (is_store store && fits (state_of state).credentials (heads_of (store_of store)))

-- ---- slices after a part of a store was written into them: one of another length stays
abbrev pub head_place : Credential → ℕ
head_place c = heads_at + c.0 * head_size

abbrev pub room_place : Credential → ℕ
room_place c = parameters_at + c.0 * parameters_size

unfoldable pub can_write : List ℕ → Credential → Bool
can_write b c = eqb (length b) store_length && is_credential c

unfoldable pub owned_written : List ℕ → Bool → List ℕ
owned_written b owned = cond (eqb (length b) store_length) (over owned_at owned_size (flag_number owned ∷ []) b) b

unfoldable pub head_written : List ℕ → Credential → Head → List ℕ
head_written b c h = cond (can_write b c) (over (head_place c) head_size (head_bytes h) b) b

-- "Bytes past a shorter length .. are zero"; what is longer than the room is not written
unfoldable pub room_written : List ℕ → Credential → List ℕ → List ℕ
room_written b c parameters =
    cond (can_write b c && leb (length parameters) parameters_size)
    (over (room_place c) parameters_size (room_bytes parameters) b)
    b

-- both of a credential
unfoldable pub held_written : List ℕ → Credential → Held → List ℕ
held_written b c h = head_written (room_written b c h.parameters) c (head_of h)

-- nothing held of the credentials whose flag is set; the first flag is that of the credential at `from`
unfoldable pub cleared_from : ℕ → List Bool → List ℕ → List ℕ
cleared_from from [] b = b
cleared_from from (gone ∷ flags) b =
    cleared_from (from + 1) flags (cond gone (held_written b (record { 0 = from }) nothing) b)
