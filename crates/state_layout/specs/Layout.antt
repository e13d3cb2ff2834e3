-- "It lends the state as a slice too, in one fixed layout": sessions, credentials, a count and places, 717 bytes.
-- docs/STATE.md draws it.
use Rattle.std.specs.Prelude.{ℕ, zero, suc, ◌+◌, ◌*◌, Bool, true, false, cond, not, ◌&&◌, ◌||◌, List, [], ◌∷◌, ◌++◌, map, eqb, leb, ltb, length, drop, get_or, replicate}
use Rattle.lists.specs.Lists.{join}
use Rattle.rows.specs.Bytes.{is_zero, bytes_of, number_at, byte_of}
use Rattle.rows.specs.Rows.{rows, every, pairwise, over}
use Rattle.names.specs.Names.{same_name, name_length, last_type, kind_number, kind_numbered}
use Rattle.names.specs.declared.Kind.{Kind}
use Rattle.names.specs.declared.Kind.TheVariants.{User, Elevation, Saved}
use Rattle.table.specs.Table.{standing, table_of, process_at, replaced, is_user, is_elevation, is_active, is_active_in, places}
use Rattle.table.specs.declared.Active.TheVariants.{UserOf, ElevationIn}
use Rattle.table.specs.declared.Process.{Process}
use Rattle.module_state.specs.Module.{phase_of, is_chosen, both_words, unprovisioned, provisioned, session_count, credential_count, last_session, last_credential, closed_module, word_size}
use Rattle.module_state.specs.declared.Grants.{Grants}
use Rattle.module_state.specs.declared.Phase.{Phase}
use Rattle.module_state.specs.declared.Phase.TheVariants.{Closed, Opened, Chosen}
use Rattle.module_state.specs.declared.SessionState.{SessionState}
use Rattle.module_state.specs.declared.State.{State}

-- ---- where the fields of a credential lie: each begins where the one before it ends. `src/lib.rt` has these names for the code
abbrev pub flag_at : ℕ
flag_at = 0

abbrev pub word_at : ℕ
word_at = flag_at + 1

abbrev pub second_at : ℕ
second_at = word_at + word_size

abbrev pub credential_size : ℕ
credential_size = second_at + word_size

-- ---- of a place
abbrev pub owner_at : ℕ
owner_at = 0

abbrev pub kind_at : ℕ
kind_at = owner_at + 1

abbrev pub session_at : ℕ
session_at = kind_at + 1

abbrev pub next_at : ℕ
next_at = session_at + 1

abbrev pub next_size : ℕ
next_size = 2

abbrev pub name_at : ℕ
name_at = next_at + next_size

abbrev pub place_size : ℕ
place_size = name_at + name_length

-- ---- and the parts of the whole
abbrev pub sessions_at : ℕ
sessions_at = 0

abbrev pub session_size : ℕ
session_size = 1

abbrev pub credentials_at : ℕ
credentials_at = sessions_at + session_count * session_size

abbrev pub count_at : ℕ
count_at = credentials_at + credential_count * credential_size

abbrev pub count_size : ℕ
count_size = 1

abbrev pub places_at : ℕ
places_at = count_at + count_size

abbrev pub state_length : ℕ
state_length = places_at + places * place_size

-- ---- a session: "Each is closed, or open without a version, or open with version 1.0." Those of port 0 stand first, each at its slot
abbrev pub closed_byte : ℕ
closed_byte = 0

abbrev pub opened_byte : ℕ
opened_byte = 1

abbrev pub chosen_byte : ℕ
chosen_byte = 2

-- a byte over this is no phase's
abbrev pub last_phase : ℕ
last_phase = chosen_byte

abbrev pub phase_byte : Phase → ℕ
phase_byte Closed = closed_byte
phase_byte Opened = opened_byte
phase_byte Chosen = chosen_byte

-- and back; what is no phase's `session_fits` refuses
abbrev pub phase_from : ℕ → Phase
phase_from zero = Closed
phase_from (suc zero) = Opened
phase_from (suc (suc zero)) = Chosen
phase_from (suc (suc (suc n))) = Closed

unfoldable pub session_bytes : SessionState → List ℕ
session_bytes s = phase_byte s.phase ∷ []

unfoldable pub session_from : List ℕ → SessionState
session_from part = record { phase = phase_from (get_or part 0 0) }

unfoldable pub session_fits : List ℕ → Bool
session_fits part = leb (get_or part 0 0) last_phase

-- ---- a credential: "Each is provisioned or not, and has a grant word of 32 bits", and "a second 32-bit word". A flag, and the words, little endian
abbrev pub set_flag : ℕ
set_flag = 1

abbrev pub flag_number : Bool → ℕ
flag_number true = set_flag
flag_number false = 0

unfoldable pub grants_bytes : Grants → List ℕ
grants_bytes g = flag_number g.provisioned ∷ (bytes_of word_size g.words.grant ++ bytes_of word_size g.words.second)

unfoldable pub grants_from : List ℕ → Grants
grants_from part =
    record {
      provisioned = eqb (get_or part flag_at 0) set_flag;
      words = both_words (number_at word_size word_at part) (number_at word_size second_at part);
    }

-- "a field kept zero isn't zero (an unprovisioned credential's word too)", and its second word
unfoldable pub grants_fit : List ℕ → Bool
grants_fit part = leb (get_or part flag_at 0) set_flag && (eqb (get_or part flag_at 0) set_flag || every is_zero (drop word_at part))

-- ---- a place: "Each has a credential, a type .., the session when active, a next number, and a name of 48 bytes". The type is its number in 004
-- Table 46, the session its slot, the next number is little endian
unfoldable pub process_bytes : Process → List ℕ
process_bytes p =
    byte_of p.credential.0 ∷ kind_number p.kind ∷ p.session.0 ∷ (bytes_of next_size p.next ++ p.name.bytes)

unfoldable pub process_from : List ℕ → Process
process_from place =
    record {
      credential = record { 0 = get_or place owner_at 0 };
      kind = kind_numbered (get_or place kind_at 0);
      session = record { 0 = get_or place session_at 0 };
      next = number_at next_size next_at place;
      name = record { bytes = drop name_at place };
    }

-- what a type asks of the session and of the next number. "An elevation's next number, a saved process's session .. mean nothing and are kept zero."
-- "from now on a slice with a saved process at next number 0 holds no state either": a save has counted one
abbrev pub kind_fits : Kind → ℕ → ℕ → Bool
kind_fits User session next = true
kind_fits Elevation session next = eqb next 0
kind_fits Saved session next = eqb session 0 && leb 1 next

unfoldable pub process_fits : List ℕ → Bool
process_fits place =
    leb (get_or place owner_at 0) last_credential
    && (leb (get_or place kind_at 0) last_type
    && (leb (get_or place session_at 0) last_session
    && kind_fits (kind_numbered (get_or place kind_at 0)) (get_or place session_at 0) (number_at next_size next_at place)))

-- ---- the whole: where each part begins is where the one before it ends
unfoldable pub count_in : List ℕ → ℕ
count_in b = get_or b count_at 0

unfoldable pub places_in : List ℕ → List Process
places_in b = map process_from (rows places place_size (drop places_at b))

unfoldable pub state_bytes : State → List ℕ
state_bytes st =
    join (map session_bytes st.sessions)
    ++ (join (map grants_bytes st.credentials) ++ (byte_of st.table.count ∷ join (map process_bytes st.table.places)))

abbrev pub state_in : List ℕ → State
state_in b =
    record {
      sessions = map session_from (rows session_count session_size b);
      credentials = map grants_from (rows credential_count credential_size (drop credentials_at b));
      table = record { places = places_in b; count = count_in b };
    }

-- what a slice of another length is read as: all sessions closed, no credential provisioned, no process
abbrev pub nothing_held : State
nothing_held = closed_module (replicate credential_count unprovisioned) (table_of [])

unfoldable pub state_of : List ℕ → State
state_of b = cond (eqb (length b) state_length) (state_in b) nothing_held

-- a slice after a state was written into it: one of another length stays
unfoldable pub state_written : List ℕ → State → List ℕ
state_written b st = cond (eqb (length b) state_length) (state_bytes st) b

-- a state with another next number of the process at a place
abbrev pub numbered : Process → ℕ → Process
numbered p next = record { credential = p.credential; kind = p.kind; session = p.session; next = next; name = p.name }

abbrev pub with_next : State → ℕ → ℕ → State
with_next st at next =
    record {
      sessions = st.sessions;
      credentials = st.credentials;
      table = replaced st.table at (numbered (process_at st.table at) next);
    }

-- where the next number of a place lies, and a slice after it was written there
abbrev pub next_place : ℕ → ℕ
next_place at = places_at + at * place_size + next_at

unfoldable pub next_written : List ℕ → ℕ → ℕ → List ℕ
next_written b at next = cond (eqb (length b) state_length && ltb at places) (over (next_place at) next_size (bytes_of next_size next) b) b

-- ---- "A slice holds no state when its length is another, a field is out of its range, a field kept zero isn't zero"

-- of a slice of the right length: its count is in its range, and the places past it are zero
unfoldable pub rest_is_free : List ℕ → Bool
rest_is_free b =
    eqb (length b) state_length
    && (leb (count_in b) places
    && every is_zero (drop (places_at + count_in b * place_size) b))

-- its sessions and its credentials are in their ranges
unfoldable pub owners_fit : List ℕ → Bool
owners_fit b =
    eqb (length b) state_length
    && (every session_fits (rows session_count session_size b)
    && every grants_fit (rows credential_count credential_size (drop credentials_at b)))

-- and so are the places up to the count
unfoldable pub shaped : List ℕ → Bool
shaped b = rest_is_free b && (owners_fit b && every process_fits (rows (count_in b) place_size (drop places_at b)))

-- ---- "or demand 3's rules on places, names, owners and sessions are broken"

-- its owner is provisioned; the session of an active one is open with version 1.0
unfoldable pub is_owned : State → Process → Bool
is_owned st p = provisioned st p.credential && (not (is_active_in p.session p) || is_chosen (phase_of st p.session))

-- both are the active user process of one session and credential, or both the elevation of one session
unfoldable pub are_rivals : Process → Process → Bool
are_rivals p q =
    (is_user p.kind && is_active (UserOf p.session p.credential) q)
    || (is_elevation p.kind && is_active (ElevationIn p.session) q)

unfoldable pub are_apart : Process → Process → Bool
are_apart p q = not (are_rivals p q) && not (same_name p.name q.name)

unfoldable pub sound : State → Bool
sound st = every (is_owned st) (standing st.table) && pairwise are_apart (standing st.table)

unfoldable pub holds_state : List ℕ → Bool
holds_state b = shaped b && sound (state_of b)
