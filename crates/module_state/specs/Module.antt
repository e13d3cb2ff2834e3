-- "What the module holds"
use Rattle.std.specs.Prelude.{ℕ, ◌/◌, ◌%◌, ◌^◌, ◌+◌, ◌*◌, Bool, true, false, cond, ◌&&◌, List, eqb, leb, get_or, replicate}
use Rattle.lists.specs.Lists.{any, first_index}
use Rattle.names.specs.declared.Credential.{Credential}
use Rattle.names.specs.declared.Session.{Session}
use Rattle.table.specs.Table.{standing, process_at, is_active}
use Rattle.table.specs.declared.Active.{Active}
use Rattle.table.specs.declared.Process.{Process}
use Rattle.table.specs.declared.Table.{Table}
use Rattle.module_state.specs.declared.Class.{Class}
use Rattle.module_state.specs.declared.Grants.{Grants}
use Rattle.module_state.specs.declared.Handle.{Handle}
use Rattle.module_state.specs.declared.Lookup.{Lookup}
use Rattle.module_state.specs.declared.Lookup.TheVariants.{NotGranted, Granted, OnlyElevated}
use Rattle.module_state.specs.declared.Phase.{Phase}
use Rattle.module_state.specs.declared.Phase.TheVariants.{Closed, Opened, Chosen}
use Rattle.module_state.specs.declared.Port.{Port}
use Rattle.module_state.specs.declared.SessionState.{SessionState}
use Rattle.module_state.specs.declared.State.{State}
use Rattle.module_state.specs.declared.Words.{Words}

-- ---- "Four sessions, handles 0 to 3. Each is closed, or open without a version, or open with version 1.0." Order 10: "Each port has its own four sessions";
-- "Each call names its port, 0 or 1."
abbrev pub last_port : ℕ
last_port = 1

abbrev pub last_handle : ℕ
last_handle = 3

abbrev pub handle_count : ℕ
handle_count = last_handle + 1

-- "handle over 3"; "a port over 1 is 1"
unfoldable pub is_port : Port → Bool
is_port port = leb port.0 last_port

unfoldable pub is_handle : Handle → Bool
is_handle handle = leb handle.0 last_handle

-- "Demands 2 and 3 are read with port and session together": wherever document 01 says session, it is the session of a port. Its slot, 4 × port + handle, stands
-- for the two: those of port 0 are 0 to 3, those of port 1 are 4 to 7
abbrev pub slot : ℕ → ℕ → ℕ
slot port handle = port * handle_count + handle

abbrev pub last_session : ℕ
last_session = slot last_port last_handle

abbrev pub session_count : ℕ
session_count = last_session + 1

unfoldable pub is_session : Session → Bool
is_session s = leb s.0 last_session

-- what is no port, or no handle of a port, has none
abbrev pub no_slot : ℕ
no_slot = 255

unfoldable pub slot_of : Port → Handle → Session
slot_of port handle = record { 0 = cond (is_port port && is_handle handle) (slot port.0 handle.0) no_slot }

-- and back: the port and the handle of a session
unfoldable pub port_of : Session → Port
port_of s = record { 0 = s.0 / handle_count }

unfoldable pub handle_of : Session → Handle
handle_of s = record { 0 = s.0 % handle_count }

abbrev pub closed_session : SessionState
closed_session = record { phase = Closed }

unfoldable pub phase_of : State → Session → Phase
phase_of st s = (get_or st.sessions s.0 closed_session).phase

unfoldable pub is_closed : Phase → Bool
is_closed Closed = true
is_closed Opened = false
is_closed Chosen = false

unfoldable pub is_chosen : Phase → Bool
is_chosen Closed = false
is_chosen Opened = false
is_chosen Chosen = true

-- ---- "Eight credentials, 0 to 7. Each is provisioned or not, and has a grant word of 32 bits; bit k grants class k." Order 7: "Give
-- each credential a second 32-bit word."
abbrev pub last_credential : ℕ
last_credential = 7

abbrev pub credential_count : ℕ
credential_count = last_credential + 1

unfoldable pub is_credential : Credential → Bool
is_credential c = leb c.0 last_credential

-- the bytes of a word
abbrev pub word_size : ℕ
word_size = 4

abbrev pub both_words : ℕ → ℕ → Words
both_words grant second = record { grant = grant; second = second }

abbrev pub no_words : Words
no_words = both_words 0 0

abbrev pub granted : Words → Grants
granted words = record { provisioned = true; words = words }

abbrev pub unprovisioned : Grants
unprovisioned = record { provisioned = false; words = no_words }

-- "an unprovisioned credential's word is taken as zero", and so is its second word
unfoldable pub words_of : Grants → Words
words_of g = cond g.provisioned g.words no_words

unfoldable pub taken : Grants → Grants
taken g = record { provisioned = g.provisioned; words = words_of g }

unfoldable pub grants_of : State → Credential → Grants
grants_of st c = get_or st.credentials c.0 unprovisioned

unfoldable pub provisioned : State → Credential → Bool
unfolding grants_of
provisioned st c = (grants_of st c).provisioned

-- bit k of a word is set, for class k
unfoldable pub has_bit : ℕ → Class → Bool
has_bit word class = leb class.0 31 && eqb (word / 2 ^ class.0 % 2) 1

-- "The grant lookup then has three answers: no, yes, only under elevation. The last is given when both bits are set."
unfoldable pub lookup : Grants → Class → Lookup
lookup grants class =
    cond (has_bit grants.words.grant class)
    (cond (has_bit grants.words.second class) OnlyElevated Granted)
    NotGranted

-- ---- "all sessions closed": a module with these credentials and this table
abbrev pub closed_module : List Grants → Table → State
closed_module credentials t = record { sessions = replicate session_count closed_session; credentials = credentials; table = t }

-- ---- the table's active processes: whether there is one; its place, and itself
unfoldable pub has_active : State → Active → Bool
has_active st which = any (is_active which) (standing st.table)

unfoldable pub active_place : State → Active → ℕ
active_place st which = first_index (is_active which) (standing st.table)

unfoldable pub active_process : State → Active → Process
active_process st which = process_at st.table (active_place st which)
