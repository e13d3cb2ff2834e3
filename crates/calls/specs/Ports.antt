-- Order 10, "A second management port": what a call leaves as it was of the sessions that it does not name, those of the other port among them.
use Rattle.std.specs.Prelude.{◌≡◌, Bool, true, false, not, ◌&&◌, List, eqb}
use Rattle.lists.specs.Lists.{select}
use Rattle.names.specs.declared.Session.{Session}
use Rattle.table.specs.Table.{standing, is_active_in, is_named}
use Rattle.table.specs.declared.Among.TheVariants.{All}
use Rattle.table.specs.declared.Process.{Process}
use Rattle.module_state.specs.Module.{port_of, phase_of}
use Rattle.module_state.specs.declared.Port.{Port}
use Rattle.module_state.specs.declared.State.{State}
use Rattle.calls.specs.Calls.{Call, Open, Close, Drop, Select, Start, Continue, Elevate, End, Record, ListProcesses, Kill, SetWord}

-- ---- sessions

-- "Each call names its port, 0 or 1": the session that a call names, port and handle together
unfoldable pub session_in : Call → Session
session_in (Open s) = s
session_in (Close s) = s
session_in (Drop s) = s
session_in (Select s byte) = s
session_in (Start s c name) = s
session_in (Continue s c name) = s
session_in (Elevate s c name verdict) = s
session_in (End s u keep) = s
session_in (Record s claim class) = s
session_in (ListProcesses s claim wanted room) = s
session_in (Kill s claim name) = s
session_in (SetWord s claim c words) = s

-- "Each port has its own four sessions": one of a port's; and one other than a session
unfoldable pub is_on : Port → Session → Bool
is_on port s = eqb (port_of s).0 port.0

unfoldable pub is_other : Session → Session → Bool
is_other s t = not (eqb t.0 s.0)

-- ---- "process table, credentials and words are shared": by these a call on one port reaches the other

-- a process is active, as either, and in one of those sessions; all such processes, in the table's order
unfoldable pub is_active_of : (Session → Bool) → Process → Bool
is_active_of which p = is_active_in p.session p && which p.session

unfoldable pub active_of : (Session → Bool) → State → List Process
active_of which st = select (is_active_of which) (standing st.table)

-- a kill finds a name wherever the process is active: it spares those that do not have it. Every other call spares all
unfoldable pub spares : Call → Process → Bool
spares (Open s) p = true
spares (Close s) p = true
spares (Drop s) p = true
spares (Select s byte) p = true
spares (Start s c name) p = true
spares (Continue s c name) p = true
spares (Elevate s c name verdict) p = true
spares (End s u keep) p = true
spares (Record s claim class) p = true
spares (ListProcesses s claim wanted room) p = true
spares (Kill s claim name) p = not (is_named name All p)
spares (SetWord s claim c words) p = true

-- a credential's words are set for both ports
unfoldable pub sets_words : Call → Bool
sets_words (Open s) = false
sets_words (Close s) = false
sets_words (Drop s) = false
sets_words (Select s byte) = false
sets_words (Start s c name) = false
sets_words (Continue s c name) = false
sets_words (Elevate s c name verdict) = false
sets_words (End s u keep) = false
sets_words (Record s claim class) = false
sets_words (ListProcesses s claim wanted room) = false
sets_words (Kill s claim name) = false
sets_words (SetWord s claim c words) = true

-- ---- those sessions are, after a call, what they were
pub record Untouched (which : Session → Bool) (call : Call) (before after : State) : Type 0 where
  -- each is closed, open without a version or open with one, as before
  pub phases : (s : Session) → which s ≡ true → phase_of after s ≡ phase_of before s
  -- the same processes are active in them, each with all its fields, in the same order, but for one that a kill names
  pub processes : select (spares call) (active_of which after) ≡ select (spares call) (active_of which before)
  -- the credentials and their words are the same, but for what set word sets
  pub grants : sets_words call ≡ false → after.credentials ≡ before.credentials
