-- The history of document 01's calls: each with the number that it was answered. It says nothing of a state.
use Rattle.std.specs.Prelude.{ℕ, ◌≡◌, Bool, cond, List, [], ◌∷◌, length}
use Rattle.names.specs.Names.{same_name}
use Rattle.names.specs.declared.Credential.{Credential}
use Rattle.names.specs.declared.Name.{Name}
use Rattle.names.specs.declared.Session.{Session}
use Rattle.module_state.specs.Module.{provisioned}
use Rattle.module_state.specs.declared.State.{State}
use Rattle.calls.specs.Calls.{Call, Open, Close, Drop, Select, Start, Continue, Elevate, End, Record, ListProcesses, Kill, SetWord, protection, answer_number, outcome}
use Rattle.calls.specs.Run.{step}
use Rattle.history.specs.Lives.{Life, Gone, Live, Raised, SavedBy, same_session, is_user_of, Event}

-- ---- what becomes of the process of a name by an accepted call, its claim counted. An active one stands in session t and is credential d's

-- an end: "then the process is saved, or removed when not kept"
unfoldable pub ends : Session → Credential → Bool → Life → Life
ends s c keep Gone = Gone
ends s c keep (Live t d ns) = cond (is_user_of s c t d) (cond keep (SavedBy d ns) Gone) (Live t d ns)
ends s c keep (Raised t d) = Raised t d
ends s c keep (SavedBy d ns) = SavedBy d ns

-- a close: "the session's active processes are removed; saved ones stay"
unfoldable pub shuts : Session → Life → Life
shuts s Gone = Gone
shuts s (Live t d ns) = cond (same_session s t) Gone (Live t d ns)
shuts s (Raised t d) = cond (same_session s t) Gone (Raised t d)
shuts s (SavedBy d ns) = SavedBy d ns

-- a drop: "removes the elevation"
unfoldable pub drops : Session → Life → Life
drops s Gone = Gone
drops s (Live t d ns) = Live t d ns
drops s (Raised t d) = cond (same_session s t) Gone (Raised t d)
drops s (SavedBy d ns) = SavedBy d ns

-- a continue: "The process becomes active in that session, .. with its old next number."
unfoldable pub resumes : Session → Life → Life
resumes s Gone = Gone
resumes s (Live t d ns) = Live t d ns
resumes s (Raised t d) = Raised t d
resumes s (SavedBy d ns) = Live s d ns

unfoldable pub after : Call → Name → Life → Life
after (Open s) name life = life
after (Close s) name life = shuts s life
after (Select s byte) name life = life
after (Start s c new) name life = cond (same_name new name) (Live s c []) life
after (Continue s c old) name life = cond (same_name old name) (resumes s life) life
after (Elevate s c new verdict) name life = cond (same_name new name) (Raised s c) life
after (Drop s) name life = drops s life
after (End s u keep) name life = ends s u.credential keep life
after (Record s claim class) name life = life
after (ListProcesses s claim wanted room) name life = life
after (Kill s claim old) name life = cond (same_name old name) Gone life
after (SetWord s claim c words) name life = life

-- ---- the history

-- a call and the number that it was answered
abbrev pub event_of : Call → ℕ → Event
event_of call n = record { answered = n; claim = protection call; after = after call }

-- calls and the numbers that they were answered
abbrev pub events_of : List Call → List ℕ → List Event
events_of [] ns = []
events_of (call ∷ calls) [] = []
events_of (call ∷ calls) (n ∷ ns) = event_of call n ∷ events_of calls ns

-- a call on a state
abbrev pub event : State → Call → Event
event st call = event_of call (answer_number (outcome st call).answer)

-- what calls on a state are answered
unfoldable pub history : State → List Call → List Event
history st [] = []
history st (call ∷ calls) = event st call ∷ history (step st call) calls

-- ---- none of these calls provisions a credential, or takes one away
pub record SameOwners (before after : State) : Type 0 where
  pub as_many : length after.credentials ≡ length before.credentials
  pub same : (c : Credential) → provisioned after c ≡ provisioned before c
