-- "Calls, with the order of their checks": of each call the tests in their order, each with its number, and what it does where none holds
use Rattle.std.specs.Prelude.{ℕ, ◌+◌, Bool, true, false, cond, not, ◌&&◌, List, [], map, eqb, ltb, leb, length, set, Result, Ok, Err}
use Rattle.lists.specs.Lists.{any, first_index}
use Rattle.names.specs.declared.Credential.{Credential}
use Rattle.names.specs.declared.Kind.TheVariants.{User, Elevation, Saved}
use Rattle.names.specs.declared.Name.{Name}
use Rattle.names.specs.declared.Session.{Session}
use Rattle.table.specs.Table.{places, standing, size, table_of, process_at, is_named, appended, replaced, removed, without_session}
use Rattle.table.specs.declared.Active.TheVariants.{UserOf, ElevationIn}
use Rattle.table.specs.declared.Among.{Among}
use Rattle.table.specs.declared.Among.TheVariants.{All, Of, SavedOf}
use Rattle.table.specs.declared.Process.{Process}
use Rattle.table.specs.declared.Table.{Table}
use Rattle.module_state.specs.Numbers as No
use Rattle.module_state.specs.Numbers.{◌when◌, ◌unless◌, ◌▸◌}
use Rattle.module_state.specs.Module.{is_session, phase_of, is_closed, is_credential, provisioned, taken, granted, closed_module, has_active, active_place, active_process}
use Rattle.module_state.specs.Claim.{entered, checked, admitted, grant_number}
use Rattle.module_state.specs.Refusals.{number_of}
use Rattle.module_state.specs.declared.Checked.{Checked}
use Rattle.module_state.specs.declared.Claim.{Claim}
use Rattle.module_state.specs.declared.Claim.TheVariants.{Elevated, ByUser}
use Rattle.module_state.specs.declared.Class.{Class}
use Rattle.module_state.specs.declared.Grants.{Grants}
use Rattle.module_state.specs.declared.Phase.{Phase}
use Rattle.module_state.specs.declared.Phase.TheVariants.{Closed, Opened, Chosen}
use Rattle.module_state.specs.declared.Refusal.{Refusal}
use Rattle.module_state.specs.declared.State.{State}
use Rattle.module_state.specs.declared.UserClaim.{UserClaim}
use Rattle.module_state.specs.declared.Words.{Words}
use Rattle.calls.specs.declared.Answer.{Answer}
use Rattle.calls.specs.declared.Answer.TheVariants.{Done, Refused, RefusedClaim}
use Rattle.calls.specs.declared.Listed.{Listed}
use Rattle.calls.specs.declared.Measured.{Measured}
use Rattle.calls.specs.declared.Outcome.{Outcome}
use Rattle.calls.specs.declared.Wanted.{Wanted}
use Rattle.calls.specs.declared.Wanted.TheVariants.{Every, Only}
use Rattle.calls.specs.Listing.{rows_of, message_length}

-- the calls, with their arguments in the page's order. A listing also has the room of the response
pub data Call : Type 0 where
  Open Close Drop : Session → Call
  Select : Session → ℕ → Call
  Start Continue : Session → Credential → Name → Call
  Elevate : Session → Credential → Name → Bool → Call
  End : Session → UserClaim → Bool → Call
  Record : Session → Claim → Class → Call
  ListProcesses : Session → Claim → Wanted → ℕ → Call
  Kill : Session → Claim → Name → Call
  SetWord : Session → Claim → Credential → Words → Call

-- ---- what the tests ask

-- "Classes (ours): 0 list other credentials' processes; 1 kill other credentials' processes; 2 save one's own; 3 set grant words; 4 to 31
-- device operations."
abbrev pub list_others : Class
list_others = record { 0 = 0 }

abbrev pub kill_others : Class
kill_others = record { 0 = 1 }

abbrev pub save_own : Class
save_own = record { 0 = 2 }

abbrev pub set_words : Class
set_words = record { 0 = 3 }

-- "class of a record under 4 or over 31" is an argument error
unfoldable pub is_device : Class → Bool
is_device class = leb 4 class.0 && leb class.0 31

-- "a version byte other than 0x10"
unfoldable pub is_version : ℕ → Bool
is_version byte = eqb byte 0x10

-- "credential over 7 (65535 is allowed as the wanted credential of a listing)"
unfoldable pub is_wanted : Wanted → Bool
is_wanted Every = true
is_wanted (Only c) = is_credential c

-- "12 processes stand"
unfoldable pub is_full : State → Bool
is_full st = leb places (size st.table)

-- a process has the name, among those; and where the first stands
unfoldable pub has_named : State → Name → Among → Bool
has_named st name among = any (is_named name among) (standing st.table)

unfoldable pub named_place : State → Name → Among → ℕ
named_place st name among = first_index (is_named name among) (standing st.table)

-- "a credential may always list its own"
unfoldable pub is_own : Credential → Wanted → Bool
is_own c Every = false
is_own c (Only wanted) = eqb wanted.0 c.0

-- "response buffer too short"
unfoldable pub is_short : State → Wanted → ℕ → Bool
is_short st wanted room = ltb room (message_length (length (rows_of st wanted)))

-- "It may kill its own credential's processes of every type, and all when class 1 is granted." Order 7: "in kill a class 1 marked so gives a user claim no reach
-- beyond its own processes"
unfoldable pub reach : Checked → Among
reach by = cond (eqb (grant_number by kill_others) No.done) All (Of by.credential)

-- ---- "A protected call carries a claim.": the claim of a call, with the session in which it is made
pub data Protection : Type 0 where
  Free : Protection
  Under : Session → Claim → Protection

unfoldable pub protection : Call → Protection
protection (Open s) = Free
protection (Close s) = Free
protection (Drop s) = Free
protection (Select s byte) = Free
protection (Start s c name) = Free
protection (Continue s c name) = Free
protection (Elevate s c name verdict) = Free
protection (End s u keep) = Under s (ByUser u)
protection (Record s claim class) = Under s claim
protection (ListProcesses s claim wanted room) = Under s claim
protection (Kill s claim name) = Under s claim
protection (SetWord s claim c words) = Under s claim

-- ---- the tests of a call, in the page's order: those ahead of the check of its claim, and those after it by what the check hands on; all are ahead where it
-- carries none
pub record Tests : Type 0 where
  pub ahead : ℕ
  pub after : Checked → ℕ

infix 15 ◌▸claim▸◌
abbrev pub ◌▸claim▸◌ : ℕ → (Checked → ℕ) → Tests
n ▸claim▸ after = record { ahead = n; after = after }

abbrev pub alone : ℕ → Tests
alone n = n ▸claim▸ λ by. No.done

-- Order 7: "Refusals: 18 when a user claim gets the third answer, directly after 10". Wherever 10 is asked below, `grant_number` answers either

-- "End (session, user claim, keep): claim; 10 if keep and class 2 is clear."
unfoldable pub end_tests : Bool → Tests
end_tests keep = No.done ▸claim▸ λ by. grant_number by save_own when keep

-- "Record (session, claim, class): claim; 10."
unfoldable pub record_tests : Class → Tests
record_tests class =
    No.argument unless is_device class
    ▸claim▸ λ by. grant_number by class

-- "List (session, claim, wanted): claim; 10 if wanted differs from the claim's credential and class 0 is clear ..; 15."
unfoldable pub list_tests : State → Wanted → ℕ → Tests
list_tests st wanted room =
    No.argument unless is_wanted wanted
    ▸claim▸ λ by.
    grant_number by list_others unless is_own by.credential wanted
    ▸ No.room when is_short st wanted room

-- "Kill (session, claim, name): claim; 6 if no process that this claim may kill has the name."
unfoldable pub kill_tests : State → Name → Tests
kill_tests st name = No.done ▸claim▸ λ by. No.no_process unless has_named st name (reach by)

-- "Set word (session, claim, credential, word): claim; 10 by class 3; 5." Order 7: "Set word sets both words"
unfoldable pub set_word_tests : State → Credential → Tests
set_word_tests st c =
    No.argument unless is_credential c
    ▸claim▸ λ by.
    grant_number by set_words
    ▸ No.credential unless provisioned st c

unfoldable pub tests : State → Call → Tests
tests st (Open s) =
    alone
    (No.argument unless is_session s
    ▸ No.session unless is_closed (phase_of st s))
tests st (Close s) =
    alone
    (No.argument unless is_session s
    ▸ No.session when is_closed (phase_of st s))
tests st (Select s byte) =
    alone
    (No.argument unless is_session s
    ▸ No.session when is_closed (phase_of st s)
    ▸ No.version unless is_version byte)
tests st (Start s c name) =
    alone
    (No.argument unless is_credential c
    ▸ entered st s
    ▸ No.credential unless provisioned st c
    ▸ No.already_active when has_active st (UserOf s c)
    ▸ No.name_taken when has_named st name All
    ▸ No.full when is_full st)
tests st (Continue s c name) =
    alone
    (No.argument unless is_credential c
    ▸ entered st s
    ▸ No.credential unless provisioned st c
    ▸ No.no_process unless has_named st name (SavedOf c)
    ▸ No.already_active when has_active st (UserOf s c))
tests st (Elevate s c name verdict) =
    alone
    (No.argument unless is_credential c
    ▸ entered st s
    ▸ No.credential unless provisioned st c
    ▸ No.verdict unless verdict
    ▸ No.already_active when has_active st (ElevationIn s)
    ▸ No.name_taken when has_named st name All
    ▸ No.full when is_full st)
tests st (Drop s) =
    alone
    (entered st s
    ▸ No.no_process unless has_active st (ElevationIn s))
tests st (End s u keep) = end_tests keep
tests st (Record s claim class) = record_tests class
tests st (ListProcesses s claim wanted room) = list_tests st wanted room
tests st (Kill s claim name) = kill_tests st name
tests st (SetWord s claim c words) = set_word_tests st c

-- ---- the number: that of the first test that holds, 0 where none does

-- of a protected call, by what the check of its claim came to
unfoldable pub asked : Tests → Checked → ℕ
asked t by = t.ahead ▸ by.number ▸ t.after by

unfoldable pub number_under : State → Protection → Tests → ℕ
number_under st Free t = t.ahead
number_under st (Under s claim) t = asked t (checked st s claim)

-- who opens it has the tests open too
unfoldable pub number : State → Call → ℕ
unfolding protection tests number_under
number st call = number_under st (protection call) (tests st call)

-- ---- what an accepted call does
abbrev pub with_table : State → Table → State
with_table st t = record { sessions = st.sessions; credentials = st.credentials; table = t }

abbrev pub with_phase : State → Session → Phase → State
with_phase st s phase = record { sessions = set st.sessions s.0 (record { phase = phase }); credentials = st.credentials; table = st.table }

abbrev pub with_grants : State → Credential → Grants → State
with_grants st c grants = record { sessions = st.sessions; credentials = set st.credentials c.0 grants; table = st.table }

-- "An elevation's next number, a saved process's session .. are kept zero."
abbrev pub user_process : Session → Credential → Name → Process
user_process s c name = record { credential = c; kind = User; session = s; next = 0; name = name }

abbrev pub elevation : Session → Credential → Name → Process
elevation s c name = record { credential = c; kind = Elevation; session = s; next = 0; name = name }

-- "The process becomes active in that session, in its old place and with its old next number."
abbrev pub activated : Session → Process → Process
activated s p = record { credential = p.credential; kind = User; session = s; next = p.next; name = p.name }

abbrev pub saved : Process → Process
saved p = record { credential = p.credential; kind = Saved; session = record { 0 = 0 }; next = p.next; name = p.name }

abbrev pub one_more : Process → Process
one_more p = record { credential = p.credential; kind = p.kind; session = p.session; next = p.next + 1; name = p.name }

-- "adds one to that process's next number". "Elevated claims have no number"
unfoldable pub counted : State → Session → Claim → State
counted st s Elevated = st
counted st s (ByUser u) =
    with_table st (replaced st.table (active_place st (UserOf s u.credential)) (one_more (active_process st (UserOf s u.credential))))

-- "then the process is saved, or removed when not kept": the process at a place
unfoldable pub ended : State → ℕ → Bool → State
ended st at true = with_table st (replaced st.table at (saved (process_at st.table at)))
ended st at false = with_table st (removed st.table at)

unfoldable pub effect : State → Call → State
effect st (Open s) = with_phase st s Opened
effect st (Close s) = with_phase (with_table st (without_session st.table s)) s Closed
effect st (Select s byte) = with_phase st s Chosen
effect st (Start s c name) = with_table st (appended st.table (user_process s c name))
effect st (Continue s c name) =
    with_table st
    (replaced st.table (named_place st name (SavedOf c)) (activated s (process_at st.table (named_place st name (SavedOf c)))))
effect st (Elevate s c name verdict) = with_table st (appended st.table (elevation s c name))
effect st (Drop s) = with_table st (removed st.table (active_place st (ElevationIn s)))
effect st (End s u keep) = ended (counted st s (ByUser u)) (active_place st (UserOf s u.credential)) keep
effect st (Record s claim class) = counted st s claim
effect st (ListProcesses s claim wanted room) = counted st s claim
effect st (Kill s claim name) =
    with_table (counted st s claim) (removed (counted st s claim).table (named_place st name (reach (checked st s claim))))
effect st (SetWord s claim c words) = with_grants (counted st s claim) c (granted words)

-- ---- the tests of a call up to its claim's

-- those ahead of it; all of them where there is no claim
unfoldable pub ahead_number : State → Call → ℕ
unfolding tests
ahead_number st call = (tests st call).ahead

-- the claim's
unfoldable pub protected_number : State → Protection → ℕ
protected_number st Free = No.done
protected_number st (Under s claim) = admitted st s claim

-- ---- what a refusal leaves. Order 3: "From now on a user claim that passes its check adds one even if the call is refused afterwards: by 5 in set word, 6 in
-- kill, 10, 15, or a refusal that a later order puts after the claim."

-- no test up to the claim's refuses the call
unfoldable pub passes : State → Call → Bool
passes st call = eqb (ahead_number st call ▸ protected_number st (protection call)) No.done

unfoldable pub refused_after : State → Call → Bool
refused_after st call = passes st call && not (eqb (number st call) No.done)

-- the claim counted, where there is one
unfoldable pub charged : State → Protection → State
charged st Free = st
charged st (Under s claim) = counted st s claim

-- '"A refusal leaves state as it was" then except[s] that one number'
unfoldable pub left : State → Call → State
left st call = cond (refused_after st call) (charged st (protection call)) st

-- ---- the outcome: the answer, and the next state

-- "A refusal of a protected call returns its number together with the claim it was given"
unfoldable pub refusal : Protection → ℕ → Answer
refusal Free n = Refused n
refusal (Under s claim) n = RefusedClaim n claim

-- the page's number of each case of an answer
abbrev pub answer_number : Answer → ℕ
answer_number Done = No.done
answer_number (Refused n) = n
answer_number (RefusedClaim n claim) = n

unfoldable pub outcome : State → Call → Outcome
outcome st call =
    cond (eqb (number st call) No.done)
    (record { state = effect st call; answer = Done })
    (record { state = left st call; answer = refusal (protection call) (number st call) })

-- "Returns the message's length; 0 on a refusal."
unfoldable pub measured : ℕ → ℕ → Measured
measured n length = record { number = n; length = cond (eqb n No.done) length 0 }

-- and as the code's tests answer it: the length, or why the call is refused
abbrev pub length_in : Result ℕ Refusal → ℕ
length_in (Ok length) = length
length_in (Err refusal) = 0

abbrev pub measured_in : Result ℕ Refusal → Measured
measured_in answer = record { number = number_of answer; length = length_in answer }

unfoldable pub listed : State → Session → Claim → Wanted → ℕ → Listed
unfolding measured
listed st s claim wanted room =
    record {
      outcome = outcome st (ListProcesses s claim wanted room);
      length = (measured (number st (ListProcesses s claim wanted room)) (message_length (length (rows_of st wanted)))).length;
    }

-- ---- "A fresh module is made from eight such pairs; an unprovisioned credential's word is taken as zero. It has all sessions closed and no
-- process."
unfoldable pub fresh : List Grants → State
fresh pairs = closed_module (map taken pairs) (table_of [])
