-- "The claim": its check, once for all protected calls. It is defined on what a state tells of a claim, so that one check serves wherever the state lies
use Rattle.std.specs.Prelude.{ℕ, Bool, true, false, cond, not, ◌&&◌, eqb, Option, Some, None}
use Rattle.names.specs.declared.Credential.{Credential}
use Rattle.names.specs.declared.Session.{Session}
use Rattle.table.specs.Table.{free_place, process_at, found_place, find_active}
use Rattle.table.specs.declared.Active.{Active}
use Rattle.table.specs.declared.Active.TheVariants.{UserOf, ElevationIn}
use Rattle.table.specs.declared.Process.{Process}
use Rattle.table.specs.declared.Table.{Table}
use Rattle.module_state.specs.declared.Checked.{Checked}
use Rattle.module_state.specs.declared.Claim.{Claim}
use Rattle.module_state.specs.declared.Claim.TheVariants.{Elevated, ByUser}
use Rattle.module_state.specs.declared.ClaimView.{ClaimView}
use Rattle.module_state.specs.declared.Class.{Class}
use Rattle.module_state.specs.declared.Lookup.{Lookup}
use Rattle.module_state.specs.declared.Lookup.TheVariants.{NotGranted, Granted, OnlyElevated}
use Rattle.module_state.specs.declared.Phase.{Phase}
use Rattle.module_state.specs.declared.Placed.{Placed}
use Rattle.module_state.specs.declared.State.{State}
use Rattle.module_state.specs.declared.UserClaim.{UserClaim}
use Rattle.module_state.specs.Numbers as No
use Rattle.module_state.specs.Numbers.{◌when◌, ◌unless◌, ◌▸◌}
use Rattle.module_state.specs.Module.{is_session, phase_of, is_closed, is_chosen, is_credential, grants_of, lookup, active_process}

-- "Argument errors (1) come first everywhere, then session (2). All but open, close and select then check 3."
unfoldable pub phase_number : Session → Phase → ℕ
phase_number s phase =
    No.argument unless is_session s
    ▸ No.session when is_closed phase
    ▸ No.no_version unless is_chosen phase

unfoldable pub entered : State → Session → ℕ
entered st s = phase_number s (phase_of st s)

-- ---- what a state tells of a claim

-- the active process under which a claim is made: that credential's active user process in that session, or the session's active elevation
unfoldable pub sought : Session → Claim → Active
sought s Elevated = ElevationIn s
sought s (ByUser u) = UserOf s u.credential

-- whom a claim speaks for, the owner of that process given: "the credential is that process's"; a user claim names its own
abbrev pub speaks_for : Claim → Credential → Credential
speaks_for Elevated owner = owner
speaks_for (ByUser u) owner = u.credential

unfoldable pub speaker : State → Session → Claim → Credential
speaker st s claim = speaks_for claim (active_process st (sought s claim)).credential

-- the process that a search of a table found; a free place where it found none
unfoldable pub process_found : Table → Option ℕ → Process
process_found t (Some at) = process_at t at
process_found t None = free_place

-- all that the check asks
unfoldable pub claim_view : State → Session → Claim → ClaimView
claim_view st s claim =
    record {
      phase = phase_of st s;
      found = find_active st.table (sought s claim);
      next = (active_process st (sought s claim)).next;
      credential = speaker st s claim;
      grants = grants_of st (speaker st s claim);
    }

-- ---- the check

-- an elevated claim has no credential that could be out of range
unfoldable pub is_in_range : Claim → Bool
is_in_range Elevated = true
is_in_range (ByUser u) = is_credential u.credential

abbrev pub is_found : Option ℕ → Bool
is_found (Some at) = true
is_found None = false

-- "So numbers 0 to 65,534 can be accepted."
unfoldable pub is_spent : ℕ → Bool
is_spent next = eqb next 65535

-- "13; 9; 8": what that process's next number and the claim say
unfoldable pub turn_number : ℕ → UserClaim → ℕ
turn_number next u =
    No.spent when is_spent next
    ▸ No.out_of_turn unless eqb u.number next
    ▸ No.verdict unless u.verdict

-- "Check of a claim, in this order. Elevated: 6 unless the session has an active elevation .. User: 5; 6 unless that credential has an active user process in
-- that session; 13; 9; 8."
unfoldable pub claim_number : Claim → ClaimView → ℕ
claim_number Elevated view = No.no_process unless is_found view.found
claim_number (ByUser u) view =
    No.credential unless view.grants.provisioned
    ▸ No.no_process unless is_found view.found
    ▸ turn_number view.next u

-- what every protected call begins with
unfoldable pub check_number : Session → Claim → ClaimView → ℕ
check_number s claim view =
    No.argument unless is_in_range claim
    ▸ phase_number s view.phase
    ▸ claim_number claim view

-- the number of tests that find a process, and its place where that is 0
unfoldable pub placed : ℕ → ℕ → Placed
placed n at = record { number = n; place = cond (eqb n No.done) at 0 }

-- what the check hands on: its number; the place of the claim's process and its next number, whom the claim speaks for, and what that credential is granted
unfoldable pub check_of : Session → Claim → ClaimView → Checked
unfolding placed
check_of s claim view =
    record {
      claim = claim;
      number = check_number s claim view;
      place = (placed (check_number s claim view) (found_place 0 view.found)).place;
      next = view.next;
      credential = view.credential;
      grants = view.grants;
    }

unfoldable pub checked : State → Session → Claim → Checked
checked st s claim = check_of s claim (claim_view st s claim)

-- the number of the check, on a state
unfoldable pub admitted : State → Session → Claim → ℕ
admitted st s claim = (checked st s claim).number

-- ---- the number of each answer of the grant lookup, for a claim. 10, "not granted", is given on "class bit clear"; 18 "when a user claim gets the third answer".
-- Nothing else says 10 or 18
unfoldable pub lookup_number : Claim → Lookup → ℕ
lookup_number claim NotGranted = No.not_granted
lookup_number claim Granted = No.done
lookup_number Elevated OnlyElevated = No.done
lookup_number (ByUser u) OnlyElevated = No.only_elevated

-- the test that a class is granted, by what the check of a claim came to
unfoldable pub grant_number : Checked → Class → ℕ
grant_number by class = lookup_number by.claim (lookup by.grants class)

-- ---- whether a claim passed its check, by what that came to and the number of its call: ahead of a claim a call is refused with 1 alone, and after it never
unfoldable pub passed_by : Checked → ℕ → Bool
passed_by by n = eqb by.number No.done && not (eqb n No.argument)
