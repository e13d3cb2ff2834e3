-- What worked sequences are written in: document 01's names and credentials, and steps, each a call and the number that it has to be answered.
-- Assumes nothing.
use Prim.Native.Nat.{ℕ}
use mathlib.Core.Path.{◌≡◌}
use mathlib.Core.Bool.{true, false}
use mathlib.Core.List.{List, [], ◌∷◌, ◌++◌, map}
use lib.ListN.{replicate}
use Rattle.lists.specs.Lists.{any, first_index, reject, select, join, remove_at, padded}
use Rattle.rows.specs.Bytes.{bytes_of}
use Rattle.names.proofs.Examples as Names
use Rattle.names.specs.Names.{same_bytes, same_name}
use Rattle.names.specs.declared.Credential.{Credential}
use Rattle.names.specs.declared.Name.{Name}
use Rattle.names.specs.declared.Session.{Session}
use Rattle.table.specs.Table.{standing, size, table_of, process_at, first_place, is_active, is_active_in, is_among, is_named, appended, replaced, removed, without_session}
use Rattle.module_state.specs.Numbers.{◌when◌, ◌unless◌, ◌▸◌}
use Rattle.module_state.specs.Module.{is_port, is_handle, is_session, slot_of, phase_of, is_closed, is_chosen, is_credential, grants_of, both_words, granted, unprovisioned, words_of, provisioned, has_bit, lookup, has_active, active_place, active_process, taken}
use Rattle.module_state.specs.Claim.{phase_number, entered, sought, speaker, claim_view, is_in_range, is_spent, turn_number, claim_number, check_number, placed, check_of, checked, admitted, lookup_number, grant_number}
use Rattle.module_state.specs.declared.Claim.{Claim}
use Rattle.module_state.specs.declared.Claim.TheVariants.{ByUser}
use Rattle.module_state.specs.declared.Class.{Class}
use Rattle.module_state.specs.declared.Grants.{Grants}
use Rattle.module_state.specs.declared.State.{State}
use Rattle.module_state.specs.declared.UserClaim.{UserClaim}
use Rattle.module_state.specs.declared.Words.{Words}
use Rattle.calls.specs.Listing.{rows_of, message_length, listing}
use Rattle.calls.specs.Calls.{Call, is_device, is_version, is_wanted, is_full, has_named, named_place, is_own, is_short, reach, end_tests, record_tests, list_tests, kill_tests, set_word_tests, tests, asked, number_under, number, counted, ended, effect, protection, ahead_number, protected_number, passes, refused_after, charged, left, refusal, outcome, fresh}
use Rattle.calls.specs.Run.{step, run, numbers}

-- "P is 16 zero bytes then 32 of 0x11; Q is 16 zero bytes then 32 of 0x22; R is P with its last byte 0x12."
abbrev pub P : Name
P = record { bytes = Names.P }

abbrev pub Q : Name
Q = record { bytes = Names.Q }

abbrev pub R : Name
R = record { bytes = Names.R }

-- a grant word, with no class that is granted only under elevation
abbrev pub plain : ℕ → Words
plain word = both_words word 0

-- "Credentials 0 (word 15) and 1 (word 16) are provisioned."
abbrev pub pairs : List Grants
pairs = granted (plain 15) ∷ granted (plain 16) ∷ replicate 6 unprovisioned

-- 47 zero bytes, then n
abbrev pub name : ℕ → Name
name n = record { bytes = replicate 47 0 ++ (n ∷ []) }

-- a session of a port, by its handle. Document 01's are those of port 0
abbrev pub of : ℕ → ℕ → Session
of port handle = slot_of (record { 0 = port }) (record { 0 = handle })

abbrev pub session : ℕ → Session
session handle = of 0 handle

abbrev pub credential : ℕ → Credential
credential n = record { 0 = n }

abbrev pub class : ℕ → Class
class n = record { 0 = n }

-- a user claim of a credential with a number, the verdict a yes or a no
abbrev pub user_yes : ℕ → ℕ → UserClaim
user_yes c n = record { credential = credential c; number = n; verdict = true }

abbrev pub user_no : ℕ → ℕ → UserClaim
user_no c n = record { credential = credential c; number = n; verdict = false }

abbrev pub yes' : ℕ → ℕ → Claim
yes' c n = ByUser (user_yes c n)

abbrev pub no' : ℕ → ℕ → Claim
no' c n = ByUser (user_no c n)

-- a call, and the number that it has to be answered
pub record Step : Type 0 where
  pub call : Call
  pub answer : ℕ

infix 5 ◌⇒◌
abbrev pub ◌⇒◌ : Call → ℕ → Step
call ⇒ n = record { call = call; answer = n }

abbrev pub calls_of : List Step → List Call
calls_of = map (λ (s : Step). s.call)

abbrev answers_of : List Step → List ℕ
answers_of = map (λ (s : Step). s.answer)

-- the calls, made one after another from a state on, are answered these numbers
abbrev pub Answered : State → List Step → Type 0
Answered st steps = numbers st (calls_of steps) ≡ answers_of steps

-- the state after them
abbrev pub after : State → List Step → State
after st steps = run st (calls_of steps)

-- all that a worked sequence computes with: who says `unfolding computed` has it open
unfoldable pub computed : Type 1
unfolding any first_index reject select join remove_at padded bytes_of same_bytes same_name standing size table_of process_at first_place is_active is_active_in is_among is_named appended replaced removed without_session ◌when◌ ◌unless◌ ◌▸◌ is_port is_handle is_session slot_of phase_of is_closed is_chosen is_credential grants_of provisioned words_of has_bit lookup has_active active_place active_process phase_number entered sought speaker claim_view is_in_range is_spent turn_number claim_number check_number placed check_of checked admitted lookup_number grant_number rows_of message_length listing is_device is_version is_wanted is_full has_named named_place is_own is_short reach end_tests record_tests list_tests kill_tests set_word_tests tests asked number_under number counted ended effect protection ahead_number protected_number passes refused_after charged left refusal outcome taken fresh step run numbers
computed = Type 0
