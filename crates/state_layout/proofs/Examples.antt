-- The layout, worked by hand: the state that docs/STATE.md draws, and what one changed byte of it breaks.
-- Assumes nothing.
use Prim.Native.Nat.{ℕ, ◌+◌, ◌-◌, ◌*◌}
use mathlib.Core.Path.{◌≡◌, refl}
use mathlib.Core.Bool.{Bool, true, false}
use mathlib.Core.List.{List, [], ◌∷◌, ◌++◌}
use lib.ListN.{length, replicate, set, take}
use Rattle.lists.specs.Lists.{join, padded}
use Rattle.rows.specs.Bytes.{bytes_of, number_of, number_at, byte_of}
use Rattle.rows.specs.Rows.{rows, every, pairwise}
use Rattle.names.proofs.Examples.{P, Q, R}
use Rattle.names.specs.Names.{same_bytes, same_name}
use Rattle.names.specs.declared.Kind.{Kind}
use Rattle.names.specs.declared.Kind.TheVariants.{User, Elevation, Saved}
use Rattle.table.specs.Table.{standing, table_of, is_active, is_active_in}
use Rattle.table.specs.declared.Process.{Process}
use Rattle.module_state.specs.Module.{last_session, closed_session, both_words, granted, unprovisioned, provisioned, phase_of, is_chosen}
use Rattle.module_state.specs.declared.Phase.TheVariants.{Opened, Chosen}
use Rattle.module_state.specs.declared.State.{State}
use Rattle.state_layout.specs.Layout.{flag_at, word_at, second_at, credential_size, owner_at, kind_at, session_at, next_at, name_at, place_size, sessions_at, credentials_at, count_at, places_at, state_length, session_bytes, session_from, session_fits, grants_bytes, grants_from, grants_fit, process_bytes, process_from, process_fits, count_in, places_in, state_bytes, nothing_held, state_of, is_owned, are_rivals, are_apart, sound, owners_fit, rest_is_free, shaped, holds_state}

-- all that an example computes with: who says `unfolding computed` has it open
unfoldable computed : Type 1
unfolding join padded bytes_of number_of number_at rows every pairwise same_bytes same_name standing table_of is_active is_active_in provisioned phase_of is_chosen byte_of session_bytes session_from session_fits grants_bytes grants_from grants_fit process_bytes process_from process_fits count_in places_in state_bytes state_of is_owned are_rivals are_apart sound owners_fit rest_is_free shaped holds_state
computed = Type 0

abbrev process : ℕ → Kind → ℕ → ℕ → List ℕ → Process
process c k s n name = record { credential = record { 0 = c }; kind = k; session = record { 0 = s }; next = n; name = record { bytes = name } }

-- sessions 0 and 1 of port 0 are open, 0 with version 1.0, and so is session 0 of port 1; credentials 0 (word 15) and 1 (word 16, second word 16) are provisioned.
-- P is credential 0's active user process in session 0 of port 0, its next number 3; Q is a saved one of credential 1, its next number 300; R is the elevation of
-- credential 1 in session 0 of port 1, whose slot is 4
abbrev drawn : State
drawn =
    record {
      sessions = record { phase = Chosen } ∷ record { phase = Opened } ∷ closed_session ∷ closed_session ∷ record { phase = Chosen } ∷ replicate 3 closed_session;
      credentials = granted (both_words 15 0) ∷ granted (both_words 16 16) ∷ replicate 6 unprovisioned;
      table = table_of (process 0 User 0 3 P ∷ process 1 Saved 0 300 Q ∷ process 1 Elevation 4 0 R ∷ []);
    }

abbrev bytes : List ℕ
bytes =
    -- at 0: the sessions of port 0, and at 4 those of port 1
    (2 ∷ 1 ∷ 0 ∷ 0 ∷ 2 ∷ 0 ∷ 0 ∷ 0 ∷ [])
    -- at 8: the credentials
    ++ ((1 ∷ 15 ∷ 0 ∷ 0 ∷ 0 ∷ 0 ∷ 0 ∷ 0 ∷ 0 ∷ [])
    ++ ((1 ∷ 16 ∷ 0 ∷ 0 ∷ 0 ∷ 16 ∷ 0 ∷ 0 ∷ 0 ∷ [])
    ++ (replicate 54 0
    -- at 80: the count
    ++ (3
    -- at 81, 134 and 187: the places that stand
    ∷ ((0 ∷ 0 ∷ 0 ∷ 0x03 ∷ 0x00 ∷ P)
    ++ ((1 ∷ 2 ∷ 0 ∷ 0x2c ∷ 0x01 ∷ Q)
    ++ ((1 ∷ 1 ∷ 4 ∷ 0x00 ∷ 0x00 ∷ R)
    -- from 240 to 716: the free places
    ++ replicate 477 0)))))))

pub record Drawn : Type 0 where
  pub written : state_bytes drawn ≡ bytes
  pub read : state_of bytes ≡ drawn
  pub long : length bytes ≡ 717
  pub held : holds_state bytes ≡ true
  pub nothing-held : holds_state (replicate state_length 0) ≡ true
  pub nothing_written : state_bytes nothing_held ≡ replicate state_length 0

pub drawn-is : Drawn
unfolding computed
drawn-is = record { written = refl; read = refl; long = refl; held = refl; nothing-held = refl; nothing_written = refl }

-- where a credential and a place begin, and the last byte of a place's name
abbrev credential : ℕ → ℕ
credential c = credentials_at + c * credential_size

abbrev place : ℕ → ℕ
place i = places_at + i * place_size

abbrev name_end : ℕ
name_end = name_at + 47

-- a byte changed: the place, and what it holds then
abbrev changed : ℕ → ℕ → Bool
changed at byte = holds_state (set bytes at byte)

-- the second place made the elevation of credential 1 in session 0 of port 0
abbrev elevated : List ℕ → List ℕ
elevated l = set (set (set l (place 1 + kind_at) 1) (place 1 + next_at) 0) (place 1 + next_at + 1) 0

pub record Refused : Type 0 where
  -- "its length is another"
  pub short : holds_state (take (state_length - 1) bytes) ≡ false
  pub long : holds_state (bytes ++ (0 ∷ [])) ≡ false
  -- "a field is out of its range"
  pub phase-3 : changed (sessions_at + last_session) 3 ≡ false
  pub flag-2 : changed (credential 0 + flag_at) 2 ≡ false
  pub count-13 : changed count_at 13 ≡ false
  pub credential-8 : changed (place 0 + owner_at) 8 ≡ false
  pub type-3 : changed (place 0 + kind_at) 3 ≡ false
  pub slot-8 : changed (place 0 + session_at) 8 ≡ false
  -- "a field kept zero isn't zero (an unprovisioned credential's word too)"
  pub word-unprovisioned : changed (credential 2 + word_at + 3) 1 ≡ false
  pub second-unprovisioned : changed (credential 2 + second_at + 3) 1 ≡ false
  pub saved-session : changed (place 1 + session_at) 1 ≡ false
  pub elevation-next : changed (place 2 + next_at + 1) 1 ≡ false
  pub free-place : changed (state_length - 1) 1 ≡ false
  pub count-too-low : changed count_at 2 ≡ false
  -- "a slice with a saved process at next number 0"
  pub saved-uncounted : holds_state (set (set (set bytes count_at 4) (place 3 + kind_at) 2) (place 3 + name_end) 7) ≡ false
  -- "or demand 3's rules .. are broken": an owner; a session; a name; two user processes; two elevations
  pub owner : changed (place 0 + owner_at) 2 ≡ false
  pub session-without-version : changed (place 0 + session_at) 1 ≡ false
  pub session-closed : changed (place 0 + session_at) 2 ≡ false
  pub session-of-port-1-closed : changed (place 0 + session_at) 5 ≡ false
  pub name-twice : changed (place 2 + name_end) 0x11 ≡ false
  pub user-twice : holds_state (set (set bytes (place 1 + owner_at) 0) (place 1 + kind_at) 0) ≡ false
  pub count-too-high : changed count_at 4 ≡ false
  pub elevation-twice : holds_state (set (elevated bytes) (place 1 + session_at) 4) ≡ false

-- what breaks none: another credential's user process in that session; a user process on either port; a credential's user processes on both, and elevations on both; a
-- fourth process, of a name of its own
pub record Held : Type 0 where
  pub user-of-another : changed (place 1 + kind_at) 0 ≡ true
  pub user-on-port-1 : changed (place 0 + session_at) 4 ≡ true
  pub users-on-both : holds_state (set (set (set bytes (place 1 + owner_at) 0) (place 1 + kind_at) 0) (place 1 + session_at) 4) ≡ true
  pub elevations-on-both : holds_state (elevated bytes) ≡ true
  pub fourth-named : holds_state (set (set (set (set bytes count_at 4) (place 3 + kind_at) 2) (place 3 + next_at) 1) (place 3 + name_end) 7) ≡ true

pub refused : Refused
unfolding computed
refused = record { short = refl; long = refl; phase-3 = refl; flag-2 = refl; count-13 = refl; credential-8 = refl; type-3 = refl; slot-8 = refl; word-unprovisioned = refl; second-unprovisioned = refl; saved-session = refl; elevation-next = refl; free-place = refl; count-too-low = refl; saved-uncounted = refl; owner = refl; session-without-version = refl; session-closed = refl; session-of-port-1-closed = refl; name-twice = refl; user-twice = refl; count-too-high = refl; elevation-twice = refl }

pub held : Held
unfolding computed
held = record { user-of-another = refl; user-on-port-1 = refl; users-on-both = refl; elevations-on-both = refl; fourth-named = refl }
