-- What holds of a state, said once. Every call keeps it (history), and a lent slice is tested for it (state_layout).
use Rattle.std.specs.Prelude.{ℕ, ◌^◌, ◌<◌, ◌≤◌, ◌≡◌, ◌≢◌, Bool, true, false, ◌||◌, List, length}
use Rattle.lists.specs.Each.{Each, Pairs}
use Rattle.names.specs.declared.Kind.{Kind}
use Rattle.names.specs.declared.Kind.TheVariants.{User, Elevation, Saved}
use Rattle.table.specs.Table.{standing, size, process_at, table_of, is_user, is_elevation, is_active}
use Rattle.table.specs.Table as T
use Rattle.table.specs.declared.Active.{Active}
use Rattle.table.specs.declared.Process.{Process}
use Rattle.module_state.specs.Module.{port_of, handle_of, phase_of, is_chosen, provisioned, session_count, credential_count, last_session, last_credential, word_size, no_words}
use Rattle.module_state.specs.declared.Grants.{Grants}
use Rattle.module_state.specs.declared.State.{State}
use Rattle.module_state.specs.declared.Words.{Words}
use Rattle.names.specs.Names.{name_length}

abbrev pub processes : State → List Process
processes st = standing st.table

-- active, as either
abbrev pub is_running : Kind → Bool
is_running kind = is_user kind || is_elevation kind

-- ---- "demand 3's rules on places, names, owners and sessions"

-- of each process
pub record Owned (st : State) (p : Process) : Type 0 where
  -- each has a provisioned owner
  pub owner : provisioned st p.credential ≡ true
  -- each active one stands in an open session with a version chosen
  pub seated : is_running p.kind ≡ true → is_chosen (phase_of st p.session) ≡ true

-- of each two
pub record Apart (p q : Process) : Type 0 where
  -- no two agree in all 48 bytes
  pub names : p.name.bytes ≢ q.name.bytes
  -- in one session a credential has at most one active user process, and there is at most one elevation: not both are the active process that is meant
  pub alone : (which : Active) → is_active which p ≡ true → is_active which q ≡ true → ⊥

pub record Rules (st : State) : Type 0 where
  -- at most 12 processes stand
  pub few : length (processes st) ≤ T.places
  pub each : Each (Owned st) (processes st)
  pub pairs : Pairs Apart (processes st)

-- the same in plain words: of any place that is taken, and of any two
module _ (st : State) where
  abbrev pub IsTaken : ℕ → Type 0
  IsTaken i = i < size st.table

  abbrev pub at : ℕ → Process
  at i = process_at st.table i

-- "Demands 2 and 3 are read with port and session together": the same port, and the same handle there
pub record InOneSession (p q : Process) : Type 0 where
  pub port : port_of p.session ≡ port_of q.session
  pub handle : handle_of p.session ≡ handle_of q.session

pub record RulesByPlaces (st : State) : Type 0 where
  pub few : size st.table ≤ T.places
  pub names : (i j : ℕ) → IsTaken st i → IsTaken st j → i ≢ j → (at st i).name.bytes ≢ (at st j).name.bytes
  pub owners : (i : ℕ) → IsTaken st i → provisioned st (at st i).credential ≡ true
  pub sessions : (i : ℕ) → IsTaken st i → (at st i).kind ≢ Saved → is_chosen (phase_of st (at st i).session) ≡ true
  pub users : (i j : ℕ) → IsTaken st i → IsTaken st j → i ≢ j → (at st i).kind ≡ User → (at st j).kind ≡ User → InOneSession (at st i) (at st j) → (at st i).credential ≢ (at st j).credential
  pub elevations : (i j : ℕ) → IsTaken st i → IsTaken st j → i ≢ j → (at st i).kind ≡ Elevation → (at st j).kind ≡ Elevation → InOneSession (at st i) (at st j) → ⊥

-- ---- the form: no field out of its range, and zero what is kept zero

-- "a grant word of 32 bits", "a second 32-bit word"
abbrev pub IsWord : ℕ → Type 0
IsWord word = word < 256 ^ word_size

pub record AreWords (w : Words) : Type 0 where
  pub grant : IsWord w.grant
  pub second : IsWord w.second

pub record FormedGrants (g : Grants) : Type 0 where
  pub words : AreWords g.words
  -- "an unprovisioned credential's word is taken as zero"
  pub zero : g.provisioned ≡ false → g.words ≡ no_words

pub record FormedProcess (p : Process) : Type 0 where
  pub credential : p.credential.0 ≤ last_credential
  pub session : p.session.0 ≤ last_session
  -- "The number has 16 bits."
  pub next : p.next < 256 ^ 2
  pub name : length p.name.bytes ≡ name_length
  -- "An elevation's next number, a saved process's session .. mean nothing and are kept zero."
  pub saved : p.kind ≡ Saved → p.session.0 ≡ 0
  pub elevation : p.kind ≡ Elevation → p.next ≡ 0
  -- "a save has counted one"
  pub counted : p.kind ≡ Saved → 1 ≤ p.next

pub record Formed (st : State) : Type 0 where
  -- "Each port has its own four sessions", "Eight credentials", "A table of at most 12 processes"
  pub sessions : length st.sessions ≡ session_count
  pub credentials : length st.credentials ≡ credential_count
  pub places : length st.table.places ≡ T.places
  pub words : Each FormedGrants st.credentials
  pub each : Each FormedProcess (processes st)
  -- "the places past the count mean nothing and are kept zero"
  pub tidy : st.table ≡ table_of (processes st)

-- ---- a state that a slice may hold
pub record IsState (st : State) : Type 0 where
  pub rules : Rules st
  pub formed : Formed st

-- ---- what the types of the fields tell of any state that a function has
pub record WideGrants (g : Grants) : Type 0 where
  pub words : AreWords g.words

pub record WideProcess (p : Process) : Type 0 where
  pub next : p.next < 256 ^ 2
  pub name : length p.name.bytes ≡ name_length

pub record Wide (st : State) : Type 0 where
  pub sessions : length st.sessions ≡ session_count
  pub credentials : length st.credentials ≡ credential_count
  pub places : length st.table.places ≡ T.places
  pub words : Each WideGrants st.credentials
  pub each : Each WideProcess st.table.places
