-- The laws that close the needs of this crate's functions, and of those above, by `search rules`.
-- Assumes nothing.
use Prim.Native.Nat.{ℕ, ◌/◌, ◌%◌, ◌^◌, ◌<◌, ◌≤◌}
use mathlib.Core.Path.{◌≡◌, refl, sym, ap, ◌∙◌}
use mathlib.Core.Bool.{Bool, true, false, not}
use native.Mathlib.Omega.{arith}
use lib.Dec.{T, eqb, ltb, leb, ltb→lt}
use lib.ListN.{length, get_or, get_or-eq_default}
use borrow.Author.Rules.{rules as std_rules}
use borrow.Author.Tests.{not-true, not-false, le-leb, lt-leb, ne_eqb}
use Rattle.lists.proofs.Lists.{length-mapped}
use Rattle.module_state.specs.declared.Checked.{Checked}
use Rattle.module_state.specs.declared.Claim.{Claim}
use Rattle.module_state.specs.declared.Claim.TheVariants.{Elevated, ByUser}
use Rattle.module_state.specs.declared.Class.{Class}
use Rattle.module_state.specs.declared.Grants.{Grants}
use Rattle.module_state.specs.declared.Handle.{Handle}
use Rattle.module_state.specs.declared.Lookup.{Lookup}
use Rattle.module_state.specs.declared.Lookup.TheVariants.{NotGranted, Granted, OnlyElevated}
use Rattle.module_state.specs.declared.Placed.{Placed}
use Rattle.module_state.specs.declared.Port.{Port}
use Rattle.module_state.specs.declared.SessionState.{SessionState}
use Rattle.module_state.specs.declared.State.{State}
use Rattle.module_state.specs.declared.UserClaim.{UserClaim}
use Rattle.module_state.specs.declared.Phase.{Phase}
use Rattle.module_state.specs.declared.Phase.TheVariants.{Closed, Opened, Chosen}
use Rattle.names.specs.declared.Credential.{Credential}
use Rattle.names.specs.declared.Session.{Session}
use Rattle.module_state.specs.Numbers.{◌when◌, ◌unless◌, ◌▸◌}
use Rattle.module_state.specs.Module.{last_port, is_port, last_handle, is_handle, slot, no_slot, slot_of, last_session, session_count, is_session, closed_session, phase_of, is_closed, is_chosen, last_credential, credential_count, is_credential, no_words, unprovisioned, words_of, grants_of, provisioned, has_bit, lookup}
use Rattle.module_state.specs.Claim.{phase_number, entered, placed, lookup_number, grant_number}
use Rattle.module_state.proofs.Laws.{stop, pass, when_true, when_false, unless-true, unless-false}
use Rattle.module_state.proofs.Refusals.{row-ends, row-goes-on}

pub nonzero : {n : ℕ} → T (ltb 0 n) → n ≡ 0 → ⊥
nonzero {n} some e = omega (arith, ltb→lt 0 n some)

-- ---- a row of tests, as code goes through it: a test leaves with its number, or the next is asked
module _ (n : ℕ) {b t : Bool} (e : b ≡ t) where
  pub when-hit : b ≡ true → n ≡ n when t
  when-hit h = sym (when_true n (sym e ∙ h))

  pub when-miss : b ≡ false → 0 ≡ n when t
  when-miss h = sym (when_false n (sym e ∙ h))

  pub unless-hit : not b ≡ true → n ≡ n unless t
  unless-hit h = sym (unless-false n (sym e ∙ not-true b h))

  pub unless-miss : not b ≡ false → 0 ≡ n unless t
  unless-miss h = sym (unless-true n (sym e ∙ not-false b h))

  module _ (m : ℕ) where
    pub when-stop : T (ltb 0 n) → b ≡ true → n ≡ n when t ▸ m
    when-stop some h = rw (when_true n (sym e ∙ h)) (sym (stop m (nonzero some)))

    pub when-pass : {r : ℕ} → b ≡ false → r ≡ m → r ≡ n when t ▸ m
    when-pass h q = q ∙ sym (pass m (when_false n (sym e ∙ h)))

    pub unless-stop : T (ltb 0 n) → not b ≡ true → n ≡ n unless t ▸ m
    unless-stop some h = rw (unless-false n (sym e ∙ not-true b h)) (sym (stop m (nonzero some)))

    pub unless-pass : {r : ℕ} → not b ≡ false → r ≡ m → r ≡ n unless t ▸ m
    unless-pass h q = q ∙ sym (pass m (unless-true n (sym e ∙ not-false b h)))

-- the number of a whole part of the row
module _ {n a : ℕ} (m : ℕ) (e : n ≡ a) where
  pub part-stop : (n ≡ 0 → ⊥) → n ≡ a ▸ m
  part-stop h = e ∙ sym (stop m (λ z. h (e ∙ z)))

  pub part-pass : {r : ℕ} → n ≡ 0 → r ≡ m → r ≡ a ▸ m
  part-pass z q = q ∙ sym (pass m (sym e ∙ z))

-- ---- ranges
pub session-is : (s : Session) → leb s.0 last_session ≡ is_session s
unfolding is_session
session-is s = refl

module _ (port : Port) (handle : Handle) where
  pub slot-no-port : last_port < port.0 → ◌≡◌ {A = Session} (record { 0 = no_slot }) (slot_of port handle)
  unfolding slot_of is_port
  slot-no-port h = rw (lt-leb port.0 last_port h)

  module _ (h : port.0 ≤ last_port) where
    pub slot-no-handle : last_handle < handle.0 → ◌≡◌ {A = Session} (record { 0 = no_slot }) (slot_of port handle)
    unfolding slot_of is_port is_handle
    slot-no-handle k = rw (le-leb port.0 last_port h, lt-leb handle.0 last_handle k)

    pub slot_is : handle.0 ≤ last_handle → ◌≡◌ {A = Session} (record { 0 = slot port.0 handle.0 }) (slot_of port handle)
    unfolding slot_of is_port is_handle
    slot_is k = rw (le-leb port.0 last_port h, le-leb handle.0 last_handle k)

pub credential-is : (c : Credential) → leb c.0 last_credential ≡ is_credential c
unfolding is_credential
credential-is c = refl

-- ---- sessions and credentials
module _ (st : State) (s : Session) where
  pub phase-in : (get_or st.sessions s.0 closed_session).phase ≡ phase_of st s
  unfolding phase_of
  phase-in = refl

  pub phase-out : length st.sessions ≡ session_count → session_count ≤ s.0 → Closed ≡ phase_of st s
  unfolding phase_of
  phase-out h k = ap (λ (x : SessionState). x.phase) (sym (get_or-eq_default st.sessions closed_session (omega arith)))

module _ {a b : Phase} (e : a ≡ b) where
  pub closed-closed : a ≡ Closed → true ≡ is_closed b
  unfolding is_closed
  closed-closed q = rw (← e, q)

  pub closed-opened : a ≡ Opened → false ≡ is_closed b
  unfolding is_closed
  closed-opened q = rw (← e, q)

  pub closed-chosen : a ≡ Chosen → false ≡ is_closed b
  unfolding is_closed
  closed-chosen q = rw (← e, q)

module _ (st : State) (c : Credential) where
  pub grants-in : get_or st.credentials c.0 unprovisioned ≡ grants_of st c
  unfolding grants_of
  grants-in = refl

  pub grants-out : length st.credentials ≡ credential_count → credential_count ≤ c.0 → unprovisioned ≡ grants_of st c
  unfolding grants_of
  grants-out h k = sym (get_or-eq_default st.credentials unprovisioned (omega arith))

  pub provisioned-of : {g : Grants} → g ≡ grants_of st c → g.provisioned ≡ provisioned st c
  unfolding provisioned
  provisioned-of e = rw e

module _ (g : Grants) where
  pub words-provisioned : g.provisioned ≡ true → g.words ≡ words_of g
  unfolding words_of
  words-provisioned e = rw e

  pub words-none : g.provisioned ≡ false → no_words ≡ words_of g
  unfolding words_of
  words-none e = rw e

module _ (word : ℕ) (class : Class) where
  pub bit-over : 31 < class.0 → false ≡ has_bit word class
  unfolding has_bit
  bit-over h = rw (lt-leb class.0 31 h)

  pub bit_is : class.0 ≤ 31 → eqb (word / 2 ^ class.0 % 2) 1 ≡ has_bit word class
  unfolding has_bit
  bit_is h = rw (le-leb class.0 31 h)

module _ (grants : Grants) (class : Class) {b : Bool} (e : b ≡ has_bit grants.words.grant class) where
  pub lookup-not : not b ≡ true → NotGranted ≡ lookup grants class
  unfolding lookup
  lookup-not h = rw (← e, not-true b h)

  module _ (h : not b ≡ false) {d : Bool} (f : d ≡ has_bit grants.words.second class) where
    pub lookup-granted : d ≡ false → Granted ≡ lookup grants class
    unfolding lookup
    lookup-granted k = rw (← e, not-false b h, ← f, k)

    pub lookup-elevated : d ≡ true → OnlyElevated ≡ lookup grants class
    unfolding lookup
    lookup-elevated k = rw (← e, not-false b h, ← f, k)

module _ (claim : Claim) {answer : Lookup} where
  pub number-granted : answer ≡ Granted → 0 ≡ lookup_number claim answer
  unfolding lookup_number
  number-granted e = rw e

  pub number-not : answer ≡ NotGranted → 10 ≡ lookup_number claim answer
  unfolding lookup_number
  number-not e = rw e

  pub number-elevated : claim ≡ Elevated → answer ≡ OnlyElevated → 0 ≡ lookup_number claim answer
  unfolding lookup_number
  number-elevated c e = rw (c, e)

  pub number-user : {u : UserClaim} → claim ≡ ByUser u → answer ≡ OnlyElevated → 18 ≡ lookup_number claim answer
  unfolding lookup_number
  number-user c e = rw (c, e)

pub grant-is : (by : Checked) (class : Class) {claim : Claim} {grants : Grants} {answer : Lookup} {n : ℕ}
    → claim ≡ by.claim → grants ≡ by.grants → answer ≡ lookup grants class → n ≡ lookup_number claim answer → n ≡ grant_number by class
unfolding grant_number
grant-is by class a b c d = d ∙ rw (c, b, a)

-- ---- tests that find a process
module _ (m at : ℕ) where
  placed-refused : {n : ℕ} → n ≡ m → (n ≡ 0 → ⊥) → ◌≡◌ {A = Placed} (record { number = n; place = 0 }) (placed m at)
  unfolding placed
  placed-refused {n} e h = rw (← e, ne_eqb n 0 h)

  pub placed-found : {k : ℕ} → 0 ≡ m → k ≡ at → ◌≡◌ {A = Placed} (record { number = 0; place = k }) (placed m at)
  unfolding placed
  placed-found e q = rw (← e, q)

  module _ {r : Placed} where
    pub refused-placed : {n : ℕ} → r ≡ record { number = n; place = 0 } → (n ≡ 0 → ⊥) → n ≡ m → r ≡ placed m at
    refused-placed q h e = q ∙ placed-refused e h

    pub number-placed : {n : ℕ} → r ≡ record { number = n; place = 0 } → T (ltb 0 n) → n ≡ m → r ≡ placed m at
    number-placed q some e = q ∙ placed-refused e (nonzero some)

    pub placed_on : (n : ℕ) → r ≡ placed n at → n ≡ m → r ≡ placed m at
    placed_on n q e = q ∙ rw e

-- ---- a session, by its phase
module _ (s : Session) (phase : Phase) {b : Bool} (e : b ≡ is_session s) where
  pub phase-argument : not b ≡ true → 1 ≡ phase_number s phase
  unfolding phase_number
  phase-argument h = unless-stop 1 e _ tt h

  module _ (h : not b ≡ false) where
    pub phase-closed : phase ≡ Closed → 2 ≡ phase_number s phase
    unfolding phase_number is_closed
    phase-closed q = unless-pass 1 e _ h (rw q (when-stop 2 {b = true} refl _ tt refl))

    pub phase-opened : phase ≡ Opened → 3 ≡ phase_number s phase
    unfolding phase_number is_closed is_chosen
    phase-opened q = unless-pass 1 e _ h (rw q (when-pass 2 {b = false} refl _ refl (unless-hit 3 {b = false} refl refl)))

    pub phase-chosen : phase ≡ Chosen → 0 ≡ phase_number s phase
    unfolding phase_number is_closed is_chosen
    phase-chosen q = unless-pass 1 e _ h (rw q (when-pass 2 {b = false} refl _ refl (unless-miss 3 {b = true} refl refl)))

pub entered-is : (st : State) (s : Session) {phase : Phase} {n : ℕ} → phase ≡ phase_of st s → n ≡ phase_number s phase → n ≡ entered st s
unfolding entered
entered-is st s e q = q ∙ rw e

pub ruleset rules = (std_rules, length-mapped, when-hit, when-miss, unless-hit, unless-miss, when-stop, when-pass, unless-stop, unless-pass, part-stop, part-pass, session-is, slot-no-port, slot-no-handle, slot_is, credential-is, phase-in, phase-out, closed-closed, closed-opened, closed-chosen, phase-argument, phase-closed, phase-opened, phase-chosen, entered-is, grants-in, grants-out, provisioned-of, words-provisioned, words-none, bit-over, bit_is, lookup-not, lookup-granted, lookup-elevated, number-granted, number-not, number-elevated, number-user, grant-is, placed-found, refused-placed, number-placed, placed_on, row-ends, row-goes-on)
