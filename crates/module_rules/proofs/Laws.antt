-- What follows from the facts of a state alone.
-- Assumes nothing.
use Prim.Native.Nat.{ℕ, ◌<◌, ◌≤◌}
use mathlib.Core.Path.{◌≡◌, refl, sym}
use mathlib.Core.Logic.{◌≢◌}
use mathlib.Core.Bool.{true}
use mathlib.Core.List.{List, map}
use native.Mathlib.Omega.{arith}
use borrow.Author.Tests.{eq-eqb}
use lib.ListN.{length}
use Rattle.lists.specs.Each.{Each, each_nil, each-cons}
use Rattle.lists.proofs.Tests.{split, and_left}
use Rattle.lists.proofs.Each.{inside, each_at, pairs-at}
use Rattle.names.specs.declared.Credential.{Credential}
use Rattle.names.specs.declared.Kind.{Kind}
use Rattle.names.specs.declared.Kind.TheVariants.{User, Elevation, Saved}
use Rattle.names.specs.declared.Session.{Session}
use Rattle.table.specs.Table.{size, free_place, process_at, is_active_in}
use Rattle.table.specs.Table as T
use Rattle.table.specs.declared.Active.TheVariants.{UserOf, ElevationIn}
use Rattle.table.specs.declared.Process.{Process}
use Rattle.table.proofs.Laws.{standing-few}
use Rattle.table.proofs.Searched.{of-user, in-elevation}
use Rattle.module_state.proofs.Slots.{pair-once}
use Rattle.module_state.specs.Module.{closed_session, phase_of, is_chosen, unprovisioned, words_of, taken, provisioned, session_count, credential_count, last_session, last_credential}
use Rattle.module_state.specs.declared.Grants.{Grants}
use Rattle.module_state.specs.declared.SessionState.{SessionState}
use Rattle.module_state.specs.declared.State.{State}
use Rattle.module_rules.specs.Facts.{processes, is_running, Apart, Rules, at, InOneSession, RulesByPlaces, AreWords, FormedGrants, Formed}

pub apart-turn : (p q : Process) → Apart p q → Apart q p
apart-turn p q a = record { names = λ e. a.names (sym e); alone = λ which h k. a.alone which k h }

running : (k : Kind) → k ≢ Saved → is_running k ≡ true
running User n = refl
running Elevation n = refl
running Saved n = absurd (n refl)

-- an active process of a session is active in it; and one that is active in a session is active
pub active-in : (s : Session) (p : Process) → is_running p.kind ≡ true → p.session.0 ≡ s.0 → is_active_in s p ≡ true
unfolding is_active_in
active-in s p k q = rw (k, eq-eqb p.session.0 s.0 q)

pub in-active : (s : Session) (p : Process) → is_active_in s p ≡ true → is_running p.kind ≡ true
unfolding is_active_in
in-active s p a = and_left (is_running p.kind) _ a

-- ---- the rules by places
pub by-places : (st : State) → Rules st → RulesByPlaces st
unfolding size process_at
by-places st v =
    record {
      few = v.few;
      names = λ i j hi hj n. (both i j hi hj n).names;
      owners = λ i h. (each_at i free_place h v.each).owner;
      sessions = λ i h n. (each_at i free_place h v.each).seated (running (at st i).kind n);
      users =
          λ i j hi hj n ki kj es ec.
          (both i j hi hj n).alone (UserOf (at st j).session (at st j).credential)
          (of-user (at st i) (at st j).session (at st j).credential (record { kind = ki; session = one i j es; credential = ec }))
          (of-user (at st j) (at st j).session (at st j).credential (record { kind = kj; session = refl; credential = refl }));
      elevations =
          λ i j hi hj n ki kj es.
          (both i j hi hj n).alone (ElevationIn (at st j).session)
          (in-elevation (at st i) (at st j).session (record { kind = ki; session = one i j es }))
          (in-elevation (at st j) (at st j).session (record { kind = kj; session = refl }));
    }
  where
    both : (i j : ℕ) → i < length (processes st) → j < length (processes st) → i ≢ j → Apart (at st i) (at st j)
    both i j hi hj n = pairs-at apart-turn i j free_place hi hj n v.pairs

    one : (i j : ℕ) → InOneSession (at st i) (at st j) → (at st i).session ≡ (at st j).session
    one i j e = pair-once (at st i).session (at st j).session e.port e.handle

-- ---- the ranges of a process's credential and session follow from the rules: who shows that a state keeps these has not to show those
module _ (st : State) where
  pub provisioned-low : (c : Credential) → length st.credentials ≡ credential_count → provisioned st c ≡ true → c.0 ≤ last_credential
  unfolding provisioned
  provisioned-low c h e = omega (arith, inside (λ (g : Grants). g.provisioned) st.credentials c.0 unprovisioned refl e, h)

  pub chosen-low : (s : Session) → length st.sessions ≡ session_count → is_chosen (phase_of st s) ≡ true → s.0 ≤ last_session
  unfolding phase_of is_chosen
  chosen-low s h e = omega (arith, inside (λ (x : SessionState). is_chosen x.phase) st.sessions s.0 closed_session refl e, h)

-- ---- so many stand as there are places, at most
pub formed-few : {st : State} → Formed st → length (processes st) ≤ T.places
formed-few {st} f = standing-few st.table f.places

-- ---- credentials with the words of the unprovisioned taken as zero
pub words-taken : {pairs : List Grants} → Each (λ g. AreWords g.words) pairs → Each FormedGrants (map taken pairs)
unfolding taken words_of
words-taken each_nil = each_nil
words-taken (each-cons {x = x} w h) =
    each-cons {x = taken x} (record { words = split x.provisioned (λ e. rw e w) (λ e. rw e (record { grant = omega arith; second = omega arith })); zero = λ e. rw e }) (words-taken h)
