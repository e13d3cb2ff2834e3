-- The codec of each row: a session, a credential's grants, a place.
-- Assumes nothing.
use Prim.Native.Nat.{ℕ, zero, suc, ◌^◌, ◌<◌, ◌≤◌}
use mathlib.Core.Path.{◌≡◌, refl, ap, ◌∙◌}
use mathlib.Core.Bool.{Bool, true, false, ◌||◌}
use mathlib.Core.List.{List, [], ◌∷◌, append-nil}
use native.Mathlib.Omega.{arith}
use lib.Dec.{eqb, leb}
use lib.ListN.{length, drop, get_or, replicate, length-append, length-drop}
use borrow.Author.Tests.{eqb-true, leb-true, le-leb, eq-eqb}
use Rattle.rows.specs.Bytes.{Bytes, is_zero, bytes_of, number_of, number_at, byte_of}
use Rattle.rows.proofs.Bytes.{byte_small, byte-only, length-bytes, number_in, number-low, number-taken, byte-front, part-front, part-last}
use Rattle.lists.proofs.Tests.{and_left, and_right, and_both}
use Rattle.rows.specs.Rows.{every}
use Rattle.rows.proofs.Rows.{Codec, number-clear}
use Rattle.names.specs.Names.{last_type, kind_number, kind_numbered}
use Rattle.names.proofs.Laws.{kind-back, kind-forth, kind-low}
use Rattle.names.specs.declared.Kind.{Kind}
use Rattle.names.specs.declared.Kind.TheVariants.{User, Elevation, Saved}
use Rattle.table.specs.Table.{free_place}
use Rattle.table.specs.declared.Process.{Process}
use Rattle.module_state.specs.declared.Grants.{Grants}
use Rattle.module_state.specs.declared.Phase.{Phase}
use Rattle.module_state.specs.declared.Phase.TheVariants.{Closed, Opened, Chosen}
use Rattle.state_layout.specs.Layout.{flag_at, word_at, second_at, credential_size, owner_at, kind_at, session_at, next_at, next_size, place_size, session_size, last_phase, phase_byte, phase_from, session_bytes, session_from, session_fits, set_flag, flag_number, grants_bytes, grants_from, grants_fit, process_bytes, process_from, kind_fits, process_fits}
use Rattle.module_rules.specs.Facts.{AreWords, WideGrants, WideProcess, FormedGrants, FormedProcess}
use Rattle.module_state.specs.Module.{last_session, last_credential, word_size, no_words}

-- ---- a session
pub phase-forth : (b : ℕ) → b ≤ last_phase → phase_byte (phase_from b) ≡ b
phase-forth zero h = refl
phase-forth (suc zero) h = refl
phase-forth (suc (suc zero)) h = refl
phase-forth (suc (suc (suc n))) h = absurd (omega arith)

pub phase-back : (p : Phase) → phase_from (phase_byte p) ≡ p
phase-back Closed = refl
phase-back Opened = refl
phase-back Chosen = refl

phase-fits : (p : Phase) → leb (phase_byte p) last_phase ≡ true
phase-fits Closed = refl
phase-fits Opened = refl
phase-fits Chosen = refl

pub session-codec : Codec session_size session_bytes session_from session_fits (λ s. Unit) (λ s. Unit)
unfolding session_bytes session_from session_fits
session-codec =
    record {
      wide = λ s g. g;
      long = λ s g. refl;
      only = λ s g e. g;
      back = λ s g. rw (phase-back s.phase);
      fits = λ s g. phase-fits s.phase;
      forth = forth;
      good = λ b n h e. tt;
    }
  where
    forth : (b : List ℕ) → length b ≡ session_size → Bytes b → session_fits b ≡ true → session_bytes (session_from b) ≡ b
    forth [] n h e = absurd (omega arith)
    forth (x ∷ []) n h e = rw (phase-forth x (leb-true x last_phase e))
    forth (x ∷ y ∷ b) n h e = absurd (omega arith)

-- ---- a credential's grants
flag-back : (f : Bool) → eqb (flag_number f) set_flag ≡ f
flag-back true = refl
flag-back false = refl

flag-forth : (x : ℕ) → x ≤ set_flag → flag_number (eqb x set_flag) ≡ x
flag-forth zero h = refl
flag-forth (suc zero) h = refl
flag-forth (suc (suc x)) h = absurd (omega arith)

grants-fits : (g : Grants) → FormedGrants g → (f : Bool) → g.provisioned ≡ f → grants_fit (grants_bytes g) ≡ true
unfolding grants_fit grants_bytes bytes_of every
grants-fits g v true e = rw e
grants-fits g v false e = rw (e, v.zero e)

module _ (g : Grants) (v : AreWords g.words) where
  grants-word : number_at word_size word_at (grants_bytes g) ≡ g.words.grant
  unfolding grants_bytes
  grants-word = number_in word_size g.words.grant (flag_number g.provisioned ∷ []) (bytes_of word_size g.words.second) v.grant

  grants-second : number_at word_size second_at (grants_bytes g) ≡ g.words.second
  unfolding grants_bytes bytes_of
  grants-second = rw append-nil at (number_in word_size g.words.second (flag_number g.provisioned ∷ bytes_of word_size g.words.grant) [] v.second)

-- a credential that is not provisioned is zeros behind its flag
grants-clear : (part : List ℕ) → grants_fit part ≡ true → eqb (get_or part flag_at 0) set_flag ≡ false → every is_zero (drop word_at part) ≡ true
unfolding grants_fit
grants-clear part e k = rw k at (and_right (leb (get_or part flag_at 0) set_flag) (eqb (get_or part flag_at 0) set_flag || every is_zero (drop word_at part)) e)

pub grants-codec : Codec credential_size grants_bytes grants_from grants_fit WideGrants FormedGrants
unfolding grants_bytes grants_from grants_fit
grants-codec =
    record {
      wide = λ g v. record { words = v.words };
      long = λ g v. ap suc (rw (length-append, length-bytes word_size g.words.grant, length-bytes word_size g.words.second));
      only = only;
      back = λ g v. rw (flag-back g.provisioned, grants-word g v.words, grants-second g v.words);
      fits = λ g v. grants-fits g v g.provisioned refl;
      forth = forth;
      good = good;
    }
  where
    -- what follows a flag that is not set says no words
    none : (b : List ℕ) → grants_fit b ≡ true → (grants_from b).provisioned ≡ false → (grants_from b).words ≡ no_words
    none b e k =
        rw (number-clear word_size word_at word_at b (grants-clear b e k) (omega arith), number-clear word_size second_at word_at b (grants-clear b e k) (omega arith))

    only : (g : Grants) → WideGrants g → grants_fit (grants_bytes g) ≡ true → FormedGrants g
    only g v e =
        record {
          words = v.words;
          zero = λ k. rw (grants-word g v.words, grants-second g v.words) at (none (grants_bytes g) e (flag-back g.provisioned ∙ k));
        }

    forth : (b : List ℕ) → length b ≡ credential_size → Bytes b → grants_fit b ≡ true → grants_bytes (grants_from b) ≡ b
    forth b n h e =
        let f : flag_number (eqb (get_or b flag_at 0) set_flag) ≡ get_or b flag_at 0 = flag-forth (get_or b flag_at 0) (leb-true (get_or b flag_at 0) set_flag (and_left (leb (get_or b flag_at 0) set_flag) _ e)) in
        rw (f, number-taken word_size word_at b h (omega arith), number-taken word_size second_at b h (omega arith), part-last word_size second_at b (omega arith), part-front word_size word_at b)
        (byte-front flag_at b (omega arith))

    good : (b : List ℕ) → length b ≡ credential_size → Bytes b → grants_fit b ≡ true → FormedGrants (grants_from b)
    good b n h e = record { words = record { grant = number-low word_size word_at b h; second = number-low word_size second_at b h }; zero = none b e }

-- ---- a place
kind-test : (k : Kind) (s n : ℕ) → (k ≡ Saved → s ≡ 0) → (k ≡ Elevation → n ≡ 0) → (k ≡ Saved → 1 ≤ n) → kind_fits k s n ≡ true
kind-test User s n a b c = refl
kind-test Elevation s n a b c = eq-eqb n 0 (b refl)
kind-test Saved s n a b c = and_both (eq-eqb s 0 (a refl)) (le-leb 1 n (c refl))

kept-saved : {k : Kind} (s n : ℕ) → kind_fits k s n ≡ true → k ≡ Saved → s ≡ 0
kept-saved s n e q = eqb-true s 0 (and_left (eqb s 0) (leb 1 n) (rw q at e))

kept-counted : {k : Kind} (s n : ℕ) → kind_fits k s n ≡ true → k ≡ Saved → 1 ≤ n
kept-counted s n e q = leb-true 1 n (and_right (eqb s 0) (leb 1 n) (rw q at e))

kept-elevation : {k : Kind} (s n : ℕ) → kind_fits k s n ≡ true → k ≡ Elevation → n ≡ 0
kept-elevation s n e q = eqb-true n 0 (rw q at e)

-- what the test of a place tells, by its five fields
pub record PlaceFits (c k s n : ℕ) : Type 0 where
  pub credential : c ≤ last_credential
  pub type : k ≤ last_type
  pub session : s ≤ last_session
  pub by_kind : kind_fits (kind_numbered k) s n ≡ true

place-fits : (place : List ℕ) → process_fits place ≡ true → PlaceFits (get_or place owner_at 0) (get_or place kind_at 0) (get_or place session_at 0) (number_at next_size next_at place)
unfolding process_fits
place-fits place e =
    let e₁ = and_right (leb (get_or place owner_at 0) last_credential) _ e in
    let e₂ = and_right (leb (get_or place kind_at 0) last_type) _ e₁ in
    record {
      credential = leb-true (get_or place owner_at 0) last_credential (and_left (leb (get_or place owner_at 0) last_credential) _ e);
      type = leb-true (get_or place kind_at 0) last_type (and_left (leb (get_or place kind_at 0) last_type) _ e₁);
      session = leb-true (get_or place session_at 0) last_session (and_left (leb (get_or place session_at 0) last_session) _ e₂);
      by_kind = and_right (leb (get_or place session_at 0) last_session) _ e₂;
    }

process-next : (p : Process) → p.next < 256 ^ next_size → number_at next_size next_at (process_bytes p) ≡ p.next
unfolding process_bytes
process-next p h = number_in next_size p.next (byte_of p.credential.0 ∷ kind_number p.kind ∷ p.session.0 ∷ []) p.name.bytes h

process-forth : (b : List ℕ) → length b ≡ place_size → Bytes b → process_fits b ≡ true → process_bytes (process_from b) ≡ b
unfolding process_bytes process_from
process-forth b n h e =
    let t = place-fits b e in
    rw (byte_small (get_or b owner_at 0) (h 0), kind-forth (get_or b kind_at 0) t.type, number-taken next_size next_at b h (omega arith), part-front next_size next_at b, byte-front session_at b (omega arith), byte-front kind_at b (omega arith))
    (byte-front owner_at b (omega arith))

pub process-codec : Codec place_size process_bytes process_from process_fits WideProcess FormedProcess
unfolding process_bytes process_from process_fits bytes_of
process-codec =
    record {
      wide = λ p v. record { next = v.next; name = v.name };
      long = λ p v. simp length-append (omega (arith, length-bytes next_size p.next, v.name));
      only = only;
      back = back;
      fits = fits;
      forth = process-forth;
      good = good;
    }
  where
    only : (p : Process) → WideProcess p → process_fits (process_bytes p) ≡ true → FormedProcess p
    only p v e =
        let t = place-fits (process_bytes p) e in
        let q : kind_fits p.kind p.session.0 p.next ≡ true = rw (kind-back p.kind, process-next p v.next) at t.by_kind in
        record {
          credential = byte-only p.credential.0 last_credential (omega arith) t.credential;
          session = t.session;
          next = v.next;
          name = v.name;
          saved = kept-saved p.session.0 p.next q;
          elevation = kept-elevation p.session.0 p.next q;
          counted = kept-counted p.session.0 p.next q;
        }

    back : (p : Process) → FormedProcess p → process_from (process_bytes p) ≡ p
    back p v =
        let c : byte_of p.credential.0 ≡ p.credential.0 = byte_small p.credential.0 (omega (arith, v.credential)) in
        rw (process-next p v.next, c, kind-back p.kind)

    fits : (p : Process) → FormedProcess p → process_fits (process_bytes p) ≡ true
    fits p v =
        let c : byte_of p.credential.0 ≡ p.credential.0 = byte_small p.credential.0 (omega (arith, v.credential)) in
        rw (process-next p v.next, c, le-leb p.credential.0 last_credential v.credential, le-leb (kind_number p.kind) last_type (kind-low p.kind), le-leb p.session.0 last_session v.session, kind-back p.kind)
        (kind-test p.kind p.session.0 p.next v.saved v.elevation v.counted)

    good : (b : List ℕ) → length b ≡ place_size → Bytes b → process_fits b ≡ true → FormedProcess (process_from b)
    good b n h e =
        let t = place-fits b e in
        record {
          credential = t.credential;
          session = t.session;
          next = number-low next_size next_at b h;
          name = simp length-drop (omega arith);
          saved = kept-saved (get_or b session_at 0) (number_at next_size next_at b) t.by_kind;
          elevation = kept-elevation (get_or b session_at 0) (number_at next_size next_at b) t.by_kind;
          counted = kept-counted (get_or b session_at 0) (number_at next_size next_at b) t.by_kind;
        }

-- ---- a free place is zeros, and the other way round
pub free-row : process_bytes free_place ≡ replicate place_size 0
unfolding process_bytes bytes_of byte_of
free-row = refl

pub free_of : process_from (replicate place_size 0) ≡ free_place
unfolding process_from number_at number_of
free_of = refl

pub free-formed : FormedProcess free_place
free-formed = record { credential = omega arith; session = omega arith; next = omega arith; name = refl; saved = λ e. refl; elevation = λ e. refl; counted = λ e. let z : ◌≡◌ {A = ℕ} 0 1 = cc in absurd (omega arith) }
