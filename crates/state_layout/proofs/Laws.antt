-- "each state having one form there": a slice that holds a state is the bytes of that state, and of no other; a state of the right form is read
-- back from its bytes; and bytes that were written hold a state exactly where the state is of the right form and keeps demand 3's rules.
-- Assumes nothing.
use Prim.Native.Nat.{ℕ, ◌+◌, ◌-◌, ◌*◌, ◌<◌, ◌≤◌}
use mathlib.Core.Path.{◌≡◌, sym, ap, subst, ◌∙◌}
use mathlib.Core.Logic.{◌↔◌}
use mathlib.Core.Bool.{true}
use mathlib.Core.List.{List, [], ◌∷◌, ◌++◌, map, append-nil}
use native.Mathlib.Omega.{arith}
use lib.Dec.{eqb, leb}
use lib.ListN.{length, take, drop, get_or, replicate, length-append, length-map, length-drop, take-append-drop}
use lib.Seq.{take_all, drop_at, get_or-drop, drop-drop, drop-cons, length-take-le}
use borrow.Author.Tests.{eqb-true, leb-true, eq-eqb, ne_eqb, le-leb}
use Rattle.rows.proofs.Bytes.{byte_small, byte-only, bytes_drop}
use Rattle.lists.specs.Lists.{join, padded}
use Rattle.rows.specs.Bytes.{Bytes, is_zero, byte_of}
use Rattle.lists.proofs.Tests.{and_left, and_right, and_both}
use Rattle.rows.specs.Rows.{rows, every}
use Rattle.lists.specs.Each.{Each}
use Rattle.lists.proofs.Each.{each_all}
use Rattle.rows.proofs.Rows.{rows-length, rows_take, rows_drop, join-append, every-split, every_take, each-every, each_append, each_take, each-replicate, map-append, map-drop, map-take, map-replicate, zeros-are, join-zeros, rows-zeros, array-wide, array_long, array_back, array-fits, array-only, array-forth, array-good}
use Rattle.table.specs.Table.{standing, table_of, free_place, places}
use Rattle.table.specs.declared.Process.{Process}
use Rattle.table.specs.declared.Table.{Table}
use Rattle.module_state.specs.declared.State.{State}
use Rattle.state_layout.specs.Layout.{credential_size, place_size, session_size, credentials_at, count_at, count_size, places_at, state_length, session_bytes, session_from, session_fits, grants_bytes, grants_from, grants_fit, process_bytes, process_from, process_fits, count_in, places_in, state_bytes, state_in, nothing_held, state_of, state_written, owners_fit, rest_is_free, shaped, sound, holds_state}
use Rattle.module_rules.specs.Facts.{FormedGrants, FormedProcess, Formed, IsState, Wide}
use Rattle.module_rules.proofs.Laws.{formed-few}
use Rattle.state_layout.proofs.Fields.{session-codec, grants-codec, process-codec, free-row, free_of, free-formed}
use Rattle.state_layout.proofs.Sound.{sound-exactly}
use Rattle.module_state.specs.Module.{session_count, credential_count}

-- ---- the parts of a slice: sessions, credentials, one, the rest
module _ (A B P : List ℕ) (c : ℕ) (a : length A ≡ session_count) (b : length B ≡ credential_count * credential_size) where
  from-credentials : drop credentials_at (A ++ (B ++ (c ∷ P))) ≡ B ++ (c ∷ P)
  from-credentials = drop_at A (B ++ (c ∷ P)) credentials_at a

  from-count : drop count_at (A ++ (B ++ (c ∷ P))) ≡ c ∷ P
  from-count = sym (drop-drop (credential_count * credential_size) credentials_at (A ++ (B ++ (c ∷ P)))) ∙ rw from-credentials (drop_at B (c ∷ P) (credential_count * credential_size) b)

  from_places : drop places_at (A ++ (B ++ (c ∷ P))) ≡ P
  from_places = sym (drop-drop count_size count_at (A ++ (B ++ (c ∷ P)))) ∙ rw from-count

  at_count : get_or (A ++ (B ++ (c ∷ P))) count_at 0 ≡ c
  at_count = sym (get_or-drop count_at (A ++ (B ++ (c ∷ P))) 0 0) ∙ rw from-count

  whole : length (A ++ (B ++ (c ∷ P))) ≡ places_at + length P
  whole = simp length-append (omega arith)

parts : (b : List ℕ) → length b ≡ state_length → b ≡ take credentials_at b ++ (take (credential_count * credential_size) (drop credentials_at b) ++ (get_or b count_at 0 ∷ drop places_at b))
parts b h =
    let k : count_at < length b = omega arith in
    let d : drop (credential_count * credential_size) (drop credentials_at b) ≡ get_or b count_at 0 ∷ drop places_at b = drop-drop (credential_count * credential_size) credentials_at b ∙ drop-cons b count_at 0 k in
    sym (rw (← d, take-append-drop (credential_count * credential_size) (drop credentials_at b), take-append-drop credentials_at b))

-- ---- what a slice that is shaped has
pub record Shape (b : List ℕ) : Type 0 where
  pub long : length b ≡ state_length
  pub sessions : every session_fits (rows session_count session_size b) ≡ true
  pub credentials : every grants_fit (rows credential_count credential_size (drop credentials_at b)) ≡ true
  pub room : count_in b ≤ places
  pub standing : every process_fits (rows (count_in b) place_size (drop places_at b)) ≡ true
  pub free : every is_zero (drop (places_at + count_in b * place_size) b) ≡ true

pub shape : (b : List ℕ) → shaped b ≡ true → Shape b
unfolding shaped owners_fit rest_is_free
shape b e =
    let free = and_left (rest_is_free b) _ e in
    let rest = and_right (eqb (length b) state_length) _ free in
    let e₁ = and_right (rest_is_free b) _ e in
    let owners = and_right (eqb (length b) state_length) _ (and_left (owners_fit b) _ e₁) in
    record {
      long = eqb-true (length b) state_length (and_left (eqb (length b) state_length) _ free);
      sessions = and_left (every session_fits (rows session_count session_size b)) _ owners;
      credentials = and_right (every session_fits (rows session_count session_size b)) _ owners;
      room = leb-true (count_in b) places (and_left (leb (count_in b) places) _ rest);
      standing = and_right (owners_fit b) _ e₁;
      free = and_right (leb (count_in b) places) _ rest;
    }

pub shape-test : (b : List ℕ) → Shape b → shaped b ≡ true
unfolding shaped owners_fit rest_is_free
shape-test b v = rw (eq-eqb (length b) state_length v.long, v.sessions, v.credentials, le-leb (count_in b) places v.room, v.free) v.standing

-- ---- reading and writing, by the length of the slice
module _ (b : List ℕ) where
  pub state-in : length b ≡ state_length → state_of b ≡ state_in b
  unfolding state_of
  state-in h = rw (eq-eqb (length b) state_length h)

  pub state-not-in : (length b ≡ state_length → ⊥) → state_of b ≡ nothing_held
  unfolding state_of
  state-not-in h = rw (ne_eqb (length b) state_length h)

  module _ (st : State) where
    pub state-written : length b ≡ state_length → state_written b st ≡ state_bytes st
    unfolding state_written
    state-written h = rw (eq-eqb (length b) state_length h)

    pub state-not-written : (length b ≡ state_length → ⊥) → state_written b st ≡ b
    unfolding state_written
    state-not-written h = rw (ne_eqb (length b) state_length h)

-- ---- a table whose places past the count are free is the table of those that stand, and the other way round
abbrev table_with : List Process → ℕ → Table
table_with l c = record { places = l; count = c }

tidy_of : (l : List Process) (c : ℕ) → length l ≡ places → c ≤ places → drop c l ≡ replicate (places - c) free_place → table_with l c ≡ table_of (take c l)
unfolding table_of padded
tidy_of l c h k e =
    let n : length (take c l) ≡ c = length-take-le c l (omega arith) in
    rw (n, ← e, take-append-drop)

module _ {b : List ℕ} (v : Shape b) where
  -- the rows past the count
  free-rows : drop (count_in b) (rows places place_size (drop places_at b)) ≡ replicate (places - count_in b) (replicate place_size 0)
  free-rows =
      let c : ℕ = count_in b in
      let m : ℕ = places - c in
      let t : places ≡ c + m = omega (arith, v.room) in
      let d : drop (c * place_size) (drop places_at b) ≡ drop (places_at + c * place_size) b = drop-drop (c * place_size) places_at b in
      let n : length (drop (places_at + c * place_size) b) ≡ m * place_size = simp length-drop (omega (arith, v.room, v.long)) in
      let z : drop (places_at + c * place_size) b ≡ replicate (m * place_size) 0 = zeros-are (drop (places_at + c * place_size) b) v.free ∙ rw n in
      let e : drop c (rows (c + m) place_size (drop places_at b)) ≡ replicate m (replicate place_size 0) = rows_drop c m place_size (drop places_at b) ∙ rw (d, z, rows-zeros m place_size) in
      rw (← t) at e

  all_fit : every process_fits (rows places place_size (drop places_at b)) ≡ true
  all_fit =
      every-split process_fits (count_in b) (rows places place_size (drop places_at b)) (rw (rows_take (count_in b) places place_size (drop places_at b) v.room) v.standing)
      (rw free-rows (each-every process_fits _ (each-replicate (places - count_in b) (replicate place_size 0) free-fits)))
    where
      free-fits : process_fits (replicate place_size 0) ≡ true
      free-fits = rw free-row at (process-codec.fits free_place free-formed)

  places-length : length (places_in b) ≡ places
  unfolding places_in
  places-length = length-map (rows places place_size (drop places_at b)) process_from ∙ rows-length places place_size (drop places_at b)

  shape-tidy : (state_in b).table ≡ table_of (standing (state_in b).table)
  unfolding places_in standing
  shape-tidy =
      tidy_of (places_in b) (count_in b) places-length v.room (rw (map-drop process_from (count_in b) (rows places place_size (drop places_at b)), free-rows, map-replicate, free_of))

  module _ (g : Bytes b) where
    pub shape-forth : state_bytes (state_of b) ≡ b
    unfolding state_bytes count_in places_in
    shape-forth =
        let s : join (map session_bytes (map session_from (rows session_count session_size b))) ≡ take credentials_at b = array-forth session-codec session_count b (omega (arith, v.long)) g v.sessions in
        let q : join (map grants_bytes (map grants_from (rows credential_count credential_size (drop credentials_at b)))) ≡ take (credential_count * credential_size) (drop credentials_at b) =
        array-forth grants-codec credential_count (drop credentials_at b) (simp length-drop (omega (arith, v.long))) (bytes_drop credentials_at b g) v.credentials
        in
        let l : length (drop places_at b) ≡ (places * place_size) = simp length-drop (omega (arith, v.long)) in
        let p : join (map process_bytes (map process_from (rows places place_size (drop places_at b)))) ≡ drop places_at b =
        array-forth process-codec places (drop places_at b) (omega arith) (bytes_drop places_at b g) all_fit ∙ take_all (places * place_size) (drop places_at b) (omega arith)
        in
        rw (state-in b v.long, s, q, p, byte_small (get_or b count_at 0) (g count_at)) (sym (parts b v.long))

    pub shape-formed : Formed (state_of b)
    unfolding count_in places_in standing
    shape-formed =
        let l : length (drop places_at b) ≡ (places * place_size) = simp length-drop (omega (arith, v.long)) in
        rw (state-in b v.long) (record {
          sessions = length-map (rows session_count session_size b) session_from ∙ rows-length session_count session_size b;
          credentials = length-map (rows credential_count credential_size (drop credentials_at b)) grants_from ∙ rows-length credential_count credential_size (drop credentials_at b);
          places = places-length;
          words = array-good grants-codec credential_count (drop credentials_at b) (simp length-drop (omega (arith, v.long))) (bytes_drop credentials_at b g) v.credentials;
          tidy = shape-tidy;
          each =
              rw (map-take process_from (count_in b) (rows places place_size (drop places_at b)), rows_take (count_in b) places place_size (drop places_at b) v.room)
              (array-good process-codec (count_in b) (drop places_at b) (omega (arith, v.room)) (bytes_drop places_at b g) v.standing);
        })

-- ---- the bytes of a state
abbrev session_part : State → List ℕ
session_part st = join (map session_bytes st.sessions)

abbrev credential_part : State → List ℕ
credential_part st = join (map grants_bytes st.credentials)

abbrev place_part : State → List ℕ
place_part st = join (map process_bytes st.table.places)

module _ {st : State} (w : Wide st) where
  all-sessions : Each (λ s. Unit) st.sessions
  all-sessions = each_all st.sessions (λ s. tt)

  pub sessions-long : length (session_part st) ≡ session_count
  sessions-long = array_long session-codec all-sessions ∙ rw w.sessions

  pub credentials-long : length (credential_part st) ≡ credential_count * credential_size
  credentials-long = array_long grants-codec w.words ∙ rw w.credentials

  places-long : length (place_part st) ≡ (places * place_size)
  places-long = array_long process-codec w.each ∙ rw w.places

  pub bytes-long : length (state_bytes st) ≡ state_length
  unfolding state_bytes
  bytes-long = whole (session_part st) (credential_part st) (place_part st) (byte_of st.table.count) sessions-long credentials-long ∙ rw places-long

  credentials-at : drop credentials_at (state_bytes st) ≡ credential_part st ++ (byte_of st.table.count ∷ place_part st)
  unfolding state_bytes
  credentials-at = from-credentials (session_part st) (credential_part st) (place_part st) (byte_of st.table.count) sessions-long credentials-long

  count-at : count_in (state_bytes st) ≡ byte_of st.table.count
  unfolding state_bytes count_in
  count-at = at_count (session_part st) (credential_part st) (place_part st) (byte_of st.table.count) sessions-long credentials-long

  places-at : drop places_at (state_bytes st) ≡ place_part st ++ []
  unfolding state_bytes
  places-at = from_places (session_part st) (credential_part st) (place_part st) (byte_of st.table.count) sessions-long credentials-long ∙ sym (append-nil (place_part st))

  -- the bytes of a state whose fields are in their ranges, in every place, are read back
  record Ranged : Type 0 where
    pub words : Each FormedGrants st.credentials
    pub room : st.table.count ≤ places
    pub all : Each FormedProcess st.table.places

  ranged-count : Ranged → count_in (state_bytes st) ≡ st.table.count
  ranged-count r = count-at ∙ byte_small st.table.count (omega (arith, r.room))

  ranged-back : Ranged → state_of (state_bytes st) ≡ st
  unfolding state_bytes places_in
  ranged-back r =
      let s : map session_from (rows session_count session_size (state_bytes st)) ≡ st.sessions =
      rw w.sessions at (array_back session-codec (credential_part st ++ (byte_of st.table.count ∷ place_part st)) all-sessions)
      in
      let q : map grants_from (rows credential_count credential_size (drop credentials_at (state_bytes st))) ≡ st.credentials =
      rw credentials-at (rw w.credentials at (array_back grants-codec (byte_of st.table.count ∷ place_part st) r.words))
      in
      let p : map process_from (rows places place_size (drop places_at (state_bytes st))) ≡ st.table.places =
      rw places-at (rw w.places at (array_back process-codec [] r.all))
      in
      state-in (state_bytes st) bytes-long ∙ rw (s, q, p, ranged-count r)

  -- bytes that are shaped are those of a state of the right form
  shape-ranged : Shape (state_bytes st) → Ranged
  shape-ranged v =
      record {
        words = array-only grants-codec (byte_of st.table.count ∷ place_part st) w.words (rw (w.credentials, ← credentials-at) v.credentials);
        room = byte-only st.table.count places (omega arith) (rw count-at at v.room);
        all = array-only process-codec [] w.each (rw (w.places, ← places-at) (all_fit v));
      }

  shape-only : Shape (state_bytes st) → Formed st
  unfolding standing
  shape-only v =
      let r = shape-ranged v in
      let back : state_in (state_bytes st) ≡ st = sym (state-in (state_bytes st) bytes-long) ∙ ranged-back r in
      record {
        sessions = w.sessions;
        credentials = w.credentials;
        places = w.places;
        words = r.words;
        tidy = subst (λ (x : State). x.table ≡ table_of (standing x.table)) back (shape-tidy v);
        each = each_take st.table.count r.all;
      }

-- ---- a state of the right form
module _ {st : State} (f : Formed st) where
  pub count-is : st.table.count ≡ length (standing st.table)
  unfolding table_of
  count-is = ap (λ (t : Table). t.count) f.tidy

  pub places-are : st.table.places ≡ standing st.table ++ replicate (places - length (standing st.table)) free_place
  unfolding table_of padded
  places-are = ap (λ (t : Table). t.places) f.tidy

  all-formed : Each FormedProcess st.table.places
  all-formed = rw places-are (each_append f.each (each-replicate (places - length (standing st.table)) free_place free-formed))

  pub formed-wide : Wide st
  formed-wide =
      record {
        sessions = f.sessions;
        credentials = f.credentials;
        places = f.places;
        words = array-wide grants-codec f.words;
        each = array-wide process-codec all-formed;
      }

  formed-ranged : Ranged formed-wide
  formed-ranged = record { words = f.words; room = rw count-is (formed-few f); all = all-formed }

  -- what was written is read
  pub state-back : state_of (state_bytes st) ≡ st
  state-back = ranged-back formed-wide formed-ranged

  formed-count : count_in (state_bytes st) ≡ st.table.count
  formed-count = ranged-count formed-wide formed-ranged

  -- past the places that stand, zeros
  free-zeros : every is_zero (drop (st.table.count * place_size) (place_part st)) ≡ true
  free-zeros =
      let n : ℕ = length (standing st.table) in
      let t : place_part st ≡ join (map process_bytes (standing st.table)) ++ join (replicate (places - n) (replicate place_size 0)) =
      ap (λ (l : List Process). join (map process_bytes l)) places-are ∙ rw (map-append, join-append, map-replicate, free-row)
      in
      let q : length (join (map process_bytes (standing st.table))) ≡ n * place_size = array_long process-codec (array-wide process-codec f.each) in
      rw (count-is, t, drop_at (join (map process_bytes (standing st.table))) (join (replicate (places - n) (replicate place_size 0))) (n * place_size) q) (join-zeros (places - n) place_size)

  formed-shape : Shape (state_bytes st)
  unfolding state_bytes
  formed-shape =
      let w : Wide st = formed-wide in
      let p : every process_fits (rows places place_size (drop places_at (state_bytes st))) ≡ true =
      rw (places-at w) (rw w.places at (array-fits process-codec [] all-formed))
      in
      record {
        long = bytes-long w;
        sessions = rw w.sessions at (array-fits session-codec (credential_part st ++ (byte_of st.table.count ∷ place_part st)) (all-sessions w));
        credentials = rw (credentials-at w) (rw w.credentials at (array-fits grants-codec (byte_of st.table.count ∷ place_part st) f.words));
        room = rw (formed-count, count-is) (formed-few f);
        standing =
            rw (formed-count, ← rows_take st.table.count places place_size (drop places_at (state_bytes st)) formed-ranged.room)
            (every_take process_fits st.table.count (rows places place_size (drop places_at (state_bytes st))) p);
        free =
            rw (formed-count, ← drop-drop (st.table.count * place_size) places_at (state_bytes st), places-at w, append-nil) free-zeros;
      }

-- ---- what callers cite
module _ (b : List ℕ) (e : holds_state b ≡ true) where
  pub holds-shape : Shape b
  unfolding holds_state
  holds-shape = shape b (and_left (shaped b) (sound (state_of b)) e)

  module _ (h : Bytes b) where
    -- what is read writes to the bytes that were read: each state has one form
    pub one_form : state_bytes (state_of b) ≡ b
    one_form = shape-forth holds-shape h

    -- what is read is a state
    pub holds-is : IsState (state_of b)
    unfolding holds_state
    holds-is =
        let f : Formed (state_of b) = shape-formed holds-shape h in
        record { rules = (sound-exactly (state_of b) (formed-few f)).0 (and_right (shaped b) (sound (state_of b)) e); formed = f }

-- so two slices that hold one state are equal
pub form-once : (a b : List ℕ) → Bytes a → Bytes b → holds_state a ≡ true → holds_state b ≡ true → state_of a ≡ state_of b → a ≡ b
form-once a b g h p q e = sym (one_form a p g) ∙ ap state_bytes e ∙ one_form b q h

-- whatever is a state is one where it is written
pub holds-written : {st : State} → IsState st → holds_state (state_bytes st) ≡ true
unfolding holds_state
holds-written {st} v = and_both (shape-test (state_bytes st) (formed-shape v.formed)) (rw (state-back v.formed) ((sound-exactly st v.rules.few).1 v.rules))

-- and nothing else is
pub holds-exactly : {st : State} → Wide st → (holds_state (state_bytes st) ≡ true) ↔ IsState st
unfolding holds_state
holds-exactly {st} w = (tells, holds-written)
  where
    tells : holds_state (state_bytes st) ≡ true → IsState st
    tells e =
        let v : Shape (state_bytes st) = holds-shape (state_bytes st) e in
        let f : Formed st = shape-only w v in
        let s : sound st ≡ true = rw (ranged-back w (shape-ranged w v)) at (and_right (shaped (state_bytes st)) (sound (state_of (state_bytes st))) e) in
        record { rules = (sound-exactly st (formed-few f)).0 s; formed = f }
