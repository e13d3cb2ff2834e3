-- The laws that close the needs of this crate's functions by `search rules`: each premise is as a place's record has it.
-- Assumes nothing.
use Prim.Native.Nat.{ℕ, zero, suc, min, ◌+◌, ◌-◌, ◌*◌, ◌<◌, ◌≤◌, ◌%◌}
use mathlib.Core.Path.{◌≡◌, refl, sym, ap, ◌∙◌}
use mathlib.Core.Bool.{Bool, true, false, ◌&&◌, ◌||◌, not}
use mathlib.Core.List.{List, [], ◌∷◌, map}
use native.Mathlib.Omega.{arith}
use native.Mathlib.Nat.{add-zero}
use native.Mathlib.Numerals.{add-one}
use borrow.Author.Rules.{rules as std_rules}
use borrow.Author.Tests.{eqb-true, eqb-false, eq-eqb, ne_eqb, le-leb, le-ltb, lt-leb, leb-true, not-true, not-false}
use lib.Dec.{eqb, leb, ltb}
use lib.ListN.{length, drop, get_or, get_or-eq_default, length-map, drop_of_length-le, replicate, length-replicate, set, length-set}
use lib.Seq.{get_or-drop, get_or-take, get_or-set_same, get_or-set_other, drop-cons}
use Rattle.rows.specs.Bytes.{is_zero, number_at}
use Rattle.lists.proofs.Lists.{length-mapped}
use Rattle.lists.proofs.Tests.{split, below, clash, and_left, and_right, and_both, or-false}
use Rattle.rows.specs.Rows.{rows, every, pairwise}
use Rattle.rows.proofs.Rows.{rows-length, rows_take, map-take}
use Rattle.rows.proofs.Loops.{map-part, and-false, and_assoc}
use Rattle.names.specs.Names.{user_type, elevation_type, saved_type, last_type, kind_numbered}
use Rattle.names.proofs.Laws.{kind-saved}
use Rattle.table.specs.Table.{standing, is_user, is_elevation, is_active, is_active_in, places}
use Rattle.module_state.specs.Module.{closed_session, unprovisioned, provisioned, phase_of, is_chosen, session_count, credential_count, last_session, last_credential}
use Rattle.module_state.specs.declared.Grants.{Grants}
use Rattle.state_layout.specs.Layout.{credential_size, owner_at, kind_at, session_at, next_at, next_size, place_size, chosen_byte, set_flag, sessions_at, session_size, credentials_at, places_at, state_length, phase_from, session_from, grants_from, kind_fits, process_from, process_fits, count_in, places_in, state_of, is_owned, are_rivals, rest_is_free, owners_fit, shaped}
use Rattle.state_fields.specs.Keys.{user_keys, no_key, key_count, key_numbered, key_of, Key}
use Rattle.state_fields.specs.Stands.{stands, no_rivals, stand_together, all_fit}
use Rattle.state_layout.proofs.Laws.{state-in}
use Rattle.state_layout.proofs.Parts.{place-part}

-- ---- a place
module _ (x : List ℕ) where
  pub process-credential : last_credential < get_or x owner_at 0 → false ≡ process_fits x
  unfolding process_fits
  process-credential h = rw (lt-leb (get_or x owner_at 0) last_credential h)

  module _ (c : get_or x owner_at 0 ≤ last_credential) where
    pub process-session : last_session < get_or x session_at 0 → false ≡ process_fits x
    unfolding process_fits
    process-session h = rw (le-leb (get_or x owner_at 0) last_credential c, lt-leb (get_or x session_at 0) last_session h) (sym (and-false (leb (get_or x kind_at 0) last_type)))

    module _ (s : get_or x session_at 0 ≤ last_session) where
      pub process-type : last_type < get_or x kind_at 0 → false ≡ process_fits x
      unfolding process_fits
      process-type h = rw (le-leb (get_or x owner_at 0) last_credential c, lt-leb (get_or x kind_at 0) last_type h)

      in-range : get_or x kind_at 0 ≤ last_type → process_fits x ≡ kind_fits (kind_numbered (get_or x kind_at 0)) (get_or x session_at 0) (number_at next_size next_at x)
      unfolding process_fits
      in-range t = rw (le-leb (get_or x owner_at 0) last_credential c, le-leb (get_or x kind_at 0) last_type t, le-leb (get_or x session_at 0) last_session s)

      pub process-user : get_or x kind_at 0 ≡ user_type → true ≡ process_fits x
      process-user e = sym (in-range (omega arith) ∙ rw e)

      pub process-elevation : get_or x kind_at 0 ≡ elevation_type → {n : ℕ} → n ≡ number_at next_size next_at x → eqb n 0 ≡ process_fits x
      process-elevation e q = sym (in-range (omega arith) ∙ rw (e, q))

      module _ (t : get_or x kind_at 0 ≤ last_type) (n : get_or x kind_at 0 ≡ user_type → ⊥) (m : get_or x kind_at 0 ≡ elevation_type → ⊥) where
        pub process-somewhere : 0 < get_or x session_at 0 → false ≡ process_fits x
        process-somewhere k = sym (in-range t ∙ rw (← kind-saved (get_or x kind_at 0) n m, ne_eqb (get_or x session_at 0) 0 (λ e. omega arith)))

        pub process-saved : get_or x session_at 0 ≤ 0 → {p : ℕ} → p ≡ number_at next_size next_at x → leb 1 p ≡ process_fits x
        process-saved k q = sym (in-range t ∙ rw (← kind-saved (get_or x kind_at 0) n m, eq-eqb (get_or x session_at 0) 0 (omega arith), q))

-- ---- an owner
chosen_of : (b : ℕ) → is_chosen (phase_from b) ≡ eqb b chosen_byte
unfolding is_chosen
chosen_of zero = refl
chosen_of (suc zero) = refl
chosen_of (suc (suc zero)) = refl
chosen_of (suc (suc (suc n))) = sym (ne_eqb (suc (suc (suc n))) chosen_byte (λ e. omega arith))

module _ (s x : List ℕ) (long : length s ≡ state_length) {c : ℕ} (w : c ≡ get_or x owner_at 0) where
  grants-long : length (map grants_from (rows credential_count credential_size (drop credentials_at s))) ≡ credential_count
  grants-long = length-map (rows credential_count credential_size (drop credentials_at s)) grants_from ∙ rows-length credential_count credential_size (drop credentials_at s)

  pub owner-none : {v : Bool} → v ≡ false → credential_count ≤ c → v ≡ is_owned (state_of s) (process_from x)
  unfolding is_owned process_from provisioned
  owner-none f h =
      let e : get_or (map grants_from (rows credential_count credential_size (drop credentials_at s))) (get_or x owner_at 0) unprovisioned ≡ unprovisioned =
      get_or-eq_default (map grants_from (rows credential_count credential_size (drop credentials_at s))) unprovisioned (omega (arith, grants-long, w))
      in
      let none : (get_or (map grants_from (rows credential_count credential_size (drop credentials_at s))) (get_or x owner_at 0) unprovisioned).provisioned ≡ false = ap (λ (g : Grants). g.provisioned) e in
      rw (f, state-in s long, none)

  flag : c < credential_count → (get_or (map grants_from (rows credential_count credential_size (drop credentials_at s))) (get_or x owner_at 0) unprovisioned).provisioned ≡ eqb (get_or s (credentials_at + c * credential_size) 0) set_flag
  unfolding grants_from
  flag h =
      let p : 0 < credentials_at + c * credential_size + credential_size - (credentials_at + c * credential_size) = omega arith in
      rw (← w, map-part grants_from credential_count credential_size credentials_at s c unprovisioned h, get_or-take (credentials_at + c * credential_size + credential_size - (credentials_at + c * credential_size)) (drop (credentials_at + c * credential_size) s) 0 0 p, get_or-drop (credentials_at + c * credential_size) s 0 0, add-zero)

  module _ (h : c < credential_count) where
    pub owner-not : {v : Bool} → v ≡ false → v ≡ eqb (get_or s (credentials_at + c * credential_size) 0) set_flag → v ≡ is_owned (state_of s) (process_from x)
    unfolding is_owned process_from provisioned
    owner-not f e = rw (f, state-in s long, flag h, ← e, f)

    module _ (f : get_or s (credentials_at + c * credential_size) 0 ≡ set_flag) where
      pub owner-saved : saved_type ≤ get_or x kind_at 0 → true ≡ is_owned (state_of s) (process_from x)
      unfolding is_owned process_from provisioned is_active_in
      owner-saved k = rw (state-in s long, flag h, eq-eqb (get_or s (credentials_at + c * credential_size) 0) set_flag f, ← kind-saved (get_or x kind_at 0) (λ e. omega arith) (λ e. omega arith))

      active : (k : ℕ) → k < saved_type → (is_user (kind_numbered k) || is_elevation (kind_numbered k)) ≡ true
      active zero l = refl
      active (suc zero) l = refl
      active (suc (suc k)) l = absurd (omega arith)

      module _ (k : get_or x kind_at 0 < saved_type) {t : ℕ} (u : t ≡ get_or x session_at 0) where
        active-there : is_owned (state_of s) (process_from x) ≡ is_chosen (get_or (map session_from (rows session_count session_size s)) (get_or x session_at 0) closed_session).phase
        unfolding is_owned process_from provisioned is_active_in phase_of
        active-there =
            rw (state-in s long, flag h, eq-eqb (get_or s (credentials_at + c * credential_size) 0) set_flag f, active (get_or x kind_at 0) k, eq-eqb (get_or x session_at 0) (get_or x session_at 0) refl)

        pub owner-nowhere : session_count ≤ t → ltb t session_count ≡ is_owned (state_of s) (process_from x)
        unfolding is_chosen
        owner-nowhere z =
            let l : length (map session_from (rows session_count session_size s)) ≡ session_count = length-map (rows session_count session_size s) session_from ∙ rows-length session_count session_size s in
            let e : get_or (map session_from (rows session_count session_size s)) (get_or x session_at 0) closed_session ≡ closed_session =
            get_or-eq_default (map session_from (rows session_count session_size s)) closed_session (omega (arith, l, u))
            in
            le-ltb t session_count z ∙ sym (active-there ∙ rw e)

        pub owner-there : t < session_count → eqb (get_or s t 0) chosen_byte ≡ is_owned (state_of s) (process_from x)
        unfolding session_from
        owner-there z =
            let p : 0 < sessions_at + t * session_size + session_size - (sessions_at + t * session_size) = omega arith in
            let q : sessions_at + t * session_size ≡ t = omega arith in
            let e : (get_or (map session_from (rows session_count session_size s)) (get_or x session_at 0) closed_session).phase ≡ phase_from (get_or s t 0) =
            rw (← u, map-part session_from session_count session_size sessions_at s t closed_session z, get_or-take (sessions_at + t * session_size + session_size - (sessions_at + t * session_size)) (drop (sessions_at + t * session_size) s) 0 0 p, get_or-drop (sessions_at + t * session_size) s 0 0, q, add-zero)
            in
            sym (active-there ∙ rw e (chosen_of (get_or s t 0)))

-- ---- each place by itself
module _ (s x : List ℕ) {p : Bool} (e : p ≡ process_fits x) where
  pub stands-out : p ≡ false → p ≡ stands s x
  unfolding stands
  stands-out t = rw (← e, t)

  pub stands-owned : p ≡ true → {q : Bool} → q ≡ is_owned (state_of s) (process_from x) → q ≡ stands s x
  unfolding stands
  stands-owned t f = f ∙ rw (← e, t)

-- ---- two places. The test of rivals, by the types' numbers and whether the sessions and the credentials agree
abbrev rivalry : ℕ → ℕ → Bool → Bool → Bool
rivalry k l session credential =
    (is_user (kind_numbered k) && (is_user (kind_numbered l) && session && credential)) || (is_elevation (kind_numbered k) && (is_elevation (kind_numbered l) && session))

rivals-are : (a b : List ℕ) → are_rivals (process_from a) (process_from b) ≡ rivalry (get_or a kind_at 0) (get_or b kind_at 0) (eqb (get_or b session_at 0) (get_or a session_at 0)) (eqb (get_or b owner_at 0) (get_or a owner_at 0))
unfolding are_rivals process_from is_active
rivals-are a b = refl

-- ---- keys: by the type
module _ (row : List ℕ) {s : ℕ} (t : s ≡ get_or row session_at 0) where
  pub key-user : {c : ℕ} → c ≡ get_or row owner_at 0 → get_or row kind_at 0 ≡ user_type → Key (key_of row) (s % session_count * credential_count + c % credential_count)
  unfolding key_of
  key-user {c} w e = record { is = rw (e, t, w); small = omega arith }

  pub key-elevation : get_or row kind_at 0 ≡ elevation_type → Key (key_of row) (user_keys + s % session_count)
  unfolding key_of
  key-elevation e = record { is = rw (e, t); small = omega arith }

pub key-saved : (row : List ℕ) → (get_or row kind_at 0 ≡ user_type → ⊥) → (get_or row kind_at 0 ≡ elevation_type → ⊥) → Key (key_of row) no_key
unfolding key_of
key-saved row n m = record { is = rw (← kind-saved (get_or row kind_at 0) n m); small = omega arith }

-- rivals have one, and the same
record OneKey (x y : ℕ) : Type 0 where
  one : x < no_key
  same : x ≡ y

rivalry-key : (k l s t c d : ℕ) → rivalry k l (eqb t s) (eqb d c) ≡ true → OneKey (key_numbered (kind_numbered k) s c) (key_numbered (kind_numbered l) t d)
rivalry-key zero zero s t c d e =
    let q : (eqb t s && eqb d c) ≡ true = sym (or-false (eqb t s && eqb d c)) ∙ e in
    record { one = omega arith; same = rw (eqb-true t s (and_left (eqb t s) (eqb d c) q), eqb-true d c (and_right (eqb t s) (eqb d c) q)) }
rivalry-key zero (suc zero) s t c d e = clash e refl
rivalry-key zero (suc (suc l)) s t c d e = clash e refl
rivalry-key (suc zero) zero s t c d e = clash e refl
rivalry-key (suc zero) (suc zero) s t c d e = record { one = omega arith; same = rw (eqb-true t s e) }
rivalry-key (suc zero) (suc (suc l)) s t c d e = clash e refl
rivalry-key (suc (suc k)) l s t c d e = clash e refl

rivals-key : (a b : List ℕ) → are_rivals (process_from a) (process_from b) ≡ true → OneKey (key_of a) (key_of b)
unfolding key_of
rivals-key a b e = rivalry-key (get_or a kind_at 0) (get_or b kind_at 0) (get_or a session_at 0) (get_or b session_at 0) (get_or a owner_at 0) (get_or b owner_at 0) (sym (rivals-are a b) ∙ e)

-- the other way round, of places that may stand
rivalry-met : (k l s t c d : ℕ) → s ≤ last_session → t ≤ last_session → c ≤ last_credential → d ≤ last_credential
    → key_numbered (kind_numbered k) s c < no_key → key_numbered (kind_numbered l) t d ≡ key_numbered (kind_numbered k) s c
    → rivalry k l (eqb t s) (eqb d c) ≡ true
rivalry-met zero zero s t c d p q v w h e = rw (eq-eqb t s (omega arith), eq-eqb d c (omega arith))
rivalry-met zero (suc zero) s t c d p q v w h e = absurd (omega arith)
rivalry-met zero (suc (suc l)) s t c d p q v w h e = absurd (omega arith)
rivalry-met (suc zero) zero s t c d p q v w h e = absurd (omega arith)
rivalry-met (suc zero) (suc zero) s t c d p q v w h e = rw (eq-eqb t s (omega arith))
rivalry-met (suc zero) (suc (suc l)) s t c d p q v w h e = absurd (omega arith)
rivalry-met (suc (suc k)) l s t c d p q v w h e = absurd (omega arith)

record InRange (x : List ℕ) : Type 0 where
  owner : get_or x owner_at 0 ≤ last_credential
  session : get_or x session_at 0 ≤ last_session

standing-in-range : (s x : List ℕ) → stands s x ≡ true → InRange x
unfolding stands process_fits
standing-in-range s x e =
    let c : Bool = leb (get_or x owner_at 0) last_credential in
    let t : Bool = leb (get_or x kind_at 0) last_type in
    let p : Bool = leb (get_or x session_at 0) last_session in
    let k : Bool = kind_fits (kind_numbered (get_or x kind_at 0)) (get_or x session_at 0) (number_at next_size next_at x) in
    let fits : (c && (t && (p && k))) ≡ true = and_left (c && (t && (p && k))) (is_owned (state_of s) (process_from x)) e in
    record {
      owner = leb-true (get_or x owner_at 0) last_credential (and_left c (t && (p && k)) fits);
      session = leb-true (get_or x session_at 0) last_session (and_left p k (and_right t (p && k) (and_right c (t && (p && k)) fits)));
    }

key-rivals : (s a b : List ℕ) → stands s a ≡ true → stands s b ≡ true → key_of a < no_key → key_of b ≡ key_of a → are_rivals (process_from a) (process_from b) ≡ true
unfolding key_of
key-rivals s a b p q h e =
    let v : InRange a = standing-in-range s a p in
    let w : InRange b = standing-in-range s b q in
    rivals-are a b
    ∙ rivalry-met (get_or a kind_at 0) (get_or b kind_at 0) (get_or a session_at 0) (get_or b session_at 0) (get_or a owner_at 0) (get_or b owner_at 0) v.session w.session v.owner w.owner h e

-- ---- a key that no row has, and one that some row has
abbrev unkeyed : ℕ → List (List ℕ) → Bool
unkeyed k l = every (λ (x : List ℕ). not (eqb (key_of x) k)) l

no_rival : (row x : List ℕ) → (key_of row < no_key → not (eqb (key_of x) (key_of row)) ≡ true) → no_rivals (process_from row) (process_from x) ≡ true
no_rival row x u =
    split (are_rivals (process_from row) (process_from x))
    (λ e. let o : OneKey (key_of row) (key_of x) = rivals-key row x e in clash (u o.one) (ap not (eq-eqb (key_of x) (key_of row) (sym o.same))))
    (λ e. rw e)

free-key : (row : List ℕ) (l : List (List ℕ)) → (key_of row < no_key → unkeyed (key_of row) l ≡ true) → every (no_rivals (process_from row)) (map process_from l) ≡ true
unfolding every
free-key row [] u = refl
free-key row (x ∷ l) u =
    and_both
    (no_rival row x (λ h. and_left (not (eqb (key_of x) (key_of row))) (unkeyed (key_of row) l) (u h)))
    (free-key row l (λ h. and_right (not (eqb (key_of x) (key_of row))) (unkeyed (key_of row) l) (u h)))

met-key : (s row : List ℕ) (l : List (List ℕ)) → stands s row ≡ true → every (stands s) l ≡ true → key_of row < no_key → unkeyed (key_of row) l ≡ false
    → every (no_rivals (process_from row)) (map process_from l) ≡ false
unfolding every
met-key s row [] p q h u = clash refl u
met-key s row (x ∷ l) p q h u =
    split (eqb (key_of x) (key_of row))
    (λ e. rw (key-rivals s row x p (and_left (stands s x) (every (stands s) l) q) h (eqb-true (key_of x) (key_of row) e)))
    (λ e. rw (met-key s row l p (and_right (stands s x) (every (stands s) l) q) h (rw e at u)) (and-false (no_rivals (process_from row) (process_from x))))

-- ---- the places from i on: they stand together, and the marks tell their keys
pub record StandTo (s : List ℕ) (l : List (List ℕ)) (taken : List Bool) (i : ℕ) : Type 0 where
  pub low : i ≤ length l
  pub long : length taken ≡ key_count
  pub clear : get_or taken no_key false ≡ false
  pub marks : (k : ℕ) → k < no_key → get_or taken k false ≡ not (unkeyed k (drop i l))
  pub passed : stand_together s (drop i l) ≡ true

same_at : (z : Bool) (n k : ℕ) → get_or (replicate n z) k z ≡ z
same_at z zero k = refl
same_at z (suc n) zero = refl
same_at z (suc n) (suc k) = same_at z n k

pub stand-begin : (s : List ℕ) (l : List (List ℕ)) → StandTo s l (replicate key_count false) (length l)
unfolding stand_together every pairwise
stand-begin s l =
    let z : Bool = false in
    let none : drop (length l) l ≡ [] = drop_of_length-le l (omega arith) in
    record {
      low = omega arith;
      long = length-replicate key_count z;
      clear = same_at z key_count no_key;
      marks = λ k m. rw none (same_at z key_count k);
      passed = rw none;
    }

-- a test of all that fails from an index on fails
every-from : {A : Type 0} (f : A → Bool) (i : ℕ) (l : List A) → every f (drop i l) ≡ false → every f l ≡ false
unfolding every
every-from f zero l e = e
every-from f (suc i) [] e = e
every-from f (suc i) (x ∷ l) e = rw (every-from f i l e) (and-false (f x))

pairs-from : {A B : Type 0} (f : B → B → Bool) (g : A → B) (i : ℕ) (l : List A) → pairwise f (map g (drop i l)) ≡ false → pairwise f (map g l) ≡ false
unfolding pairwise
pairs-from f g zero l e = e
pairs-from f g (suc i) [] e = e
pairs-from f g (suc i) (x ∷ l) e = rw (pairs-from f g i l e) (and-false (every (f (g x)) (map g l)))

module _ {s : List ℕ} {l : List (List ℕ)} {taken : List Bool} {left : ℕ} (v : StandTo s l taken left) (h : 0 < left) where
  abbrev row : List ℕ
  row = get_or l (left - 1) []

  row_before : drop (left - 1) l ≡ row ∷ drop left l
  row_before =
      let back : left - 1 + 1 ≡ left = omega arith in
      drop-cons l (left - 1) [] (omega (arith, v.low)) ∙ rw (← add-one (left - 1), back)

  later-stand : every (stands s) (drop left l) ≡ true
  unfolding stand_together
  later-stand = and_left (every (stands s) (drop left l)) (pairwise no_rivals (map process_from (drop left l))) v.passed

  later-apart : pairwise no_rivals (map process_from (drop left l)) ≡ true
  unfolding stand_together
  later-apart = and_right (every (stands s) (drop left l)) (pairwise no_rivals (map process_from (drop left l))) v.passed

  module _ {b : Bool} (e : b ≡ stands s row) where
    pub stand-out : b ≡ false → false ≡ stand_together s l
    unfolding stand_together every
    stand-out q =
        let here : every (stands s) (drop (left - 1) l) ≡ false = rw (row_before, ← e, q) in
        sym (rw (every-from (stands s) (left - 1) l here))

    module _ (q : b ≡ true) {x : ℕ} (p : Key (key_of row) x) where
      stood : stands s row ≡ true
      stood = sym e ∙ q

      pub stand-rival : get_or taken x false ≡ true → false ≡ stand_together s l
      unfolding stand_together pairwise
      stand-rival m =
          below x no_key
          (λ k.
          let met : unkeyed (key_of row) (drop left l) ≡ false = rw (← p.is) (not-true (unkeyed x (drop left l)) (sym (v.marks x k) ∙ m)) in
          let rivals : every (no_rivals (process_from row)) (map process_from (drop left l)) ≡ false = met-key s row (drop left l) stood later-stand (rw (← p.is) k) met in
          let here : pairwise no_rivals (map process_from (drop (left - 1) l)) ≡ false = rw (row_before, rivals) in
          sym (rw (pairs-from no_rivals process_from (left - 1) l here) (and-false (every (stands s) l))))
          (λ k. let z : x ≡ no_key = omega (arith, p.small) in clash m (rw z v.clear))

      pub stand-on : get_or taken x false ≡ false → StandTo s l (set (set taken x true) no_key false) (left - 1)
      unfolding stand_together every pairwise
      stand-on m =
          let in_taken : x < length taken = omega (arith, v.long, p.small) in
          let room : no_key < length (set taken x true) = omega (arith, length-set taken x true, v.long) in
          record {
            low = omega (arith, v.low);
            long = length-set (set taken x true) no_key false ∙ length-set taken x true ∙ v.long;
            clear = get_or-set_same (set taken x true) no_key false false room;
            marks = λ k l.
                let other : k ≡ no_key → ⊥ = (λ z. omega arith) in
                get_or-set_other (set taken x true) no_key k false false other
                ∙ split (eqb x k)
                (λ t. let z : x ≡ k = eqb-true x k t in rw (row_before, ← p.is, t, ← z) (get_or-set_same taken x true false in_taken))
                (λ t. get_or-set_other taken x k true false (λ z. eqb-false x k t (sym z)) ∙ v.marks k l ∙ rw (row_before, ← p.is, t));
            passed =
                let free : key_of row < no_key → unkeyed (key_of row) (drop left l) ≡ true =
                (λ k. rw (← p.is) (not-false (unkeyed x (drop left l)) (sym (v.marks x (rw p.is k)) ∙ m)))
                in
                rw row_before (and_both (and_both stood later-stand) (and_both (free-key row (drop left l) free) later-apart));
          }

pub stand-all : {s : List ℕ} {l : List (List ℕ)} {taken : List Bool} {left : ℕ} → StandTo s l taken left → left ≤ 0 → true ≡ stand_together s l
stand-all {left = left} v h = let z : left ≡ 0 = omega arith in sym (rw z at v.passed)

-- ---- each place by itself, in two tests
pub interchange : (a b c d : Bool) → ((a && b) && (c && d)) ≡ ((a && c) && (b && d))
interchange true b true d = refl
interchange true b false d = and-false b
interchange false b c d = refl

stand-both : (s : List ℕ) (l : List (List ℕ)) → every (stands s) l ≡ (every process_fits l && every (is_owned (state_of s)) (map process_from l))
unfolding every stands
stand-both s [] = refl
stand-both s (x ∷ l) =
    ap (λ (b : Bool). stands s x && b) (stand-both s l)
    ∙ interchange (process_fits x) (is_owned (state_of s) (process_from x)) (every process_fits l) (every (is_owned (state_of s)) (map process_from l))

-- ---- all together, the cheapest tests first: the first that fails, and the last
module _ (b : List ℕ) where
  abbrev fit : Bool
  fit = every process_fits (rows (count_in b) place_size (drop places_at b))

  abbrev owned : Bool
  owned = every (is_owned (state_of b)) (standing (state_of b).table) && pairwise no_rivals (standing (state_of b).table)

  tests : all_fit b ≡ (rest_is_free b && (owners_fit b && (fit && owned)))
  unfolding all_fit shaped
  tests = and_assoc (rest_is_free b) (owners_fit b && fit) owned ∙ ap (λ (x : Bool). rest_is_free b && x) (and_assoc (owners_fit b) fit owned)

  pub fit-short : (length b ≡ state_length → ⊥) → false ≡ all_fit b
  unfolding rest_is_free
  fit-short n = sym (tests ∙ rw (ne_eqb (length b) state_length n))

  module _ {z : Bool} (i : z ≡ rest_is_free b) where
    pub fit_free : z ≡ false → z ≡ all_fit b
    fit_free y = rw y (sym (tests ∙ rw (← i, y)))

    module _ (y : z ≡ true) {p : Bool} (e : p ≡ owners_fit b) where
      pub fit-owners : p ≡ false → p ≡ all_fit b
      fit-owners t = rw t (sym (tests ∙ rw (← i, y, ← e, t)))

      -- the count is in its range, so that no place is left out
      few : count_in b ≤ places
      unfolding rest_is_free
      few =
          let behind : Bool = every is_zero (drop (places_at + count_in b * place_size) b) in
          leb-true (count_in b) places (and_left (leb (count_in b) places) behind (and_right (eqb (length b) state_length) (leb (count_in b) places && behind) (sym i ∙ y)))

      pub fit-places : p ≡ true → length b ≡ state_length → {r : Bool} → r ≡ stand_together b (rows (min (count_in b) places) place_size (drop places_at b)) → r ≡ all_fit b
      unfolding stand_together count_in standing places_in
      fit-places t long g =
          let all : List (List ℕ) = rows (count_in b) place_size (drop places_at b) in
          let apart : Bool = pairwise no_rivals (map process_from all) in
          let every_one : min (count_in b) places ≡ count_in b = omega (arith, few) in
          rw every_one at g
          ∙ ap (λ (x : Bool). x && apart) (stand-both b all)
          ∙ and_assoc (every process_fits all) (every (is_owned (state_of b)) (map process_from all)) apart
          ∙ sym (tests ∙ rw (← i, y, ← e, t, state-in b long, map-take process_from (count_in b) (rows places place_size (drop places_at b)), rows_take (count_in b) places place_size (drop places_at b) few))

pub ruleset rules = (std_rules, length-mapped, process-credential, process-type, process-session, process-user, process-elevation, process-somewhere, process-saved, owner-none, owner-not, owner-saved, owner-nowhere, owner-there, place-part, stands-out, stands-owned, key-user, key-elevation, key-saved, stand-begin, stand-out, stand-rival, stand-on, stand-all, fit-short, fit_free, fit-owners, fit-places)
