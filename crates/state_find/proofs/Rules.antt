-- The laws that close the needs of this crate's functions by `search rules`: each premise is as a place's record has it.
-- Assumes nothing.
use Rattle.std.specs.Prelude.{Option, Some, None, Result, Ok, Err, min}
use Rattle.std.specs.Result.{IsErrAnd}
use Rattle.std.specs.Simd.{first_chunks}
use Rattle.std.proofs.Common.{Fits, w64}
use Rattle.std.proofs.lemmas.List.{take-take, drop-take}
use Rattle.rows.proofs.Chunks.{chunks_rows}
use Prim.Native.Nat.{ℕ, zero, suc, ◌+◌, ◌-◌, ◌*◌, ◌/◌, ◌<◌, ◌≤◌}
use mathlib.Core.Path.{◌≡◌, refl, sym, ap, ◌∙◌}
use mathlib.Core.Bool.{Bool, true, false, not}
use mathlib.Core.List.{List, [], map}
use native.Mathlib.Omega.{arith}
use native.Mathlib.Nat.{add-zero, suc-mul}
use borrow.Author.Rules.{rules as std_rules}
use borrow.Author.Tests.{ne_eqb}
use lib.Dec.{eqb}
use lib.ListN.{length, take, drop, get_or, get_or-eq_default, get_or-map, length-map, length-take, length-drop}
use lib.Seq.{get_or-take, get_or-drop, length-take-le}
use Rattle.lists.proofs.Lists.{get_d-same, get_d_any, first-inside}
use Rattle.lists.proofs.Tests.{below}
use Rattle.rows.specs.Bytes.{number_at}
use Rattle.rows.specs.Rows.{rows}
use Rattle.rows.proofs.Rows.{rows-length}
use Rattle.rows.proofs.Loops.{map-part}
use Rattle.names.specs.Names.{kind_numbered}
use Rattle.names.specs.declared.Credential.{Credential}
use Rattle.names.specs.declared.Session.{Session}
use Rattle.table.specs.Table.{standing, size, is_user, is_elevation, is_active, first_place, process_at, places}
use Rattle.table.specs.declared.Active.{Active}
use Rattle.table.specs.declared.Active.TheVariants.{UserOf, ElevationIn}
use Rattle.table.specs.declared.Process.{Process}
use Rattle.table.proofs.Laws.{size_few}
use Rattle.table.proofs.Rules.{no_process, size-part, size-all, process-got}
use Rattle.table.proofs.Searched.{FoundAt, found_at}
use Rattle.table_search.proofs.Rules.{Searching, begin, on, hit, none}
use Rattle.module_state.specs.Module.{closed_session, phase_of, is_session, unprovisioned, grants_of, session_count, credential_count, active_place, active_process}
use Rattle.module_state.specs.Claim.{phase_number, sought, speaks_for, speaker, claim_view, is_in_range, turn_number, claim_number, check_number, placed, check_of, checked, admitted}
use Rattle.module_state.specs.Refusals.{refusal_number}
use Rattle.module_state.specs.declared.Placed.{Placed}
use Rattle.module_state.specs.declared.Checked.{Checked}
use Rattle.module_state.specs.declared.Claim.{Claim}
use Rattle.module_state.specs.declared.Claim.TheVariants.{Elevated, ByUser}
use Rattle.module_state.specs.declared.ClaimView.{ClaimView}
use Rattle.module_state.specs.declared.Grants.{Grants}
use Rattle.module_state.specs.declared.Phase.{Phase}
use Rattle.module_state.specs.declared.Phase.TheVariants.{Closed}
use Rattle.module_state.specs.declared.Refusal.{Refusal}
use Rattle.module_state.specs.declared.SessionState.{SessionState}
use Rattle.module_state.specs.declared.State.{State}
use Rattle.module_state.specs.declared.UserClaim.{UserClaim}
use Rattle.module_state.proofs.Laws.{process-is, claim-stands, checked-place}
use Rattle.module_state.proofs.Refusals.{refusal-some}
use Rattle.module_state.proofs.Rules.{unless-stop, unless-pass, part-stop, part-pass, placed-found, refused-placed, number-placed, placed_on, phase-argument, phase-closed}
use Rattle.claim_check.proofs.Rules.{missing-stop, found-pass, missing-last, found-last, place_at}
use Rattle.state_layout.specs.Layout.{kind_at, session_at, owner_at, next_at, next_size, credential_size, place_size, sessions_at, session_size, credentials_at, count_at, places_at, state_length, phase_from, session_from, grants_from, process_from, count_in, places_in, nothing_held, state_of}
use Rattle.state_layout.proofs.Laws.{state-in, state-not-in}
use Rattle.state_find.proofs.Laws.{active-inside}
use Rattle.state_find.specs.Checks.{claim_place, checked_place, Refused, Passed, tested}

-- ---- sessions and credentials
module _ (s : List ℕ) (h : length s ≡ state_length) where
  pub phase-past : (session : Session) → length (take session_count s) ≤ session.0 → Closed ≡ phase_of (state_of s) session
  unfolding phase_of
  phase-past session k =
      let rest : List SessionState = map session_from (rows session_count session_size s) in
      let long : length rest ≡ session_count = length-map (rows session_count session_size s) session_from ∙ rows-length session_count session_size s in
      let past : length rest ≤ session.0 = omega (arith, long, length-take-le session_count s) in
      sym (rw (state-in s h) (ap (λ (x : SessionState). x.phase) (get_or-eq_default rest closed_session past)))

  pub phase-read : (session : Session) → session.0 < session_count → {p : Phase} → p ≡ phase_from (get_or s session.0 0) → p ≡ phase_of (state_of s) session
  unfolding phase_of session_from
  phase-read session k e =
      let t : ℕ = session.0 in
      let z : 0 < 0 + t * 1 + 1 - (0 + t * 1) = omega arith in
      let q : 0 + t * 1 ≡ t = omega arith in
      let r : (get_or (map session_from (rows session_count session_size s)) t closed_session).phase ≡ phase_from (get_or s t 0) =
      rw (map-part session_from session_count session_size sessions_at s t closed_session k, get_or-take (0 + t * 1 + 1 - (0 + t * 1)) (drop (0 + t * 1) s) 0 0 z, get_or-drop (0 + t * 1) s 0 0, q, add-zero)
      in
      e ∙ sym (rw (state-in s h) r)

  module _ (c : Credential) {rs : List (List ℕ)} (is : rs ≡ rows credential_count credential_size (drop credentials_at s)) where
    grants-long : length (map grants_from rs) ≡ credential_count
    grants-long = length-map rs grants_from ∙ ap length is ∙ rows-length credential_count credential_size (drop credentials_at s)

    pub grants-past : length rs ≤ c.0 → unprovisioned ≡ grants_of (state_of s) c
    unfolding grants_of
    grants-past k = sym (rw (state-in s h, ← is) (get_or-eq_default (map grants_from rs) unprovisioned (omega (arith, length-map rs grants_from))))

    pub grants-read : c.0 < length rs → {g : Grants} → g ≡ grants_from (get_or rs c.0 []) → g ≡ grants_of (state_of s) c
    unfolding grants_of
    grants-read k e =
        e ∙ sym (rw (state-in s h, ← is) (get_d_any (map grants_from rs) c.0 unprovisioned (grants_from []) (omega (arith, length-map rs grants_from)) ∙ get_or-map grants_from rs c.0 []))

-- ---- a place
user-numbered : (k : ℕ) → is_user (kind_numbered k) ≡ eqb k 0
user-numbered zero = refl
user-numbered (suc zero) = refl
user-numbered (suc (suc k)) = sym (ne_eqb (suc (suc k)) 0 (λ e. absurd (omega arith)))

elevation-numbered : (k : ℕ) → is_elevation (kind_numbered k) ≡ eqb k 1
elevation-numbered zero = refl
elevation-numbered (suc zero) = refl
elevation-numbered (suc (suc k)) = sym (ne_eqb (suc (suc k)) 1 (λ e. absurd (omega arith)))

module _ (x : List ℕ) {which : Active} where
  module _ {s : Session} {c : Credential} (w : which ≡ UserOf s c) where
    pub active-no-user : eqb (get_or x kind_at 0) 0 ≡ false → false ≡ is_active which (process_from x)
    unfolding is_active process_from
    active-no-user n = rw (w, user-numbered, n)

    module _ (k : get_or x kind_at 0 ≡ 0) where
      pub active-elsewhere : eqb (get_or x session_at 0) s.0 ≡ false → false ≡ is_active which (process_from x)
      unfolding is_active process_from
      active-elsewhere n = rw (w, k, n)

      pub active-user : {owner : ℕ} → eqb (get_or x session_at 0) s.0 ≡ true → owner ≡ get_or x owner_at 0 → eqb owner c.0 ≡ is_active which (process_from x)
      unfolding is_active process_from
      active-user n o = rw (w, k, n, o)

  module _ {s : Session} (w : which ≡ ElevationIn s) where
    pub active-no-elevation : (get_or x kind_at 0 ≡ 1 → ⊥) → eqb (get_or x kind_at 0) 1 ≡ is_active which (process_from x)
    unfolding is_active process_from
    active-no-elevation n = rw (w, elevation-numbered, ne_eqb (get_or x kind_at 0) 1 n)

    pub active-elevation : get_or x kind_at 0 ≡ 1 → eqb (get_or x session_at 0) s.0 ≡ is_active which (process_from x)
    unfolding is_active process_from
    active-elevation k = rw (w, k)

pub next-of : (x : List ℕ) {n : ℕ} → n ≡ number_at next_size next_at x → n ≡ (process_from x).next
unfolding process_from
next-of x e = e

pub owner-of : (x : List ℕ) {c : ℕ} → c ≡ get_or x owner_at 0 → ◌≡◌ {A = Credential} (record { 0 = c }) (process_from x).credential
unfolding process_from
owner-of x e = rw e

-- ---- the rows of a part, as std has them
rows-front : (n k : ℕ) (l : List ℕ) → rows n k (take (n * k) l) ≡ rows n k l
unfolding rows
rows-front zero k l = refl
rows-front (suc n) k l =
    let both : suc n * k ≡ k + n * k = omega (arith, suc-mul n k) in
    rw (both, take-take k (k + n * k) l (omega arith), drop-take k (n * k) l, rows-front n k (drop k l))

pub chunks-part : (n k off : ℕ) (s : List ℕ) {chunks : List (List ℕ)}
    → chunks ≡ first_chunks k (length (take (n * k) (drop off s)) / k) (take (n * k) (drop off s)) → off + n * k ≤ length s → n * k / k ≡ n → chunks ≡ rows n k (drop off s)
chunks-part n k off s e room one =
    let long : length (take (n * k) (drop off s)) ≡ n * k = simp (length-take, length-drop) (omega (arith, room)) in
    e ∙ rw (long, one, chunks_rows k n (take (n * k) (drop off s))) (rows-front n k (drop off s))

-- ---- the places
module _ (s : List ℕ) (h : length s ≡ state_length) where
  places-long : length (state_of s).table.places ≡ places
  unfolding places_in
  places-long = rw (state-in s h) (length-map (rows places place_size (drop places_at s)) process_from ∙ rows-length places place_size (drop places_at s))

  count-read : {c : ℕ} → c ≡ get_or s count_at 0 → (state_of s).table.count ≡ c
  unfolding count_in
  count-read e = rw (state-in s h) (sym e)

  pub size-least : {c n : ℕ} → c ≡ get_or s count_at 0 → n ≡ min c places → n ≡ size (state_of s).table
  size-least {c} {n} e m =
      below c places
      (λ k. let part : (state_of s).table.count ≡ size (state_of s).table = size-part (state_of s).table places-long (rw (count-read e) k) in omega (arith, part, count-read e))
      (λ k. let all : places ≡ size (state_of s).table = size-all (state_of s).table places-long (rw (count-read e) k) in omega (arith, all))

  pub find-begin : {f : Process → Bool} {n : ℕ} → n ≡ size (state_of s).table → Searching f (state_of s).table.places n 0
  find-begin {f} e = begin f (state_of s).table e places-long

  pub find_none : {f : Process → Bool} {n i : ℕ} → n ≡ size (state_of s).table → Searching f (state_of s).table.places n i → n ≤ i → None ≡ first_place f (standing (state_of s).table)
  find_none q v k = none (state_of s).table q v k

  pub place-low : {at : ℕ} → at < size (state_of s).table → at < places
  place-low k = omega (arith, size_few (state_of s).table places-long)

  module _ {rs : List (List ℕ)} (is : rs ≡ rows places place_size (drop places_at s)) where
    place_here : (i : ℕ) → i < places → get_or (state_of s).table.places i no_process ≡ process_from (get_or rs i [])
    unfolding places_in
    place_here i k =
        let long : length (map process_from rs) ≡ places = length-map rs process_from ∙ ap length is ∙ rows-length places place_size (drop places_at s) in
        rw (state-in s h, ← is) (get_d_any (map process_from rs) i no_process (process_from []) (omega (arith, long)) ∙ get_or-map process_from rs i [])

    module _ {f : Process → Bool} {n i : ℕ} {b : Bool} (v : Searching f (state_of s).table.places n i) (k : i < n) (e : b ≡ f (process_from (get_or rs i []))) where
      looked : b ≡ f (get_or (state_of s).table.places i no_process)
      looked = e ∙ ap f (sym (place_here i (omega (arith, v.small))))

      pub find-on : b ≡ false → Searching f (state_of s).table.places n (i + 1)
      find-on t = on v k looked t

      pub find-hit : n ≡ size (state_of s).table → b ≡ true → Some i ≡ first_place f (standing (state_of s).table)
      find-hit q t = hit (state_of s).table q v k looked t

    process-read : {at : ℕ} → at < size (state_of s).table → process_from (get_or rs at []) ≡ process_at (state_of s).table at
    process-read {at} k = sym (place_here at (place-low k)) ∙ process-got (state_of s).table {n = size (state_of s).table} refl k places-long

    pub row-within : {f : Process → Bool} {n i : ℕ} → Searching f (state_of s).table.places n i → i < n → i < length rs
    row-within v k = rw is (rw rows-length (omega (arith, v.small)))

    pub row-fits : {at : ℕ} → at < size (state_of s).table → Fits w64 (at * place_size)
    row-fits k = omega (arith, place-low k)

    pub row-inside : {at : ℕ} → at < size (state_of s).table → at < length rs
    row-inside k = rw is (rw rows-length (place-low k))

    pub next-read : {at next : ℕ} → at < size (state_of s).table → next ≡ (process_from (get_or rs at [])).next → next ≡ (process_at (state_of s).table at).next
    next-read k e = e ∙ ap (λ (p : Process). p.next) (process-read k)

    pub owner-read : {at : ℕ} {owner : Credential} → at < size (state_of s).table → owner ≡ (process_from (get_or rs at [])).credential → owner ≡ (process_at (state_of s).table at).credential
    owner-read k e = e ∙ ap (λ (p : Process). p.credential) (process-read k)

-- ---- the claim's own tests

-- a process stands where one was found
pub found_inside : (st : State) (a : Active) {f : Option ℕ} {k : ℕ} → f ≡ first_place (is_active a) (standing st.table) → f ≡ Some k → k < size st.table
unfolding size
found_inside st a {k = k} w q =
    let g : FoundAt (is_active a) (standing st.table) k = found_at (is_active a) (standing st.table) (sym w ∙ q) in
    rw g.is (first-inside (is_active a) (standing st.table) g.some)

module _ (st : State) (s : Session) (a : Active) {f : Option ℕ} (w : f ≡ first_place (is_active a) (standing st.table)) where
  seen : (claim : Claim) → a ≡ sought s claim → f ≡ (claim_view st s claim).found
  unfolding claim_view
  seen claim e = rw (← e) w

  module _ (e : a ≡ sought s Elevated) where
    pub elevated-none : f ≡ None → ◌≡◌ {A = Placed} (record { number = 6; place = 0 }) (claim_place st s Elevated)
    unfolding claim_place claim_number claim_view
    elevated-none n = number-placed _ _ refl tt (missing-last (claim_view st s Elevated) (seen Elevated e) 6 n)

    pub elevated-at : {k : ℕ} → f ≡ Some k → ◌≡◌ {A = Placed} (record { number = 0; place = k }) (claim_place st s Elevated)
    unfolding claim_place claim_number claim_view
    elevated-at n = placed-found _ _ (found-last (claim_view st s Elevated) (seen Elevated e) 6 n) (place_at (claim_view st s Elevated) (seen Elevated e) n)

  module _ (u : UserClaim) (e : a ≡ sought s (ByUser u)) {g : Grants} (p : g ≡ grants_of st u.credential) (h : not g.provisioned ≡ false) where
    abbrev told : ClaimView
    told = claim_view st s (ByUser u)

    pub user-none : f ≡ None → ◌≡◌ {A = Placed} (record { number = 6; place = 0 }) (claim_place st s (ByUser u))
    unfolding claim_place claim_number claim_view speaker
    user-none n = number-placed _ _ refl tt (unless-pass 5 (ap (λ (g : Grants). g.provisioned) p) _ h (missing-stop told (seen (ByUser u) e) 6 _ tt n))

    module _ {k : ℕ} (n : f ≡ Some k) {next : ℕ} (x : next ≡ (process_at st.table k).next) where
      user-number : {t : ℕ} → t ≡ turn_number next u → t ≡ claim_number (ByUser u) told
      unfolding claim_number claim_view speaker
      user-number y =
          let v : next ≡ (active_process st (sought s (ByUser u))).next = x ∙ ap (λ (q : Process). q.next) (process-is st (sought s (ByUser u)) (seen (ByUser u) e) n refl) in
          unless-pass 5 (ap (λ (g : Grants). g.provisioned) p) _ h (found-pass told (seen (ByUser u) e) 6 _ n (y ∙ rw v))

      pub user-turn : (r : Refusal) → refusal_number r ≡ turn_number next u → ◌≡◌ {A = Placed} (record { number = refusal_number r; place = 0 }) (claim_place st s (ByUser u))
      unfolding claim_place
      user-turn r y = refused-placed _ _ refl (refusal-some r) (user-number y)

      pub user-at : 0 ≡ turn_number next u → ◌≡◌ {A = Placed} (record { number = 0; place = k }) (claim_place st s (ByUser u))
      unfolding claim_place claim_view
      user-at y = placed-found _ _ (user-number y) (place_at told (seen (ByUser u) e) n)

module _ (st : State) (s : Session) where
  pub user-unprovisioned : (u : UserClaim) {g : Grants} → g ≡ grants_of st u.credential → not g.provisioned ≡ true → ◌≡◌ {A = Placed} (record { number = 5; place = 0 }) (claim_place st s (ByUser u))
  unfolding claim_place claim_number claim_view speaker
  user-unprovisioned u p h = number-placed _ _ refl tt (unless-stop 5 (ap (λ (g : Grants). g.provisioned) p) _ tt h)

  module _ {claim : Claim} {r : Placed} where
    pub place-elevated : claim ≡ Elevated → r ≡ claim_place st s Elevated → r ≡ claim_place st s claim
    place-elevated e q = q ∙ rw e

    pub place-user : {u : UserClaim} → claim ≡ ByUser u → r ≡ claim_place st s (ByUser u) → r ≡ claim_place st s claim
    place-user e q = q ∙ rw e

-- ---- all tests
module _ (st : State) (s : Session) (claim : Claim) {b : Bool} (e : b ≡ is_in_range claim) where
  pub place-range : not b ≡ true → ◌≡◌ {A = Placed} (record { number = 1; place = 0 }) (checked_place st s claim)
  unfolding checked_place checked check_of check_number placed
  place-range h = number-placed _ _ refl tt (unless-stop 1 e _ tt h)

  module _ (h : not b ≡ false) {p : Phase} (w : p ≡ phase_of st s) where
    pub place-phase : (r : Refusal) → refusal_number r ≡ phase_number s p → ◌≡◌ {A = Placed} (record { number = refusal_number r; place = 0 }) (checked_place st s claim)
    unfolding checked_place checked check_of check_number placed claim_view
    place-phase r m = refused-placed _ _ refl (refusal-some r) (unless-pass 1 e _ h (part-stop _ (m ∙ rw w) (refusal-some r)))

    pub place-claim : {r : Placed} → 0 ≡ phase_number s p → r ≡ claim_place st s claim → r ≡ checked_place st s claim
    unfolding checked_place checked check_of check_number placed claim_view claim_place
    place-claim m q = placed_on _ _ _ q (unless-pass 1 e _ h (part-pass _ (m ∙ rw w) refl refl))

-- ---- where no session is open
module _ (s : Session) (claim : Claim) where
  nothing-open : phase_of nothing_held s ≡ Closed
  unfolding phase_of
  nothing-open = ap (λ (x : SessionState). x.phase) (get_d-same session_count s.0 closed_session)

  module _ {b : Bool} (e : b ≡ is_in_range claim) where
    pub elsewhere-range : b ≡ false → 1 ≡ admitted nothing_held s claim
    unfolding admitted checked check_of check_number
    elsewhere-range h = unless-stop 1 e _ tt (ap not h)

    module _ (h : b ≡ true) {d : Bool} (f : d ≡ is_session s) where
      pub elsewhere-session : d ≡ false → 1 ≡ admitted nothing_held s claim
      unfolding admitted checked check_of check_number claim_view
      elsewhere-session k = unless-pass 1 e _ (ap not h) (part-stop _ (phase-argument s (phase_of nothing_held s) f (ap not k)) (λ z. absurd (omega arith)))

      pub elsewhere-closed : d ≡ true → 2 ≡ admitted nothing_held s claim
      unfolding admitted checked check_of check_number claim_view
      elsewhere-closed k = unless-pass 1 e _ (ap not h) (part-stop _ (phase-closed s (phase_of nothing_held s) f (ap not k) nothing-open) (λ z. absurd (omega arith)))

pub tested-elsewhere : (b : List ℕ) (s : Session) (claim : Claim) (r : Refusal) → (length b ≡ state_length → ⊥) → refusal_number r ≡ admitted nothing_held s claim → Refused (refusal_number r) ≡ tested (state_of b) s claim
unfolding tested
tested-elsewhere b s claim r n e = rw (state-not-in b n, ← e, ne_eqb (refusal_number r) 0 (refusal-some r))

-- ---- what leaves with `?`
pub err-is : {T : Type 0} (answer : Result T Refusal) (r : Refusal) → IsErrAnd answer (λ e. e ≡ r) → answer ≡ Err r
err-is (Ok x) r h = absurd h
err-is (Err e) r h = ap Err h

-- ---- what a call goes on with
module _ (st : State) (s : Session) (claim : Claim) where
  pub tested-refused : (r : Refusal) → ◌≡◌ {A = Placed} (record { number = refusal_number r; place = 0 }) (checked_place st s claim) → Refused (refusal_number r) ≡ tested st s claim
  unfolding tested checked_place admitted
  tested-refused r e =
      let q : refusal_number r ≡ admitted st s claim = unfold checked_place admitted in ap (λ (x : Placed). x.number) e in
      rw (← q, ne_eqb (refusal_number r) 0 (refusal-some r))

  module _ {at : ℕ} (e : ◌≡◌ {A = Placed} (record { number = 0; place = at }) (checked_place st s claim)) where
    clear : admitted st s claim ≡ 0
    unfolding checked_place admitted
    clear = sym (ap (λ (x : Placed). x.number) e)

    stands_at : at ≡ active_place st (sought s claim)
    unfolding checked_place admitted
    stands_at = ap (λ (x : Placed). x.place) e ∙ checked-place st s claim refl clear

    pub passed-inside : at < size st.table
    unfolding size
    passed-inside = rw stands_at (active-inside st (sought s claim) (claim-stands st s claim clear))

    pub tested-passed : {next : ℕ} {owner c : Credential} {g : Grants}
        → next ≡ (process_at st.table at).next → owner ≡ (process_at st.table at).credential → c ≡ speaks_for claim owner → g ≡ grants_of st c
        → Passed (record { claim = claim; number = 0; place = at; next = next; credential = c; grants = g }) ≡ tested st s claim
    unfolding tested checked_place checked check_of claim_view speaker active_process admitted
    tested-passed {next} {owner} {c} {g} en eo ec eg =
        let x : process_at st.table at ≡ active_process st (sought s claim) = ap (process_at st.table) stands_at in
        let cc : c ≡ speaker st s claim = ec ∙ ap (speaks_for claim) (eo ∙ ap (λ (q : Process). q.credential) x) in
        let nn : next ≡ (active_process st (sought s claim)).next = en ∙ ap (λ (q : Process). q.next) x in
        let pp : at ≡ (checked st s claim).place = ap (λ (x : Placed). x.place) e in
        let is : ◌≡◌ {A = Checked} (record { claim = claim; number = 0; place = at; next = next; credential = c; grants = g }) (checked st s claim) =
        ap (λ (k : ℕ). record { claim = claim; number = k; place = at; next = next; credential = c; grants = g }) (sym clear) ∙ rw (pp, eg, nn, cc)
        in
        ap Passed is ∙ rw clear

pub ruleset rules = (std_rules, phase-past, phase-read, grants-past, grants-read, active-no-elevation, active-elevation, next-of, owner-of, size-least, find-on, find-hit, find_none, row-within, elevated-none, elevated-at, user-unprovisioned, user-none, place-elevated, place-user, place-range, place-phase, place-claim, elsewhere-range, elsewhere-session, elsewhere-closed, tested-elsewhere)
