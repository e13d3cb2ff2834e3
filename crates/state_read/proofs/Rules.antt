-- The laws that close the needs of this crate's functions by `search rules`: each premise is as a place's record has it.
-- Assumes nothing.
use Rattle.std.specs.Prelude.{Option, Some, unwrap_or, IsSome}
use Rattle.std.specs.Array.{IsFromFnResult, IsFromFnResultFrom}
use Rattle.std.specs.Fn.{Mut, Called}
use Rattle.std.specs.Simd.{first_chunks}
use Rattle.rows.proofs.Chunks.{chunks_rows}
use Rattle.std.proofs.lemmas.List.{ext_get_or}
use Prim.Native.Nat.{ℕ, zero, suc, ◌+◌, ◌*◌, ◌/◌, ◌<◌, ◌≤◌}
use mathlib.Core.Path.{◌≡◌, refl, sym, ap, subst, ◌∙◌}
use mathlib.Core.List.{List, [], ◌∷◌, map}
use native.Mathlib.Omega.{arith}
use native.Mathlib.Nat.{add-zero}
use borrow.Author.Rules.{rules as std_rules}
use borrow.Author.Tests.{eqb-true, eqb-false}
use lib.Dec.{eqb}
use lib.ListN.{length, take, drop, get_or, replicate, length-drop, length-map, get_or-map}
use lib.Seq.{get_or-drop, get_or-take, take_all}
use Rattle.rows.specs.Bytes.{number_at}
use Rattle.lists.proofs.Tests.{split}
use Rattle.rows.specs.Rows.{rows}
use Rattle.rows.proofs.Rows.{row-at, rows-length}
use Rattle.names.specs.Names.{read_name, name_length, kind_numbered}
use Rattle.names.proofs.Laws.{name-last}
use Rattle.names.specs.declared.Kind.{Kind}
use Rattle.names.specs.declared.Name.{Name}
use Rattle.table.specs.Table.{table_of}
use Rattle.table.specs.declared.Process.{Process}
use Rattle.table.specs.declared.Table.{Table}
use Rattle.module_state.specs.Module.{both_words, unprovisioned, closed_module, session_count, credential_count, word_size}
use Rattle.module_state.specs.declared.Grants.{Grants}
use Rattle.module_state.specs.declared.Phase.{Phase}
use Rattle.module_state.specs.declared.SessionState.{SessionState}
use Rattle.module_state.specs.declared.State.{State}
use Rattle.state_layout.specs.Layout.{set_flag, flag_at, owner_at, kind_at, session_at, name_at, word_at, second_at, credential_size, next_at, next_size, place_size, session_size, credentials_at, count_at, state_length, phase_from, session_from, grants_from, process_from, places_in, count_in, nothing_held, state_of}
use Rattle.state_layout.proofs.Laws.{state-in, state-not-in}

-- ---- an array made by a call for each row, none of which changes the closure: it is the list of what they answer
module _ {F B : Type 0} (g : Mut F (ℕ × Unit {0}) B) (f : F) (h : List ℕ → B) (n k : ℕ) (s : List ℕ)
    (answers : (i : ℕ) (y : B) (f' : F) → i < n → Called g f (i, tt) y f' → (y ≡ h (get_or (rows n k s) i [])) × (f' ≡ f)) where
  made_from : (ys : List B) (i m : ℕ) (p : F) → p ≡ f → i + m ≤ n → IsFromFnResultFrom g p ys i m → (j : ℕ) → i ≤ j → j < i + m → get_or ys j (h []) ≡ h (get_or (rows n k s) j [])
  made_from ys i zero p same room v j low high = absurd (omega arith)
  made_from ys i (suc m) p same room v j low high =
      let one = answers i v.1 v.0 (omega arith) (subst (λ (c : F). Called g c (i, tt) v.1 v.0) same v.3) in
      split (eqb i j)
      (λ e. rw (← eqb-true i j e) (v.2.1 (h []) ∙ one.0))
      (λ e. made_from ys (i + 1) m v.0 one.1 (omega arith) v.4 j (omega (arith, eqb-false i j e)) (omega arith))

  pub made-rows : {ys : List B} → IsFromFnResult g f ys n → ys ≡ map h (rows n k s)
  made-rows {ys} v =
      ext_get_or (h []) ys (map h (rows n k s)) (v.long ∙ sym (length-map (rows n k s) h ∙ rows-length n k s))
      (λ j l. made_from ys 0 n f refl (omega arith) v.each j (omega arith) (omega (arith, v.long)) ∙ sym (get_or-map h (rows n k s) j []))

-- the rows of a slice as std has them
pub chunk-at : (n k off z : ℕ) (s : List ℕ) (i : ℕ) {chunks : List (List ℕ)}
    → chunks ≡ first_chunks k (length (take z (drop off s)) / k) (take z (drop off s)) → length s ≡ off + z → n ≤ z / k → i < n → get_or chunks i [] ≡ get_or (rows n k (drop off s)) i []
chunk-at n k off z s i {chunks} e long room h =
    let all : length (drop off s) ≡ z = rw length-drop (omega arith) in
    let whole : take z (drop off s) ≡ drop off s = take_all z (drop off s) (omega (arith, all)) in
    let is : chunks ≡ rows (z / k) k (drop off s) = e ∙ rw (whole, all, chunks_rows k (z / k) (drop off s)) in
    rw (is, row-at (z / k) k (drop off s) i [] (omega arith), row-at n k (drop off s) i [] h)

-- ---- sessions
pub session-at : (s : List ℕ) (i : ℕ) {p : Phase} → i < session_count → p ≡ phase_from (get_or s i 0) → ◌≡◌ {A = SessionState} (record { phase = p }) (session_from (get_or (rows session_count session_size s) i []))
unfolding session_from
session-at s i h e =
    let one : i * session_size ≡ i = omega arith in
    rw (e, row-at session_count session_size s i [] h, get_or-take session_size (drop (i * session_size) s) 0 0 (omega arith), get_or-drop (i * session_size) s 0 0, one, add-zero)

-- ---- grants
pub grants-read : (x : List ℕ) {f w s : ℕ} → f ≡ get_or x flag_at 0 → w ≡ number_at word_size word_at x → s ≡ number_at word_size second_at x → ◌≡◌ {A = Grants} (record { provisioned = eqb f set_flag; words = both_words w s }) (grants_from x)
unfolding grants_from
grants-read x e q r = rw (e, q, r)

-- ---- places
pub name-there : (x : List ℕ) {read : Option Name} → length x ≡ place_size → read ≡ read_name (take name_length (drop name_at x)) → IsSome read
name-there x h e = rw (e, name-last x name_at h)

pub process-read : (x : List ℕ) {c : ℕ} {k : Kind} {n : ℕ} {read : Option Name} {name : Name}
    → length x ≡ place_size → c ≡ get_or x owner_at 0 → k ≡ kind_numbered (get_or x kind_at 0) → n ≡ number_at next_size next_at x → read ≡ read_name (take name_length (drop name_at x)) → read ≡ Some name
    → ◌≡◌ {A = Process} (record { credential = record { 0 = c }; kind = k; session = record { 0 = get_or x session_at 0 }; next = n; name = name }) (process_from x)
unfolding process_from
process-read x {c} {k} {n} {read} {name} h ce e f g is =
    let same : name ≡ record { bytes = drop name_at x } = ap (λ (got : Option Name). unwrap_or got name) (sym is ∙ g ∙ name-last x name_at h) in
    rw (ce, e, f, same)

-- ---- the whole
pub nothing : {t : Table} {st : State} → t ≡ table_of [] → st ≡ closed_module (replicate credential_count unprovisioned) t → st ≡ nothing_held
nothing e q = q ∙ rw e

pub read-other : (s : List ℕ) {st : State} → (length s ≡ state_length → ⊥) → st ≡ nothing_held → st ≡ state_of s
read-other s n e = e ∙ sym (state-not-in s n)

pub read-state : (s : List ℕ) {a : List SessionState} {g : List Grants} {p : List Process}
    → length s ≡ state_length → a ≡ map session_from (rows session_count session_size s) → g ≡ map grants_from (rows credential_count credential_size (drop credentials_at s)) → p ≡ places_in s
    → ◌≡◌ {A = State} (record { sessions = a; credentials = g; table = record { places = p; count = get_or s count_at 0 } }) (state_of s)
unfolding count_in
read-state s h e f g = rw (state-in s h, e, f, g)

pub ruleset rules = (std_rules, grants-read, name-there, process-read, nothing, read-other, read-state)
