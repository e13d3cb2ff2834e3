-- The laws that close the needs of this crate's functions by `search rules`: each premise is as a place's record has it.
-- Assumes nothing.
use Rattle.std.specs.Array.{IsMapOf, MapsFrom}
use Rattle.std.specs.Fn.{Mut, Called}
use Rattle.std.specs.Int.{from_bool}
use Rattle.std.proofs.lemmas.List.{ext_get_or}
use Rattle.lists.proofs.Tests.{split}
use borrow.Author.Tests.{eqb-true, eqb-false}
use lib.Dec.{eqb}
use Prim.Native.Nat.{ℕ, zero, suc, ◌+◌, ◌-◌, ◌*◌, ◌<◌, ◌≤◌}
use mathlib.Core.Path.{◌≡◌, refl, sym, ap, subst, ◌∙◌}
use mathlib.Core.Bool.{Bool, true, false}
use mathlib.Core.List.{List, [], ◌∷◌, ◌++◌, map, append_assoc}
use native.Mathlib.Omega.{arith}
use borrow.Author.Rules.{rules as std_rules}
use borrow.Rule.Slice.PartMut.{put_mid}
use lib.ListN.{length, take, drop, get_or, set, replicate, length-map, get_or-map, length-drop, length-append}
use lib.Seq.{length-take-le}
use Rattle.lists.specs.Lists.{join}
use Rattle.rows.specs.Bytes.{bytes_of, byte_of}
use Rattle.rows.specs.Rows.{over, Put}
use Rattle.rows.proofs.Bytes.{length-bytes}
use Rattle.rows.proofs.Over.{over-room, put_byte, put-length, put_next, put_whole}
use Rattle.rows.proofs.Loops.{Wrote, wrote-begin, wrote_on, wrote-all}
use Rattle.module_state.specs.Module.{unprovisioned, session_count, credential_count, word_size}
use Rattle.module_state.specs.declared.Grants.{Grants}
use Rattle.module_state.specs.declared.SessionState.{SessionState}
use Rattle.module_state.specs.declared.State.{State}
use Rattle.state_layout.specs.Layout.{flag_at, word_at, second_at, credential_size, place_size, sessions_at, session_size, credentials_at, count_at, count_size, state_length, phase_byte, session_bytes, flag_number, grants_bytes, process_bytes, state_bytes, state_written}
use Rattle.state_layout.proofs.Laws.{state-written, state-not-written}
use Rattle.table.specs.Table.{places}

-- ---- the sessions
-- what an array is mapped to by a closure that no call changes
module _ {F A B : Type 0} (g : Mut F (A × Unit {0}) B) (f : F) (h : A → B) (xs : List A) (d : A)
    (answers : (x : A) (y : B) (f' : F) → Called g f (x, tt) y f' → (y ≡ h x) × (f' ≡ f)) where
  mapped_from : (ys : List B) (i m : ℕ) (p : F) → p ≡ f → MapsFrom g p xs ys i m → (j : ℕ) → i ≤ j → j < i + m → get_or ys j (h d) ≡ h (get_or xs j d)
  mapped_from ys i zero p same v j low high = absurd (omega arith)
  mapped_from ys i (suc m) p same v j low high =
      let one = answers v.1 v.2 v.0 (subst (λ (c : F). Called g c (v.1, tt) v.2 v.0) same v.5) in
      split (eqb i j)
      (λ e. rw (← eqb-true i j e) (v.4.1 (h d) ∙ one.0 ∙ ap h (sym (v.3.1 d))))
      (λ e. mapped_from ys (i + 1) m v.0 one.1 v.6 j (omega (arith, eqb-false i j e)) (omega arith))

  pub mapped : {ys : List B} {n : ℕ} → length xs ≡ n → IsMapOf g f xs ys n → ys ≡ map h xs
  mapped {ys} {n} long v =
      ext_get_or (h d) ys (map h xs) (v.long ∙ sym (length-map xs h ∙ long))
      (λ j k. mapped_from ys 0 n f refl v.each j (omega arith) (omega (arith, v.long)) ∙ sym (get_or-map h xs j d))

-- the bytes of the sessions, one for each
session-bytes : (l : List SessionState) → map (λ (x : SessionState). phase_byte x.phase) l ≡ join (map session_bytes l)
unfolding session_bytes join
session-bytes [] = refl
session-bytes (x ∷ xs) = ap (λ (rest : List ℕ). phase_byte x.phase ∷ rest) (session-bytes xs)

pub sessions-put : (l : List SessionState) (old : List ℕ) {phases bytes : List ℕ} → length l ≡ session_count → length old ≡ state_length
    → phases ≡ map (λ (x : SessionState). phase_byte x.phase) l → bytes ≡ phases
    → Put sessions_at (session_count * session_size) (join (map session_bytes l)) old (bytes ++ drop (session_count * session_size) old)
sessions-put l old {phases} {bytes} h k e q =
    let is : bytes ≡ join (map session_bytes l) = q ∙ e ∙ session-bytes l in
    let long : length bytes ≡ session_count * session_size = ap length (q ∙ e) ∙ length-map l (λ (x : SessionState). phase_byte x.phase) ∙ h in
    record { long = rw (← is) long; is = rw is (sym (over-room sessions_at (session_count * session_size) (join (map session_bytes l)) old (omega arith))) }

-- ---- a credential: its fields, written one after another over zeros
flag-number : (f : Bool) → from_bool f ≡ flag_number f
flag-number true = refl
flag-number false = refl

pub grants-put : (g : Grants) {f : ℕ} {first new : List ℕ} → f ≡ from_bool g.provisioned
    → first ≡ over word_at word_size (bytes_of word_size g.words.grant) (set (replicate credential_size 0) flag_at f)
    → new ≡ over second_at word_size (bytes_of word_size g.words.second) first
    → new ≡ grants_bytes g
unfolding grants_bytes
grants-put g {f} {first} {new} e p q =
    let zeros : List ℕ = replicate credential_size 0 in
    let flag : Put flag_at 1 (f ∷ []) zeros (set zeros flag_at f) = put_byte flag_at f zeros (omega arith) in
    let word : Put word_at word_size (bytes_of word_size g.words.grant) (set zeros flag_at f) first = record { long = length-bytes word_size g.words.grant; is = p } in
    let second : Put second_at word_size (bytes_of word_size g.words.second) first new = record { long = length-bytes word_size g.words.second; is = q } in
    put_whole (put_next flag (put_next word second (omega arith)) (omega arith)) refl ∙ rw (e, flag-number)

-- ---- the credentials
pub credentials-begin : (l : List Grants) (old : List ℕ) → length l ≡ credential_count → length old ≡ state_length → Wrote grants_bytes credential_size credentials_at l old old 0
credentials-begin l old h k = wrote-begin grants_bytes credential_size credentials_at l old (rw h (omega arith))

module _ {l : List Grants} {old new : List ℕ} {i : ℕ} (v : Wrote grants_bytes credential_size credentials_at l old new i) (h : length l ≡ credential_count) where
  pub credentials-next : {bytes ys : List ℕ} → i < credential_count → bytes ≡ grants_bytes (get_or l i unprovisioned) → ys ≡ bytes
      → length ys ≡ length (take (credentials_at + i * credential_size + credential_size - (credentials_at + i * credential_size)) (drop (credentials_at + i * credential_size) new))
      → Wrote grants_bytes credential_size credentials_at l old (put_mid (credentials_at + i * credential_size) (credentials_at + i * credential_size + credential_size - (credentials_at + i * credential_size)) new ys) (i + 1)
  credentials-next k b e g = wrote_on v unprovisioned (rw h k) (e ∙ b) g

  pub credentials-all : credential_count ≤ i → Put credentials_at (credential_count * credential_size) (join (map grants_bytes l)) old new
  credentials-all k = rw h at (wrote-all v (rw h k))

-- ---- the parts, one after the other

-- bytes that were written with room for them, and left the length as it was, are as many as the room
same-put : {at n : ℕ} {bytes old new : List ℕ} → new ≡ over at n bytes old → length new ≡ length old → at + n ≤ length old → Put at n bytes old new
same-put {at} {n} {bytes} {old} e m h = record { long = omega (arith, all, length-take-le at old (omega arith), length-drop (at + n) old); is = e }
  where
    all : length (take at old) + (length bytes + length (drop (at + n) old)) ≡ length old
    all = sym (ap length (e ∙ over-room at n bytes old h) ∙ simp length-append) ∙ m

pub written-other : (old : List ℕ) (st : State) → (length old ≡ state_length → ⊥) → old ≡ state_written old st
written-other old st n = sym (state-not-written old st n)

pub written_all : (old : List ℕ) (st : State) {a b d : List ℕ} → length old ≡ state_length
    → Put sessions_at (session_count * session_size) (join (map session_bytes st.sessions)) old a → Put credentials_at (credential_count * credential_size) (join (map grants_bytes st.credentials)) a b
    → d ≡ over count_at (count_size + places * place_size) (byte_of st.table.count ∷ join (map process_bytes st.table.places)) b → length d ≡ length b → d ≡ state_written old st
unfolding state_bytes
written_all old st h p q t m =
    put_whole (put_next (put_next p q (omega arith)) (same-put t m (omega (arith, put-length p, put-length q))) (omega arith)) h ∙ rw (state-written old st h) (simp append_assoc)

pub ruleset rules = (std_rules, credentials-begin, credentials-all, written-other, written_all)
