-- A field changed where it lies: the state with that field changed has the bytes with those bytes changed, and no others.
-- Assumes nothing.
use Prim.Native.Nat.{ℕ, suc, ◌+◌, ◌-◌, ◌*◌, ◌<◌}
use mathlib.Core.Path.{◌≡◌, sym, ap, ◌∙◌}
use mathlib.Core.Bool.{true}
use mathlib.Core.List.{List, [], ◌∷◌, ◌++◌, map, append_assoc}
use native.Mathlib.Omega.{arith}
use borrow.Author.Tests.{eq-eqb, lt-ltb}
use lib.ListN.{length, take, drop, get_or, set, replicate, length-append, length-set, get_or-append}
use lib.Seq.{length-take-le, set-append_left}
use Rattle.rows.proofs.Over.{over-middle}
use Rattle.lists.specs.Lists.{join, padded}
use Rattle.rows.specs.Bytes.{bytes_of, Bytes, byte_of}
use Rattle.rows.proofs.Bytes.{length-bytes}
use Rattle.rows.specs.Rows.{over}
use Rattle.rows.proofs.Rows.{each_take, array_long, join-at, join-set}
use Rattle.table.specs.Table.{standing, table_of, free_place, process_at, replaced, places}
use Rattle.table.specs.declared.Process.{Process}
use Rattle.module_state.specs.declared.State.{State}
use Rattle.names.specs.Names.{kind_number}
use Rattle.state_layout.specs.Layout.{next_at, next_size, place_size, places_at, state_length, session_bytes, grants_bytes, process_bytes, state_bytes, state_of, numbered, with_next, next_written, holds_state}
use Rattle.module_rules.specs.Facts.{Wide, Formed}
use Rattle.module_rules.proofs.Laws.{formed-few}
use Rattle.state_layout.proofs.Fields.{process-codec}
use Rattle.state_layout.proofs.Laws.{formed-wide, sessions-long, credentials-long, bytes-long, one_form, holds-is, places-are, count-is}

-- the bytes of a state from its parts, with a next number n in one place
glue : (s g x y : List ℕ) (c : ℕ) (p : Process) (n : ℕ)
    → s ++ (g ++ (c ∷ (x ++ (process_bytes (numbered p n) ++ y))))
    ≡ (s ++ (g ++ (c ∷ (x ++ (byte_of p.credential.0 ∷ kind_number p.kind ∷ p.session.0 ∷ []))))) ++ (bytes_of next_size n ++ (p.name.bytes ++ y))
unfolding process_bytes
glue s g x y c p n = simp append_assoc

module _ {st : State} (f : Formed st) (at : ℕ) (h : at < length (standing st.table)) where
  -- the process at a place is what the place holds
  place_is : process_at st.table at ≡ get_or st.table.places at free_place
  unfolding process_at
  place_is =
      sym (ap (λ (l : List Process). get_or l at free_place) (places-are f)
      ∙ get_or-append (standing st.table) (replicate (places - length (standing st.table)) free_place) free_place at h)

  replaced-places : (p : Process) → (replaced st.table at p).places ≡ set st.table.places at p
  unfolding replaced table_of padded
  replaced-places p =
      rw length-set
      (sym (ap (λ (l : List Process). set l at p) (places-are f)
      ∙ set-append_left (standing st.table) (replicate (places - length (standing st.table)) free_place) at p h))

  replaced-count : (p : Process) → (replaced st.table at p).count ≡ st.table.count
  unfolding replaced table_of
  replaced-count p = length-set (standing st.table) at p ∙ sym (count-is f)

  pub next-in-place : (n : ℕ) → next_written (state_bytes st) at n ≡ state_bytes (with_next st at n)
  unfolding next_written state_bytes
  next-in-place n =
      let w : Wide st = formed-wide f in
      let l : List Process = st.table.places in
      let p : Process = get_or l at free_place in
      let room : at < places = omega (arith, formed-few f) in
      let inside : at < length l = omega (arith, w.places) in
      let s : List ℕ = join (map session_bytes st.sessions) in
      let g : List ℕ = join (map grants_bytes st.credentials) in
      let x : List ℕ = join (map process_bytes (take at l)) in
      let y : List ℕ = join (map process_bytes (drop (suc at) l)) in
      let c : ℕ = byte_of st.table.count in
      let front : length x ≡ at * place_size = array_long process-codec (each_take at w.each) ∙ rw (length-take-le at l (omega arith)) in
      let head : List ℕ = s ++ (g ++ (c ∷ (x ++ (byte_of p.credential.0 ∷ kind_number p.kind ∷ p.session.0 ∷ [])))) in
      let before : length head ≡ places_at + at * place_size + next_at =
      simp length-append (omega (arith, front, sessions-long w, credentials-long w))
      in
      let new : state_bytes (with_next st at n) ≡ s ++ (g ++ (c ∷ (x ++ (process_bytes (numbered p n) ++ y)))) =
      rw (replaced-count (numbered (process_at st.table at) n), replaced-places (numbered (process_at st.table at) n), place_is, join-set process_bytes l at inside (numbered p n))
      in
      rw (eq-eqb (length (state_bytes st)) state_length (bytes-long w), lt-ltb at places room, join-at process_bytes l at inside free_place, new)
      (ap (λ (b : List ℕ). over (places_at + at * place_size + next_at) next_size (bytes_of next_size n) b) (glue s g x y c p p.next)
      ∙ over-middle (places_at + at * place_size + next_at) next_size head (bytes_of next_size p.next) (p.name.bytes ++ y) (bytes_of next_size n) before (length-bytes next_size p.next)
      ∙ sym (glue s g x y c p n))

-- so in a slice that holds a state
pub next-held : (b : List ℕ) (at n : ℕ) → Bytes b → holds_state b ≡ true → at < length (standing (state_of b).table) → next_written b at n ≡ state_bytes (with_next (state_of b) at n)
next-held b at n g e h = ap (λ (x : List ℕ). next_written x at n) (sym (one_form b e g)) ∙ next-in-place (holds-is b e g).formed at h n
