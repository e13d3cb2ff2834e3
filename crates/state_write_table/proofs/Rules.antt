-- The laws that close the needs of this crate's functions by `search rules`: each premise is as a place's record has it.
-- Assumes nothing.
use Prim.Native.Nat.{ℕ, ◌+◌, ◌-◌, ◌*◌, ◌<◌, ◌≤◌}
use mathlib.Core.Path.{◌≡◌, refl, sym, ap, ◌∙◌}
use mathlib.Core.List.{List, [], ◌∷◌, ◌++◌, map, append-nil, append_assoc}
use native.Mathlib.Omega.{arith}
use borrow.Author.Rules.{rules as std_rules}
use borrow.Author.Tests.{eq-eqb, ne_eqb, lt-ltb, le-ltb}
use borrow.Rule.Slice.PartMut.{put_mid}
use lib.ListN.{length, take, drop, get_or, set, replicate, length-take, length-drop, drop_of_length-le}
use lib.Seq.{length-take-le, take-take}
use Rattle.std.specs.Array.{IsFirstChunk}
use Rattle.lists.specs.Lists.{join}
use Rattle.rows.specs.Bytes.{bytes_of, byte_of}
use Rattle.rows.specs.Rows.{over, Put}
use Rattle.rows.proofs.Bytes.{length-bytes}
use Rattle.rows.proofs.Over.{over-short, over-part, over-room, put_byte, put-length, put_next, put_whole}
use Rattle.rows.proofs.Loops.{Wrote, wrote-begin, wrote_on, wrote-all}
use Rattle.names.specs.Names.{name_length, kind_number}
use Rattle.table.proofs.Rules.{no_process}
use Rattle.table.specs.declared.Process.{Process}
use Rattle.table.specs.declared.Table.{Table}
use Rattle.state_layout.specs.Layout.{owner_at, kind_at, session_at, name_at, next_at, next_size, place_size, count_at, count_size, places_at, state_length, process_bytes, next_written}
use Rattle.table.specs.Table.{places}

-- ---- a place: its fields, written one after another over zeros
pub process-put : (p : Process) {credential c k : ℕ} {a name : List ℕ}
    → credential ≡ p.credential.0 → c ≡ byte_of credential → k ≡ kind_number p.kind
    → a ≡ over next_at next_size (bytes_of next_size p.next) (set (set (set (replicate place_size 0) owner_at c) kind_at k) session_at p.session.0)
    → name ≡ p.name.bytes → length name ≡ length (take name_length (drop name_at a)) → put_mid name_at name_length a name ≡ process_bytes p
unfolding process_bytes
process-put p {credential} {c} {k} {a} {name} ep ec ek e en long =
    let zeros : List ℕ = replicate place_size 0 in
    let one : Put owner_at 1 (c ∷ []) zeros (set zeros owner_at c) = put_byte owner_at c zeros (omega arith) in
    let two : Put kind_at 1 (k ∷ []) (set zeros owner_at c) (set (set zeros owner_at c) kind_at k) = put_byte kind_at k (set zeros owner_at c) (omega arith) in
    let three : Put session_at 1 (p.session.0 ∷ []) (set (set zeros owner_at c) kind_at k) (set (set (set zeros owner_at c) kind_at k) session_at p.session.0) = put_byte session_at p.session.0 (set (set zeros owner_at c) kind_at k) (omega arith) in
    let next-put : Put next_at next_size (bytes_of next_size p.next) (set (set (set zeros owner_at c) kind_at k) session_at p.session.0) a = record { long = length-bytes next_size p.next; is = e } in
    let stored : length a ≡ place_size = put-length next-put in
    let behind : length (take name_length (drop name_at a)) ≡ name_length = simp (length-take, length-drop) (omega (arith, stored)) in
    let name-put : Put name_at name_length name a (put_mid name_at name_length a name) = record { long = long ∙ behind; is = over-part name_at name_length name a (omega (arith, stored)) } in
    let all : put_mid name_at name_length a name ≡ (c ∷ k ∷ p.session.0 ∷ bytes_of next_size p.next) ++ name =
    put_whole (put_next (put_next (put_next (put_next one two (omega arith)) three (omega arith)) next-put (omega arith)) name-put (omega arith)) refl
    in
    all ∙ rw (en, ec, ep, ek)

-- ---- the places
pub places-begin : (l : List Process) (old : List ℕ) → length l ≡ places → length old ≡ state_length → Wrote process_bytes place_size places_at l old old 0
places-begin l old h k = wrote-begin process_bytes place_size places_at l old (rw h (omega arith))

module _ {l : List Process} {old new : List ℕ} {i : ℕ} (v : Wrote process_bytes place_size places_at l old new i) (h : length l ≡ places) where
  pub places-next : {bytes ys : List ℕ} → i < places → bytes ≡ process_bytes (get_or l i no_process) → ys ≡ bytes
      → length ys ≡ length (take (places_at + i * place_size + place_size - (places_at + i * place_size)) (drop (places_at + i * place_size) new))
      → Wrote process_bytes place_size places_at l old (put_mid (places_at + i * place_size) (places_at + i * place_size + place_size - (places_at + i * place_size)) new ys) (i + 1)
  places-next k b e g = wrote_on v no_process (rw h k) (e ∙ b) g

  pub places-all : places ≤ i → Put places_at (places * place_size) (join (map process_bytes l)) old new
  places-all k = rw h at (wrote-all v (rw h k))

-- ---- the table: its count, and the places behind it, up to the end of the first bytes of a slice
over-first : (at n : ℕ) (x old : List ℕ) {first : List ℕ} → first ≡ take (at + n) old → at + n ≤ length old → over at n x first ++ drop (at + n) old ≡ over at n x old
over-first at n x old {first} e h =
    let long : length first ≡ at + n = ap length e ∙ length-take-le (at + n) old h in
    let none : drop (at + n) first ≡ [] = drop_of_length-le first (omega (arith, long)) in
    let same : take at first ≡ take at old = ap (take at) e ∙ take-take at (at + n) old (omega arith) in
    ap (λ (y : List ℕ). y ++ drop (at + n) old) (over-room at n x first (omega (arith, long)))
    ∙ rw (none, same, append-nil, append_assoc (take at old)) (sym (over-room at n x old h))

pub table-put : (t : Table) (old : List ℕ) {n : ℕ} {first new : List ℕ} → IsFirstChunk old first state_length → n ≡ byte_of t.count
    → Put places_at (places * place_size) (join (map process_bytes t.places)) (set first count_at n) new
    → new ++ drop state_length old ≡ over count_at (count_size + places * place_size) (byte_of t.count ∷ join (map process_bytes t.places)) old
table-put t old {n} {first} {new} v e p =
    let long : length first ≡ state_length = ap length v.same ∙ length-take-le state_length old v.enough in
    let whole : Put count_at (count_size + places * place_size) (n ∷ join (map process_bytes t.places)) first new = put_next (put_byte count_at n first (omega (arith, long))) p (omega (arith, long)) in
    rw (whole.is, e) (over-first count_at (count_size + places * place_size) (byte_of t.count ∷ join (map process_bytes t.places)) old v.same v.enough)

pub table-short : (t : Table) (old : List ℕ) → length old < state_length → old ≡ over count_at (count_size + places * place_size) (byte_of t.count ∷ join (map process_bytes t.places)) old
table-short t old h = sym (over-short count_at (count_size + places * place_size) (byte_of t.count ∷ join (map process_bytes t.places)) old h)

-- ---- a next number where it lies
module _ (b : List ℕ) (at next : ℕ) where
  pub next-written : {new : List ℕ} → length b ≡ state_length → at < places → new ≡ over (places_at + at * place_size + next_at) next_size (bytes_of next_size next) b → new ≡ next_written b at next
  unfolding next_written
  next-written h k p = p ∙ rw (eq-eqb (length b) state_length h, lt-ltb at places k)

  pub next-short : (length b ≡ state_length → ⊥) → b ≡ next_written b at next
  unfolding next_written
  next-short n = rw (ne_eqb (length b) state_length n)

  pub next-nowhere : places ≤ at → length b ≡ state_length → b ≡ next_written b at next
  unfolding next_written
  next-nowhere k h = rw (eq-eqb (length b) state_length h, le-ltb at places k)

pub ruleset rules = (std_rules, places-begin, places-all, table-put, table-short, next-written, next-short, next-nowhere)
