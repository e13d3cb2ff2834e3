-- The laws that close the needs of this crate's functions by `search rules`: each premise is as a place's record has it.
-- Assumes nothing.
use Prim.Native.Nat.{ℕ, ◌+◌, ◌-◌, ◌*◌, ◌<◌, ◌≤◌}
use mathlib.Core.Path.{◌≡◌, ap, ◌∙◌}
use mathlib.Core.Bool.{Bool, true}
use mathlib.Core.List.{List}
use native.Mathlib.Omega.{arith}
use borrow.Author.Rules.{rules as std_rules}
use borrow.Rule.Slice.PartMut.{put_mid}
use mir.Val.{Fits}
use mir.Syntax.{w16}
use lib.ListN.{length, get_or, take, drop}
use Rattle.rows.specs.Rows.{over}
use Rattle.rows.proofs.Loops.{WroteChosen, chosen-begin, chosen-length, chosen-room, chosen-part, chosen_on, chosen-over, chosen-all, chosen-count}
use Rattle.lists.proofs.Lists.{length-mapped}
use Rattle.names.specs.Names.{type_of, row_length, row_bytes, row_in}
use Rattle.names.specs.declared.Row.{Row}
use Rattle.names.specs.declared.RowType.{RowType}
use Rattle.names.proofs.Laws.{row-in}
use Rattle.table.specs.Table.{standing, places, is_among}
use Rattle.table.specs.declared.Among.{Among}
use Rattle.table.specs.declared.Process.{Process}
use Rattle.table.specs.declared.Table.{Table}
use Rattle.table.proofs.Laws.{standing-few}
use lib.Seq.{take_all}
use Rattle.table.proofs.Rules.{no_process}
use Rattle.calls.specs.Listing.{head_length, among_of, row_of, auth_processes, message_length}
use Rattle.calls.specs.declared.Wanted.{Wanted}
use Rattle.listing_messages.specs.Wire.{head, rows_among, rows_over, listing_over}
use Rattle.listing_call.proofs.Rows.{rows_few, listing-whole}
use Rattle.listing_call.proofs.Laws.{list-enough, list-bytes, list-stays}

-- ---- the rows of a table, written one after another
abbrev pub Writing : Wanted → List Process → ℕ → List ℕ → List ℕ → ℕ → ℕ → Type 0
Writing wanted l n old new k i = WroteChosen (is_among (among_of wanted)) row_of row_bytes row_length head_length places l n old new k i

pub row_made : (p : Process) {k : RowType} → k ≡ type_of p.kind → ◌≡◌ {A = Row} (record { credential = p.credential; kind = k; name = p.name }) (row_of p)
row_made p e = rw e

module _ (wanted : Wanted) {among : Among} (e : among ≡ among_of wanted) where
  pub wanted-is : {b : Bool} (p : Process) → b ≡ is_among among p → b ≡ is_among (among_of wanted) p
  wanted-is p q = q ∙ rw e

module _ (t : Table) (wanted : Wanted) {l : List Process} (e : l ≡ standing t) where
  whole : take (length l) l ≡ standing t
  whole = take_all (length l) l (omega arith) ∙ e

  pub rows-begin : {old : List ℕ} → length t.places ≡ places → message_length (length (rows_among wanted (standing t))) ≤ length old → Writing wanted l (length l) old old 0 0
  unfolding message_length rows_among
  rows-begin {old} h r =
      chosen-begin (is_among (among_of wanted)) row_of row_bytes row_length head_length places l (length l) old (omega arith) (rw e (standing-few t h)) (rw whole (omega (arith, r)))

  pub rows_end : {old new : List ℕ} {k i : ℕ} → Writing wanted l (length l) old new k i → length l ≤ i → new ≡ rows_over (rows_among wanted (standing t)) old
  unfolding rows_over rows_among
  rows_end v h = rw whole at (chosen-all v h).is

  pub rows-counted : {old new : List ℕ} {k i : ℕ} → Writing wanted l (length l) old new k i → length l ≤ i → k ≡ length (rows_among wanted (standing t))
  unfolding rows_among
  rows-counted v h = rw whole at (chosen-count v h)

pub rows_on : {f : Process → Bool} {old : List ℕ} {l : List Process} {n : ℕ} {new : List ℕ} {k i : ℕ} {b : Bool} → WroteChosen f row_of row_bytes row_length head_length places l n old new k i → i < n
    → b ≡ f (get_or l i no_process) → b ≡ true → {row : Row} {k' : ℕ} {ys new' : List ℕ} → row ≡ row_of (get_or l i no_process)
    → ys ≡ row_in (take (head_length + k * row_length + row_length - (head_length + k * row_length)) (drop (head_length + k * row_length) new)) row
    → new' ≡ put_mid (head_length + k * row_length) (head_length + k * row_length + row_length - (head_length + k * row_length)) new ys → k' ≡ k + 1
    → length ys ≡ length (take (head_length + k * row_length + row_length - (head_length + k * row_length)) (drop (head_length + k * row_length) new))
    → WroteChosen f row_of row_bytes row_length head_length places l n old new' k' (i + 1)
rows_on {new = new} {k = k} v h e t {row} r q g m s =
    let part : List ℕ = take (head_length + k * row_length + row_length - (head_length + k * row_length)) (drop (head_length + k * row_length) new) in
    chosen_on v no_process h e t (q ∙ row-in part row (chosen-part v no_process h e t) ∙ ap row_bytes r) g m s

-- ---- the message
module _ (t : Table) (wanted : Wanted) {count : ℕ} (e : count ≡ length (rows_among wanted (standing t))) where
  pub count_fits : length t.places ≡ places → Fits w16 count
  count_fits h = omega (arith, e, rows_few wanted (standing t), standing-few t h)

  pub listing-put : (old : List ℕ) {mid new : List ℕ} → message_length (length (rows_among wanted (standing t))) ≤ length old → mid ≡ rows_over (rows_among wanted (standing t)) old
      → new ≡ over 0 head_length (head auth_processes count) mid → new ≡ listing_over (rows_among wanted (standing t)) old
  listing-put old h m q = q ∙ rw (m, e) (listing-whole (rows_among wanted (standing t)) old h)

pub ruleset rules = (std_rules, length-mapped, row_made, wanted-is, rows_on, chosen-over, chosen-length, count_fits, listing-put, list-enough, list-bytes, list-stays)
