-- The laws that close the needs of this crate's functions by `search rules`: each premise is as a place's record has it.
-- Assumes nothing.
use Prim.Native.Nat.{ℕ}
use mathlib.Core.Path.{◌≡◌, sym, ◌∙◌}
use mathlib.Core.List.{List, ◌++◌, append_assoc}
use native.Mathlib.Omega.{arith}
use borrow.Author.Rules.{rules as std_rules}
use borrow.Rule.Slice.PartMut.{put_mid}
use lib.ListN.{length, take, drop, length-take, length-drop}
use Rattle.rows.specs.Bytes.{bytes_of}
use Rattle.rows.specs.Rows.{over, Put}
use Rattle.rows.proofs.Bytes.{length-bytes}
use Rattle.rows.proofs.Over.{over-part, put-length, put_next, put_whole}
use Rattle.names.specs.Names.{name_in, name_length}
use Rattle.names.proofs.Laws.{name-in}
use Rattle.image.specs.declared.SavedRow.{SavedRow}
use Rattle.image.specs.Image.{saved_owner_at, saved_next_at, saved_name_at, saved_size, saved_bytes, saved_over}
use Rattle.image.proofs.Rows.{saved-name}
use Rattle.image_row.proofs.Laws.{row-over, no-row-over}

-- ---- and written: its fields, one after another
module _ (part : List ℕ) (r : SavedRow) {a b : List ℕ} (h : length part ≡ saved_size)
    (q : a ≡ over saved_owner_at 2 (bytes_of 2 r.owner.0) part) (n : b ≡ over saved_next_at 2 (bytes_of 2 r.next) a) where
  owner-put : Put saved_owner_at 2 (bytes_of 2 r.owner.0) part a
  owner-put = record { long = length-bytes 2 r.owner.0; is = q }

  next-put : Put saved_next_at 2 (bytes_of 2 r.next) a b
  next-put = record { long = length-bytes 2 r.next; is = n }

  stored : length b ≡ length part
  stored = put-length next-put ∙ put-length owner-put

  pub row_put : {ys : List ℕ} → ys ≡ name_in (take name_length (drop saved_name_at b)) r.name → length ys ≡ length (take name_length (drop saved_name_at b)) → put_mid saved_name_at name_length b ys ≡ saved_over part r
  unfolding saved_bytes
  row_put {ys} e g =
      let behind : length (take name_length (drop saved_name_at b)) ≡ name_length = simp (length-take, length-drop) (omega (arith, stored)) in
      let name-put : Put saved_name_at name_length ys b (put_mid saved_name_at name_length b ys) = record { long = g ∙ behind; is = over-part saved_name_at name_length ys b (omega (arith, stored)) } in
      let all : put_mid saved_name_at name_length b ys ≡ (bytes_of 2 r.owner.0 ++ bytes_of 2 r.next) ++ ys = put_whole (put_next (put_next owner-put next-put (omega arith)) name-put (omega arith)) h in
      all ∙ rw (e, name-in (take name_length (drop saved_name_at b)) r.name behind, append_assoc) (sym (row-over part h r))

pub row_stays : (part : List ℕ) (r : SavedRow) → (length part ≡ saved_size → ⊥) → part ≡ saved_over part r
row_stays part r h = sym (no-row-over part h r)

pub ruleset rules = (std_rules, saved-name, row_put, row_stays)
