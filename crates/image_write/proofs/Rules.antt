-- The laws that close the needs of this crate's functions by `search rules`: each premise is as a place's record has it.
-- Assumes nothing.
use Prim.Native.Nat.{ℕ, ◌+◌, ◌-◌, ◌*◌, ◌<◌, ◌≤◌}
use mathlib.Core.Path.{◌≡◌, refl, sym, ap, ◌∙◌}
use mathlib.Core.Bool.{Bool, true, cond}
use mathlib.Core.List.{List, [], ◌∷◌, map}
use native.Mathlib.Omega.{arith}
use borrow.Author.Rules.{rules as std_rules}
use borrow.Author.Tests.{lt-ltb, le-ltb}
use borrow.Rule.Slice.PartMut.{put_mid}
use mir.Val.{Fits}
use mir.Syntax.{w16, w64}
use lib.ListN.{length, get_or, take, drop, length-map}
use Rattle.std.specs.Prelude.{count_by}
use Rattle.std.specs.List.{filter}
use Rattle.std.proofs.lemmas.List.Sums.{length-filter}
use Rattle.lists.specs.Lists.{select, join}
use Rattle.lists.proofs.Lists.{length-mapped, length-select}
use Rattle.lists.proofs.Tests.{split}
use Rattle.rows.specs.Rows.{over, Put}
use Rattle.rows.proofs.Loops.{WroteChosen, chosen-begin, chosen-length, chosen-room, chosen-part, chosen_on, chosen-over, chosen-all}
use Rattle.rows.proofs.Over.{over-short, put-length, put_next}
use Rattle.table.specs.Table.{standing, size, places}
use Rattle.table.specs.declared.Process.{Process}
use Rattle.table.specs.declared.Table.{Table}
use Rattle.table.proofs.Laws.{standing-few}
use Rattle.table.proofs.Rules.{no_process, front, small}
use Rattle.module_state.specs.Module.{credential_count}
use Rattle.module_state.specs.declared.State.{State}
use Rattle.image.specs.declared.SavedRow.{SavedRow}
use Rattle.image.specs.Image.{saved_at, saved_size, has_seconds, is_row_offset, image_long, saved_bytes, saved_over, front_bytes, front_long, saved_row, is_saved_one, saved_rows, saved_of, image_of, state_image, image_room, lacks_room, ImageWritten}
use Rattle.image.proofs.Laws.{front-rows}
use Rattle.image_row.proofs.Laws.{row-over}
use Rattle.image_front.proofs.Laws.{front-put}

-- ---- those counted that are saved
module _ {A : Type 0} (f : A → Bool) where
  filter-select : (l : List A) → filter f l ≡ select f l
  unfolding select
  filter-select [] = refl
  filter-select (x ∷ l) = split (f x) (λ e. rw (e, filter-select l)) (λ e. rw (e, filter-select l))

module _ (t : Table) {saved : ℕ} (e : saved ≡ count_by is_saved_one (standing t)) where
  chosen-many : saved ≡ length (select is_saved_one (standing t))
  chosen-many = e ∙ sym (length-filter is_saved_one (standing t)) ∙ ap length (filter-select is_saved_one (standing t))

  rows-many : saved ≡ length (saved_rows (standing t))
  rows-many = chosen-many ∙ sym (length-map (select is_saved_one (standing t)) saved_row)

-- ---- a row
pub row_made : (p : Process) → ◌≡◌ {A = SavedRow} (record { owner = p.credential; next = p.next; name = p.name }) (saved_row p)
unfolding saved_row
row_made p = refl

-- ---- the rows
module _ (t : Table) {n : ℕ} (e : n ≡ size t) where
  pub rows-begin : {old : List ℕ} → length t.places ≡ places → image_long saved_at (length (saved_rows (standing t))) ≤ length old
      → WroteChosen is_saved_one saved_row saved_bytes saved_size saved_at places t.places n old old 0 0
  unfolding image_long
  rows-begin {old} h r =
      let k : n ≤ places = small t e h in
      chosen-begin is_saved_one saved_row saved_bytes saved_size saved_at places t.places n old (omega arith) k (rw (front t e) r)

  pub rows_end : {old new : List ℕ} {k i : ℕ} → WroteChosen is_saved_one saved_row saved_bytes saved_size saved_at places t.places n old new k i → n ≤ i
      → Put saved_at (length (saved_rows (standing t)) * saved_size) (join (map saved_bytes (saved_rows (standing t)))) old new
  rows_end v h = rw (front t e) at (chosen-all v h)

module _ {old : List ℕ} {l : List Process} {n : ℕ} {new : List ℕ} {k i : ℕ} (v : WroteChosen is_saved_one saved_row saved_bytes saved_size saved_at places l n old new k i) where
  abbrev from : ℕ
  from = saved_at + k * saved_size

  -- where the next row goes
  abbrev part : List ℕ
  part = take (from + saved_size - from) (drop from new)

  pub rows_on : i < n → {b : Bool} → b ≡ is_saved_one (get_or l i no_process) → b ≡ true → {row : SavedRow} {k' : ℕ} {ys new' : List ℕ} → row ≡ saved_row (get_or l i no_process) → ys ≡ saved_over part row
      → new' ≡ put_mid from (from + saved_size - from) new ys → k' ≡ k + 1 → length ys ≡ length part → WroteChosen is_saved_one saved_row saved_bytes saved_size saved_at places l n old new' k' (i + 1)
  rows_on h e t {row} q r g m s = chosen_on v no_process h e t (r ∙ row-over part (chosen-part v no_process h e t) row ∙ ap saved_bytes q) g m s

-- ---- the whole
module _ (t : Table) {saved : ℕ} (e : saved ≡ count_by is_saved_one (standing t)) (h : length t.places ≡ places) where
  saved-few : saved ≤ places
  saved-few = omega (arith, chosen-many t e, length-select is_saved_one (standing t), standing-few t h)

  pub rows_fit : Fits w64 (saved * saved_size)
  rows_fit = omega (arith, saved-few)

  pub image-fits : Fits w64 (saved_at + saved * saved_size)
  image-fits = omega (arith, saved-few)

  pub saved-fits : Fits w16 saved
  saved-fits = omega (arith, saved-few)

module _ (st : State) (old : List ℕ) {saved : ℕ} (e : saved ≡ count_by is_saved_one (standing st.table)) where
  many : saved ≡ length (saved_rows (standing st.table))
  many = rows-many st.table e

  -- the image's length, by the count
  room-is : image_room st ≡ saved_at + saved * saved_size
  unfolding image_room image_long saved_of
  room-is = rw many

  module _ (h : length old < saved_at + saved * saved_size) where
    pub short-length : 0 ≡ cond (lacks_room st (length old)) 0 (image_room st)
    unfolding lacks_room
    short-length = rw (room-is, lt-ltb (length old) (saved_at + saved * saved_size) h)

    pub short-stays : old ≡ over 0 (image_room st) (state_image st) old
    short-stays = sym (over-short 0 (image_room st) (state_image st) old (omega (arith, room-is)))

  module _ (h : saved_at + saved * saved_size ≤ length old) where
    pub image-length : saved_at + saved * saved_size ≡ cond (lacks_room st (length old)) 0 (image_room st)
    unfolding lacks_room
    image-length = rw (room-is, le-ltb (length old) (saved_at + saved * saved_size) h)

    module _ (eight : length st.credentials ≡ credential_count) {a : List ℕ} (p : a ≡ over 0 (front_long saved_at) (front_bytes st.credentials saved saved_at) old) where
      front-there : Put 0 saved_at (front_bytes st.credentials saved saved_at) old a
      unfolding is_row_offset has_seconds
      front-there = front-put st.credentials saved saved_at eight refl p

      pub rows-room : image_long saved_at (length (saved_rows (standing st.table))) ≤ length a
      unfolding image_long
      rows-room = omega (arith, many, put-length front-there)

      pub image-put : {new : List ℕ} → Put saved_at (length (saved_rows (standing st.table)) * saved_size) (join (map saved_bytes (saved_rows (standing st.table)))) a new → new ≡ over 0 (image_room st) (state_image st) old
      unfolding image_room image_long state_image image_of saved_of
      image-put q = (put_next front-there q (omega (arith, many))).is ∙ rw (front-rows (image_of st), many)

pub image-written : {st : State} {old new : List ℕ} {long : ℕ} → long ≡ cond (lacks_room st (length old)) 0 (image_room st) → new ≡ over 0 (image_room st) (state_image st) old → ImageWritten st old long new
image-written l b = record { length-is = l; bytes-are = b }

pub ruleset rules = (std_rules, length-mapped, row_made, rows-begin, rows_end, chosen-room, rows_on, chosen-over, chosen-length, rows_fit, image-fits, saved-fits, short-length, short-stays, image-length, rows-room, image-put, image-written)
