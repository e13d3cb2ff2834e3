-- The parts of a slice of a store's length: its heads and its rooms, one of each for a credential, and what is held by both.
-- Assumes nothing.
use Prim.Native.Nat.{ℕ, zero, suc, ◌+◌, ◌*◌, ◌<◌}
use mathlib.Core.Path.{◌≡◌, refl, ap, ◌∙◌}
use mathlib.Core.List.{List, [], ◌∷◌}
use native.Mathlib.Omega.{arith}
use borrow.Author.Tests.{eq-eqb, ne_eqb}
use lib.ListN.{length, take, drop, get_or, length-drop}
use lib.Seq.{drop-drop}
use Rattle.lists.specs.Each.{Each}
use Rattle.rows.proofs.Rows.{rows-length, rows_whole, row-at}
use Rattle.module_state.specs.Module.{credential_count}
use Rattle.store_layout.specs.Store.{nothing, empty_store, parameters_size}
use Rattle.store_layout.specs.Layout.{head_size, heads_at, parameters_at, store_length, held_from, helds_from, heads_in, rooms_in, store_in, store_of}

-- ---- by the length of the slice
module _ (b : List ℕ) where
  pub store-in : length b ≡ store_length → store_of b ≡ store_in b
  unfolding store_of
  store-in h = rw (eq-eqb (length b) store_length h)

  pub store-not-in : (length b ≡ store_length → ⊥) → store_of b ≡ empty_store
  unfolding store_of
  store-not-in h = rw (ne_eqb (length b) store_length h)

  -- ---- the heads and the rooms
  pub heads-length : length (heads_in b) ≡ credential_count
  unfolding heads_in
  heads-length = rows-length credential_count head_size (drop heads_at b)

  pub rooms-length : length (rooms_in b) ≡ credential_count
  unfolding rooms_in
  rooms-length = rows-length credential_count parameters_size (drop parameters_at b)

  pub rooms-whole : length b ≡ store_length → Each (λ r. length r ≡ parameters_size) (rooms_in b)
  unfolding rooms_in
  rooms-whole h = rows_whole credential_count parameters_size (drop parameters_at b) (simp length-drop (omega arith))

  module _ (i : ℕ) (k : i < credential_count) where
    pub head_at : get_or (heads_in b) i [] ≡ take head_size (drop (heads_at + i * head_size) b)
    unfolding heads_in
    head_at = row-at credential_count head_size (drop heads_at b) i [] k ∙ ap (take head_size) (drop-drop (i * head_size) heads_at b)

    pub room_at : get_or (rooms_in b) i [] ≡ take parameters_size (drop (parameters_at + i * parameters_size) b)
    unfolding rooms_in
    room_at = row-at credential_count parameters_size (drop parameters_at b) i [] k ∙ ap (take parameters_size) (drop-drop (i * parameters_size) parameters_at b)

-- ---- what is held, from as many heads as rooms
pub helds-length : (heads rooms : List (List ℕ)) → length heads ≡ length rooms → length (helds_from heads rooms) ≡ length heads
unfolding helds_from
helds-length [] rooms e = refl
helds-length (x ∷ heads) [] e = absurd (omega arith)
helds-length (x ∷ heads) (y ∷ rooms) e = ap suc (helds-length heads rooms (omega arith))

pub held_at : (heads rooms : List (List ℕ)) (i : ℕ) → length heads ≡ length rooms → i < length heads → get_or (helds_from heads rooms) i nothing ≡ held_from (get_or heads i []) (get_or rooms i [])
unfolding helds_from
held_at [] rooms i e h = absurd (omega arith)
held_at (x ∷ heads) [] i e h = absurd (omega arith)
held_at (x ∷ heads) (y ∷ rooms) zero e h = refl
held_at (x ∷ heads) (y ∷ rooms) (suc i) e h = held_at heads rooms i (omega arith) (omega arith)
