-- A slice after a part of a store was written into it: where it can be, and that it stays as long.
-- Assumes nothing.
use Prim.Native.Nat.{ℕ, ◌<◌, ◌≤◌}
use mathlib.Core.Path.{◌≡◌, refl, ◌∙◌}
use mathlib.Core.Bool.{Bool, true, ◌&&◌}
use mathlib.Core.List.{List, [], ◌∷◌}
use native.Mathlib.Omega.{arith}
use borrow.Author.Tests.{eqb-true, leb-true}
use lib.Dec.{eqb, leb}
use lib.ListN.{length}
use Rattle.lists.proofs.Tests.{split, and_left, and_right}
use Rattle.lists.proofs.Lists.{length-padded}
use Rattle.rows.proofs.Bytes.{length-bytes}
use Rattle.rows.proofs.Over.{over-length}
use Rattle.names.specs.declared.Credential.{Credential}
use Rattle.module_state.specs.Module.{credential_count, is_credential, last_credential}
use Rattle.state_layout.specs.Layout.{flag_number}
use Rattle.store_layout.specs.Store.{Held, head_of, parameters_size}
use Rattle.store_layout.specs.Layout.{length_size, head_size, owned_at, owned_size, store_length, head_bytes, room_bytes, head_place, room_place, can_write, owned_written, head_written, room_written, held_written}
use Rattle.store_layout.specs.declared.Head.{Head}

-- ---- where it can be
module _ (b : List ℕ) (c : Credential) (e : can_write b c ≡ true) where
  pub can-length : length b ≡ store_length
  unfolding can_write
  can-length = eqb-true (length b) store_length (and_left (eqb (length b) store_length) (is_credential c) e)

  pub can-low : c.0 < credential_count
  unfolding can_write is_credential
  can-low = omega (arith, leb-true c.0 last_credential (and_right (eqb (length b) store_length) (is_credential c) e))

-- ---- the bytes of a head and of a room
pub head-bytes-length : (h : Head) → length (head_bytes h) ≡ head_size
unfolding head_bytes
head-bytes-length h = omega (arith, length-bytes length_size h.length)

pub room-bytes-length : (p : List ℕ) → length p ≤ parameters_size → length (room_bytes p) ≡ parameters_size
unfolding room_bytes
room-bytes-length p h = length-padded parameters_size 0 p h

-- ---- as long as before
module _ (b : List ℕ) where
  pub owned-length : (owned : Bool) → length (owned_written b owned) ≡ length b
  unfolding owned_written
  owned-length owned =
      split (eqb (length b) store_length) (λ e. rw e (over-length owned_at owned_size (flag_number owned ∷ []) b refl)) (λ e. rw e)

  module _ (c : Credential) where
    pub head-length : (h : Head) → length (head_written b c h) ≡ length b
    unfolding head_written
    head-length h = split (can_write b c) (λ e. rw e (over-length (head_place c) head_size (head_bytes h) b (head-bytes-length h))) (λ e. rw e)

    pub room-length : (p : List ℕ) → length (room_written b c p) ≡ length b
    unfolding room_written
    room-length p =
        split (can_write b c && leb (length p) parameters_size)
        (λ e.
        let k : length p ≤ parameters_size = leb-true (length p) parameters_size (and_right (can_write b c) (leb (length p) parameters_size) e) in
        rw e (over-length (room_place c) parameters_size (room_bytes p) b (room-bytes-length p k)))
        (λ e. rw e)

pub held-length : (b : List ℕ) (c : Credential) (h : Held) → length (held_written b c h) ≡ length b
unfolding held_written
held-length b c h = head-length (room_written b c h.parameters) c (head_of h) ∙ room-length b c h.parameters
