-- The layout, worked by hand: the store that docs/STORE.md draws, and what one changed byte of it breaks.
-- Assumes nothing.
use Prim.Native.Nat.{ℕ, ◌+◌, ◌-◌, ◌*◌}
use mathlib.Core.Path.{◌≡◌, refl}
use mathlib.Core.Bool.{Bool, true, false}
use mathlib.Core.List.{List, [], ◌∷◌, ◌++◌}
use lib.ListN.{length, replicate, set, take}
use Rattle.lists.specs.Lists.{join, padded}
use Rattle.rows.specs.Bytes.{bytes_of, number_of, number_at}
use Rattle.rows.specs.Rows.{rows, every}
use Rattle.module_state.specs.Module.{both_words, granted, unprovisioned}
use Rattle.module_state.specs.declared.Grants.{Grants}
use Rattle.store_layout.specs.Store.{nothing, Store, empty_store, parameters_size, heads_of, head_fits, each_fits, fits}
use Rattle.store_layout.specs.Layout.{lock_at, length_at, head_size, owned_at, heads_at, parameters_at, store_length, head_bytes, length_in, head_fits_in, room_bytes, room_fits_in, held_from, helds_from, rooms_fit, heads_in, rooms_in, store_bytes, store_of, is_store}

-- all that an example computes with: who says `unfolding computed` has it open
unfoldable computed : Type 1
unfolding join padded bytes_of number_of number_at rows every heads_of head_fits each_fits fits head_bytes length_in head_fits_in room_bytes room_fits_in held_from helds_from rooms_fit heads_in rooms_in store_bytes store_of is_store
computed = Type 0

-- the default state; credential 2 is locked, and has 512 bytes of parameters
abbrev drawn : Store
drawn =
    record {
      owned = false;
      held = replicate 2 nothing ++ (record { locked = true; parameters = replicate 512 0x5a } ∷ replicate 5 nothing);
    }

abbrev bytes : List ℕ
bytes =
    -- at 0: ownership
    0
    -- from 1 on: the heads of the credentials, at 7 that of credential 2
    ∷ (replicate 6 0
    ++ ((0x01 ∷ 0x00 ∷ 0x02 ∷ [])
    ++ (replicate 15 0
    -- from 25 on: the parameters, at 1049 those of credential 2
    ++ (replicate 1024 0
    ++ (replicate 512 0x5a
    ++ replicate 2560 0)))))

-- beside it, credentials 0 to 2 are provisioned
abbrev credentials : List Grants
credentials = granted (both_words 15 0) ∷ granted (both_words 16 0) ∷ granted (both_words 8 0) ∷ replicate 5 unprovisioned

abbrev fitting : List ℕ → Bool
fitting b = fits credentials (heads_of (store_of b))

pub record Drawn : Type 0 where
  pub written : store_bytes drawn ≡ bytes
  pub read : store_of bytes ≡ drawn
  pub long : length bytes ≡ 4121
  pub held : is_store bytes ≡ true
  pub fits : fitting bytes ≡ true
  -- zeros are the default state, no lock, no parameters
  pub nothing_written : store_bytes empty_store ≡ replicate store_length 0
  pub nothing-held : is_store (replicate store_length 0) ≡ true

pub drawn-is : Drawn
unfolding computed
drawn-is = record { written = refl; read = refl; long = refl; held = refl; fits = refl; nothing_written = refl; nothing-held = refl }

-- where the head and the parameters of a credential begin
abbrev head : ℕ → ℕ
head c = heads_at + c * head_size

abbrev room : ℕ → ℕ
room c = parameters_at + c * parameters_size

-- a byte changed: the place, and what it holds then
abbrev changed : ℕ → ℕ → Bool
changed at byte = is_store (set bytes at byte)

pub record Refused : Type 0 where
  -- another length
  pub short : is_store (take (store_length - 1) bytes) ≡ false
  pub long : is_store (bytes ++ (0 ∷ [])) ≡ false
  -- no such ownership; no flag; 513 bytes
  pub owned-2 : changed owned_at 2 ≡ false
  pub lock-2 : changed (head 0 + lock_at) 2 ≡ false
  pub length-513 : changed (head 2 + length_at) 1 ≡ false
  -- what is past a length, and not zero: byte 256 of the parameters; the first, of a credential that has none
  pub past-256 : changed (head 2 + length_at + 1) 1 ≡ false
  pub past-none : changed (room 0) 1 ≡ false
  -- credential 3 is locked and not provisioned: a store by itself, which does not fit
  pub locked-alone : changed (head 3 + lock_at) 1 ≡ true
  pub locked-unprovisioned : fitting (set bytes (head 3 + lock_at) 1) ≡ false

pub refused : Refused
unfolding computed
refused = record { short = refl; long = refl; owned-2 = refl; lock-2 = refl; length-513 = refl; past-256 = refl; past-none = refl; locked-alone = refl; locked-unprovisioned = refl }
