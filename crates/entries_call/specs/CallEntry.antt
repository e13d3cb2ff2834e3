-- A call made on the state that a lent slice holds: what it answers, and every byte of the slice afterwards.
use Rattle.std.specs.Prelude.{ℕ, ◌≡◌, Bool, cond, ◌&&◌, List}
use Rattle.rows.specs.Bytes.{Bytes}
use Rattle.module_state.specs.Numbers as No
use Rattle.module_state.specs.Numbers.{◌unless◌, ◌▸◌}
use Rattle.calls.specs.Calls.{Call, number, outcome}
use Rattle.state_layout.specs.Layout.{state_of, state_bytes, holds_state}

-- "a slice that holds no state" is 1; asked by itself
unfoldable pub holds_number : List ℕ → ℕ
holds_number bytes = No.argument unless holds_state bytes

-- the call is made: `fine` says that the arguments that are no part of a call (flags, lengths) are in order
unfoldable pub is_made : Bool → List ℕ → Bool
is_made fine before = fine && holds_state before

-- the test of that; and that the slice is one of bytes, which its type tells
pub record Ready (fine : Bool) (before : List ℕ) (answer : Bool) : Type 0 where
  pub is : answer ≡ is_made fine before
  pub bytes : Bytes before

-- 1 where it is not made; the number of the call where it is
unfoldable pub entry_number : Bool → List ℕ → Call → ℕ
entry_number fine before call =
    No.argument unless is_made fine before
    ▸ number (state_of before) call

-- the bytes of the state that the call leaves, refused or not; where none is made, the slice "is then left as it is"
unfoldable pub entry_bytes : Bool → List ℕ → Call → List ℕ
entry_bytes fine before call = cond (is_made fine before) (state_bytes (outcome (state_of before) call).state) before

pub record CallEntry (fine : Bool) (before : List ℕ) (call : Call) (answer : ℕ) (after : List ℕ) : Type 0 where
  pub number_is : answer ≡ entry_number fine before call
  pub bytes-are : after ≡ entry_bytes fine before call
