-- "A fresh module is made from eight such pairs": what the entry answers, and what it leaves
use Rattle.std.specs.Prelude.{ℕ, ◌≡◌, Bool, cond, ◌&&◌, List, eqb, length}
use Rattle.module_state.specs.Numbers as No
use Rattle.module_state.specs.Numbers.{◌unless◌}
use Rattle.calls.specs.Calls.{fresh}
use Rattle.state_layout.specs.Layout.{state_length, state_bytes}
use Rattle.entries_arguments.specs.Arguments.{Handed, pairs_of, are_pairs}

-- "Making a fresh module tests only the length"
unfoldable pub can_fresh : List ℕ → Handed → Bool
can_fresh before pairs = eqb (length before) state_length && are_pairs pairs

pub record FreshEntry (before : List ℕ) (pairs : Handed) (answer : ℕ) (after : List ℕ) : Type 0 where
  pub number_is : answer ≡ No.argument unless can_fresh before pairs
  pub bytes-are : after ≡ cond (can_fresh before pairs) (state_bytes (fresh (pairs_of pairs))) before
