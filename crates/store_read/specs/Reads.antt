-- What is read of a store: a head by itself, and parameters in a buffer.
use Rattle.std.specs.Prelude.{ℕ, ◌+◌, ◌*◌, cond, List, [], eqb, ltb, leb, length, take, drop, get_or}
use Rattle.rows.specs.Rows.{over}
use Rattle.module_state.specs.Module.{credential_count}
use Rattle.state_layout.specs.Layout.{set_flag}
use Rattle.store_layout.specs.Layout.{lock_at, head_size, heads_at, length_in}
use Rattle.store_layout.specs.Store.{parameters_size}
use Rattle.store_layout.specs.declared.Head.{Head}

-- the bytes of a credential's head
unfoldable pub head_in : List ℕ → ℕ → List ℕ
head_in b i = take head_size (drop (heads_at + i * head_size) b)

-- none where there is no such credential
unfoldable pub head_part : List ℕ → ℕ → List ℕ
head_part b i = cond (ltb i credential_count) (head_in b i) []

-- the length of the parameters that such bytes say: what is over the room's counts as the room's
unfoldable pub length_from : List ℕ → ℕ
length_from head = cond (leb (length_in head) parameters_size) (length_in head) parameters_size

unfoldable pub head_from : List ℕ → Head
head_from head = record { locked = eqb (get_or head lock_at 0) set_flag; length = length_from head }

-- parameters at the front of a buffer; later bytes of it are not touched, and one that is too short stays
abbrev pub parameters_over : List ℕ → List ℕ → List ℕ
parameters_over parameters buffer = over 0 (length parameters) parameters buffer
