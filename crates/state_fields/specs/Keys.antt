-- A place's key: rivals have one key, and of places that may stand only rivals do. So that no two are rivals is told by going over the places once.
use Rattle.std.specs.Prelude.{ℕ, ◌+◌, ◌*◌, ◌%◌, ◌<◌, ◌≡◌, List, get_or}
use Rattle.names.specs.Names.{kind_numbered}
use Rattle.names.specs.declared.Kind.{Kind}
use Rattle.names.specs.declared.Kind.TheVariants.{User, Elevation, Saved}
use Rattle.module_state.specs.Module.{session_count, credential_count}
use Rattle.state_layout.specs.Layout.{owner_at, kind_at, session_at}

-- a user process's key is that of its session and its credential, an elevation's that of its session; a saved process has none. The code has these names
abbrev pub user_keys : ℕ
user_keys = session_count * credential_count

abbrev pub no_key : ℕ
no_key = user_keys + session_count

-- how many numbers there are: the keys, and that for none
abbrev pub key_count : ℕ
key_count = no_key + 1

abbrev pub key_numbered : Kind → ℕ → ℕ → ℕ
key_numbered User session credential = session % session_count * credential_count + credential % credential_count
key_numbered Elevation session credential = user_keys + session % session_count
key_numbered Saved session credential = no_key

unfoldable pub key_of : List ℕ → ℕ
key_of row = key_numbered (kind_numbered (get_or row kind_at 0)) (get_or row session_at 0) (get_or row owner_at 0)

-- a key, or the number for none
pub record Key (x r : ℕ) : Type 0 where
  pub is : r ≡ x
  pub small : r < key_count
