-- Order 5, "A credential holds its parameters in a bounded store of 512 bytes for each": the store, which holds ownership, and of each credential its lock and
-- its parameters.
use Rattle.std.specs.Prelude.{ℕ, Bool, true, false, cond, not, ◌&&◌, ◌||◌, List, [], ◌∷◌, map, eqb, leb, length, get_or, set, replicate}
use Rattle.names.specs.declared.Credential.{Credential}
use Rattle.module_state.specs.Module.{credential_count}
use Rattle.module_state.specs.declared.Grants.{Grants}
use Rattle.store_layout.specs.declared.Head.{Head}
use Rattle.store_layout.specs.declared.Heads.{Heads}

-- of a credential: whether it is locked (004 Table 38), and its parameters (Table 2, from CredentialType on)
pub record Held : Type 0 where
  pub locked : Bool
  pub parameters : List ℕ

abbrev pub nothing : Held
nothing = record { locked = false; parameters = [] }

-- `owned` says that ownership was taken; else the module is in "the default state"
pub record Store : Type 0 where
  pub owned : Bool
  pub held : List Held

-- the default state, no lock, no parameters
abbrev pub empty_store : Store
empty_store = record { owned = false; held = replicate credential_count nothing }

unfoldable pub held_of : Store → Credential → Held
held_of store c = get_or store.held c.0 nothing

-- ---- the heads of a store: all that a call asks of it but for the parameters themselves
abbrev pub head_of : Held → Head
head_of h = record { locked = h.locked; length = length h.parameters }

unfoldable pub heads_of : Store → Heads
heads_of store = record { owned = store.owned; each = map head_of store.held }

abbrev pub no_head : Head
no_head = head_of nothing

unfoldable pub lock_of : Heads → Credential → Bool
lock_of heads c = (get_or heads.each c.0 no_head).locked

unfoldable pub length_of : Heads → Credential → ℕ
length_of heads c = (get_or heads.each c.0 no_head).length

-- which credentials are locked, a flag for each
unfoldable pub locks_of : Heads → List Bool
locks_of heads = map (λ (h : Head). h.locked) heads.each

-- ---- "512 bytes for each"
abbrev pub parameters_size : ℕ
parameters_size = 512

unfoldable pub are_parameters : List ℕ → Bool
are_parameters bytes = leb (length bytes) parameters_size

-- ---- the store with one part changed
abbrev pub with_owned : Store → Bool → Store
with_owned store owned = record { owned = owned; held = store.held }

abbrev pub with_held : Store → Credential → Held → Store
with_held store c h = record { owned = store.owned; held = set store.held c.0 h }

-- the list with z wherever the flag at its index is set
unfoldable pub cleared : {A : Type 0} → List Bool → A → List A → List A
cleared [] z l = l
cleared (flag ∷ flags) z [] = []
cleared (flag ∷ flags) z (x ∷ l) = cond flag z x ∷ cleared flags z l

-- nothing held of these credentials
abbrev pub without_held : Store → List Bool → Store
without_held store gone = record { owned = store.owned; held = cleared gone nothing store.held }

-- ---- "a locked credential is provisioned", and one that is not has no parameters: a store beside a state's credentials
unfoldable pub head_fits : Grants → Head → Bool
head_fits g h = g.provisioned || (not h.locked && eqb h.length 0)

unfoldable pub each_fits : List Grants → List Head → Bool
each_fits [] heads = true
each_fits (g ∷ grants) [] = true
each_fits (g ∷ grants) (h ∷ heads) = head_fits g h && each_fits grants heads

unfoldable pub fits : List Grants → Heads → Bool
fits credentials heads = each_fits credentials heads.each
