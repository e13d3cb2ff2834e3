-- The places of a slice but for their names: each by itself, and that no two are rivals.
use Rattle.std.specs.Prelude.{Bool, not, ◌&&◌, List, map, ℕ}
use Rattle.rows.specs.Rows.{every, pairwise}
use Rattle.table.specs.Table.{standing}
use Rattle.table.specs.declared.Process.{Process}
use Rattle.state_layout.specs.Layout.{process_from, process_fits, state_of, shaped, is_owned, are_rivals}

-- in a slice s, a place's row: its fields in their ranges, its owner provisioned, its session open with version 1.0 where it is active
unfoldable pub stands : List ℕ → List ℕ → Bool
stands s row = process_fits row && is_owned (state_of s) (process_from row)

abbrev pub no_rivals : Process → Process → Bool
no_rivals p q = not (are_rivals p q)

-- rows of places, each of which may stand, and no two of which are rivals
unfoldable pub stand_together : List ℕ → List (List ℕ) → Bool
stand_together s l = every (stands s) l && pairwise no_rivals (map process_from l)

-- all that a slice which holds a state asks but one: what is left is that no two places share a name
unfoldable pub all_fit : List ℕ → Bool
all_fit s = shaped s && (every (is_owned (state_of s)) (standing (state_of s).table) && pairwise no_rivals (standing (state_of s).table))
