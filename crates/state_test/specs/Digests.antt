-- A number of a place: its name's digest. Equal names have one digest, and one sum of its halves. So where no two places share a sum their names differ, and
-- only where two do are the names themselves compared.
use Rattle.std.specs.Prelude.{ℕ, ◌+◌, ◌*◌, ◌/◌, ◌%◌, ◌^◌, ◌<◌, ◌≡◌, Bool, true, false, not, List, map, length, get_or}
use Rattle.std.specs.List.{list_all}
use Rattle.names.specs.Names.{same_name}
use Rattle.names.specs.Words.{digest_of}
use Rattle.table.specs.Table.{free_place, places}
use Rattle.table.specs.declared.Process.{Process}
use Rattle.state_layout.specs.Layout.{process_from}

-- the processes that stand in rows of places
abbrev pub standing_in : List (List ℕ) → List Process
standing_in l = map process_from l

-- the digests of their names; what stands behind them is nobody's
pub record Digests (l : List (List ℕ)) (d : List ℕ) : Type 0 where
  pub at : (i : ℕ) → i < length l → get_or d i 0 ≡ digest_of (get_or (standing_in l) i free_place).name

-- a sum of a digest's two halves: three times the lower, and the upper
abbrev pub half : ℕ
half = 2 ^ 32

abbrev pub sum_of : ℕ → ℕ
sum_of digest = (digest / half + digest % half * 3) % half

-- how many sums stand once more behind the last, and how many there are then
abbrev pub again : ℕ
again = 6

abbrev pub round : ℕ
round = places + again

pub record Sums (digests sums : List ℕ) : Type 0 where
  pub at : (i : ℕ) → i < round → get_or sums i 0 ≡ sum_of (get_or digests (i % places) 0)

-- no sum equals the one that stands so far behind it, where none was met
pub record Behind (sums : List ℕ) (behind : ℕ) (met : Bool) : Type 0 where
  pub other : met ≡ false → (i : ℕ) → i < places → get_or sums i 0 ≡ get_or sums (i + behind) 0 → ⊥

abbrev pub other_names : Process → Process → Bool
other_names p q = not (same_name p.name q.name)

-- a test passes, where no number was met
pub record Unless (met test : Bool) : Type 0 where
  pub passes : met ≡ false → true ≡ test

-- the name at a place is another than each of the later ones
abbrev pub later_others : List ℕ → List (List ℕ) → Bool
later_others row later = list_all (λ other. other_names (process_from row) (process_from other)) later
