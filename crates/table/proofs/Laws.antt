-- What each operation does to the processes that stand: what callers cite, so that none unfolds a definition.
-- `h`, that a table has 12 places, is known of any table that a function was passed.
-- Assumes nothing.
use Prim.Native.Nat.{ℕ, ◌<◌, ◌≤◌}
use mathlib.Core.Path.{◌≡◌}
use mathlib.Core.List.{List, [], ◌∷◌, ◌++◌}
use native.Mathlib.Omega.{arith}
use borrow.Author.Tests.{lt-ltb}
use lib.ListN.{length, take, drop, set, length-take, take-append-drop}
use lib.Seq.{take-append_seam}
use Rattle.lists.specs.Lists.{reject, remove_at}
use Rattle.lists.proofs.Lists.{length-padded, front-padded}
use Rattle.std.proofs.lemmas.List.Sums.{count_by-le-length}
use Rattle.names.specs.declared.Session.{Session}
use Rattle.table.specs.declared.Among.{Among}
use Rattle.table.specs.declared.Process.{Process}
use Rattle.table.specs.declared.Table.{Table}
use Rattle.table.specs.Table.{places, standing, size, free_place, table_of, is_active_in, is_among, count_among, appended, replaced, removed, without_session}

-- ---- tables of a list
pub standing-of : (l : List Process) → standing (table_of l) ≡ l
unfolding standing table_of
standing-of l = front-padded places free_place l

pub whole_of : (l : List Process) → length l ≤ places → length (table_of l).places ≡ places
unfolding table_of
whole_of l h = length-padded places free_place l h

-- ---- what stands in any table
pub standing-front : (t : Table) → take (length (standing t)) t.places ≡ standing t
unfolding standing
standing-front t =
    rw take-append-drop at (take-append_seam (take t.count t.places) (drop t.count t.places))

module _ (t : Table) (h : length t.places ≡ places) where
  pub standing-few : length (standing t) ≤ places
  unfolding standing
  standing-few = rw length-take (omega arith)

  pub size_few : size t ≤ places
  unfolding size
  size_few = standing-few

  pub count-few : (among : Among) → count_among t among ≤ places
  unfolding count_among
  count-few among = omega (arith, count_by-le-length (is_among among) (standing t), standing-few)

-- ---- what each operation leaves
module _ (t : Table) where
  pub standing-appended : (p : Process) → size t < places → standing (appended t p) ≡ standing t ++ (p ∷ [])
  unfolding appended
  standing-appended p k = rw (lt-ltb (size t) places k) (standing-of (standing t ++ (p ∷ [])))

  pub standing-replaced : (at : ℕ) (p : Process) → standing (replaced t at p) ≡ set (standing t) at p
  unfolding replaced
  standing-replaced at p = standing-of (set (standing t) at p)

  pub standing-removed : (at : ℕ) → standing (removed t at) ≡ remove_at at (standing t)
  unfolding removed
  standing-removed at = standing-of (remove_at at (standing t))

  pub standing-without-session : (s : Session) → standing (without_session t s) ≡ reject (is_active_in s) (standing t)
  unfolding without_session
  standing-without-session s = standing-of (reject (is_active_in s) (standing t))
