-- The laws that close the needs of this crate's functions by `search rules`: each premise is as a place's record has it, and each
-- conclusion is a need's own form. Assumes nothing.
use Prim.Native.Nat.{ℕ, suc, ◌+◌, ◌-◌, ◌<◌, ◌≤◌}
use mathlib.Core.Path.{◌≡◌, sym, ap, ◌∙◌}
use mathlib.Core.List.{List, [], ◌∷◌, ◌++◌}
use native.Mathlib.Omega.{arith}
use borrow.Author.Tests.{lt-ltb, le-ltb}
use lib.ListN.{length, take, set, replicate, length-append, length-set}
use lib.Seq.{set-append_seam, set-append_left, append_snoc, set_out}
use Rattle.lists.specs.Lists.{padded}
use Rattle.lists.proofs.Lists.{length-mapped}
use Rattle.lists.proofs.Loops.{Cleared, cleared-none, cleared_more, cleared-all}
use Rattle.table.specs.declared.Process.{Process}
use Rattle.table.specs.declared.Table.{Table}
use Rattle.table.specs.Table.{places, standing, size, free_place, table_of, appended, replaced}
use Rattle.table.proofs.Laws.{standing-few}
use Rattle.table.proofs.Rules.{front, small}

-- ---- the free places cleared
pub clear : (t : Table) {n : ℕ} → n ≡ size t → length t.places ≡ places → Cleared t.places n free_place t.places n
clear t {n} e h = let k : n ≤ places = small t e h in cleared-none t.places n free_place (omega arith)

pub clear-on : {l₀ : List Process} {n : ℕ} {l : List Process} {i : ℕ} {z : Process}
    → Cleared l₀ n free_place l i → length l₀ ≡ places → i < places → z ≡ free_place → Cleared l₀ n free_place (set l i z) (i + 1)
clear-on v h k e = rw e (cleared_more v (omega arith))

pub clear-all : (t : Table) {n : ℕ} {l : List Process} {i : ℕ}
    → n ≡ size t → Cleared t.places n free_place l i → length t.places ≡ places → places ≤ i → ◌≡◌ {A = Table} (record { places = l; count = n }) (table_of (standing t))
unfolding table_of size
clear-all t {n} {l} v w h k =
    let e : l ≡ padded (length t.places) free_place (take n t.places) = cleared-all w (omega arith) in
    rw (e, h, front t v, v)

-- ---- the changes of a tidied table
abbrev table_with : List Process → ℕ → Table
table_with l n = record { places = l; count = n }

module _ (l : List Process) {u : Table} (p : Process) (e : u ≡ table_of l) where
  counted : u.count ≡ length l
  unfolding table_of
  counted = ap (λ (x : Table). x.count) e

  placed : u.places ≡ padded places free_place l
  unfolding table_of
  placed = ap (λ (x : Table). x.places) e

  pub one-more : u.count < places → ◌≡◌ {A = Table} (record { places = set u.places u.count p; count = u.count + 1 }) (table_of (l ++ (p ∷ [])))
  unfolding table_of padded
  one-more k =
      let m : length (l ++ (p ∷ [])) ≡ length l + 1 = length-append l (p ∷ []) in
      let r : places - length l ≡ suc (places - (length l + 1)) = omega (arith, counted) in
      rw (placed, counted, m, r, append_snoc) (ap (λ (x : List Process). table_with x (length l + 1)) (set-append_seam l free_place _ p))

  one-other : (at : ℕ) → at < u.count → ◌≡◌ {A = Table} (record { places = set u.places at p; count = u.count }) (table_of (set l at p))
  unfolding table_of padded
  one-other at k = rw (placed, counted, length-set, set-append_left l (replicate (places - length l) free_place) at p (omega (arith, counted)))

module _ (t : Table) (p : Process) {u : Table} (e : u ≡ table_of (standing t)) where
  pub append-room : u.count < places → ◌≡◌ {A = Table} (record { places = set u.places u.count p; count = u.count + 1 }) (appended t p)
  unfolding appended size
  append-room k = one-more (standing t) p e k ∙ rw (lt-ltb (length (standing t)) places (omega (arith, counted (standing t) p e)))

  pub append-full : places ≤ u.count → u ≡ appended t p
  unfolding appended size
  append-full k = e ∙ rw (le-ltb (length (standing t)) places (omega (arith, counted (standing t) p e)))

  pub replace-in : {at : ℕ} → at < u.count → ◌≡◌ {A = Table} (record { places = set u.places at p; count = u.count }) (replaced t at p)
  unfolding replaced
  replace-in {at} k = one-other (standing t) p e at k

  pub replace-out : {at : ℕ} → u.count ≤ at → u ≡ replaced t at p
  unfolding replaced
  replace-out {at} k = e ∙ ap table_of (sym (set_out (standing t) at p (omega (arith, counted (standing t) p e))))

-- a tidied table's count is that of processes that stand
pub tidied-few : (t u : Table) → u ≡ table_of (standing t) → length t.places ≡ places → u.count ≤ places
unfolding table_of
tidied-few t u e h = let n : u.count ≡ length (standing t) = ap (λ (x : Table). x.count) e in omega (arith, standing-few t h)

pub ruleset rules = (length-mapped, clear, clear-on, clear-all, append-room, append-full, replace-in, replace-out, tidied-few)
