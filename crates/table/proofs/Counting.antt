-- The loop that counts those standing that pass a test: k of the first i places do. Assumes nothing.
use Prim.Native.Nat.{ℕ, ◌+◌, ◌<◌, ◌≤◌}
use mathlib.Core.Path.{◌≡◌, sym, ◌∙◌}
use mathlib.Core.Bool.{Bool, true, false}
use mathlib.Core.List.{List}
use native.Mathlib.Omega.{arith}
use lib.ListN.{length, get_or}
use Rattle.lists.specs.Lists.{select}
use Rattle.lists.proofs.Loops.{Counted, counted_none, counted-more, counted-not}
use Rattle.table.specs.declared.Process.{Process}
use Rattle.table.specs.declared.Table.{Table}
use Rattle.table.specs.Table.{places, standing, size}
use Rattle.table.proofs.Rules.{no_process, front, small}

pub record Counting (f : Process → Bool) (l : List Process) (n k i : ℕ) : Type 0 where
  pub small : n ≤ places
  pub counted : Counted f l n k i

module _ {f : Process → Bool} {l : List Process} {n k k' i : ℕ} {b : Bool} (v : Counting f l n k i) (h : i < n) (e : b ≡ f (get_or l i no_process)) where
  pub count-on : b ≡ true → k' ≡ k + 1 → Counting f l n k' (i + 1)
  count-on q g = rw g (record { small = v.small; counted = counted-more no_process v.counted h (sym e ∙ q) })

  pub count-not : b ≡ false → k' ≡ k → Counting f l n k' (i + 1)
  count-not q g = rw g (record { small = v.small; counted = counted-not no_process v.counted h (sym e ∙ q) })

module _ (f : Process → Bool) (t : Table) {n : ℕ} (e : n ≡ size t) where
  pub count-begin : length t.places ≡ places → Counting f t.places n 0 0
  count-begin h =
      let k : n ≤ places = small t e h in
      record { small = k; counted = counted_none f t.places n (omega arith) }

  pub count-all : {k i : ℕ} → Counting f t.places n k i → n ≤ i → k ≡ length (select f (standing t))
  count-all {k} {i} v h =
      let q : i ≡ n = omega (arith, v.counted.low) in
      v.counted.is ∙ rw (q, front t e)
