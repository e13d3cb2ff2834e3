-- The laws that close the needs of this crate's functions by `search rules`: each premise is as a place's record has it, and each
-- conclusion is a need's own form. Assumes nothing.
use Rattle.std.specs.Prelude.{Some, None}
use Prim.Native.Nat.{ℕ, ◌+◌, ◌<◌, ◌≤◌}
use mathlib.Core.Path.{◌≡◌, sym, ap, ◌∙◌}
use mathlib.Core.Bool.{Bool, true, false}
use mathlib.Core.List.{List}
use native.Mathlib.Omega.{arith}
use borrow.Author.Rules.{rules as std_rules}
use lib.ListN.{length, get_or, take}
use Rattle.lists.specs.Lists.{first_index}
use Rattle.lists.proofs.Lists.{length-mapped}
use Rattle.lists.proofs.Loops.{Passed, passed_none, passed-more, passed-hit, passed-all}
use Rattle.table.specs.declared.Process.{Process}
use Rattle.table.specs.declared.Table.{Table}
use Rattle.table.specs.Table.{places, standing, size, first_place}
use Rattle.table.proofs.Rules.{no_process, front, small}
use Rattle.table.proofs.Searched.{first-is, first_past}

-- ---- a search: it begins, goes on, stops at a hit, and ends with none
pub record Searching (f : Process → Bool) (l : List Process) (n i : ℕ) : Type 0 where
  pub small : n ≤ places
  pub passed : Passed f l n i

pub begin : (f : Process → Bool) (t : Table) {n : ℕ} → n ≡ size t → length t.places ≡ places → Searching f t.places n 0
begin f t {n} e h =
    let k : n ≤ places = small t e h in
    record { small = k; passed = passed_none f t.places n (omega arith) }

pub on : {f : Process → Bool} {l : List Process} {n i : ℕ} {b : Bool} → Searching f l n i → i < n → b ≡ f (get_or l i no_process) → b ≡ false → Searching f l n (i + 1)
on v h e k = record { small = v.small; passed = passed-more v.passed no_process h (sym e ∙ k) }

module _ {f : Process → Bool} (t : Table) {n i : ℕ} (e : n ≡ size t) (v : Searching f t.places n i) where
  first_is : {k : ℕ} → first_index f (take n t.places) ≡ k → first_index f (standing t) ≡ k
  first_is q = ap (λ (l : List Process). first_index f l) (sym (front t e)) ∙ q

  pub hit : {b : Bool} → i < n → b ≡ f (get_or t.places i no_process) → b ≡ true → Some i ≡ first_place f (standing t)
  unfolding size
  hit h q k =
      let is : first_index f (standing t) ≡ i = first_is (passed-hit v.passed no_process h (sym q ∙ k)) in
      sym (first-is f (standing t) (omega arith) ∙ ap Some is)

  pub none : n ≤ i → None ≡ first_place f (standing t)
  unfolding size
  none h =
      let is : first_index f (standing t) ≡ n = first_is (passed-all v.passed h) in
      sym (first_past f (standing t) (omega arith))

pub ruleset rules = (std_rules, length-mapped, begin, on, hit, none)
