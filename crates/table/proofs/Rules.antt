-- The laws that close the needs of this crate's functions by `search rules`: each premise is as a place's record has it, and each
-- conclusion is a need's own form. Assumes nothing.
use Prim.Native.Nat.{ℕ, ◌*◌, ◌<◌, ◌≤◌}
use mathlib.Core.Path.{◌≡◌, sym, ap, ◌∙◌}
use mathlib.Core.List.{List, []}
use native.Mathlib.Omega.{arith}
use mir.Val.{Fits}
use mir.Syntax.{w64}
use lib.ListN.{length, get_or, take, get_or-eq_default}
use lib.Seq.{length-take-le, take_all, get_or-take}
use Rattle.lists.proofs.Lists.{get_d_any}
use Rattle.names.specs.declared.Kind.TheVariants.{User}
use Rattle.table.specs.declared.Process.{Process}
use Rattle.table.specs.declared.Table.{Table}
use Rattle.table.specs.Table.{places, standing, size, free_place, process_at}
use Rattle.table.proofs.Laws.{standing-front, size_few}

-- what the logic reads past the end of an array of processes: no code makes one
abbrev pub no_process : Process
no_process = record { credential = record { 0 = 0 }; kind = User; session = record { 0 = 0 }; next = 0; name = record { bytes = [] } }

-- ---- the size
module _ (t : Table) (h : length t.places ≡ places) where
  pub size-part : t.count < places → t.count ≡ size t
  unfolding standing size
  size-part k = sym (length-take-le t.count t.places (omega arith))

  pub size-all : places ≤ t.count → places ≡ size t
  unfolding standing size
  size-all k = sym (ap length (take_all t.count t.places (omega arith)) ∙ h)

-- ---- what stands, by the size
module _ (t : Table) {n : ℕ} (e : n ≡ size t) where
  pub front : take n t.places ≡ standing t
  unfolding size
  front = ap (λ (m : ℕ). take m t.places) e ∙ standing-front t

  pub small : length t.places ≡ places → n ≤ places
  small h = omega (arith, size_few t h)

-- ---- the process at a place
module _ (t : Table) {n at : ℕ} (e : n ≡ size t) where
  module _ (k : at < n) (h : length t.places ≡ places) where
    pub place-low : at < places
    place-low = omega (arith, small t e h)

    -- a process has 54 bytes, by which an index is scaled
    pub place-fits : Fits w64 (at * 54)
    place-fits = omega (arith, place-low)

    pub process-got : get_or t.places at no_process ≡ process_at t at
    unfolding process_at
    process-got =
        get_d_any t.places at no_process free_place (omega (arith, place-low))
        ∙ sym (get_or-take n t.places at free_place k)
        ∙ ap (λ (l : List Process). get_or l at free_place) (front t e)

  pub process-none : {p : Process} → n ≤ at → p ≡ free_place → p ≡ process_at t at
  unfolding process_at size
  process-none k q = q ∙ sym (get_or-eq_default (standing t) free_place (omega arith))

pub ruleset rules = (size-part, size-all, process-got, process-none, place-low, place-fits)
