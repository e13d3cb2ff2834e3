-- The laws that close the goals of this crate's functions. Assumes nothing.
use Prim.Native.Nat.{ℕ, suc, ◌+◌, ◌-◌, ◌*◌, ◌<◌, ◌≤◌}
use mathlib.Core.Path.{◌≡◌, sym, ap, ◌∙◌}
use mathlib.Core.Bool.{Bool, true, false}
use mathlib.Core.List.{List, [], ◌++◌}
use native.Mathlib.Numerals.{add-one}
use native.Mathlib.Omega.{arith}
use lib.ListN.{length, get_or, set, take, drop, length-drop}
use lib.Seq.{take-take, take-suc, take_all, length-take-le}
use mir.Val.{Fits}
use mir.Syntax.{w64}
use Rattle.names.specs.declared.Session.{Session}
use Rattle.table.proofs.Laws.{standing-few}
use Rattle.table_change.proofs.Rules.{one-more}
use Rattle.std.specs.List.{copy_within}
use Rattle.std.proofs.lemmas.List.{drop-take}
use Rattle.std.proofs.lemmas.List.Edits.{take-paste}
use Rattle.lists.specs.Lists.{reject, remove_at}
use Rattle.lists.proofs.Lists.{remove-out, length-reject, reject-snoc}
use Rattle.table.specs.declared.Process.{Process}
use Rattle.table.specs.declared.Table.{Table}
use Rattle.table.specs.Table.{places, standing, size, table_of, is_active_in, removed, without_session}
use Rattle.table.proofs.Rules.{no_process, front, small}

-- ---- the gap closed
module _ (t : Table) {n at : ℕ} (e : n ≡ size t) where
  pub remove-none : {u : Table} → n ≤ at → u ≡ table_of (standing t) → u ≡ removed t at
  unfolding removed size
  remove-none k q = q ∙ ap table_of (sym (remove-out at (standing t) (omega arith)))

  module _ (h : length t.places ≡ places) (k : at < n) where
    closed : take (n - 1) (copy_within t.places (at + 1) n at) ≡ remove_at at (take n t.places)
    unfolding remove_at
    closed =
        let low : n ≤ places = small t e h in
        let long : length (drop (at + 1) t.places) ≡ places - (at + 1) = omega (arith, length-drop (at + 1) t.places) in
        let m : n - 1 ≡ at + (n - (at + 1)) = omega arith in
        let q : n ≡ at + 1 + (n - (at + 1)) = omega arith in
        let part : n - (at + 1) ≤ length (drop (at + 1) t.places) = omega (arith, low, long) in
        let left : take (n - 1) (copy_within t.places (at + 1) n at) ≡ take at t.places ++ take (n - (at + 1)) (drop (at + 1) t.places)
        = rw m (take-paste t.places at (drop (at + 1) t.places) (n - (at + 1)) (omega (arith, low)) part) in
        let front : take at (take n t.places) ≡ take at t.places = take-take at n t.places (omega arith) in
        let next : suc at ≡ at + 1 = omega arith in
        let back : drop (at + 1) (take n t.places) ≡ take (n - (at + 1)) (drop (at + 1) t.places)
        = ap (λ (x : ℕ). drop (at + 1) (take x t.places)) q ∙ drop-take (at + 1) (n - (at + 1)) t.places in
        left ∙ sym (rw (front, next, back))

    pub remove-at : {u : Table} → u ≡ table_of (standing (record { places = copy_within t.places (at + 1) n at; count = n - 1 })) → u ≡ removed t at
    unfolding removed standing
    remove-at q = q ∙ ap table_of (closed ∙ ap (remove_at at) (front t e))

-- ---- those that stay, in a table of their own: those of the first i of l
pub record Kept (f : Process → Bool) (l : List Process) (left : Table) (i : ℕ) : Type 0 where
  pub is : left ≡ table_of (reject f (take i l))
  pub few : length l ≤ places

pub kept_none : (f : Process → Bool) (t : Table) {l : List Process} {left : Table} → l ≡ standing t → length t.places ≡ places → left ≡ table_of [] → Kept f l left 0
unfolding reject
kept_none f t e h q = record { is = q; few = omega (arith, standing-few t h, ap length e) }

module _ {f : Process → Bool} {l : List Process} {left : Table} {i : ℕ} (v : Kept f l left i) (h : i < length l) where
  pub kept_few : left.count < places
  unfolding table_of
  kept_few =
      let n : left.count ≡ length (reject f (take i l)) = ap (λ (x : Table). x.count) v.is in
      omega (arith, length-reject f (take i l), length-take-le i l (omega arith), v.few)

  pub kept-fits : Fits w64 (left.count * 54)
  kept-fits = omega (arith, kept_few)

  module _ {b : Bool} (e : b ≡ f (get_or l i no_process)) where
    pub kept-more : b ≡ false → Kept f l (record { places = set left.places left.count (get_or l i no_process); count = left.count + 1 }) (i + 1)
    kept-more q =
        let n : f (get_or l i no_process) ≡ false = sym e ∙ q in
        record {
          is =
              one-more (reject f (take i l)) (get_or l i no_process) v.is kept_few
              ∙ ap table_of (rw (add-one, take-suc l i no_process h, reject-snoc f (take i l) (get_or l i no_process), n));
          few = v.few;
        }

    pub kept-not : b ≡ true → Kept f l left (i + 1)
    kept-not q =
        let n : f (get_or l i no_process) ≡ true = sym e ∙ q in
        record { is = v.is ∙ ap table_of (rw (add-one, take-suc l i no_process h, reject-snoc f (take i l) (get_or l i no_process), n)); few = v.few }

pub kept-all : (t : Table) (s : Session) {l : List Process} {left : Table} {i : ℕ} → Kept (is_active_in s) l left i → l ≡ standing t → length l ≤ i → left ≡ without_session t s
unfolding without_session
kept-all t s {l} {i = i} v e h = v.is ∙ ap table_of (ap (reject (is_active_in s)) (take_all i l h ∙ e))

pub ruleset rules = (small, remove-none, remove-at, kept_none, kept_few, kept-fits, kept-more, kept-not, kept-all)
