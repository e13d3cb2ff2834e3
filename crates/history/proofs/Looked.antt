-- The life of the process of a name, read from the table; and what each operation on the table does to it.
-- Assumes nothing.
use Prim.Native.Nat.{ℕ, zero, suc, ◌<◌}
use mathlib.Core.Path.{◌≡◌, refl, sym, ◌∙◌}
use mathlib.Core.Logic.{◌≢◌}
use mathlib.Core.Bool.{Bool, true, false, cond}
use mathlib.Core.List.{List, [], ◌∷◌, ◌++◌}
use native.Mathlib.Nat.{not-suc-le-zero, le_of_suc-le-suc}
use lib.ListN.{length, get_or, set}
use Rattle.lists.specs.Lists.{reject, remove_at}
use Rattle.lists.proofs.Tests.{split}
use Rattle.names.specs.Names.{same_name}
use Rattle.names.specs.declared.Name.{Name}
use Rattle.names.proofs.Laws.{same-iff, differ-iff}
use Rattle.table.specs.declared.Process.{Process}
use Rattle.lists.specs.Each.{Each, each_nil, each-cons, Pairs, pairs-cons}
use Rattle.history.specs.Lives.{Life, Gone}
use Rattle.history.specs.Demand.{life_of, look}
use Rattle.lists.proofs.Each.{each-imp, each-reject}

-- two processes' names are not equal in all 48 bytes
abbrev pub Distinct : Process → Process → Type 0
Distinct p q = p.name.bytes ≢ q.name.bytes

-- a process of the name n, of which g leaves the life as it is
abbrev pub Fixed : Name → (Life → Life) → Process → Type 0
Fixed n g p = same_name p.name n ≡ true → g (life_of p) ≡ life_of p

module _ (n : Name) where
  -- a process has the name n, and its name is m, or is not
  pub is_name : (p : Process) (m : Name) → p.name.bytes ≡ m.bytes → same_name p.name n ≡ true → same_name m n ≡ true
  is_name p m e h = (same-iff m n).1 (sym e ∙ (same-iff p.name n).0 h)

  pub other_name : (p : Process) (m : Name) → (p.name.bytes ≡ m.bytes → ⊥) → same_name p.name n ≡ true → same_name m n ≡ false
  other_name p m d h = (differ-iff m n).1 (λ e. d ((same-iff p.name n).0 h ∙ sym e))

  pub look_none : {l : List Process} → Each (λ p. same_name p.name n ≡ false) l → look n l ≡ Gone
  look_none each_nil = refl
  look_none (each-cons e h) = rw e (look_none h)

  -- the others have other names
  others : {l : List Process} (x : Process) → same_name x.name n ≡ true → Each (Distinct x) l → Each (λ p. same_name p.name n ≡ false) l
  others x e h = each-imp (λ p d. (differ-iff p.name n).1 (λ q. d ((same-iff x.name n).0 e ∙ sym q))) h

  module _ (g : Life → Life) (z : g Gone ≡ Gone) where
    pub look-fixed : (l : List Process) → Each (Fixed n g) l → look n l ≡ g (look n l)
    look-fixed [] h = sym z
    look-fixed (x ∷ l) (each-cons p h) =
        split (same_name x.name n) (λ e. rw e (sym (p e))) (λ e. rw e (look-fixed l h))

    pub look-set : (l : List Process) (i : ℕ) (d y : Process) → i < length l → same_name (get_or l i d).name n ≡ same_name y.name n → (same_name y.name n ≡ true → g (life_of (get_or l i d)) ≡ life_of y) → Each (Fixed n g) (remove_at i l) → look n (set l i y) ≡ g (look n l)
    unfolding remove_at
    look-set [] i d y lt e k h = absurd (not-suc-le-zero lt)
    look-set (x ∷ l) zero d y lt e k h =
        split (same_name y.name n) (λ q. rw (e ∙ q, q) (sym (k q))) (λ q. rw (e ∙ q, q) (look-fixed l h))
    look-set (x ∷ l) (suc i) d y lt e k (each-cons p h) =
        let r = look-set l i d y (le_of_suc-le-suc lt) e k h in
        split (same_name x.name n) (λ q. rw q (sym (p q))) (λ q. rw q r)

    pub look-remove : (l : List Process) (i : ℕ) (d : Process) → i < length l → (same_name (get_or l i d).name n ≡ true → g (life_of (get_or l i d)) ≡ Gone) → Each (λ p. Distinct p (get_or l i d)) (remove_at i l) → Each (Fixed n g) (remove_at i l) → look n (remove_at i l) ≡ g (look n l)
    unfolding remove_at
    look-remove [] i d lt k a h = absurd (not-suc-le-zero lt)
    look-remove (x ∷ l) zero d lt k a h =
        split
        (same_name x.name n)
        (λ q. rw q (look_none (others x q (each-imp (λ p t e. t (sym e)) a)) ∙ sym (k q)))
        (λ q. rw q (look-fixed l h))
    look-remove (x ∷ l) (suc i) d lt k (each-cons b a) (each-cons p h) =
        let r = look-remove l i d (le_of_suc-le-suc lt) k a h in
        split (same_name x.name n) (λ q. rw q (sym (p q))) (λ q. rw q r)

    pub look-reject : (f : Process → Bool) (l : List Process) → Pairs Distinct l → Each (λ p. g (life_of p) ≡ cond (f p) Gone (life_of p)) l → look n (reject f l) ≡ g (look n l)
    unfolding reject
    look-reject f [] a h = sym z
    look-reject f (x ∷ l) (pairs-cons b a) (each-cons p h) =
        let r = look-reject f l a h in
        split
        (same_name x.name n)
        (λ q.
        split
        (f x)
        (λ e. rw (e, q) (look_none (each-reject f (others x q b)) ∙ sym (rw e at p)))
        (λ e. rw (e, q) (sym (rw e at p))))
        (λ q. split (f x) (λ e. rw (e, q) r) (λ e. rw (e, q) r))

  pub look-append : (g : Life → Life) (l : List Process) (y : Process) → g Gone ≡ cond (same_name y.name n) (life_of y) Gone → Each (Fixed n g) l → look n (l ++ (y ∷ [])) ≡ g (look n l)
  look-append g [] y e h = sym e
  look-append g (x ∷ l) y e (each-cons p h) =
      let r = look-append g l y e h in
      split (same_name x.name n) (λ q. rw q (sym (p q))) (λ q. rw q r)
