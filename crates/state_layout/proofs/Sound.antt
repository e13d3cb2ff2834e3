-- The test of demand 3's rules is those rules.
-- Assumes nothing.
use Prim.Native.Nat.{◌≤◌}
use mathlib.Core.Path.{◌≡◌, refl}
use mathlib.Core.Logic.{◌↔◌}
use mathlib.Core.Bool.{true, false, not, ◌||◌}
use borrow.Author.Tests.{not-true}
use lib.ListN.{length}
use Rattle.lists.proofs.Tests.{split, clash, and_left, and_right, and_both}
use Rattle.rows.specs.Rows.{every}
use Rattle.rows.proofs.Rows.{every-by, by-every, pairwise-by, by-pairwise}
use Rattle.names.specs.Names.{same_name}
use Rattle.names.proofs.Laws.{same-iff}
use Rattle.names.specs.declared.Kind.{Kind}
use Rattle.names.specs.declared.Kind.TheVariants.{User, Elevation, Saved}
use Rattle.table.specs.Table.{is_active, is_active_in}
use Rattle.table.proofs.Searched.{user-of, of-user, elevation-in, in-elevation}
use Rattle.table.specs.declared.Active.{Active}
use Rattle.table.specs.declared.Active.TheVariants.{UserOf, ElevationIn}
use Rattle.table.specs.declared.Process.{Process}
use Rattle.module_state.specs.Module.{phase_of, is_chosen, provisioned}
use Rattle.module_state.specs.declared.State.{State}
use Rattle.state_layout.specs.Layout.{is_owned, are_rivals, are_apart, sound}
use Rattle.module_rules.specs.Facts.{processes, Owned, Apart, Rules}
use Rattle.module_rules.proofs.Laws.{active-in, in-active}

-- ---- an owner
module _ (st : State) (p : Process) where
  owned-tells : is_owned st p ≡ true → Owned st p
  unfolding is_owned
  owned-tells e =
      record {
        owner = and_left (provisioned st p.credential) _ e;
        seated = λ k. rw (active-in p.session p k refl) at (and_right (provisioned st p.credential) (not (is_active_in p.session p) || is_chosen (phase_of st p.session)) e);
      }

  owned-test : Owned st p → is_owned st p ≡ true
  unfolding is_owned
  owned-test v = rw v.owner (split (is_active_in p.session p) (λ a. rw (a, v.seated (in-active p.session p a))) (λ a. rw a))

-- ---- two processes
module _ (p q : Process) where
  -- active as one and the same: rivals
  rivals-test : (which : Active) → is_active which p ≡ true → is_active which q ≡ true → are_rivals p q ≡ true
  unfolding are_rivals
  rivals-test (UserOf s c) a b = let v = user-of p s c a in rw (v.kind, v.session, v.credential, b)
  rivals-test (ElevationIn s) a b = let v = elevation-in p s a in rw (v.kind, v.session, b)

  -- and rivals are
  rivals-not : ((which : Active) → is_active which p ≡ true → is_active which q ≡ true → ⊥) → are_rivals p q ≡ false
  unfolding are_rivals
  rivals-not alone = by p.kind refl
    where
      by : (k : Kind) → p.kind ≡ k → are_rivals p q ≡ false
      by User e =
          split (is_active (UserOf p.session p.credential) q)
          (λ a. absurd (alone (UserOf p.session p.credential) (of-user p p.session p.credential (record { kind = e; session = refl; credential = refl })) a))
          (λ a. rw (e, a))
      by Elevation e =
          split (is_active (ElevationIn p.session) q)
          (λ a. absurd (alone (ElevationIn p.session) (in-elevation p p.session (record { kind = e; session = refl })) a))
          (λ a. rw (e, a))
      by Saved e = rw e

  apart-tells : are_apart p q ≡ true → Apart p q
  unfolding are_apart
  apart-tells e =
      record {
        names = λ n. clash ((same-iff p.name q.name).1 n) (not-true (same_name p.name q.name) (and_right (not (are_rivals p q)) _ e));
        alone = λ which a b. clash (rivals-test which a b) (not-true (are_rivals p q) (and_left (not (are_rivals p q)) _ e));
      }

  apart-test : Apart p q → are_apart p q ≡ true
  unfolding are_apart
  apart-test v =
      let n : same_name p.name q.name ≡ false =
      split (same_name p.name q.name) (λ t. absurd (v.names ((same-iff p.name q.name).0 t))) (λ t. t)
      in
      rw (rivals-not v.alone, n)

-- ---- the whole, where as many stand as there are places
pub sound-exactly : (st : State) → length (processes st) ≤ 12 → (sound st ≡ true) ↔ Rules st
unfolding sound
sound-exactly st few = (
  λ e. record {
    few = few;
    each = every-by (owned-tells st) (processes st) (and_left (every (is_owned st) (processes st)) _ e);
    pairs = pairwise-by apart-tells (processes st) (and_right (every (is_owned st) (processes st)) _ e);
  },
  λ v. and_both (by-every (owned-test st) v.each) (by-pairwise apart-test v.pairs),
)
