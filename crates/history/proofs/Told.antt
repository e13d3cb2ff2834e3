-- What is told of a name where it is what the table says of it: the count, and which process a claim is one of.
-- Assumes nothing.
use Prim.Native.Nat.{ℕ, zero, suc, ◌≤◌, ◌<◌}
use mathlib.Core.Path.{◌≡◌, refl, sym, ap, ◌∙◌}
use mathlib.Core.Bool.{true, false, ◌&&◌}
use mathlib.Core.List.{List, [], ◌∷◌}
use native.Mathlib.Omega.{arith}
use lib.Dec.{eqb}
use borrow.Author.Tests.{eqb-true, eqb-false, eq-eqb}
use lib.ListN.{length, get_or}
use Rattle.lists.specs.Each.{Each, each_nil, each-cons, Pairs, pairs-nil, pairs-cons}
use Rattle.lists.specs.Lists.{any, first_index}
use Rattle.lists.proofs.Tests.{split, clash}
use Rattle.lists.proofs.Each.{Stands, found, each-fails, each-imp, each-imp₂, each_at, pairs-imp, pairs-at}
use Rattle.names.specs.Names.{same_name}
use Rattle.names.specs.declared.Credential.{Credential}
use Rattle.names.specs.declared.Kind.{Kind}
use Rattle.names.specs.declared.Kind.TheVariants.{User, Elevation, Saved}
use Rattle.names.specs.declared.Name.{Name}
use Rattle.names.specs.declared.Session.{Session}
use Rattle.names.proofs.Laws.{same-iff, differ-iff, same→name, name→same}
use Rattle.table.specs.Table.{free_place, process_at, is_user, is_elevation, is_active}
use Rattle.table.specs.declared.Active.TheVariants.{UserOf}
use Rattle.table.specs.declared.Process.{Process}
use Rattle.table.proofs.Searched.{user-of}
use Rattle.module_state.specs.Module.{has_active, active_place, active_process}
use Rattle.module_state.specs.Claim.{admitted}
use Rattle.module_state.specs.declared.State.{State}
use Rattle.module_state.specs.declared.UserClaim.{UserClaim}
use Rattle.module_state.specs.declared.Claim.TheVariants.{ByUser}
use Rattle.module_rules.specs.Facts.{processes, Rules}
use Rattle.module_rules.proofs.Laws.{apart-turn}
use Rattle.history.specs.Lives.{Life, Gone, Live, passed, count, down}
use Rattle.history.specs.Demand.{life, life_of, look, Tells, IsClaimOf}
use Rattle.history.proofs.Facts as Facts
use Rattle.history.proofs.Facts.{UserPassed}
use Rattle.history.proofs.Looked.{Distinct, look_none}

pub live-not-gone : {s : Session} {c : Credential} {ns : List ℕ} → Live s c ns ≡ Gone → ⊥
live-not-gone e = let z : ◌≡◌ {A = ℕ} 0 1 = cc in absurd (omega arith)

-- ---- the numbers below one
pub length-down : (n : ℕ) → length (down n) ≡ n
length-down zero = refl
length-down (suc n) = ap suc (length-down n)

pub down-below : (n m : ℕ) → n ≤ m → Each (λ a. a < m) (down n)
down-below zero m h = each_nil
down-below (suc n) m h = each-cons h (down-below n m (omega arith))

-- ---- what the table says of a name
look_self : {l : List Process} → Pairs Distinct l → Each (λ p. look p.name l ≡ life_of p) l
look_self pairs-nil = each_nil
look_self (pairs-cons {x = x} p h) =
    each-cons
    {x = x}
    (rw (name→same x.name x.name refl))
    (each-imp₂ (λ y d e. rw ((differ-iff x.name y.name).1 d) e) p (look_self h))

look-first : (n : Name) (l : List Process) → any (λ p. same_name p.name n) l ≡ true → look n l ≡ life_of (get_or l (first_index (λ p. same_name p.name n) l) free_place)
unfolding any first_index
look-first n [] h = clash h refl
look-first n (p ∷ l) h = split (same_name p.name n) (λ e. rw e) (λ e. rw e (look-first n l (rw e at h)))

life-down : (k : Kind) (s : Session) (c : Credential) (n : ℕ) → passed (life k s c n) ≡ down (count (life k s c n))
unfolding passed
life-down User s c n = ap down (sym (length-down n))
life-down Elevation s c n = refl
life-down Saved s c n = ap down (sym (length-down n))

look-down : (n : Name) (l : List Process) → passed (look n l) ≡ down (count (look n l))
unfolding passed
look-down n [] = refl
look-down n (p ∷ l) =
    split (same_name p.name n) (λ e. rw e (life-down p.kind p.session p.credential p.next)) (λ e. rw e (look-down n l))

next-is : (k : Kind) (s : Session) (c : Credential) (n : ℕ) → is_elevation k ≡ false → n ≡ count (life k s c n)
unfolding passed
next-is User s c n e = sym (length-down n)
next-is Elevation s c n e = clash refl e
next-is Saved s c n e = sym (length-down n)

-- a name that it says is live in a session under a credential is that of the active process there
record LiveAt (n : Name) (l : List Process) (s : Session) (c : Credential) : Type 0 where
  pub place : ℕ
  pub within : place < length l
  pub named : (get_or l place free_place).name.bytes ≡ n.bytes
  pub active : is_active (UserOf s c) (get_or l place free_place) ≡ true

live-active : (k : Kind) (t : Session) (d : Credential) (i : ℕ) (s : Session) (c : Credential) (ns : List ℕ) → life k t d i ≡ Live s c ns → is_user k && eqb t.0 s.0 && eqb d.0 c.0 ≡ true
live-active User t d i s c ns e =
    let et : t ≡ s = cc in
    let ed : d ≡ c = cc in
    rw (et, ed, eq-eqb s.0 s.0 refl, eq-eqb c.0 c.0 refl)
live-active Elevation t d i s c ns e = cc
live-active Saved t d i s c ns e = cc

look-live : (n : Name) (l : List Process) (s : Session) (c : Credential) (ns : List ℕ) → look n l ≡ Live s c ns → LiveAt n l s c
unfolding is_active
look-live n [] s c ns e = absurd (live-not-gone (sym e))
look-live n (p ∷ l) s c ns e =
    split
    (same_name p.name n)
    (λ q.
    record {
      place = 0;
      within = omega arith;
      named = (same-iff p.name n).0 q;
      active = live-active p.kind p.session p.credential p.next s c ns (rw q at e);
    })
    (λ q.
    let r = look-live n l s c ns (rw q at e) in
    record { place = suc r.place; within = omega (arith, r.within); named = r.named; active = r.active })

pub live-stands : (n : Name) (st : State) (s : Session) (c : Credential) (ns : List ℕ) → look n (processes st) ≡ Live s c ns → has_active st (UserOf s c) ≡ true
unfolding has_active
live-stands n st s c ns h =
    let r = look-live n (processes st) s c ns h in
    split (has_active st (UserOf s c)) (λ e. e)
    (λ e. clash r.active (each_at r.place free_place r.within (each-fails (is_active (UserOf s c)) (processes st) e)))

-- ---- a state is told where the table says the same of every name
pub tells-look : (tell : Name → Life) (st : State) → Tells tell st → (n : Name) → tell n ≡ look n (processes st)
tells-look tell st t n = split (any (λ p. same_name p.name n) (processes st)) hit miss
  where
    hit : any (λ p. same_name p.name n) (processes st) ≡ true → tell n ≡ look n (processes st)
    hit e =
        let i : ℕ = first_index (λ p. same_name p.name n) (processes st) in
        let f : Stands (λ p. same_name p.name n) (processes st) free_place i = found (λ p. same_name p.name n) (processes st) free_place e in
        let m : (get_or (processes st) i free_place).name ≡ n = same→name (get_or (processes st) i free_place).name n f.passes in
        ap tell (sym m) ∙ each_at i free_place f.inside t.stands ∙ sym (look-first n (processes st) e)

    miss : any (λ p. same_name p.name n) (processes st) ≡ false → tell n ≡ look n (processes st)
    miss e =
        let none = each-fails (λ (p : Process). same_name p.name n) (processes st) e in
        t.gone n (each-imp (λ p d. (differ-iff p.name n).0 d) none) ∙ sym (look_none n none)

module _ (st : State) (v : Rules st) (tell : Name → Life) (is : (n : Name) → tell n ≡ look n (processes st)) where
  pub look-tells : Tells tell st
  look-tells =
      record {
        stands = each-imp (λ p e. is p.name ∙ e) (look_self (pairs-imp (λ p q a. a.names) v.pairs));
        gone = λ n h. is n ∙ look_none n (each-imp (λ p d. (differ-iff p.name n).1 d) h);
      }

  -- ---- the count, and that every number came in its turn
  pub numbers-told : Each (λ p. is_elevation p.kind ≡ false → p.next ≡ count (tell p.name)) (processes st)
  numbers-told = each-imp (λ p e h. rw e (next-is p.kind p.session p.credential p.next h)) look-tells.stands

  pub in-turn : (n : Name) → passed (tell n) ≡ down (count (tell n))
  in-turn n = rw (is n) (look-down n (processes st))

  -- ---- a user claim that passes its check
  module _ (s : Session) (u : UserClaim) (z : admitted st s (ByUser u) ≡ 0) where
    -- is one of the process that the search finds, by what is told alone, and its number is the count so far
    pub claim-told : IsClaimOf tell s u (active_process st (UserOf s u.credential)).name
    unfolding active_process process_at
    claim-told =
        let i : ℕ = active_place st (UserOf s u.credential) in
        let x : Process = get_or (processes st) i free_place in
        let user = user-of x s u.credential f.stands.passes in
        record {
          is = each_at i free_place f.stands.inside look-tells.stands ∙ rw (user.kind, user.session, user.credential, f.number);
          only = λ other ns h. only other (look-live other (processes st) s u.credential ns (sym (is other) ∙ h));
        }
      where
        f : UserPassed st s u
        f = Facts.passed st s (ByUser u) z

        only : (other : Name) → LiveAt other (processes st) s u.credential → other.bytes ≡ (get_or (processes st) (active_place st (UserOf s u.credential)) free_place).name.bytes
        only other r =
            split
            (eqb r.place (active_place st (UserOf s u.credential)))
            (λ q. sym r.named ∙ ap (λ i. (get_or (processes st) i free_place).name.bytes) (eqb-true _ _ q))
            (λ q.
            absurd
            ((pairs-at apart-turn r.place (active_place st (UserOf s u.credential)) free_place r.within f.stands.inside (eqb-false _ _ q) v.pairs
            ).alone (UserOf s u.credential) r.active f.stands.passes))

    -- so of whichever name is told to be live there, its number is the count
    pub turn-told : (n : Name) (ns : List ℕ) → tell n ≡ Live s u.credential ns → u.number ≡ count (tell n)
    unfolding passed
    turn-told n ns h =
        let name : Name = (active_process st (UserOf s u.credential)).name in
        let m : n ≡ name = same→name n name ((same-iff n name).1 (claim-told.only n ns h)) in
        let l : tell n ≡ Live s u.credential (down u.number) = ap tell m ∙ claim-told.is in
        rw l (sym (length-down u.number))
