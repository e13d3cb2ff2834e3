-- What a search's answer says, and what the tests say: what callers cite.
-- Assumes nothing.
use Rattle.std.specs.Prelude.{Some, None}
use Prim.Native.Nat.{ℕ, ◌<◌, ◌≤◌}
use mathlib.Core.Path.{◌≡◌, refl, sym, ap, ◌∙◌}
use mathlib.Core.Bool.{Bool, true, false, ◌&&◌, ◌||◌}
use mathlib.Core.List.{List, [], ◌∷◌}
use native.Mathlib.Omega.{arith}
use borrow.Author.Tests.{lt-ltb, le-ltb, eqb-true, eq-eqb}
use lib.ListN.{length}
use Rattle.std.specs.List.{position_or_len, filter}
use Rattle.std.proofs.lemmas.List.Sums.{length-filter}
use Rattle.lists.specs.Lists.{any, first_index, select}
use Rattle.lists.proofs.Lists.{first-low, any-inside, any-past}
use Rattle.lists.proofs.Tests.{split, below, clash, and_left, and_right}
use Rattle.names.specs.Names.{same_name}
use Rattle.names.proofs.Laws.{same→name}
use Rattle.names.specs.declared.Credential.{Credential}
use Rattle.names.specs.declared.Kind.{Kind}
use Rattle.names.specs.declared.Kind.TheVariants.{User, Elevation, Saved}
use Rattle.names.specs.declared.Name.{Name}
use Rattle.names.specs.declared.Session.{Session}
use Rattle.table.specs.declared.Active.TheVariants.{UserOf, ElevationIn}
use Rattle.table.specs.declared.Among.{Among}
use Rattle.table.specs.declared.Among.TheVariants.{SavedOf}
use Rattle.table.specs.declared.Process.{Process}
use Rattle.table.specs.declared.Table.{Table}
use Rattle.table.specs.Table.{standing, count_among, is_user, is_elevation, is_saved, is_in, is_of, is_active, is_active_in, is_among, is_named, found_place, first_place}

-- the place found is the first that passes the test, and one does
pub record FoundAt (f : Process → Bool) (l : List Process) (k : ℕ) : Type 0 where
  pub is : k ≡ first_index f l
  pub some : any f l ≡ true

-- none passes
pub record FoundNone (f : Process → Bool) (l : List Process) : Type 0 where
  pub past : length l ≤ first_index f l
  pub none : any f l ≡ false

-- the library's words for a search and a choice
module _ {A : Type 0} (f : A → Bool) where
  first-prefix : (l : List A) → position_or_len f l ≡ first_index f l
  unfolding first_index
  first-prefix [] = refl
  first-prefix (x ∷ xs) = split (f x) (λ e. rw e) (λ e. rw (e, first-prefix xs) (omega arith))

  filter-select : (l : List A) → filter f l ≡ select f l
  unfolding select
  filter-select [] = refl
  filter-select (x ∷ xs) = split (f x) (λ e. rw (e, filter-select xs)) (λ e. rw (e, filter-select xs))

-- those counted are those chosen
pub count-chosen : (t : Table) (among : Among) → count_among t among ≡ length (select (is_among among) (standing t))
unfolding count_among
count-chosen t among = sym (length-filter (is_among among) (standing t)) ∙ ap length (filter-select (is_among among) (standing t))

module _ (f : Process → Bool) (l : List Process) where
  pub first-is : first_index f l < length l → first_place f l ≡ Some (first_index f l)
  unfolding first_place
  first-is h = rw (first-prefix f l, lt-ltb (first_index f l) (length l) h)

  pub first_past : length l ≤ first_index f l → first_place f l ≡ None
  unfolding first_place
  first_past h = rw (first-prefix f l, le-ltb (first_index f l) (length l) h)

  pub found_at : {k : ℕ} → first_place f l ≡ Some k → FoundAt f l k
  found_at {k} e = below (first_index f l) (length l) hit miss
    where
      hit : first_index f l < length l → FoundAt f l k
      hit h =
          let q : first_index f l ≡ k = cc (first-is h, e) in
          record { is = sym q; some = any-inside f l h }

      miss : length l ≤ first_index f l → FoundAt f l k
      miss h = let z : ◌≡◌ {A = ℕ} 0 1 = cc (first_past h, e) in absurd (omega arith)

  pub found_none : first_place f l ≡ None → FoundNone f l
  found_none e =
      below (first_index f l) (length l) hit (λ h. record { past = h; none = any-past f l h })
    where
      hit : first_index f l < length l → FoundNone f l
      hit h = let z : ◌≡◌ {A = ℕ} 0 1 = cc (first-is h, e) in absurd (omega arith)

  -- the place that the answer says
  pub found-place : found_place (length l) (first_place f l) ≡ first_index f l
  found-place =
      below (first_index f l) (length l)
      (λ h. ap (found_place (length l)) (first-is h))
      (λ h. let q : length l ≡ first_index f l = omega (arith, first-low f l) in ap (found_place (length l)) (first_past h) ∙ q)

-- ---- what a test that a process passes says of it
is-user : (k : Kind) → is_user k ≡ true → k ≡ User
is-user User e = refl
is-user Elevation e = clash e refl
is-user Saved e = clash e refl

is-elevation : (k : Kind) → is_elevation k ≡ true → k ≡ Elevation
is-elevation User e = clash e refl
is-elevation Elevation e = refl
is-elevation Saved e = clash e refl

is-saved : (k : Kind) → is_saved k ≡ true → k ≡ Saved
is-saved User e = clash e refl
is-saved Elevation e = clash e refl
is-saved Saved e = refl

abbrev session-of : ℕ → Session
session-of n = record { 0 = n }

abbrev credential-of : ℕ → Credential
credential-of n = record { 0 = n }

module _ (p : Process) where
  is-in : (s : Session) → is_in s p ≡ true → p.session ≡ s
  is-in s e = let q : p.session.0 ≡ s.0 = eqb-true p.session.0 s.0 e in ap session-of q

  is-of : (c : Credential) → is_of c p ≡ true → p.credential ≡ c
  is-of c e = let q : p.credential.0 ≡ c.0 = eqb-true p.credential.0 c.0 e in ap credential-of q

  in_is : (s : Session) → p.session ≡ s → is_in s p ≡ true
  in_is s e = eq-eqb p.session.0 s.0 (ap (λ (x : Session). x.0) e)

  of_is : (c : Credential) → p.credential ≡ c → is_of c p ≡ true
  of_is c e = eq-eqb p.credential.0 c.0 (ap (λ (x : Credential). x.0) e)

  pub record IsUserOf (s : Session) (c : Credential) : Type 0 where
    pub kind : p.kind ≡ User
    pub session : p.session ≡ s
    pub credential : p.credential ≡ c

  pub user-of : (s : Session) (c : Credential) → is_active (UserOf s c) p ≡ true → IsUserOf s c
  unfolding is_active
  user-of s c e =
      let both : is_user p.kind && is_in s p ≡ true = and_left (is_user p.kind && is_in s p) (is_of c p) e in
      record {
        kind = is-user p.kind (and_left (is_user p.kind) (is_in s p) both);
        session = is-in s (and_right (is_user p.kind) (is_in s p) both);
        credential = is-of c (and_right (is_user p.kind && is_in s p) (is_of c p) e);
      }

  pub of-user : (s : Session) (c : Credential) → IsUserOf s c → is_active (UserOf s c) p ≡ true
  unfolding is_active
  of-user s c v = rw (v.kind, in_is s v.session, of_is c v.credential)

  pub record IsElevationIn (s : Session) : Type 0 where
    pub kind : p.kind ≡ Elevation
    pub session : p.session ≡ s

  pub elevation-in : (s : Session) → is_active (ElevationIn s) p ≡ true → IsElevationIn s
  unfolding is_active
  elevation-in s e =
      record {
        kind = is-elevation p.kind (and_left (is_elevation p.kind) (is_in s p) e);
        session = is-in s (and_right (is_elevation p.kind) (is_in s p) e);
      }

  pub in-elevation : (s : Session) → IsElevationIn s → is_active (ElevationIn s) p ≡ true
  unfolding is_active
  in-elevation s v = rw (v.kind, in_is s v.session)

  pub active-session : (s : Session) → is_active_in s p ≡ true → p.session ≡ s
  unfolding is_active_in
  active-session s e = is-in s (and_right (is_user p.kind || is_elevation p.kind) (is_in s p) e)

  -- a name that is found among some is the process's, whole
  pub named-name : (name : Name) (among : Among) → is_named name among p ≡ true → p.name ≡ name
  unfolding is_named
  named-name name among e = same→name p.name name (and_right (is_among among p) (same_name p.name name) e)

  pub named-among : (name : Name) (among : Among) → is_named name among p ≡ true → is_among among p ≡ true
  unfolding is_named
  named-among name among e = and_left (is_among among p) (same_name p.name name) e

  pub record IsSavedOf (c : Credential) : Type 0 where
    pub kind : p.kind ≡ Saved
    pub credential : p.credential ≡ c

  pub saved-of : (c : Credential) → is_among (SavedOf c) p ≡ true → IsSavedOf c
  unfolding is_among
  saved-of c e =
      record {
        kind = is-saved p.kind (and_left (is_saved p.kind) (is_of c p) e);
        credential = is-of c (and_right (is_saved p.kind) (is_of c p) e);
      }
