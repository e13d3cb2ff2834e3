-- What is known of an accepted call: a record for each kind, made from its tests once, and cited by field.
-- Assumes nothing.
use Prim.Native.Nat.{◌<◌}
use mathlib.Core.Path.{◌≡◌, refl, sym}
use mathlib.Core.Bool.{true, false}
use borrow.Author.Tests.{eqb-false, leb-false}
use Rattle.names.specs.declared.Credential.{Credential}
use Rattle.names.specs.declared.Name.{Name}
use Rattle.names.specs.declared.Session.{Session}
use Rattle.table.specs.Table.{places, size, free_place, is_active, is_named}
use Rattle.table.specs.declared.Active.{Active}
use Rattle.table.specs.declared.Active.TheVariants.{UserOf, ElevationIn}
use Rattle.table.specs.declared.Among.TheVariants.{All, SavedOf}
use Rattle.module_state.specs.Numbers as No
use Rattle.module_state.specs.Numbers.{◌when◌, ◌▸◌}
use Rattle.module_state.specs.Module.{phase_of, is_closed, is_chosen, provisioned, has_active, active_place, active_process}
use Rattle.module_state.specs.Claim.{phase_number, entered, sought, is_spent, checked, admitted}
use Rattle.module_state.specs.declared.Claim.{Claim}
use Rattle.module_state.specs.declared.Claim.TheVariants.{Elevated, ByUser}
use Rattle.module_state.specs.declared.Phase.{Phase}
use Rattle.module_state.specs.declared.Phase.TheVariants.{Closed, Opened, Chosen}
use Rattle.module_state.specs.declared.State.{State}
use Rattle.module_state.specs.declared.UserClaim.{UserClaim}
use Rattle.module_state.proofs.Laws.{clear_first, clear-rest, clear-when, clear-unless, passed-check, passed-user}
use Rattle.calls.specs.Calls.{Call, Open, Close, Drop, Select, Start, Continue, Elevate, End, Record, ListProcesses, Kill, SetWord, is_full, has_named, named_place, reach, kill_tests, set_word_tests, number}
use Rattle.calls.proofs.Cut.{accepted}
use Rattle.lists.specs.Each.{Each}
use Rattle.lists.proofs.Each.{Stands, found, each-fails}
use Rattle.module_rules.specs.Facts.{processes}

pub closed-not : (phase : Phase) → is_closed phase ≡ true → is_chosen phase ≡ false
unfolding is_closed is_chosen
closed-not Closed e = refl
closed-not Opened e = refl
closed-not Chosen e = sym e

module _ (st : State) where
  -- ---- the session of every call but open, close and select
  chosen : (s : Session) → entered st s ≡ 0 → is_chosen (phase_of st s) ≡ true
  unfolding phase_number entered
  chosen s e = clear-unless No.no_version tt _ (clear-rest _ _ (clear-rest _ _ e))

  -- ---- a new process: its session, its owner, no other that is active as it is to be, its name, and room
  pub record Added (which : Active) (s : Session) (c : Credential) (name : Name) : Type 0 where
    pub chosen : is_chosen (phase_of st s) ≡ true
    pub owner : provisioned st c ≡ true
    pub free : Each (λ p. is_active which p ≡ false) (processes st)
    pub unused : Each (λ p. is_named name All p ≡ false) (processes st)
    pub room : size st.table < places

  -- what start and elevate end with
  added : (which : Active) (s : Session) (c : Credential) (name : Name) → entered st s ≡ 0 → provisioned st c ≡ true → (No.already_active when has_active st which) ▸ (No.name_taken when has_named st name All) ▸ (No.full when is_full st) ≡ 0 → Added which s c name
  unfolding has_active has_named is_full
  added which s c name e owner h =
      record {
        chosen = chosen s e;
        owner = owner;
        free = each-fails (is_active which) (processes st) (clear-when No.already_active tt _ (clear_first _ _ h));
        unused = each-fails (is_named name All) (processes st) (clear-when No.name_taken tt _ (clear_first _ _ (clear-rest _ _ h)));
        room = leb-false places (size st.table) (clear-when No.full tt _ (clear-rest _ _ (clear-rest _ _ h)));
      }

  -- ---- a saved process that goes on
  pub record Continued (s : Session) (c : Credential) (name : Name) : Type 0 where
    pub chosen : is_chosen (phase_of st s) ≡ true
    pub stands : Stands (is_named name (SavedOf c)) (processes st) free_place (named_place st name (SavedOf c))
    pub free : Each (λ p. is_active (UserOf s c) p ≡ false) (processes st)

  -- ---- an active process that there is
  abbrev pub ActiveStands : Active → Type 0
  ActiveStands which = Stands (is_active which) (processes st) free_place (active_place st which)

  pub stands : (which : Active) → has_active st which ≡ true → ActiveStands which
  unfolding has_active active_place
  stands which h = found (is_active which) (processes st) free_place h

  -- ---- a claim: a user claim is in turn
  pub record UserPassed (s : Session) (u : UserClaim) : Type 0 where
    pub stands : ActiveStands (UserOf s u.credential)
    pub unspent : (active_process st (UserOf s u.credential)).next ≡ 65535 → ⊥
    pub number : u.number ≡ (active_process st (UserOf s u.credential)).next

  abbrev pub ClaimPassed : Session → Claim → Type 0
  ClaimPassed s Elevated = Unit {0}
  ClaimPassed s (ByUser u) = UserPassed s u

  pub passed : (s : Session) (claim : Claim) → admitted st s claim ≡ 0 → ClaimPassed s claim
  unfolding sought is_spent
  passed s Elevated e = tt
  passed s (ByUser u) e =
      let user = passed-user st s u e in
      record {
        stands = stands (UserOf s u.credential) (passed-check st s (ByUser u) e).active;
        unspent = eqb-false _ _ user.unspent;
        number = user.turn;
      }

  -- ---- a kill, by its claim, of the process of a name that it may kill
  pub record Killed (s : Session) (claim : Claim) (name : Name) : Type 0 where
    pub passed : ClaimPassed s claim
    pub stands : Stands (is_named name (reach (checked st s claim))) (processes st) free_place (named_place st name (reach (checked st s claim)))

  -- ---- the word of a provisioned credential set
  pub record Set (s : Session) (claim : Claim) (c : Credential) : Type 0 where
    pub passed : ClaimPassed s claim
    pub owner : provisioned st c ≡ true

  -- ---- the facts of each call
  abbrev pub Facts : Call → Type 0
  Facts (Open s) = is_chosen (phase_of st s) ≡ false
  Facts (Close s) = Unit {0}
  Facts (Select s byte) = Unit {0}
  Facts (Start s c name) = Added (UserOf s c) s c name
  Facts (Continue s c name) = Continued s c name
  Facts (Elevate s c name verdict) = Added (ElevationIn s) s c name
  Facts (Drop s) = ActiveStands (ElevationIn s)
  Facts (End s u keep) = UserPassed s u
  Facts (Record s claim class) = ClaimPassed s claim
  Facts (ListProcesses s claim wanted room) = ClaimPassed s claim
  Facts (Kill s claim name) = Killed s claim name
  Facts (SetWord s claim c words) = Set s claim c

  pub facts : (call : Call) → number st call ≡ 0 → Facts call
  unfolding number kill_tests set_word_tests has_named named_place has_active
  facts (Open s) e = closed-not (phase_of st s) (clear-unless No.session tt _ (clear-rest _ _ e))
  facts (Close s) e = tt
  facts (Select s byte) e = tt
  facts (Start s c name) e =
      let rest = clear-rest _ _ (clear-rest _ _ e) in
      added (UserOf s c) s c name
      (clear_first _ _ (clear-rest _ _ e))
      (clear-unless No.credential tt _ (clear_first _ _ rest))
      (clear-rest _ _ rest)
  facts (Continue s c name) e =
      let rest = clear-rest _ _ (clear-rest _ _ (clear-rest _ _ e)) in
      record {
        chosen = chosen s (clear_first _ _ (clear-rest _ _ e));
        stands = found (is_named name (SavedOf c)) (processes st) free_place (clear-unless No.no_process tt _ (clear_first _ _ rest));
        free = each-fails (is_active (UserOf s c)) (processes st) (clear-when No.already_active tt _ (clear-rest _ _ rest));
      }
  facts (Elevate s c name verdict) e =
      let rest = clear-rest _ _ (clear-rest _ _ e) in
      added (ElevationIn s) s c name
      (clear_first _ _ (clear-rest _ _ e))
      (clear-unless No.credential tt _ (clear_first _ _ rest))
      (clear-rest _ _ (clear-rest _ _ rest))
  facts (Drop s) e = stands (ElevationIn s) (clear-unless No.no_process tt _ (clear-rest _ _ e))
  facts (End s u keep) e = passed s (ByUser u) (accepted st (End s u keep) refl e).claim-passed
  facts (Record s claim class) e = passed s claim (accepted st (Record s claim class) refl e).claim-passed
  facts (ListProcesses s claim wanted room) e = passed s claim (accepted st (ListProcesses s claim wanted room) refl e).claim-passed
  facts (Kill s claim name) e =
      let all = accepted st (Kill s claim name) refl e in
      record {
        passed = passed s claim all.claim-passed;
        stands = found (is_named name (reach (checked st s claim))) (processes st) free_place (clear-unless No.no_process tt _ all.after);
      }
  facts (SetWord s claim c words) e =
      let all = accepted st (SetWord s claim c words) refl e in
      record {
        passed = passed s claim all.claim-passed;
        owner = clear-unless No.credential tt _ (clear-rest _ _ all.after);
      }
