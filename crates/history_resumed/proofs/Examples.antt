-- A module restored from an image, followed by hand: the definitions compute, and tell what a reader would.
-- Assumes nothing.
use Prim.Native.Nat.{ℕ, ◌+◌}
use mathlib.Core.Path.{◌≡◌, refl}
use mathlib.Core.Bool.{Bool, true, false, cond}
use mathlib.Core.List.{List, [], ◌∷◌, ◌++◌, map}
use lib.ListN.{replicate}
use Rattle.table.specs.Table.{standing}
use Rattle.module_state.specs.declared.Claim.TheVariants.{Elevated}
use Rattle.module_state.specs.declared.Grants.{Grants}
use Rattle.module_state.specs.declared.State.{State}
use Rattle.module_state.specs.Module.{both_words, granted, unprovisioned}
use Rattle.calls.specs.Calls.{Call, Open, Close, Drop, Select, Start, Continue, Elevate, End, Record, Kill, number, fresh}
use Rattle.calls.specs.Run.{step, run}
use Rattle.calls.proofs.Sequences.{P, Q, R, session, credential, class, user_yes, yes', Step, ◌⇒◌, calls_of, Answered, after}
use Rattle.history.specs.Lives.{Life, Gone, Live, SavedBy, count, Event, told}
use Rattle.history.specs.History.{history}
use Rattle.history.specs.Since.{told_since, is_new}
use Rattle.history.proofs.Examples.{lives}
use Rattle.image.proofs.Examples.{computed as image-computed}
use Rattle.image.specs.Image.{is_image, restored, state_image}
use Rattle.history_resumed.specs.Resumed.{told_by}
use Rattle.history_resumed.specs.Changes.{has_saved, touches_image, changes_image, newest}

-- all that the examples compute with
unfoldable pub opened : Type 1
unfolding lives is_new image-computed
opened = Type 0

-- credential 0 has the classes 0 to 4, no other is provisioned; P is saved, with next number 3
abbrev pub image : List ℕ
image =
    (1 ∷ 0 ∷ 8 ∷ 0 ∷ 10 ∷ 0 ∷ 1 ∷ 0 ∷ 74 ∷ 0 ∷ [])
    ++ ((31 ∷ 0 ∷ 0 ∷ 0 ∷ [])
    ++ (replicate 60 0
    ++ ((0 ∷ 0 ∷ 3 ∷ 0 ∷ []) ++ P.bytes)))

abbrev pub recorded : ℕ → Call
recorded n = Record (session 0) (yes' 0 n) (class 4)

-- a continue; the number below the image's, the image's, and that once more
abbrev continued : List Call
continued =
    Open (session 0)
    ∷ Select (session 0) 0x10
    ∷ Continue (session 0) (credential 0) P
    ∷ recorded 2
    ∷ recorded 3
    ∷ recorded 3
    ∷ []

-- a start of its name, which is refused
abbrev refused : List Call
refused = continued ++ (Start (session 0) (credential 0) P ∷ [])

-- a kill, under its own claim, and a start of the same name: a new process, whose first number is 0
abbrev again : List Call
again = continued ++ (Kill (session 0) (yes' 0 4) P ∷ Start (session 0) (credential 0) P ∷ recorded 3 ∷ recorded 0 ∷ [])

-- what is told of P: since its start, since the restore, and whether it was started since the restore
pub record Told (calls : List Call) (all now : Life) (new : Bool) : Type 0 where
  pub is_all : told (told_by image) (history (restored image) calls) P ≡ all
  pub is-now : told_since (told_by image) (history (restored image) calls) P ≡ now
  pub is-new : is_new (history (restored image) calls) P ≡ new

abbrev next : List Call → List ℕ
next calls = map (λ p. p.next) (standing (run (restored image) calls).table)

-- the next number as `numbers` of Demand3From reads it
abbrev read : List Call → ℕ
read calls = cond (is_new (history (restored image) calls) P) 0 (count (told_by image P)) + count (told_since (told_by image) (history (restored image) calls) P)

pub record Examples : Type 0 where
  pub accepted-is : is_image image ≡ true
  pub told-first : told_by image P ≡ SavedBy (credential 0) (2 ∷ 1 ∷ 0 ∷ [])
  pub told-other : told_by image Q ≡ Gone
  pub numbers-are : map (λ (e : Event). e.answered) (history (restored image) again) ≡ 0 ∷ 0 ∷ 0 ∷ 9 ∷ 0 ∷ 9 ∷ 0 ∷ 0 ∷ 9 ∷ 0 ∷ []
  pub after-continue : Told continued (Live (session 0) (credential 0) (3 ∷ 2 ∷ 1 ∷ 0 ∷ [])) (Live (session 0) (credential 0) (3 ∷ [])) false
  pub after-refused : Told refused (Live (session 0) (credential 0) (3 ∷ 2 ∷ 1 ∷ 0 ∷ [])) (Live (session 0) (credential 0) (3 ∷ [])) false
  pub after-again : Told again (Live (session 0) (credential 0) (0 ∷ [])) (Live (session 0) (credential 0) (0 ∷ [])) true
  -- 3 + 1, and 0 + 1
  pub next-continued : (next continued ≡ 4 ∷ []) × (read continued ≡ 4)
  pub next-again : (next again ≡ 1 ∷ []) × (read again ≡ 1)

pub examples : Examples
unfolding opened
examples =
    record {
      accepted-is = refl;
      told-first = refl;
      told-other = refl;
      numbers-are = refl;
      after-continue = record { is_all = refl; is-now = refl; is-new = refl };
      after-refused = record { is_all = refl; is-now = refl; is-new = refl };
      after-again = record { is_all = refl; is-now = refl; is-new = refl };
      next-continued = (refl, refl);
      next-again = (refl, refl);
    }

-- ---- a power cycle more: P is saved, Q is active; the image tells of P what was told, and of Q nothing
abbrev saved-again : List Call
saved-again = continued ++ (End (session 0) (user_yes 0 4) true ∷ Start (session 0) (credential 0) Q ∷ recorded 0 ∷ [])

pub record Cycled : Type 0 where
  pub of-P : told (told_by image) (history (restored image) saved-again) P ≡ SavedBy (credential 0) (4 ∷ 3 ∷ 2 ∷ 1 ∷ 0 ∷ [])
  pub of-Q : told (told_by image) (history (restored image) saved-again) Q ≡ Live (session 0) (credential 0) (0 ∷ [])
  pub then-P : told_by (state_image (run (restored image) saved-again)) P ≡ SavedBy (credential 0) (4 ∷ 3 ∷ 2 ∷ 1 ∷ 0 ∷ [])
  pub then-Q : told_by (state_image (run (restored image) saved-again)) Q ≡ Gone

pub cycled : Cycled
unfolding opened
cycled = record { of-P = refl; of-Q = refl; then-P = refl; then-Q = refl }

-- ---- an image written where the list says so, and a power cycle some calls later. Credential 0 alone is provisioned, with the classes 0 to 4
abbrev pub grants : List Grants
grants = granted (both_words 31 0) ∷ replicate 7 unprovisioned

-- P counts a record and one that is refused after its claim, and is saved: its image is `image`, with next number 3
abbrev pub saving : List Step
saving =
    (Open (session 0) ⇒ 0)
    ∷ (Select (session 0) 0x10 ⇒ 0)
    ∷ (Start (session 0) (credential 0) P ⇒ 0)
    ∷ (recorded 0 ⇒ 0)
    ∷ (Record (session 0) (yes' 0 1) (class 5) ⇒ 10)
    ∷ (End (session 0) (user_yes 0 2) true ⇒ 0)
    ∷ []

-- other calls, some refused, none of which changes it; a kill of an active process is among them, and a continue and an end with keep that are refused
abbrev pub others : List Step
others =
    (Start (session 0) (credential 0) Q ⇒ 0)
    ∷ (recorded 0 ⇒ 0)
    ∷ (recorded 0 ⇒ 9)
    ∷ (Record (session 0) (yes' 0 1) (class 5) ⇒ 10)
    ∷ (Continue (session 0) (credential 0) P ⇒ 7)
    ∷ (End (session 0) (user_yes 0 9) true ⇒ 9)
    ∷ (Kill (session 0) (yes' 0 2) R ⇒ 6)
    ∷ (Elevate (session 0) (credential 0) R true ⇒ 0)
    ∷ (Kill (session 0) Elevated Q ⇒ 0)
    ∷ (Drop (session 0) ⇒ 0)
    ∷ (Close (session 0) ⇒ 0)
    ∷ []

-- after the restore: P goes on at 3, and no number below is good
abbrev pub resuming : List Step
resuming =
    (Open (session 0) ⇒ 0)
    ∷ (Select (session 0) 0x10 ⇒ 0)
    ∷ (Continue (session 0) (credential 0) P ⇒ 0)
    ∷ (recorded 2 ⇒ 9)
    ∷ (recorded 3 ⇒ 0)
    ∷ []

-- which of the calls change the image
abbrev changing : State → List Call → List Bool
changing st [] = []
changing st (call ∷ calls) = changes_image st call (number st call) ∷ changing (step st call) calls

pub record KeptBetween : Type 0 where
  pub numbers-are : Answered (fresh grants) (saving ++ others)
  -- one is written after the end, and none later: it is that of the last state
  pub written_once : changing (fresh grants) (calls_of (saving ++ others)) ≡ replicate 5 false ++ (true ∷ replicate 11 false)
  pub newest-is : newest (state_image (fresh grants)) (fresh grants) (calls_of (saving ++ others)) ≡ image
  pub image-is : state_image (after (fresh grants) (saving ++ others)) ≡ image
  pub goes_on : Answered (restored image) resuming
  -- the continue changes it again: until one is written, a power cycle takes P back to 3
  pub continue-changes : changing (restored image) (calls_of resuming) ≡ false ∷ false ∷ true ∷ false ∷ false ∷ []

pub kept-between : KeptBetween
unfolding opened has_saved touches_image newest
kept-between = record { numbers-are = refl; written_once = refl; newest-is = refl; image-is = refl; goes_on = refl; continue-changes = refl }
