-- A history followed by hand: the definitions compute, and tell what a reader would.
-- Assumes nothing.
use Prim.Native.Nat.{ℕ}
use mathlib.Core.Path.{◌≡◌, refl}
use mathlib.Core.Bool.{true, false}
use mathlib.Core.List.{List, [], ◌∷◌, ◌++◌, map}
use lib.ListN.{length, replicate}
use Rattle.names.specs.declared.Name.{Name}
use Rattle.table.specs.Table.{standing}
use Rattle.module_state.specs.declared.Claim.TheVariants.{Elevated}
use Rattle.module_state.specs.declared.Grants.{Grants}
use Rattle.calls.specs.Calls.{Call, Open, Close, Select, Start, Continue, Elevate, Drop, End, Record, ListProcesses, Kill, SetWord, listed, fresh}
use Rattle.calls.specs.Listing.{rows_of, listing}
use Rattle.calls.specs.Run.{run}
use Rattle.calls.specs.declared.Wanted.TheVariants.{Every}
use Rattle.calls.proofs.Orders.{twelve}
use Rattle.module_state.specs.Module.{both_words, no_words, granted, unprovisioned}
use Rattle.calls.proofs.Sequences.{plain, name, session, credential, class, user_yes, yes', no', computed}
use Rattle.history.specs.Lives.{Life, Gone, Live, Raised, SavedBy, passed, counts, charges, tells_passed, Event, with_claim, onward, follow, told, nobody}
use Rattle.history.specs.History.{ends, shuts, drops, resumes, after, event_of, history}
use Rattle.history.specs.Demand.{IsPassedOf, TwoPassed}
use Rattle.history.proofs.Told.{live-not-gone}

-- all that the examples compute with
unfoldable pub lives : Type 1
unfolding computed passed counts ends shuts drops resumes after charges tells_passed with_claim onward follow history
lives = Type 0

-- two names that differ in their last byte
abbrev P : Name
P = name 0x11

abbrev Q : Name
Q = name 0x12

-- credential 0 has the classes 0 to 4, and 6 only under elevation, credential 1 the classes 0 to 1, and the others are unprovisioned
abbrev grants : List Grants
grants = granted (both_words 95 64) ∷ granted (plain 3) ∷ replicate 6 unprovisioned

abbrev recorded : ℕ → ℕ → ℕ → Call
recorded s c n = Record (session s) (yes' c n) (class 4)

-- a start and two records, the second sent twice
abbrev started : List Call
started =
    Open (session 0)
    ∷ Select (session 0) 0x10
    ∷ Start (session 0) (credential 0) P
    ∷ recorded 0 0 0
    ∷ recorded 0 0 1
    ∷ recorded 0 0 1
    ∷ []

-- a save, which counts; the session closed; a continue in another session, and a record
abbrev saved : List Call
saved = started ++ (End (session 0) (user_yes 0 2) true ∷ Close (session 0) ∷ [])

abbrev continued : List Call
continued =
    saved
    ++ (Open (session 1) ∷ Select (session 1) 0x10 ∷ Continue (session 1) (credential 0) P ∷ recorded 1 0 3 ∷ [])

-- a kill under another's claim, and a second one, which finds nothing and is counted all the same
abbrev killed : List Call
killed =
    continued
    ++ (Start (session 1) (credential 1) Q ∷ Kill (session 1) (yes' 1 0) P ∷ Kill (session 1) (yes' 1 1) P ∷ [])

-- the same name given again; an elevation, under which nothing is counted; its drop
abbrev again : List Call
again = killed ++ (Start (session 1) (credential 0) P ∷ recorded 1 0 0 ∷ [])

abbrev raised : List Call
raised =
    killed
    ++ (Elevate (session 1) (credential 0) P true ∷ Record (session 1) Elevated (class 4) ∷ [])

-- refused one after another, P's by 10, its claim's 9 and 8, 1, 15, 5 and 18, Q's by 6: 10, 15, 5, 18 and 6 came after a claim that passed. Others' by 2 and by their claim's 5
abbrev refused : List Call
refused =
    Open (session 0)
    ∷ Select (session 0) 0x10
    ∷ Start (session 0) (credential 0) P
    ∷ Start (session 0) (credential 1) Q
    ∷ Record (session 0) (yes' 0 0) (class 5)
    ∷ Record (session 0) (yes' 0 0) (class 4)
    ∷ Record (session 0) (no' 0 1) (class 4)
    ∷ Record (session 0) (yes' 0 1) (class 3)
    ∷ ListProcesses (session 0) (yes' 0 1) Every 105
    ∷ Kill (session 0) (yes' 1 0) (name 0x13)
    ∷ Kill (session 1) (yes' 1 1) P
    ∷ SetWord (session 0) (yes' 2 1) (credential 2) no_words
    ∷ SetWord (session 0) (yes' 0 2) (credential 2) no_words
    ∷ Record (session 0) (yes' 0 3) (class 6)
    ∷ Record (session 0) (yes' 0 3) (class 6)
    ∷ []

-- what the history of some calls tells of both names
pub record Told (calls : List Call) (p q : Life) : Type 0 where
  pub of-P : told nobody (history (fresh grants) calls) P ≡ p
  pub of-Q : told nobody (history (fresh grants) calls) Q ≡ q

pub record Examples : Type 0 where
  pub numbers-are : map (λ (e : Event). e.answered) (history (fresh grants) killed) ≡ 0 ∷ 0 ∷ 0 ∷ 0 ∷ 0 ∷ 9 ∷ 0 ∷ 0 ∷ 0 ∷ 0 ∷ 0 ∷ 0 ∷ 0 ∷ 0 ∷ 6 ∷ []
  pub after-start : Told started (Live (session 0) (credential 0) (1 ∷ 0 ∷ [])) Gone
  pub after-save : Told saved (SavedBy (credential 0) (2 ∷ 1 ∷ 0 ∷ [])) Gone
  pub after-continue : Told continued (Live (session 1) (credential 0) (3 ∷ 2 ∷ 1 ∷ 0 ∷ [])) Gone
  pub after-kill : Told killed Gone (Live (session 1) (credential 1) (1 ∷ 0 ∷ []))
  pub after-again : Told again (Live (session 1) (credential 0) (0 ∷ [])) (Live (session 1) (credential 1) (1 ∷ 0 ∷ []))
  pub after-elevation : Told raised (Raised (session 1) (credential 0)) (Live (session 1) (credential 1) (1 ∷ 0 ∷ []))
  pub after-drop : Told (raised ++ (Drop (session 1) ∷ [])) Gone (Live (session 1) (credential 1) (1 ∷ 0 ∷ []))
  pub after-close : Told (again ++ (Close (session 1) ∷ [])) Gone Gone
  pub refused-are : map (λ (e : Event). e.answered) (history (fresh grants) refused) ≡ 0 ∷ 0 ∷ 0 ∷ 0 ∷ 10 ∷ 9 ∷ 8 ∷ 1 ∷ 15 ∷ 6 ∷ 2 ∷ 5 ∷ 5 ∷ 18 ∷ 9 ∷ []
  pub after-refused : Told refused (Live (session 0) (credential 0) (3 ∷ 2 ∷ 1 ∷ 0 ∷ [])) (Live (session 0) (credential 1) (0 ∷ []))
  pub next-is : map (λ p. p.next) (standing (run (fresh grants) continued).table) ≡ 4 ∷ []
  -- no listing exceeds 616 bytes, and there is one of just as many: with twelve standing, in what the call answers and in the bytes of its message
  pub longest-listing : (listed twelve (session 0) (yes' 0 0) Every 616).length ≡ 616
  pub longest-message : length (listing (rows_of twelve Every)) ≡ 616

pub examples : Examples
unfolding lives listed
examples =
    record {
      numbers-are = refl;
      after-start = record { of-P = refl; of-Q = refl };
      after-save = record { of-P = refl; of-Q = refl };
      after-continue = record { of-P = refl; of-Q = refl };
      after-kill = record { of-P = refl; of-Q = refl };
      after-again = record { of-P = refl; of-Q = refl };
      after-elevation = record { of-P = refl; of-Q = refl };
      after-drop = record { of-P = refl; of-Q = refl };
      after-close = record { of-P = refl; of-Q = refl };
      refused-are = refl;
      after-refused = record { of-P = refl; of-Q = refl };
      next-is = refl;
      longest-listing = refl;
      longest-message = refl;
    }

-- ---- two claims of one process that passed, as demand 3's `once` speaks of them: the call of the first is refused with 10, and the second removes the process
abbrev refused_and_ended : List Call
refused_and_ended =
    Open (session 0)
    ∷ Select (session 0) 0x10
    ∷ Start (session 0) (credential 0) P
    ∷ Record (session 0) (yes' 0 0) (class 5)
    ∷ End (session 0) (user_yes 0 1) false
    ∷ []

pub two-passed : TwoPassed nobody (history (fresh grants) refused_and_ended) P
unfolding lives
two-passed =
    record {
      before = history (fresh grants) (Open (session 0) ∷ Select (session 0) 0x10 ∷ Start (session 0) (credential 0) P ∷ []);
      first = event_of (Record (session 0) (yes' 0 0) (class 5)) 10;
      between = [];
      second = event_of (End (session 0) (user_yes 0 1) false) 0;
      rest = [];
      are = refl;
      one = record { session = session 0; claim = user_yes 0 0; carried = refl; told = refl; before = []; lives = refl };
      stays = (live-not-gone, tt);
      two = record { session = session 0; claim = user_yes 0 1; carried = refl; told = refl; before = 0 ∷ []; lives = refl };
    }

-- ---- two claims with one number that passed, the one of P's process and the other of Q's: no two of one name
abbrev both_started : List Call
both_started =
    Open (session 0)
    ∷ Select (session 0) 0x10
    ∷ Start (session 0) (credential 0) P
    ∷ Start (session 0) (credential 1) Q
    ∷ []

pub record SameNumber : Type 0 where
  pub first : Event
  pub second : Event
  pub are : history (fresh grants) (both_started ++ (recorded 0 0 0 ∷ ListProcesses (session 0) (yes' 1 0) Every 106 ∷ [])) ≡ history (fresh grants) both_started ++ (first ∷ second ∷ [])
  pub one : IsPassedOf (told nobody (history (fresh grants) both_started) P) first
  pub two : IsPassedOf (told nobody (history (fresh grants) both_started ++ (first ∷ [])) Q) second
  pub same : one.claim.number ≡ two.claim.number
  pub accepted : (first.answered ≡ 0) × (second.answered ≡ 0)

pub same_number : SameNumber
unfolding lives
same_number =
    record {
      first = event_of (recorded 0 0 0) 0;
      second = event_of (ListProcesses (session 0) (yes' 1 0) Every 106) 0;
      are = refl;
      one = record { session = session 0; claim = user_yes 0 0; carried = refl; told = refl; before = []; lives = refl };
      two = record { session = session 0; claim = user_yes 1 0; carried = refl; told = refl; before = []; lives = refl };
      same = refl;
      accepted = (refl, refl);
    }
