-- "one that serves the first record and afterwards only answers falls to the next number, as does an invented number, by demand 3's history"; and one whose
-- refusals spend nothing. Of each such build, calls after which demand 3 is false of the history that they have with it and the state that it is left in. As edits
-- of the code: `first_record_only` and `invented_next_number` of calls_claim, `number_not_tested` of claim_check, `refused_record_not_counted` of entries_record.
-- Assumes nothing.
use Prim.Native.Nat.{ℕ}
use mathlib.Core.Path.{◌≡◌, refl}
use mathlib.Core.Bool.{Bool, cond}
use mathlib.Core.List.{List, [], ◌∷◌, ◌++◌}
use native.Mathlib.Omega.{arith}
use lib.Dec.{eqb, leb}
use Rattle.lists.proofs.Each.{each_at}
use Rattle.names.specs.declared.Session.{Session}
use Rattle.table.specs.Table.{free_place, process_at, replaced}
use Rattle.table.specs.declared.Active.TheVariants.{UserOf}
use Rattle.table.specs.declared.Process.{Process}
use Rattle.module_state.specs.Module.{active_place, active_process}
use Rattle.module_state.specs.declared.Claim.{Claim}
use Rattle.module_state.specs.declared.Claim.TheVariants.{Elevated, ByUser}
use Rattle.module_state.specs.declared.Class.{Class}
use Rattle.module_state.specs.declared.State.{State}
use Rattle.calls.specs.Calls.{Call, Open, Close, Drop, Select, Start, Continue, Elevate, End, Record, ListProcesses, Kill, SetWord, number, with_table, effect, protection, fresh}
use Rattle.calls.specs.Run.{step}
use Rattle.calls.proofs.Sequences.{P, pairs, session, credential, class, user_yes, yes'}
use Rattle.history.specs.Lives.{Gone, Live, Event, told, nobody, tells_passed, onward}
use Rattle.history.specs.History.{event_of}
use Rattle.history.specs.Demand.{TwoPassed, Demand3}
use Rattle.history.proofs.Told.{live-not-gone}
use Rattle.history.proofs.Examples.{lives}

-- a build: what it answers, and the state that it leaves
record Build : Type 0 where
  pub answers : State → Call → ℕ
  pub leaves : State → Call → State

-- what calls have with it
abbrev said : Build → State → List Call → List Event
said build st [] = []
said build st (call ∷ calls) = event_of call (build.answers st call) ∷ said build (build.leaves st call) calls

abbrev left : Build → State → List Call → State
left build st [] = st
left build st (call ∷ calls) = left build (build.leaves st call) calls

-- one thing for a record, another for every other call
abbrev on_record : {A : Type 0} → (Session → Claim → Class → A) → A → Call → A
on_record f a (Open s) = a
on_record f a (Close s) = a
on_record f a (Select s byte) = a
on_record f a (Start s c name) = a
on_record f a (Continue s c name) = a
on_record f a (Elevate s c name verdict) = a
on_record f a (Drop s) = a
on_record f a (End s u keep) = a
on_record f a (Record s claim class) = f s claim class
on_record f a (ListProcesses s claim wanted room) = a
on_record f a (Kill s claim name) = a
on_record f a (SetWord s claim c words) = a

abbrev Fails : Build → List Call → Type 0
Fails build calls = Demand3 nobody (said build (fresh pairs) calls) (left build (fresh pairs) calls) → ⊥

-- a session with a version, and a process of credential 1
abbrev started : List Call → List Call
started calls = Open (session 0) ∷ Select (session 0) 0x10 ∷ Start (session 0) (credential 1) P ∷ calls

abbrev recorded : ℕ → Call
recorded n = Record (session 0) (yes' 1 n) (class 4)

-- records are sent, then one of the number n twice, and each time it is answered 0
module _ (build : Build) (calls : List Call) (n : ℕ) (ns : List ℕ) where
  abbrev events : List Event
  events = said build (fresh pairs) (started calls)

  abbrev sent : Event
  sent = event_of (recorded n) 0

  sent-twice : said build (fresh pairs) (started (calls ++ (recorded n ∷ recorded n ∷ []))) ≡ events ++ (sent ∷ sent ∷ [])
      → told nobody events P ≡ Live (session 0) (credential 1) ns
      → told nobody (events ++ (sent ∷ [])) P ≡ Live (session 0) (credential 1) (n ∷ ns)
      → (onward P sent (told nobody events P) ≡ Gone → ⊥)
      → TwoPassed nobody (said build (fresh pairs) (started (calls ++ (recorded n ∷ recorded n ∷ [])))) P
  unfolding protection tells_passed
  sent-twice are live again stays =
      record {
        before = events;
        first = sent;
        between = [];
        second = sent;
        rest = [];
        are = are;
        one = record { session = session 0; claim = user_yes 1 n; carried = refl; told = refl; before = ns; lives = live };
        stays = (stays, tt);
        two = record { session = session 0; claim = user_yes 1 n; carried = refl; told = refl; before = n ∷ ns; lives = again };
      }

-- ---- it answers as it should, and does nothing any more once the process of session 0 and credential 1 has one record
abbrev is_served : State → Bool
is_served st = leb 1 (active_process st (UserOf (session 0) (credential 1))).next

abbrev first_only : Build
first_only = record { answers = number; leaves = λ st call. cond (is_served st) st (step st call) }

-- after two records the next number is 1, and the history counts 2
pub first-only-fails : Fails first_only (started (recorded 0 ∷ recorded 1 ∷ []))
unfolding lives
first-only-fails d = let z : ◌≡◌ {A = ℕ} 1 2 = each_at 0 free_place (omega arith) d.numbers refl in absurd (omega arith)

-- and the second may be sent again
pub first-only-twice : Fails first_only (started (recorded 0 ∷ recorded 1 ∷ recorded 1 ∷ []))
unfolding lives sent-twice
first-only-twice d = d.once P (sent-twice first_only (recorded 0 ∷ []) 1 (0 ∷ []) refl refl refl live-not-gone) refl

-- ---- it does not ask for the number
abbrev answers_untested : State → Call → ℕ
answers_untested st call = on_record (λ s claim class. 0) (number st call) call

abbrev untested : Build
untested = record { answers = answers_untested; leaves = λ st call. cond (eqb (answers_untested st call) 0) (effect st call) st }

-- a record may be sent again
pub untested-fails : Fails untested (started (recorded 7 ∷ recorded 7 ∷ []))
unfolding lives sent-twice
untested-fails d = d.once P (sent-twice untested [] 7 [] refl refl refl live-not-gone) refl

-- ---- it invents the next number: 8 after each record
abbrev inventing : State → Session → Claim → State
inventing st s Elevated = st
inventing st s (ByUser u) =
    let at : ℕ = active_place st (UserOf s u.credential) in
    let p : Process = process_at st.table at in
    with_table st (replaced st.table at (record { credential = p.credential; kind = p.kind; session = p.session; next = 8; name = p.name }))

abbrev invented : Build
invented =
    record {
      answers = number;
      leaves = λ st call. cond (eqb (number st call) 0) (on_record (λ s claim class. inventing st s claim) (effect st call) call) st;
    }

-- after one record the next number is 8, and the history counts 1
pub invented-fails : Fails invented (started (recorded 0 ∷ []))
unfolding lives
invented-fails d = let z : ◌≡◌ {A = ℕ} 8 1 = each_at 0 free_place (omega arith) d.numbers refl in absurd (omega arith)

-- ---- it leaves the state as it was on every refusal
abbrev unspent : Build
unspent = record { answers = number; leaves = λ st call. cond (eqb (number st call) 0) (effect st call) st }

-- credential 1 lacks class 5: after a record that got 10 the next number is 0, and the history counts 1
pub unspent-fails : Fails unspent (started (Record (session 0) (yes' 1 0) (class 5) ∷ []))
unfolding lives
unspent-fails d = let z : ◌≡◌ {A = ℕ} 0 1 = each_at 0 free_place (omega arith) d.numbers refl in absurd (omega arith)
