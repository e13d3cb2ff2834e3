-- A module that goes on from another number than the image's: calls after which demand 3 is false of the history that they have with it and the state that
-- it is left in.
-- Assumes nothing.
use Prim.Native.Nat.{ℕ, ◌≤◌}
use mathlib.Core.Path.{◌≡◌, refl}
use mathlib.Core.List.{List, [], ◌∷◌, map}
use native.Mathlib.Omega.{arith}
use Rattle.lists.proofs.Each.{each_at}
use Rattle.table.specs.Table.{free_place}
use Rattle.module_state.specs.declared.State.{State}
use Rattle.calls.specs.Calls.{Call, Open, Select, Continue}
use Rattle.calls.specs.Run.{run}
use Rattle.calls.proofs.Sequences.{P, session, credential, user_yes}
use Rattle.history.specs.History.{event_of, history}
use Rattle.history.specs.Since.{OnePassed, Demand3From}
use Rattle.image.specs.declared.SavedRow.{SavedRow}
use Rattle.image.specs.Image.{saved_at, grants_in, saved_in, module_of}
use Rattle.history_resumed.specs.Resumed.{told_by}
use Rattle.history_resumed.proofs.Examples.{opened, image, recorded}

abbrev numbered : ℕ → SavedRow → SavedRow
numbered n r = record { owner = r.owner; next = n; name = r.name }

-- the image's number is 3
abbrev gone_on_from : ℕ → State
gone_on_from n = module_of (record { offset = saved_at; grants = grants_in image; saved = map (numbered n) (saved_in image) })

abbrev continued : List Call → List Call
continued calls = Open (session 0) ∷ Select (session 0) 0x10 ∷ Continue (session 0) (credential 0) P ∷ calls

abbrev Fails : ℕ → List Call → Type 0
Fails n calls = Demand3From (told_by image) (history (gone_on_from n) calls) (run (gone_on_from n) calls) → ⊥

abbrev sent : ℕ → List Call
sent n = continued (recorded n ∷ [])

-- from 0: a record with number 0 is accepted
old : OnePassed (told_by image) (history (gone_on_from 0) (sent 0)) P
unfolding opened
old =
    record {
      before = history (gone_on_from 0) (continued []);
      event = event_of (recorded 0) 0;
      rest = [];
      are = refl;
      one = record { session = session 0; claim = user_yes 0 0; carried = refl; told = refl; before = 2 ∷ 1 ∷ 0 ∷ []; lives = refl };
    }

pub from-0-fails : Fails 0 (sent 0)
unfolding opened old
from-0-fails d = let z : 3 ≤ 0 = d.not-below P old refl in absurd (omega arith)

-- from 1 or from 4, before any record: the next number is not the image's
pub from-1-fails : Fails 1 (continued [])
unfolding opened
from-1-fails d = let z : ◌≡◌ {A = ℕ} 1 3 = each_at 0 free_place (omega arith) d.numbers refl in absurd (omega arith)

pub from-4-fails : Fails 4 (continued [])
unfolding opened
from-4-fails d = let z : ◌≡◌ {A = ℕ} 4 3 = each_at 0 free_place (omega arith) d.numbers refl in absurd (omega arith)
