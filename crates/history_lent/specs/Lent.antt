-- Slices that only the entries have written: a history of entries, each on the slices as the one before had left them, with what each answered. Which
-- module and which events that makes; and demand 3 of it.
use Rattle.std.specs.Prelude.{ℕ, ◌≤◌, ◌≡◌, Bool, cond, true, List, [], ◌∷◌, ◌++◌, eqb, length, get_or, take, drop}
use Rattle.lists.specs.Each.{Each}
use Rattle.rows.specs.Bytes.{Bytes}
use Rattle.names.specs.declared.Name.{Name}
use Rattle.names.specs.declared.Session.{Session}
use Rattle.module_state.specs.Numbers as No
use Rattle.module_state.specs.declared.Claim.{Claim}
use Rattle.module_state.specs.declared.State.{State}
use Rattle.module_rules.specs.Facts.{IsWord}
use Rattle.calls.specs.Calls.{Call, ListProcesses, fresh}
use Rattle.calls.specs.Run.{run}
use Rattle.calls.specs.declared.Wanted.{Wanted}
use Rattle.state_layout.specs.Layout.{state_of, state_bytes, holds_state}
use Rattle.entries_call.specs.CallEntry.{CallEntry}
use Rattle.entries_arguments.specs.Arguments.{Handed, pairs_of}
use Rattle.entries_unprotected.specs.Fresh.{FreshEntry}
use Rattle.entries_protected.specs.Listing.{ListEntry}
use Rattle.history.specs.Lives.{Life, Event, told, nobody}
use Rattle.history.specs.History.{event_of, history}
use Rattle.history.specs.Demand.{Tells}
use Rattle.history.specs.Since.{Demand3From}
use Rattle.history.specs.Fits.{Fits}
use Rattle.image.specs.Image as Image
use Rattle.image.specs.Image.{is_image, cycled}
use Rattle.history_resumed.specs.Resumed.{told_by, cut}
use Rattle.entries_image.specs.Entries.{RestoreEntry}

-- ---- what a host lends to entry after entry
pub record Slices : Type 0 where
  -- the module's state
  pub state : List ℕ

-- ---- an entry that was made, with what it answered

-- the list entry's own: the response that was lent, what it holds afterwards, and the length
pub record Response : Type 0 where
  pub old : List ℕ
  pub new : List ℕ
  pub length : ℕ

pub data Made : Type 0 where
  -- a call: whether the arguments that are no part of it (flags, lengths) are in order, the call, and the number
  Called : Bool → Call → ℕ → Made
  -- a list call
  Listed : Bool → Session → Claim → Wanted → ℕ → Response → Made
  -- a fresh module: what was handed in for it, and the number
  Renewed : Handed → ℕ → Made
  -- a module from an image: its bytes, and the number
  Restored : List ℕ → ℕ → Made

-- the words that are handed in for a fresh module have 32 bits each
pub record OfWords (pairs : Handed) : Type 0 where
  pub words : (i : ℕ) → IsWord (get_or pairs.words i 0)
  pub seconds : (i : ℕ) → IsWord (get_or pairs.seconds i 0)

-- an entry on the slices, and the slices afterwards, by the entry's contract. Of a call's arguments their types are told: a name of 48 bytes, a word of 32 bits
pub data Entered : Slices → Made → Slices → Type 0 where
  called : {fine : Bool} {call : Call} {n : ℕ} {before after : Slices}
      → (fine ≡ true → Fits call) → CallEntry fine before.state call n after.state
      → Entered before (Called fine call n) after
  list-called : {fine : Bool} {s : Session} {claim : Claim} {wanted : Wanted} {n : ℕ} {r : Response} {before after : Slices}
      → ListEntry fine before.state s claim wanted r.old n after.state r.new r.length
      → Entered before (Listed fine s claim wanted n r) after
  renewed : {pairs : Handed} {n : ℕ} {before after : Slices}
      → OfWords pairs → FreshEntry before.state pairs n after.state
      → Entered before (Renewed pairs n) after
  restored : {image : List ℕ} {n : ℕ} {before after : Slices}
      → Bytes image → RestoreEntry before.state image n after.state
      → Entered before (Restored image n) after

-- entries one after another
pub data Chain : Slices → List Made → Slices → Type 0 where
  none : {slices : Slices} → Chain slices [] slices
  then : {before after last : Slices} {entry : Made} {entries : List Made}
      → Entered before entry after → Chain after entries last
      → Chain before (entry ∷ entries) last

-- ---- since when it is told: the state that stood then, what was told of each name, what was called since, and that with the numbers that the entries answered
pub record Since : Type 0 where
  pub first : State
  pub tell : Name → Life
  pub calls : List Call
  pub events : List Event

abbrev pub begun : State → (Name → Life) → Since
begun first tell = record { first = first; tell = tell; calls = []; events = [] }

-- the state that the calls come to
abbrev pub reached : Since → State
reached w = run w.first w.calls

-- an entry whose flags or lengths are not in order makes no call
abbrev pub noted : Bool → Call → ℕ → Since → Since
noted fine call n w =
    cond fine (record { first = w.first; tell = w.tell; calls = w.calls ++ (call ∷ []); events = w.events ++ (event_of call n ∷ []) }) w

-- by an entry. With a fresh module or a restored one it begins anew; one that was refused is none
abbrev pub noting : Made → Since → Since
noting (Called fine call n) w = noted fine call n w
noting (Listed fine s claim wanted n r) w = noted fine (ListProcesses s claim wanted (length r.old)) n w
noting (Renewed pairs n) w = cond (eqb n No.done) (begun (fresh (pairs_of pairs)) nobody) w
noting (Restored image n) w = cond (eqb n No.done) (begun (Image.restored image) (told_by image)) w

unfoldable pub since : Since → List Made → Since
since w [] = w
since w (entry ∷ entries) = since (noting entry w) entries

-- ---- what is to hold

-- no listing exceeds 616 bytes: the length that was answered, and the bytes that were written
pub record Small (r : Response) : Type 0 where
  pub length-small : r.length ≤ 616
  pub later-kept : drop r.length r.new ≡ drop r.length r.old

abbrev pub IsSmall : Made → Type 0
IsSmall (Called fine call n) = Unit {0}
IsSmall (Listed fine s claim wanted n r) = Small r
IsSmall (Renewed pairs n) = Unit {0}
IsSmall (Restored image n) = Unit {0}

-- of the slices `last` in which entries ended
pub record Holds (w : Since) (last : Slices) : Type 0 where
  -- the state's holds one, in its one form: the one that the calls come to
  pub holds : holds_state last.state ≡ true
  pub state : state_of last.state ≡ reached w
  pub bytes : last.state ≡ state_bytes (state_of last.state)
  -- the numbers that the entries answered are those of the calls
  pub answered : w.events ≡ history w.first w.calls
  -- what is told of each name is what stands there
  pub tells : Tells (told w.tell w.events) (state_of last.state)
  pub demand3 : Demand3From w.tell w.events (state_of last.state)

-- "Demand 3 speaks of a slice that only our calls have written."
pub record Lent (w : Since) (entries : List Made) (last : Slices) : Type 0 where
  pub holds : Holds (since w entries) last
  pub listings : Each IsSmall entries

-- ---- a power cycle: it is told since the module that the calls come to, with its saved processes alone, and of each name what was told, cut there
abbrev pub cycled_since : Since → Since
cycled_since w = begun (cycled (reached w)) (λ name. cut (told w.tell w.events name))

-- what the image of such slices is
pub record IsImageOf (w : Since) (image : List ℕ) : Type 0 where
  -- what a module wrote is always accepted
  pub accepted : is_image image ≡ true
  -- it makes the module that the calls come to, after a power cycle
  pub restored : Image.restored image ≡ (cycled_since w).first
  -- and tells of each name what was told, cut there
  pub tells : (name : Name) → told_by image name ≡ (cycled_since w).tell name

-- the one that is written: `new` is the buffer afterwards, `old` what it held, `long` the length that was answered
pub record Imaged (w : Since) (old new : List ℕ) (long : ℕ) : Type 0 where
  pub image : IsImageOf w (take long new)
  pub later-kept : drop long new ≡ drop long old
