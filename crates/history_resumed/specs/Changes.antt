-- Which calls change the image of a module, and so after which a host has to write one: docs/IMAGE.md has the same list. "flash must return the newest": the image
-- that was written last, where one was written after each of them and after no other call.
use Rattle.std.specs.Prelude.{ℕ, ◌+◌, ◌≡◌, Bool, true, false, cond, ◌&&◌, List, [], ◌∷◌, eqb}
use Rattle.lists.specs.Lists.{any}
use Rattle.names.specs.Names.{same_name}
use Rattle.names.specs.declared.Name.{Name}
use Rattle.module_state.specs.Numbers as No
use Rattle.module_state.specs.declared.State.{State}
use Rattle.calls.specs.Calls.{Call, Open, Close, Drop, Select, Start, Continue, Elevate, End, Record, ListProcesses, Kill, SetWord, number}
use Rattle.calls.specs.Run.{step}
use Rattle.module_rules.specs.Facts.{processes}
use Rattle.image.specs.Image.{is_saved_one, state_image}

-- a saved process has the name
unfoldable pub has_saved : State → Name → Bool
has_saved st name = any (λ p. is_saved_one p && same_name p.name name) (processes st)

-- an end with keep, a continue, a kill of a saved process, a set word
unfoldable pub touches_image : State → Call → Bool
touches_image st (Open s) = false
touches_image st (Close s) = false
touches_image st (Select s byte) = false
touches_image st (Start s c name) = false
touches_image st (Continue s c name) = true
touches_image st (Elevate s c name verdict) = false
touches_image st (Drop s) = false
touches_image st (End s u keep) = keep
touches_image st (Record s claim class) = false
touches_image st (ListProcesses s claim wanted room) = false
touches_image st (Kill s claim name) = has_saved st name
touches_image st (SetWord s claim c words) = true

-- where they are done: `n` is the number that the call was answered. A refusal changes none: the number that it may spend is an active process's, which is in no image
abbrev pub changes_image : State → Call → ℕ → Bool
changes_image st call n = eqb n No.done && touches_image st call

-- what they make of the image's rows, n before the call and m after it: one more, one less, and as many with a set word. No other call is one of them
abbrev pub RowsChange : Call → ℕ → ℕ → Type 0
RowsChange (Open s) n m = ⊥
RowsChange (Close s) n m = ⊥
RowsChange (Select s byte) n m = ⊥
RowsChange (Start s c name) n m = ⊥
RowsChange (Continue s c name) n m = n ≡ m + 1
RowsChange (Elevate s c name verdict) n m = ⊥
RowsChange (Drop s) n m = ⊥
RowsChange (End s u keep) n m = m ≡ n + 1
RowsChange (Record s claim class) n m = ⊥
RowsChange (ListProcesses s claim wanted room) n m = ⊥
RowsChange (Kill s claim name) n m = n ≡ m + 1
RowsChange (SetWord s claim c words) n m = m ≡ n

-- the image that was written last, `image` being that before the calls
unfoldable pub newest : List ℕ → State → List Call → List ℕ
newest image st [] = image
newest image st (call ∷ calls) =
    newest (cond (changes_image st call (number st call)) (state_image (step st call)) image) (step st call) calls
