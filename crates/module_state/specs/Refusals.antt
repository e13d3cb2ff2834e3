-- The numbers as the code has them: a refusal is a value of its own, and what tests answer is done, or the refusal of the first that holds.
use Rattle.std.specs.Prelude.{ℕ, Result, Ok, Err}
use Rattle.module_state.specs.Numbers as No
use Rattle.module_state.specs.declared.Checked.{Checked}
use Rattle.module_state.specs.declared.ClaimCheck.{ClaimCheck}
use Rattle.module_state.specs.declared.Placed.{Placed}
use Rattle.module_state.specs.declared.Refusal.{Refusal}
use Rattle.module_state.specs.declared.Refusal.TheVariants as Why

-- the number of each refusal
abbrev pub refusal_number : Refusal → ℕ
refusal_number Why.Argument = No.argument
refusal_number Why.Session = No.session
refusal_number Why.NoVersion = No.no_version
refusal_number Why.Version = No.version
refusal_number Why.Credential = No.credential
refusal_number Why.NoProcess = No.no_process
refusal_number Why.AlreadyActive = No.already_active
refusal_number Why.Verdict = No.verdict
refusal_number Why.OutOfTurn = No.out_of_turn
refusal_number Why.NotGranted = No.not_granted
refusal_number Why.Full = No.full
refusal_number Why.NameTaken = No.name_taken
refusal_number Why.Spent = No.spent
refusal_number Why.Message = No.message
refusal_number Why.Room = No.room
refusal_number Why.OnlyElevated = No.only_elevated

-- the number of what tests answer
abbrev pub number_of : {T : Type 0} → Result T Refusal → ℕ
number_of (Ok x) = No.done
number_of (Err refusal) = refusal_number refusal

-- the number that a call is refused with stands by itself, and beside it what the tests found: 0 where they refuse
abbrev pub place_in : Result ℕ Refusal → ℕ
place_in (Ok place) = place
place_in (Err refusal) = 0

abbrev pub placed_in : Result ℕ Refusal → Placed
placed_in answer = record { number = number_of answer; place = place_in answer }

-- what the check of a claim comes to: its number, and what a call goes on with where that is 0
abbrev pub checked_in : ClaimCheck → Checked
checked_in by =
    record {
      claim = by.claim;
      number = number_of by.place;
      place = place_in by.place;
      next = by.next;
      credential = by.credential;
      grants = by.grants;
    }
