-- What a history tells of the process of a name: one name followed through the events, with the numbers of the claims that passed under its process
-- since its start. An event says what was asked and the number that was answered; it says nothing of a state, and this looks at none.
use Rattle.std.specs.Prelude.{ℕ, zero, suc, Bool, true, false, cond, not, ◌&&◌, ◌||◌, List, [], ◌∷◌, eqb, length}
use Rattle.names.specs.declared.Credential.{Credential}
use Rattle.names.specs.declared.Name.{Name}
use Rattle.names.specs.declared.Session.{Session}
use Rattle.module_state.specs.Numbers as No
use Rattle.module_state.specs.declared.Claim.{Claim}
use Rattle.module_state.specs.declared.Claim.TheVariants.{Elevated, ByUser}
use Rattle.calls.specs.Calls.{Protection, Free, Under}

-- no process has the name; an active user process of a session and a credential has it; the elevation of a session, of a credential; a credential's
-- saved process. A user process has the numbers that passed under it since its start, the last first
pub data Life : Type 0 where
  Gone : Life
  Live : Session → Credential → List ℕ → Life
  Raised : Session → Credential → Life
  SavedBy : Credential → List ℕ → Life

abbrev pub is_gone : Life → Bool
is_gone Gone = true
is_gone (Live s c ns) = false
is_gone (Raised s c) = false
is_gone (SavedBy c ns) = false

-- the numbers that passed since the start, the last first, and how many they are
unfoldable pub passed : Life → List ℕ
passed Gone = []
passed (Live s c ns) = ns
passed (Raised s c) = []
passed (SavedBy c ns) = ns

abbrev pub count : Life → ℕ
count life = length (passed life)

-- ---- a claim that passed

-- of an active process, which stands in session t and is credential d's: its session is s; it is the user process of session s and credential c
abbrev pub same_session : Session → Session → Bool
same_session s t = eqb t.0 s.0

abbrev pub is_user_of : Session → Credential → Session → Credential → Bool
is_user_of s c t d = same_session s t && eqb d.0 c.0

-- it is one of the process that is active in the claim's session under the claim's credential. "Elevated claims have no number"
unfoldable pub counts : Session → Claim → Life → Life
counts s Elevated life = life
counts s (ByUser u) Gone = Gone
counts s (ByUser u) (Live t d ns) = Live t d (cond (is_user_of s u.credential t d) (u.number ∷ ns) ns)
counts s (ByUser u) (Raised t d) = Raised t d
counts s (ByUser u) (SavedBy d ns) = SavedBy d ns

unfoldable pub charges : Protection → Life → Life
charges Free life = life
charges (Under s claim) life = counts s claim life

-- whether it passed, by the number that the call was answered, where the claim's process stands: 1, 2 and 3 come ahead of the claim, 13, 9 and 8 are its own. Where
-- that process stands its own 5 and 6 are not given, and every other number comes after it. Theorem `reading`
unfoldable pub tells_passed : ℕ → Bool
tells_passed n =
    not
    (eqb n No.argument
    || eqb n No.session
    || eqb n No.no_version
    || eqb n No.spent
    || eqb n No.out_of_turn
    || eqb n No.verdict)

-- ---- an event: the number that a call was answered, the claim that it was made under, and, beside the count of that claim, what becomes of the process of a name
-- where the call is accepted
pub record Event : Type 0 where
  pub answered : ℕ
  pub claim : Protection
  pub after : Name → Life → Life

-- "demand 3 counts accepted claims plus these": the claim counted where it passed, though the call was refused afterwards
unfoldable pub with_claim : Event → Life → Life
with_claim e life = cond (tells_passed e.answered) (charges e.claim life) life

-- by an event: a refused call does nothing else
unfoldable pub onward : Name → Event → Life → Life
onward name e life = cond (eqb e.answered No.done) (e.after name (with_claim e life)) (with_claim e life)

-- by events, one after another
unfoldable pub follow : Name → List Event → Life → Life
follow name [] life = life
follow name (e ∷ events) life = follow name events (onward name e life)

-- what is told of each name after events, where `tell` was told of it before them
abbrev pub told : (Name → Life) → List Event → Name → Life
told tell events name = follow name events (tell name)

-- a fresh module has no process
abbrev pub nobody : Name → Life
nobody name = Gone

-- n - 1, .., 1, 0: what passed where every number came in its turn and n is the next
abbrev pub down : ℕ → List ℕ
down zero = []
down (suc n) = n ∷ down n
