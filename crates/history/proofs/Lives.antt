-- The automaton of a name alone: a claim adds to the count, and numbers that passed before stay below those that come.
-- Assumes nothing.
use Prim.Native.Nat.{ℕ, suc, ◌+◌, ◌≤◌}
use mathlib.Core.Path.{◌≡◌, refl}
use mathlib.Core.Bool.{Bool, true, false}
use mathlib.Core.List.{List}
use native.Mathlib.Omega.{arith}
use lib.ListN.{length, length-append}
use borrow.Author.Tests.{eq-eqb}
use Rattle.lists.proofs.Tests.{split, clash}
use Rattle.names.specs.declared.Session.{Session}
use Rattle.module_state.specs.declared.Claim.{Claim}
use Rattle.module_state.specs.declared.Claim.TheVariants.{Elevated, ByUser}
use Rattle.module_state.specs.declared.UserClaim.{UserClaim}
use Rattle.calls.specs.Calls.{Protection, Free, Under}
use Rattle.history.specs.Lives.{Life, Gone, Live, Raised, SavedBy, is_gone, passed, count, is_user_of, counts, charges, tells_passed, Event, with_claim}
use Rattle.history.specs.Demand.{IsPassedOf}
use Rattle.history.specs.Steps.{onto}
use Rattle.history.specs.Since.{bare}

pub is-gone : (life : Life) → is_gone life ≡ true → life ≡ Gone
is-gone Gone h = refl
is-gone (Live s c ns) h = clash h refl
is-gone (Raised s c) h = clash h refl
is-gone (SavedBy c ns) h = clash h refl

-- ---- a claim adds to the count
counts-grow : (s : Session) (claim : Claim) (life : Life) → count life ≤ count (counts s claim life)
unfolding counts passed
counts-grow s Elevated life = omega arith
counts-grow s (ByUser u) Gone = omega arith
counts-grow s (ByUser u) (Live t d ns) = split (is_user_of s u.credential t d) (λ e. rw e (omega arith)) (λ e. rw e (omega arith))
counts-grow s (ByUser u) (Raised t d) = omega arith
counts-grow s (ByUser u) (SavedBy d ns) = omega arith

charges-grow : (w : Protection) (life : Life) → count life ≤ count (charges w life)
unfolding charges
charges-grow Free life = omega arith
charges-grow (Under s claim) life = counts-grow s claim life

pub claim-grows : (e : Event) (life : Life) → count life ≤ count (with_claim e life)
unfolding with_claim
claim-grows e life = split (tells_passed e.answered) (λ t. rw t (charges-grow e.claim life)) (λ t. rw t (omega arith))

-- and one that passed, of the process that has this life, adds one
own-claim : (s : Session) (u : UserClaim) (ns : List ℕ) → count (counts s (ByUser u) (Live s u.credential ns)) ≡ suc (length ns)
unfolding counts passed
own-claim s u ns = rw (eq-eqb s.0 s.0 refl, eq-eqb u.credential.0 u.credential.0 refl)

pub claim-adds : (e : Event) (life : Life) → IsPassedOf life e → count (with_claim e life) ≡ suc (count life)
unfolding with_claim charges passed
claim-adds e life r = rw (r.told, r.carried, r.lives) (own-claim r.session r.claim r.before)

-- ---- a life on top of numbers that passed before
pub onto-bare : (life : Life) → onto (passed life) (bare life) ≡ life
unfolding passed
onto-bare Gone = refl
onto-bare (Live s c ns) = refl
onto-bare (Raised s c) = refl
onto-bare (SavedBy c ns) = refl

-- a user process's life, active or saved
abbrev pub is_users : Life → Bool
is_users Gone = false
is_users (Live s c ns) = true
is_users (Raised s c) = false
is_users (SavedBy c ns) = true

pub count-onto : (old : List ℕ) (life : Life) → is_users (onto old life) ≡ true → count (onto old life) ≡ length old + count life
unfolding passed
count-onto old Gone h = clash h refl
count-onto old (Live s c ns) h = simp length-append (omega arith)
count-onto old (Raised s c) h = clash h refl
count-onto old (SavedBy c ns) h = simp length-append (omega arith)

counts-onto : (old : List ℕ) (s : Session) (claim : Claim) (life : Life) → counts s claim (onto old life) ≡ onto old (counts s claim life)
unfolding counts
counts-onto old s Elevated life = refl
counts-onto old s (ByUser u) Gone = refl
counts-onto old s (ByUser u) (Live t d ns) = split (is_user_of s u.credential t d) (λ e. rw e) (λ e. rw e)
counts-onto old s (ByUser u) (Raised t d) = refl
counts-onto old s (ByUser u) (SavedBy d ns) = refl

charges-onto : (old : List ℕ) (w : Protection) (life : Life) → charges w (onto old life) ≡ onto old (charges w life)
unfolding charges
charges-onto old Free life = refl
charges-onto old (Under s claim) life = counts-onto old s claim life

pub claim-onto : (old : List ℕ) (e : Event) (life : Life) → with_claim e (onto old life) ≡ onto old (with_claim e life)
unfolding with_claim
claim-onto old e life = split (tells_passed e.answered) (λ t. rw t (charges-onto old e.claim life)) (λ t. rw t)

-- ---- nobody's claim
charges-gone : (w : Protection) → charges w Gone ≡ Gone
unfolding charges counts
charges-gone Free = refl
charges-gone (Under s Elevated) = refl
charges-gone (Under s (ByUser u)) = refl

pub claim-gone : (e : Event) → with_claim e Gone ≡ Gone
unfolding with_claim
claim-gone e = split (tells_passed e.answered) (λ t. rw (t, charges-gone e.claim)) (λ t. rw t)
