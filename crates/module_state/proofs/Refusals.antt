-- Refusals and their numbers: no two have one number, none has 0; and a row of tests, as the code goes through it with `?`.
-- Assumes nothing.
use Rattle.std.specs.Prelude.{ℕ, [], ◌∷◌, get_or, Result, Ok, Err}
use Rattle.std.proofs.Common.{◌≡◌, refl, sym, ap, ◌∙◌, arith}
use Rattle.module_state.specs.Numbers.{◌▸◌}
use Rattle.module_state.specs.Refusals.{refusal_number, number_of, placed_in, checked_in}
use Rattle.module_state.specs.declared.Placed.{Placed}
use Rattle.module_state.specs.declared.Checked.{Checked}
use Rattle.module_state.specs.declared.ClaimCheck.{ClaimCheck}
use Rattle.module_state.specs.declared.Refusal.{Refusal}
use Rattle.module_state.specs.declared.Refusal.TheVariants as Why
use Rattle.module_state.proofs.Laws.{stop, pass}

-- the refusal of a number
abbrev numbered : ℕ → Refusal
numbered n =
    get_or
    (Why.OnlyElevated ∷ Why.Argument ∷ Why.Session ∷ Why.NoVersion ∷ Why.Version ∷ Why.Credential ∷ Why.NoProcess ∷ Why.AlreadyActive
    ∷ Why.Verdict ∷ Why.OutOfTurn ∷ Why.NotGranted ∷ Why.Full ∷ Why.NameTaken ∷ Why.Spent ∷ Why.Message ∷ Why.Room ∷ [])
    n
    Why.OnlyElevated

numbered-back : (r : Refusal) → numbered (refusal_number r) ≡ r
numbered-back Why.Argument = refl
numbered-back Why.Session = refl
numbered-back Why.NoVersion = refl
numbered-back Why.Version = refl
numbered-back Why.Credential = refl
numbered-back Why.NoProcess = refl
numbered-back Why.AlreadyActive = refl
numbered-back Why.Verdict = refl
numbered-back Why.OutOfTurn = refl
numbered-back Why.NotGranted = refl
numbered-back Why.Full = refl
numbered-back Why.NameTaken = refl
numbered-back Why.Spent = refl
numbered-back Why.Message = refl
numbered-back Why.Room = refl
numbered-back Why.OnlyElevated = refl

pub refusal-once : {r s : Refusal} → refusal_number r ≡ refusal_number s → r ≡ s
refusal-once {r} {s} e = sym (numbered-back r) ∙ ap numbered e ∙ numbered-back s

pub refusal-some : (r : Refusal) → refusal_number r ≡ 0 → ⊥
refusal-some r e =
    let last : r ≡ Why.OnlyElevated = sym (numbered-back r) ∙ ap numbered e in
    let none : ◌≡◌ {A = ℕ} 18 0 = sym (ap refusal_number last) ∙ e in
    absurd (omega arith)

-- ---- no two answers have one number
pub number-once : (a b : Result Unit Refusal) → number_of a ≡ number_of b → a ≡ b
number-once (Ok x) (Ok y) e = refl
number-once (Ok x) (Err s) e = absurd (refusal-some s (sym e))
number-once (Err r) (Ok y) e = absurd (refusal-some r e)
number-once (Err r) (Err s) e = ap Err (refusal-once e)

pub placed-once : (a b : Result ℕ Refusal) → placed_in a ≡ placed_in b → a ≡ b
placed-once (Ok x) (Ok y) e = ap (λ (p : Placed). Ok p.place) e
placed-once (Ok x) (Err s) e = absurd (refusal-some s (sym (ap (λ (p : Placed). p.number) e)))
placed-once (Err r) (Ok y) e = absurd (refusal-some r (ap (λ (p : Placed). p.number) e))
placed-once (Err r) (Err s) e = ap Err (refusal-once (ap (λ (p : Placed). p.number) e))

pub checked-once : (a b : ClaimCheck) → checked_in a ≡ checked_in b → a ≡ b
checked-once a b e =
    let claim : a.claim ≡ b.claim = ap (λ (c : Checked). c.claim) e in
    let place : a.place ≡ b.place = placed-once a.place b.place (ap (λ (c : Checked). record { number = c.number; place = c.place }) e) in
    let next : a.next ≡ b.next = ap (λ (c : Checked). c.next) e in
    let owner : a.credential ≡ b.credential = ap (λ (c : Checked). c.credential) e in
    let grants : a.grants ≡ b.grants = ap (λ (c : Checked). c.grants) e in
    let same : ◌≡◌ {A = ClaimCheck}
    (record { claim = a.claim; place = a.place; next = a.next; credential = a.credential; grants = a.grants })
    (record { claim = b.claim; place = b.place; next = b.next; credential = b.credential; grants = b.grants }) = rw (claim, place, next, owner, grants) in
    same

-- ---- a row of tests goes on where a part of it answers Ok, and ends where that refuses
pub row-ends : {a : ℕ} (m : ℕ) (r : Refusal) → refusal_number r ≡ a → refusal_number r ≡ a ▸ m
row-ends m r e = e ∙ sym (stop m (λ z. refusal-some r (e ∙ z)))

pub row-goes-on : {a n m : ℕ} → 0 ≡ a → n ≡ m → n ≡ a ▸ m
row-goes-on {a} {n} {m} z e = e ∙ sym (pass m (sym z))
