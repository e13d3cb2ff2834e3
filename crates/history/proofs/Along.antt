-- Steps one after another: what single ones keep and tell, they do. The count of a process grows with each claim of it that passes, and falls with nothing less
-- than its removal: so no number passes twice.
-- Assumes nothing.
use Prim.Native.Nat.{suc, ◌≤◌, ◌<◌}
use mathlib.Core.Path.{◌≡◌, refl, sym, ap, subst, ◌∙◌}
use mathlib.Core.Logic.{◌≢◌}
use mathlib.Core.List.{List, [], ◌∷◌, ◌++◌}
use native.Mathlib.Omega.{arith}
use lib.Dec.{eqb}
use borrow.Author.Tests.{eqb-true}
use Rattle.lists.proofs.Tests.{split}
use Rattle.names.specs.declared.Name.{Name}
use Rattle.module_state.specs.Claim.{admitted}
use Rattle.module_state.specs.declared.Claim.TheVariants.{ByUser}
use Rattle.module_state.specs.declared.State.{State}
use Rattle.module_rules.specs.Facts.{processes, Rules}
use Rattle.history.specs.Lives.{Life, Gone, Live, count, Event, with_claim, onward, follow, told}
use Rattle.history.specs.Demand.{IsPassedOf, Stays, TwoPassed, look, Tells}
use Rattle.history.specs.Steps.{Step, Steps, none, then}
use Rattle.history.specs.Since.{OnePassed}
use Rattle.history.proofs.Told.{live-stands, tells-look, turn-told}
use Rattle.history.proofs.Lives.{claim-grows, claim-adds}

pub rules-along : {first last : State} {events : List Event} → Steps first events last → Rules first → Rules last
rules-along none v = v
rules-along (then s k) v = rules-along k (s.rules v)

pub followed : (n : Name) {first last : State} {events : List Event} → Steps first events last → Rules first → follow n events (look n (processes first)) ≡ look n (processes last)
unfolding follow
followed n none v = refl
followed n (then {events = events} s k) v = ap (follow n events) (s.follows v n) ∙ followed n k (s.rules v)

pub told-along : (n : Name) {first last : State} {events : List Event} → Steps first events last → Rules first → (tell : Name → Life) → Tells tell first → told tell events n ≡ look n (processes last)
told-along n {first} {last} {events} k v tell tells = ap (follow n events) (tells-look tell first tells n) ∙ followed n k v

-- ---- steps joined to steps, and cut
pub join : {first mid last : State} {before rest : List Event} → Steps first before mid → Steps mid rest last → Steps first (before ++ rest) last
join none k = k
join (then s b) k = then s (join b k)

pub record Cut (first : State) (before rest : List Event) (last : State) : Type 0 where
  pub mid : State
  pub front : Steps first before mid
  pub back : Steps mid rest last

pub cut : (before : List Event) {rest : List Event} {first last : State} → Steps first (before ++ rest) last → Cut first before rest last
cut [] {first = first} k = record { mid = first; front = none; back = k }
cut (e ∷ before) (then s k) = let c = cut before k in record { mid = c.mid; front = then s c.front; back = c.back }

record First (before : State) (e : Event) (rest : List Event) (last : State) : Type 0 where
  pub next : State
  pub step : Step before e next
  pub back : Steps next rest last

first_of : {before last : State} {e : Event} {rest : List Event} → Steps before (e ∷ rest) last → First before e rest last
first_of (then {next = next} s k) = record { next = next; step = s; back = k }

-- ---- the count of a process by one step
module _ (n : Name) {before next : State} {e : Event} (s : Step before e next) (v : Rules before) where
  abbrev was : Life
  was = look n (processes before)

  count-is : onward n e was ≢ Gone → count (onward n e was) ≡ count (with_claim e was)
  unfolding onward
  count-is h = split (eqb e.answered 0) (λ q. rw q (s.keeps n (eqb-true _ _ q) (rw q at h))) (λ q. rw q)

  grows : onward n e was ≢ Gone → count was ≤ count (onward n e was)
  grows h = omega (arith, count-is h, claim-grows e was)

  -- a claim of it that passed: its number is the count of those before it, and then it is one more
  module _ {life : Life} (is : life ≡ look n (processes before)) (r : IsPassedOf life e) where
    passed_is : r.claim.number ≡ count life
    passed_is =
        let lives : was ≡ Live r.session r.claim.credential r.before = sym is ∙ r.lives in
        let z : admitted before r.session (ByUser r.claim) ≡ 0 =
        s.admits v r.session r.claim r.carried (live-stands n before r.session r.claim.credential r.before lives) r.told
        in
        turn-told before v (λ m. look m (processes before)) (λ m. refl) r.session r.claim z n r.before lives ∙ ap count (sym is)

    adds : onward n e life ≢ Gone → count (look n (processes next)) ≡ suc (count life)
    adds h =
        ap count (sym (s.follows v n))
        ∙ count-is (subst (λ o. onward n e o ≢ Gone) is h)
        ∙ claim-adds e was (subst (λ o. IsPassedOf o e) is r)
        ∙ ap (λ o. suc (count o)) (sym is)

-- ---- by steps one after another
grows-along : (n : Name) {first last : State} {events : List Event} → Steps first events last → Rules first → Stays n events (look n (processes first)) → count (look n (processes first)) ≤ count (look n (processes last))
grows-along n none v h = omega arith
grows-along n {first} {last} (then {next = next} {events = events} s k) v h =
    let is : onward n _ (look n (processes first)) ≡ look n (processes next) = s.follows v n in
    let one : count (look n (processes first)) ≤ count (look n (processes next)) = subst (λ o. count (look n (processes first)) ≤ count o) is (grows n s v h.0) in
    omega (arith, one, grows-along n k (s.rules v) (subst (λ o. Stays n events o) is h.1))

-- two claims of one process that passed: the second has the larger number
module _ (n : Name) {before next last : State} {e : Event} {events : List Event} (s : Step before e next) (k : Steps next events last) (v : Rules before) {life : Life} (is : life ≡ look n (processes before)) where
  pub larger : (r : IsPassedOf life e) → Stays n (e ∷ events) life → r.claim.number < count (look n (processes last))
  larger r h =
      let rest : Stays n events (look n (processes next)) = subst (λ o. Stays n events o) (ap (onward n e) is ∙ s.follows v n) h.1 in
      omega (arith, passed_is n s v is r, adds n s v is r h.0, grows-along n k (s.rules v) rest)

-- ---- from any state that keeps the rules, told so
module _ {first last : State} {events : List Event} (k : Steps first events last) (rules : Rules first) (tell : Name → Life) (tells : Tells tell first) (n : Name) where
  pub once : (v : TwoPassed tell events n) → v.one.claim.number ≢ v.two.claim.number
  once v same =
      let c = cut v.before (subst (λ l. Steps first l last) v.are k) in
      let w : Rules c.mid = rules-along c.front rules in
      let f = first_of c.back in
      let c₂ = cut v.between f.back in
      let f₂ = first_of c₂.back in
      let both = join c.front (then f.step c₂.front) in
      let less = larger n f.step c₂.front w (told-along n c.front rules tell tells) v.one v.stays in
      let then_is = told-along n both rules tell tells in
      let two = passed_is n f₂.step (rules-along both rules) then_is v.two in
      omega (arith, less, two, ap count then_is, same)

  pub passed-number : (v : OnePassed tell events n) → v.one.claim.number ≡ count (told tell v.before n)
  passed-number v =
      let c = cut v.before (subst (λ l. Steps first l last) v.are k) in
      passed_is n (first_of c.back).step (rules-along c.front rules) (told-along n c.front rules tell tells) v.one
