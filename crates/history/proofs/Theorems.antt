-- Demand 3: the theorems. From any state that keeps the rules, with what is told of it, by any steps; and from any fresh module by document 01's calls, any in any
-- order, refused ones and wrong arguments included.
-- Assumes nothing.
use Prim.Native.Nat.{ℕ, ◌≤◌, ◌<◌}
use mathlib.Core.Path.{◌≡◌, refl, sym, ap, subst, ◌∙◌}
use mathlib.Core.Logic.{◌≢◌}
use mathlib.Core.Bool.{true, false}
use mathlib.Core.List.{List, [], ◌∷◌, ◌++◌, map}
use native.Mathlib.Omega.{arith}
use lib.Dec.{eqb}
use lib.ListN.{length, length-map}
use Rattle.lists.specs.Each.{Each, each_nil}
use Rattle.lists.specs.Lists.{select}
use Rattle.lists.proofs.Lists.{length-select}
use Rattle.lists.proofs.Tests.{split, clash}
use Rattle.lists.proofs.Each.{each-imp, each-imp₂, each_at}
use Rattle.names.specs.declared.Credential.{Credential}
use Rattle.names.specs.declared.Kind.{Kind}
use Rattle.names.specs.declared.Kind.TheVariants.{User, Elevation, Saved}
use Rattle.names.specs.declared.Name.{Name}
use Rattle.names.specs.declared.Session.{Session}
use Rattle.names.proofs.Laws.{name→same}
use Rattle.table.specs.Table.{size, free_place, process_at, is_elevation, is_among}
use Rattle.table.specs.declared.Active.TheVariants.{UserOf}
use Rattle.table.specs.declared.Process.{Process}
use Rattle.table.proofs.Laws.{standing-of}
use Rattle.module_state.specs.Module.{has_active, active_process}
use Rattle.module_state.specs.Claim.{admitted}
use Rattle.module_state.specs.declared.Claim.{Claim}
use Rattle.module_state.specs.declared.Grants.{Grants}
use Rattle.module_state.specs.declared.State.{State}
use Rattle.module_state.specs.declared.UserClaim.{UserClaim}
use Rattle.module_state.specs.declared.Claim.TheVariants.{ByUser}
use Rattle.calls.specs.Calls.{Call, ListProcesses, Start, Under, number, protection, passes, listed, fresh}
use Rattle.calls.specs.Listing.{among_of, row_of, rows_of, message_length}
use Rattle.calls.specs.Run.{step, run, numbers}
use Rattle.calls.specs.declared.Wanted.{Wanted}
use Rattle.calls.proofs.Laws.{answer-number}
use Rattle.module_rules.specs.Facts.{processes, Rules, at}
use Rattle.module_rules.proofs.Laws as Facts
use Rattle.history.specs.Lives.{Life, Live, tells_passed, Event, onward, follow, told, nobody, passed, count, down}
use Rattle.history.specs.History.{after, events_of, event, history}
use Rattle.history.specs.Demand.{Carries, OfOneName, Demand3, ByPlaces, life, look, Tells, IsClaimOf}
use Rattle.history.specs.Steps.{Step, Steps}
use Rattle.history.specs.Since.{Demand3From, IsClaimFrom}
use Rattle.history.proofs.Tables.{rules-fresh}
use Rattle.history.proofs.Read.{active-passed, reading}
use Rattle.history.proofs.Told.{length-down, down-below, tells-look, look-tells, numbers-told, in-turn, claim-told}
use Rattle.history.proofs.Lives.{is_users}
use Rattle.history.proofs.Along.{rules-along, told-along, cut, once, passed-number}
use Rattle.history.proofs.Since.{count-since, not-below}
use Rattle.history.proofs.Calls.{call_step, steps}

not-elevation : (k : Kind) → k ≢ Elevation → is_elevation k ≡ false
not-elevation User n = refl
not-elevation Elevation n = absurd (n refl)
not-elevation Saved n = refl

users : (k : Kind) (s : Session) (c : Credential) (n : ℕ) → is_elevation k ≡ false → is_users (life k s c n) ≡ true
users User s c n e = refl
users Elevation s c n e = clash refl e
users Saved s c n e = refl

-- ---- no listing exceeds 616 bytes: of any state in which at most 12 stand
module _ (st : State) (v : Rules st) where
  message-fits : (wanted : Wanted) → message_length (length (rows_of st wanted)) ≤ 616
  unfolding message_length rows_of
  message-fits wanted =
      let rows : List Process = select (is_among (among_of wanted)) (processes st) in
      rw (length-map rows row_of) (omega (arith, length-select (is_among (among_of wanted)) (processes st), v.few))

  pub listing-fits : (s : Session) (claim : Claim) (wanted : Wanted) (room : ℕ) → (listed st s claim wanted room).length ≤ 616
  unfolding listed
  listing-fits s claim wanted room =
      split (eqb (number st (ListProcesses s claim wanted room)) 0) (λ e. rw e (message-fits wanted)) (λ e. rw e (omega arith))

-- ---- from any state that keeps the rules, told so, by any steps
module _ {first last : State} {events : List Event} (k : Steps first events last) (rules : Rules first) (tell : Name → Life) (tells : Tells tell first) where
  rules-last : Rules last
  rules-last = rules-along k rules

  told_is : (n : Name) → told tell events n ≡ look n (processes last)
  told_is n = told-along n k rules tell tells

  pub demand3-from : Demand3 tell events last
  demand3-from =
      record {
        rules = rules-last;
        numbers = numbers-told last rules-last (told tell events) told_is;
        once = once k rules tell tells;
        listing = listing-fits last rules-last;
      }

  -- the state that they come to is told so again: histories can go on from it
  pub tells-from : Tells (told tell events) last
  tells-from = look-tells last rules-last (told tell events) told_is

  -- every number passed in its turn
  pub in-turn-from : (n : Name) → passed (told tell events n) ≡ down (count (told tell events n))
  in-turn-from = in-turn last rules-last (told tell events) told_is

  -- counted from what was told before
  pub demand3-told : Demand3From tell events last
  demand3-told =
      record {
        demand3 = demand3-from;
        numbers =
            each-imp₂
            (λ p e is h. is h ∙ count-since k tell p.name (rw e (users p.kind p.session p.credential p.next h)))
            tells-from.stands
            demand3-from.numbers;
        not-below =
            λ n v old.
            let is = passed-number k rules tell tells n v in
            let front = (cut v.before (subst (λ l. Steps first l last) v.are k)).front in
            let low = not-below front tell n v.one.session v.one.claim.credential v.one.before v.one.lives old in
            omega (arith, is, low);
      }

  -- ---- the next user claim, if it passes its check
  module _ (s : Session) (u : UserClaim) (z : admitted last s (ByUser u) ≡ 0) where
    -- is one of the process that the search finds, by the history alone, and its number is the count so far
    pub claim-from : IsClaimOf (told tell events) s u (active_process last (UserOf s u.credential)).name
    claim-from = claim-told last rules-last (told tell events) told_is s u z

    -- so its number is none of those that passed since the start
    pub new-from : Each (λ n. u.number ≢ n) (passed (told tell events (active_process last (UserOf s u.credential)).name))
    unfolding passed
    new-from =
        rw claim-from.is
        (each-imp (λ n (h : n < u.number) (q : u.number ≡ n). omega arith) (down-below u.number u.number (omega arith)))

    pub claim-told-from : IsClaimFrom tell events s u (active_process last (UserOf s u.credential)).name
    unfolding passed
    claim-told-from =
        let name : Name = (active_process last (UserOf s u.credential)).name in
        let is : u.number ≡ count (told tell events name) = rw claim-from.is (sym (length-down u.number)) in
        record {
          claim = claim-from;
          number = is;
          new = new-from;
          not-below =
              λ old.
              let low = not-below k tell name s u.credential (down u.number) claim-from.is old in
              omega (arith, is, low);
        }

-- ---- every user claim that passes is one of the process of exactly one name. So `once` of Demand3, which speaks of one name, speaks of every claim that passes; and of
-- two claims with one number that pass it speaks where the name is the same
module _ {st next : State} {e : Event} (step : Step st e next) (v : Rules st) (tell : Name → Life) (tells : Tells tell st) where
  pub one_name : (s : Session) (u : UserClaim) → Carries s u e → has_active st (UserOf s u.credential) ≡ true → tells_passed e.answered ≡ true → OfOneName tell e (active_process st (UserOf s u.credential)).name
  one_name s u k h t =
      let claim = claim-told st v tell (tells-look tell st tells) s u (step.admits v s u k h t) in
      record {
        of = record { session = s; claim = u; carried = k; told = t; before = down u.number; lives = claim.is };
        only =
            λ other p.
            let both : Under s (ByUser u) ≡ Under p.session (ByUser p.claim) = sym k ∙ p.carried in
            let session-is : p.session ≡ s = cc in
            let claim-is : p.claim ≡ u = cc in
            claim.only other p.before (rw (session-is, claim-is) at p.lives);
      }

-- so of document 01's calls: each under a user claim that passes
pub one-call : (st : State) → Rules st → (tell : Name → Life) → Tells tell st → (s : Session) (u : UserClaim) (call : Call) → protection call ≡ Under s (ByUser u) → passes st call ≡ true → OfOneName tell (event st call) (active_process st (UserOf s u.credential)).name
one-call st v tell tells s u call k e =
    let active = active-passed st call s u k e in
    one_name (call_step st call) v tell tells s u k active (ap tells_passed (answer-number st call) ∙ reading st v call s u k active ∙ e)

-- ---- the clauses by places
pub by-places : (tell : Name → Life) (events : List Event) (st : State) → Demand3 tell events st → ByPlaces tell events st
unfolding size process_at
by-places tell events st d =
    record {
      rules = Facts.by-places st d.rules;
      numbers = λ i h n. each_at i free_place h d.numbers (not-elevation (at st i).kind n);
    }

-- ---- from a fresh module, of which nobody's name is told, by document 01's calls
module _ (pairs : List Grants) where
  pub tells-fresh : Tells nobody (fresh pairs)
  unfolding fresh
  tells-fresh = record { stands = rw (standing-of []) each_nil; gone = λ n h. refl }

  pub demand3 : (calls : List Call) → Demand3 nobody (history (fresh pairs) calls) (run (fresh pairs) calls)
  demand3 calls = demand3-from (steps (fresh pairs) calls) (rules-fresh pairs) nobody tells-fresh

  pub demand3-by-places : (calls : List Call) → ByPlaces nobody (history (fresh pairs) calls) (run (fresh pairs) calls)
  demand3-by-places calls = by-places nobody (history (fresh pairs) calls) (run (fresh pairs) calls) (demand3 calls)

-- ---- one call more
pub run-last : (st : State) (calls : List Call) (call : Call) → run st (calls ++ (call ∷ [])) ≡ step (run st calls) call
unfolding run
run-last st [] call = refl
run-last st (b ∷ calls) call = run-last (step st b) calls call

pub history-last : (st : State) (calls : List Call) (call : Call) → history st (calls ++ (call ∷ [])) ≡ history st calls ++ (event (run st calls) call ∷ [])
unfolding history run
history-last st [] call = refl
history-last st (b ∷ calls) call = ap (λ l. event st b ∷ l) (history-last (step st b) calls call)

follow-last : (n : Name) (o : Life) (st : State) (calls : List Call) (call : Call) → follow n (history st (calls ++ (call ∷ []))) o ≡ onward n (event (run st calls) call) (follow n (history st calls) o)
unfolding follow history run
follow-last n o st [] call = refl
follow-last n o st (b ∷ calls) call = follow-last n (onward n (event st b) o) (step st b) calls call

-- "A name may be given again once its process is removed; the count then starts afresh.": right after an accepted start nothing is counted
pub afresh : (tell : Name → Life) (first : State) (calls : List Call) (s : Session) (c : Credential) (name : Name) → number (run first calls) (Start s c name) ≡ 0 → told tell (history first (calls ++ (Start s c name ∷ []))) name ≡ Live s c []
unfolding onward after
afresh tell first calls s c name e =
    follow-last name (tell name) first calls (Start s c name)
    ∙ rw (answer-number (run first calls) (Start s c name), e, name→same name name refl)

-- the events are the calls, with the numbers that the definitions give them
pub calls-of : (st : State) (calls : List Call) → history st calls ≡ events_of calls (numbers st calls)
unfolding history numbers
calls-of st [] = refl
calls-of st (call ∷ calls) = rw (answer-number st call, calls-of (step st call) calls)

pub numbers_of : (st : State) (calls : List Call) → map (λ (e : Event). e.answered) (history st calls) ≡ numbers st calls
unfolding history numbers
numbers_of st [] = refl
numbers_of st (call ∷ calls) = rw (answer-number st call, numbers_of (step st call) calls)
