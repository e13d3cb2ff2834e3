-- A slice that only the entries have written holds a state: the one that the calls come to. No entry answers otherwise than they do, and demand 3 holds
-- of what the entries answered.
-- Assumes nothing.
use Rattle.std.specs.Prelude.{unwrap_or}
use Prim.Native.Nat.{ℕ, suc}
use mathlib.Core.Path.{◌≡◌, refl, sym, ap, subst, ◌∙◌}
use mathlib.Core.Bool.{Bool, true, false}
use mathlib.Core.List.{List, [], ◌∷◌, ◌++◌}
use native.Mathlib.Omega.{arith}
use lib.Dec.{eqb}
use lib.ListN.{length, get_or, take, drop}
use lib.Seq.{drop_at}
use borrow.Author.Tests.{eqb-true}
use Rattle.rows.specs.Bytes.{Bytes}
use Rattle.rows.proofs.Bytes.{bytes_take}
use Rattle.lists.specs.Each.{Each, each_nil, each-cons}
use Rattle.lists.proofs.Tests.{split, and_right}
use Rattle.lists.proofs.Each.{each-imp}
use Rattle.names.specs.Names.{read_name, zero_name}
use Rattle.names.specs.declared.Name.{Name}
use Rattle.names.specs.declared.Row.{Row}
use Rattle.names.specs.declared.Session.{Session}
use Rattle.names.proofs.Laws.{RowFits}
use Rattle.module_state.specs.Numbers.{◌unless◌, ◌▸◌}
use Rattle.module_state.specs.declared.Claim.{Claim}
use Rattle.module_state.specs.declared.State.{State}
use Rattle.calls.specs.Calls.{Call, ListProcesses, number, listed, fresh}
use Rattle.calls.specs.Listing.{rows_of, message_length, listing}
use Rattle.calls.specs.Run.{step, run}
use Rattle.calls.specs.declared.Wanted.{Wanted}
use Rattle.calls.proofs.Laws.{answer-number}
use Rattle.module_rules.specs.Facts.{processes, Rules, IsWord, AreWords, IsState}
use Rattle.state_layout.specs.Layout.{state_length, state_bytes, state_of, holds_state}
use Rattle.state_layout.proofs.Laws.{state-back, holds-written, holds-is, one_form}
use Rattle.listing_messages.specs.Wire.{rows_among, listed_bytes}
use Rattle.listing_messages.proofs.Laws.{length-listing}
use Rattle.listing_call.proofs.Laws.{rows_fit}
use Rattle.entries_call.specs.CallEntry.{is_made, entry_number, entry_bytes, CallEntry}
use Rattle.entries_arguments.specs.Arguments.{Handed, pairs_from, pairs_of, are_pairs}
use Rattle.entries_unprotected.specs.Fresh.{can_fresh, FreshEntry}
use Rattle.entries_protected.specs.Listing.{entry_response, entry_length, ListEntry}
use Rattle.entries_unprotected.proofs.Rules.{pairs-long}
use Rattle.history.specs.Lives.{Life, nobody}
use Rattle.history.specs.History.{event_of, history}
use Rattle.history.specs.Demand.{look, Tells}
use Rattle.history.specs.Steps.{Steps}
use Rattle.history.specs.Fits.{IsWhole, Fits, Eight}
use Rattle.history.proofs.Told.{look-tells}
use Rattle.history.proofs.Form.{state-step, state-fresh}
use Rattle.history.proofs.Calls.{steps}
use Rattle.history.proofs.Theorems.{listing-fits, tells-from, demand3-told, tells-fresh, run-last, history-last}
use Rattle.image.specs.Image as Image
use Rattle.image.specs.Image.{is_image, state_image}
use Rattle.image.proofs.Laws.{stands-is, image-state}
use Rattle.history_resumed.specs.Resumed.{told_by}
use Rattle.history_resumed.proofs.Theorems.{image-tells}
use Rattle.entries_image.specs.Entries.{ImageEntry, restore_number, RestoreEntry, RescueEntry}
use Rattle.entries_image.proofs.Rescue.{entry-bytes, entry-restored}
use Rattle.history_lent.specs.Lent.{Slices, Response, Made, OfWords, Renewed, Restored, Entered, called, list-called, renewed, restored, Chain, none, then, Since, begun, reached, noted, noting, since, Small, IsSmall, Holds, Lent, cycled_since, IsImageOf}
use Rattle.history_lent.proofs.Images.{restore-image, restore-done, image-written, image-of}

-- ---- an entry that makes no call
pub not-fine-bytes : (b : List ℕ) (call : Call) → entry_bytes false b call ≡ b
unfolding is_made entry_bytes
not-fine-bytes b call = refl

-- ---- an entry that makes one, on a slice that holds a state
module _ (st : State) (v : IsState st) where
  pub held : holds_state (state_bytes st) ≡ true
  held = holds-written v

  pub back : state_of (state_bytes st) ≡ st
  back = state-back v.formed

  pub fine-number : (call : Call) → entry_number true (state_bytes st) call ≡ number st call
  unfolding is_made entry_number ◌unless◌ ◌▸◌
  fine-number call = rw (held, back)

  pub fine-bytes : (call : Call) → entry_bytes true (state_bytes st) call ≡ state_bytes (step st call)
  unfolding is_made entry_bytes step
  fine-bytes call = rw (held, back)

-- ---- what is kept from entry to entry
pub record Goes (w : Since) (b : Slices) : Type 0 where
  pub rules : Rules w.first
  pub tells : Tells w.tell w.first
  pub is : IsState (reached w)
  pub bytes : b.state ≡ state_bytes (reached w)
  pub events : w.events ≡ history w.first w.calls

-- where a module begins; and where an entry leaves the slices as they were
goes-begin : (first : State) → IsState first → (tell : Name → Life) → Tells tell first → {b : Slices} → b.state ≡ state_bytes first → Goes (begun first tell) b
unfolding run history
goes-begin first v tell t e = record { rules = v.rules; tells = t; is = v; bytes = e; events = refl }

goes_same : {w : Since} {b after : Slices} → Goes w b → after.state ≡ b.state → Goes w after
goes_same g e = record { rules = g.rules; tells = g.tells; is = g.is; bytes = e ∙ g.bytes; events = g.events }

module _ (w : Since) (b : Slices) (g : Goes w b) where
  abbrev st : State
  st = reached w

  pub goes-is : state_of b.state ≡ reached w
  goes-is = ap state_of g.bytes ∙ back st g.is

  pub goes-state : IsState (state_of b.state)
  goes-state = subst IsState (sym goes-is) g.is

  -- what a call that is made answers and leaves
  module _ {call : Call} {n : ℕ} {after : List ℕ} (e : CallEntry true b.state call n after) where
    pub made-number : n ≡ number (reached w) call
    made-number = e.number_is ∙ ap (λ x. entry_number true x call) g.bytes ∙ fine-number st g.is call

    pub made_bytes : after ≡ state_bytes (step (reached w) call)
    made_bytes = e.bytes-are ∙ ap (λ x. entry_bytes true x call) g.bytes ∙ fine-bytes st g.is call

  goes-called : (fine : Bool) (call : Call) (n : ℕ) (after : Slices) → (fine ≡ true → Fits call) → CallEntry fine b.state call n after.state → Goes (noted fine call n w) after
  goes-called true call n after fits e =
      record {
        rules = g.rules;
        tells = g.tells;
        is = rw (run-last w.first w.calls call) (state-step st call (fits refl) g.is);
        bytes = rw (run-last w.first w.calls call) (made_bytes e);
        events =
            ap (λ l. l ++ (event_of call n ∷ [])) g.events
            ∙ ap (λ m. history w.first w.calls ++ (event_of call m ∷ [])) (made-number e ∙ sym (answer-number st call))
            ∙ sym (history-last w.first w.calls call);
      }
  goes-called false call n after fits e = goes_same g (e.bytes-are ∙ not-fine-bytes b.state call)

  -- a listing's length and message
  rows_whole : (wanted : Wanted) → Each RowFits (rows_among wanted (processes st))
  rows_whole wanted = rows_fit wanted (processes st) (each-imp (λ p f. record { credential = omega (arith, f.credential); name = f.name }) g.is.formed.each)

  -- a list call writes no byte past the length that it answers
  later-in : (s : Session) (claim : Claim) (wanted : Wanted) (old : List ℕ) → drop (listed st s claim wanted (length old)).length (listed_bytes st s claim wanted old) ≡ drop (listed st s claim wanted (length old)).length old
  unfolding listed listed_bytes rows_of rows_among
  later-in s claim wanted old =
      let rows : List Row = rows_of st wanted in
      split (eqb (number st (ListProcesses s claim wanted (length old))) 0)
      (λ e. rw e (drop_at (listing rows) (drop (message_length (length rows)) old) (message_length (length rows)) (length-listing rows (rows_whole wanted))))
      (λ e. rw e)

  listing-small : (fine : Bool) (s : Session) (claim : Claim) (wanted : Wanted) (n : ℕ) (after : List ℕ) (r : Response) → ListEntry fine b.state s claim wanted r.old n after r.new r.length → Small r
  unfolding entry_response entry_length
  listing-small fine s claim wanted n after r e =
      let is : state_of b.state ≡ st = goes-is in
      split (is_made fine b.state)
      (λ q.
      let long : r.length ≡ (listed st s claim wanted (length r.old)).length = e.length-is ∙ rw (q, is) in
      let new : r.new ≡ listed_bytes st s claim wanted r.old = e.response-is ∙ rw (q, is) in
      record { length-small = rw long (listing-fits st g.is.rules s claim wanted (length r.old)); later-kept = rw (new, long) (later-in s claim wanted r.old) })
      (λ q.
      let long : r.length ≡ 0 = e.length-is ∙ rw q in
      let new : r.new ≡ r.old = e.response-is ∙ rw q in
      record { length-small = rw long (omega arith); later-kept = rw new })

  -- what is kept at the end is what is asked
  pub goes-holds : Holds w b
  goes-holds =
      let is : state_of b.state ≡ st = goes-is in
      let k : Steps w.first (history w.first w.calls) st = steps w.first w.calls in
      record {
        holds = rw g.bytes (held st g.is);
        state = is;
        bytes = rw is g.bytes;
        answered = g.events;
        tells = rw (g.events, is) (tells-from k g.rules w.tell g.tells);
        demand3 = rw (g.events, is) (demand3-told k g.rules w.tell g.tells);
      }

-- ---- the names that the entries hand on are whole, read or not
pub name-whole : (part : List ℕ) → IsWhole (unwrap_or (read_name part) zero_name)
unfolding read_name
name-whole part = split (eqb (length part) 48) (λ e. rw e (eqb-true (length part) 48 e)) (λ e. rw e)

-- ---- and the pairs of a fresh module are eight, each word being a number of 32 bits
words-fit : (flags words seconds : List ℕ) → ((i : ℕ) → IsWord (get_or words i 0)) → ((i : ℕ) → IsWord (get_or seconds i 0)) → Each (λ g. AreWords g.words) (pairs_from flags words seconds)
unfolding pairs_from
words-fit [] words seconds h k = each_nil
words-fit (flag ∷ flags) [] seconds h k = each_nil
words-fit (flag ∷ flags) (word ∷ words) [] h k = each_nil
words-fit (flag ∷ flags) (word ∷ words) (second ∷ seconds) h k =
    each-cons (record { grant = h 0; second = k 0 }) (words-fit flags words seconds (λ i. h (suc i)) (λ i. k (suc i)))

pairs-eight : (pairs : Handed) → are_pairs pairs ≡ true → OfWords pairs → Eight (pairs_of pairs)
pairs-eight pairs e h = record { many = pairs-long pairs e; words = words-fit pairs.flags pairs.words pairs.seconds h.words h.seconds }

module _ (before after : Slices) (pairs : Handed) (h : OfWords pairs) where
  fresh-is : can_fresh before.state pairs ≡ true → IsState (fresh (pairs_of pairs))
  unfolding can_fresh
  fresh-is can = state-fresh (pairs_of pairs) (pairs-eight pairs (and_right (eqb (length before.state) state_length) (are_pairs pairs) can) h)

  -- a fresh module that was made, and one that was not
  goes-made : can_fresh before.state pairs ≡ true → {n : ℕ} → FreshEntry before.state pairs n after.state → Goes (begun (fresh (pairs_of pairs)) nobody) after
  goes-made can e = goes-begin (fresh (pairs_of pairs)) (fresh-is can) nobody (tells-fresh (pairs_of pairs)) (e.bytes-are ∙ rw can)

  goes-renewed : (w : Since) → Goes w before → (n : ℕ) → FreshEntry before.state pairs n after.state → Goes (noting (Renewed pairs n) w) after
  unfolding ◌unless◌
  goes-renewed w g n e =
      split (can_fresh before.state pairs)
      (λ can. let z : n ≡ 0 = e.number_is ∙ rw can in rw z (goes-made can e))
      (λ can. let z : n ≡ 1 = e.number_is ∙ rw can in rw z (goes_same g (e.bytes-are ∙ rw can)))

-- ---- a module from an image: one that was made, and one that was not
module _ (before after : Slices) (image : List ℕ) (h : Bytes image) where
  pub goes-restored-done : RestoreEntry before.state image 0 after.state → Goes (begun (Image.restored image) (told_by image)) after
  goes-restored-done e =
      let is : is_image image ≡ true = restore-image e in
      goes-begin (Image.restored image) (image-state image h is) (told_by image) (image-tells image h is) (restore-done e)

  goes-restored : (w : Since) → Goes w before → (n : ℕ) → RestoreEntry before.state image n after.state → Goes (noting (Restored image n) w) after
  unfolding restore_number ◌unless◌ ◌▸◌
  goes-restored w g n e =
      split (eqb (length before.state) state_length)
      (λ l. split (is_image image)
      (λ i. let z : n ≡ 0 = e.number_is ∙ rw (l, i) in rw z (goes-restored-done (subst (λ m. RestoreEntry before.state image m after.state) z e)))
      (λ i. let z : n ≡ 14 = e.number_is ∙ rw (l, i) in rw z (goes_same g (e.bytes-are ∙ rw (l, i)))))
      (λ l. let z : n ≡ 1 = e.number_is ∙ rw l in rw z (goes_same g (e.bytes-are ∙ rw l)))

-- ---- an entry
pub goes_on : {b after : Slices} {entry : Made} (w : Since) → Goes w b → Entered b entry after → Goes (noting entry w) after
goes_on {b} {after} w g (called {fine} {call} {n} fits e) = goes-called w b g fine call n after fits e
goes_on {b} {after} w g (list-called {fine} {s} {claim} {wanted} {n} {r} e) = goes-called w b g fine (ListProcesses s claim wanted (length r.old)) n after (λ q. tt) e.entry
goes_on {b} {after} w g (renewed {pairs} {n} h e) = goes-renewed b after pairs h w g n e
goes_on {b} {after} w g (restored {image} {n} h e) = goes-restored b after image h w g n e

small-on : {b after : Slices} {entry : Made} (w : Since) → Goes w b → Entered b entry after → IsSmall entry
small-on w g (called fits e) = tt
small-on {b} {after} w g (list-called {fine} {s} {claim} {wanted} {n} {r} e) = listing-small w b g fine s claim wanted n after.state r e
small-on w g (renewed h e) = tt
small-on w g (restored h e) = tt

-- entries one after another
lent_by : {b last : Slices} {entries : List Made} (w : Since) → Goes w b → Chain b entries last → Lent w entries last
unfolding since
lent_by {b} w g none = record { holds = goes-holds w b g; listings = each_nil }
lent_by w g (then {entry = entry} e k) =
    let rest = lent_by (noting entry w) (goes_on w g e) k in
    record { holds = rest.holds; listings = each-cons (small-on w g e) rest.listings }

-- from any slice that holds a state, whoever wrote it, and whatever was told of that state
pub lent-held : (b : Slices) → Bytes b.state → holds_state b.state ≡ true → (tell : Name → Life) → Tells tell (state_of b.state) → {entries : List Made} {last : Slices} → Chain b entries last → Lent (begun (state_of b.state) tell) entries last
lent-held b g h tell t k =
    lent_by (begun (state_of b.state) tell) (goes-begin (state_of b.state) (holds-is b.state h g) tell t (sym (one_form b.state h g))) k

-- from a fresh module on
pub goes-fresh : {before after : Slices} {pairs : Handed} → OfWords pairs → FreshEntry before.state pairs 0 after.state → Goes (begun (fresh (pairs_of pairs)) nobody) after
unfolding ◌unless◌
goes-fresh {before} {after} {pairs} h e =
    split (can_fresh before.state pairs)
    (λ can. goes-made before after pairs h can e)
    (λ can. let z : 0 ≡ 1 = e.number_is ∙ rw can in absurd (omega arith))

pub lent-made : {before after : Slices} {pairs : Handed} → OfWords pairs → FreshEntry before.state pairs 0 after.state → {entries : List Made} {last : Slices} → Chain after entries last → Lent (begun (fresh (pairs_of pairs)) nobody) entries last
lent-made {before} {after} {pairs} h e k = lent_by (begun (fresh (pairs_of pairs)) nobody) (goes-fresh {before = before} {after = after} h e) k

-- from a module that was restored on: "Demand 3 from then on counts from the number in the image"
pub lent-restored : {before after : Slices} {image : List ℕ} → Bytes image → RestoreEntry before.state image 0 after.state → {entries : List Made} {last : Slices} → Chain after entries last → Lent (begun (Image.restored image) (told_by image)) entries last
lent-restored {before} {after} {image} h e k = lent_by (begun (Image.restored image) (told_by image)) (goes-restored-done before after image h e) k

-- and from what a rescue wrote, restored into any slice of a state's length
pub lent-rescued : {bytes old new : List ℕ} {cleared kept dropped long cleared₁ kept₁ dropped₁ : ℕ} → Bytes bytes → RescueEntry bytes old cleared kept dropped 0 new long cleared₁ kept₁ dropped₁
    → {before after : Slices} {number : ℕ} → length before.state ≡ state_length → RestoreEntry before.state (take long new) number after.state
    → {entries : List Made} {last : Slices} → Chain after entries last → Lent (begun (Image.restored (take long new)) (told_by (take long new))) entries last
lent-rescued {new = new} {long = long} g v {before} {after} l r k =
    let done : RestoreEntry before.state (take long new) 0 after.state = rw (entry-restored v g refl l r) at r in
    lent-restored {before = before} {after = after} (entry-bytes v g refl) done k

-- ---- a module from the image of what entries left, in whatever slice
pub goes-again : (w : Since) {last slices after : Slices} {image : List ℕ} → IsState (state_of last.state) → Holds w last → Bytes image → image ≡ state_image (state_of last.state) → RestoreEntry slices.state image 0 after.state → Goes (cycled_since w) after
goes-again w {last} {slices} {after} {image} v h g is r =
    let i : IsImageOf w image = image-of w {last = last} v h is in
    let made : IsState (Image.restored image) = image-state image g i.accepted in
    let tell : Name → Life = (cycled_since w).tell in
    let tells : Tells tell (Image.restored image) = look-tells (Image.restored image) made.rules tell (λ n. sym (i.tells n) ∙ ap (look n) (sym (stands-is image))) in
    subst (λ first. Goes (begun first tell) after) i.restored (goes-begin (Image.restored image) made tell tells (restore-done r))

-- through a power cycle: entries, the image of what they left, a module from it in whatever slice, and entries again. They go on from what was told, cut there:
-- of a process that was saved, none of the numbers that were accepted before is accepted again
pub lent-through : (w : Since) {last before after : Slices} {old new : List ℕ} {long : ℕ} → Bytes last.state → Holds w last → Bytes new → ImageEntry last.state old 0 new long → RestoreEntry before.state (take long new) 0 after.state → {entries : List Made} {end : Slices} → Chain after entries end → Lent (cycled_since w) entries end
lent-through w {last} {before} {after} {old} {new} {long} g h b e r k =
    let v : IsState (state_of last.state) = holds-is last.state h.holds g in
    lent_by (cycled_since w) (goes-again w {last = last} {slices = before} {after = after} v h (bytes_take long new b) (image-written e v) r) k
