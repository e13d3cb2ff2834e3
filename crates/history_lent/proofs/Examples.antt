-- Entries followed by hand: the definitions compute, and what the theorems ask is met.
-- Assumes nothing.
use Prim.Native.Nat.{ℕ, zero, suc}
use mathlib.Core.Path.{◌≡◌, refl, sym, subst, ◌∙◌}
use mathlib.Core.Bool.{Bool, true, false, cond}
use mathlib.Core.List.{List, [], ◌∷◌, ◌++◌, map}
use native.Mathlib.Omega.{arith}
use lib.Dec.{eqb, ltb}
use lib.ListN.{length, get_or, take, replicate, length-map}
use borrow.Author.Tests.{ltb-true, le-ltb, eq-eqb}
use Rattle.lists.specs.Each.{Each, each_nil, each-cons}
use Rattle.lists.proofs.Tests.{split, and_left, and_right}
use Rattle.lists.specs.Lists.{select}
use Rattle.lists.proofs.Lists.{length-select}
use Rattle.rows.specs.Bytes.{Bytes}
use Rattle.rows.specs.Rows.{every, over}
use Rattle.names.specs.Names.{zero_name}
use Rattle.names.specs.declared.Name.{Name}
use Rattle.module_state.specs.Module.{both_words, no_words}
use Rattle.module_state.specs.Numbers.{◌when◌, ◌unless◌, ◌▸◌}
use Rattle.module_state.specs.declared.Claim.TheVariants.{Elevated}
use Rattle.module_state.specs.declared.State.{State}
use Rattle.calls.specs.Calls.{Call, Open, Elevate, Start, ListProcesses, number, fresh}
use Rattle.calls.specs.Run.{step, run, numbers}
use Rattle.calls.specs.declared.Wanted.TheVariants.{Every}
use Rattle.calls.proofs.Sequences.{P, Q, session, credential, Step, calls_of, Answered, after}
use Rattle.module_rules.specs.Facts.{processes, IsWord, AreWords, IsState}
use Rattle.state_layout.specs.Layout.{state_length, state_bytes}
use Rattle.entries_call.specs.CallEntry.{entry_number, entry_bytes}
use Rattle.entries_arguments.specs.Arguments.{Handed, handed, pairs_of}
use Rattle.entries_unprotected.specs.Fresh.{can_fresh}
use Rattle.history.specs.Lives.{Life, Live, Gone, told, nobody}
use Rattle.history.specs.History.{event_of}
use Rattle.history.specs.Fits.{Fits}
use Rattle.history.proofs.Form.{state-step, state-fresh}
use Rattle.image.specs.Image as Image
use Rattle.image.specs.Image.{image_long, is_saved_one, saved_row, saved_of, state_image, image_room, lacks_room}
use Rattle.image.proofs.Laws.{image-state}
use Rattle.history_resumed.specs.Resumed.{told_by}
use Rattle.history_resumed.specs.Changes.{has_saved, touches_image, changes_image, newest}
use Rattle.history_resumed.proofs.Examples.{opened, image, examples, grants, saving, others, resuming, kept-between}
use Rattle.entries_image.specs.Entries.{image_number, ImageEntry, restore_number, RestoreEntry}
use Rattle.history_lent.specs.Lent.{Slices, Response, Made, Called, Listed, Renewed, Restored, Entered, called, renewed, restored, Chain, none, then, Since, begun, since}
use Rattle.history_lent.specs.Hosted.{Happening, Enters, PowerCycle, Hosted, none, unwritten, written, cycled, since_all}
use Rattle.history_lent.proofs.Images.{image-written}
use Rattle.history_lent.proofs.Theorems.{held, back, fine-number, fine-bytes}

-- the slices that a host lends whose state's is this one
abbrev lends : List ℕ → Slices
lends slice = record { state = slice }

-- and the slices with a state in its form
abbrev lent : State → Slices
lent st = lends (state_bytes st)

abbrev opening : Call
opening = Open (record { 0 = 0 })

abbrev raising : Call
raising = Elevate (record { 0 = 0 }) (record { 0 = 0 }) zero_name false

abbrev starting : Call
starting = Start (record { 0 = 0 }) (record { 0 = 0 }) zero_name

abbrev response : Response
response = record { old = 7 ∷ 7 ∷ []; new = 7 ∷ 7 ∷ []; length = 0 }

-- an open; an elevation whose verdict is no flag; a fresh module whose flags are too few; a module from bytes that are no image; a start; a listing
abbrev refused_in_the_middle : List Made
refused_in_the_middle =
    Called true opening 0
    ∷ Called false raising 1
    ∷ Renewed (handed (1 ∷ []) [] []) 1
    ∷ Restored (1 ∷ []) 14
    ∷ Called true starting 3
    ∷ Listed true (record { 0 = 0 }) Elevated Every 3 response
    ∷ []

-- three calls were made, with the numbers that their entries answered
three-calls : (w : Since) → (since (begun w.first w.tell) refused_in_the_middle).events ≡ event_of opening 0 ∷ event_of starting 3 ∷ event_of (ListProcesses (record { 0 = 0 }) Elevated Every 2) 3 ∷ []
unfolding since
three-calls w = refl

-- a fresh module in the middle: what was before it is no more told
begins-anew : (w : Since) (pairs : Handed) → since w (Called true opening 0 ∷ Renewed pairs 0 ∷ Called true starting 2 ∷ []) ≡ record { first = fresh (pairs_of pairs); tell = nobody; calls = starting ∷ []; events = event_of starting 2 ∷ [] }
unfolding since
begins-anew w pairs = refl

-- a module from an image: what the image tells is told
begins-from : (w : Since) (image : List ℕ) → since w (Called true opening 0 ∷ Restored image 0 ∷ Called true starting 2 ∷ []) ≡ record { first = Image.restored image; tell = told_by image; calls = starting ∷ []; events = event_of starting 2 ∷ [] }
unfolding since
begins-from w image = refl

-- ---- there are such chains: a fresh module of eight pairs, the words as large as can be, in whatever slice, and an open
abbrev words : List ℕ
words = replicate 8 4294967295

abbrev pairs : Handed
pairs = handed (replicate 8 1) words words

word_small : (i : ℕ) → IsWord (get_or words i 0)
word_small i = small i 8
  where
    small : (i n : ℕ) → IsWord (get_or (replicate n 4294967295) i 0)
    small i zero = omega arith
    small zero (suc n) = omega arith
    small (suc i) (suc n) = small i n

chain : (slice : List ℕ) → Chain (lends slice) (Renewed pairs (1 unless can_fresh slice pairs) ∷ Called true opening (entry_number true (cond (can_fresh slice pairs) (state_bytes (fresh (pairs_of pairs))) slice) opening) ∷ []) (lends (entry_bytes true (cond (can_fresh slice pairs) (state_bytes (fresh (pairs_of pairs))) slice) opening))
chain slice =
    then {after = lends (cond (can_fresh slice pairs) (state_bytes (fresh (pairs_of pairs))) slice)} (renewed (record { words = word_small; seconds = word_small }) (record { number_is = refl; bytes-are = refl }))
    (then (called (λ e. tt) (record { number_is = refl; bytes-are = refl })) none)

-- and a module from an image, one without credentials and rows, in whatever slice, and an open
abbrev empty : List ℕ
empty = 0 ∷ 0 ∷ 8 ∷ 0 ∷ 10 ∷ 0 ∷ 0 ∷ 0 ∷ 42 ∷ 0 ∷ replicate 32 0

bytes-by : (l : List ℕ) → every (λ x. ltb x 256) l ≡ true → Bytes l
unfolding every
bytes-by [] e i = omega arith
bytes-by (x ∷ l) e zero = ltb-true x 256 (and_left (ltb x 256) _ e)
bytes-by (x ∷ l) e (suc i) = bytes-by l (and_right (ltb x 256) _ e) i

empty-bytes : Bytes empty
unfolding every
empty-bytes = bytes-by empty refl

abbrev left : List ℕ → List ℕ
left slice = cond (eqb (restore_number slice empty) 0) (state_bytes (Image.restored empty)) slice

chain-restored : (slice : List ℕ) → Chain (lends slice) (Restored empty (restore_number slice empty) ∷ Called true opening (entry_number true (left slice) opening) ∷ []) (lends (entry_bytes true (left slice) opening))
chain-restored slice =
    then {after = lends (left slice)} (restored empty-bytes (record { number_is = refl; bytes-are = refl }))
    (then (called (λ e. tt) (record { number_is = refl; bytes-are = refl })) none)

-- ---- a host that writes an image after each call that changes it, in a buffer that is long enough for every one
abbrev buffer : List ℕ
buffer = replicate 698 0

module _ (st : State) (v : IsState st) where
  called_on : {call : Call} {n : ℕ} → Fits call → number st call ≡ n → Entered (lent st) (Called true call n) (lent (step st call))
  called_on {call} fits e = called (λ q. fits) (record { number_is = sym (fine-number st v call ∙ e); bytes-are = sym (fine-bytes st v call) })

  room-enough : lacks_room st (length buffer) ≡ false
  unfolding lacks_room image_room image_long saved_of
  room-enough = le-ltb (length buffer) (image_room st) (omega (arith, length-map (select is_saved_one (processes st)) saved_row, length-select is_saved_one (processes st), v.rules.few))

  number-done : image_number (state_bytes st) (length buffer) ≡ 0
  unfolding image_number ◌when◌ ◌unless◌ ◌▸◌
  number-done = rw (held st v, back st v, room-enough)

  image-on : ImageEntry (state_bytes st) buffer 0 (over 0 (image_room st) (state_image st) buffer) (image_room st)
  image-on = record { number_is = sym number-done; image-is = rw (number-done, back st v); length-is = rw (number-done, back st v) }

  image-there : take (image_room st) (over 0 (image_room st) (state_image st) buffer) ≡ state_image st
  image-there = rw (back st v) at (image-written image-on (rw (back st v) v))

abbrev entering : Step → Happening
entering s = Enters (Called true s.call s.answer)

host : (st : State) → IsState st → (steps : List Step) → Each (λ s. Fits s.call) steps → Answered st steps → {image end : List ℕ} {last : Slices} {rest : List Happening} → Hosted (lent (after st steps)) (newest image st (calls_of steps)) rest last end → Hosted (lent st) image (map entering steps ++ rest) last end
unfolding run numbers newest
host st v [] fits e k = k
host st v (s ∷ steps) (each-cons f fits) e {image} {end} {last} {rest} k =
    let number_is : number st s.call ≡ s.answer = cc in
    let more : Answered (step st s.call) steps = cc in
    let next : State = step st s.call in
    let is : IsState next = state-step st s.call f v in
    let entered : Entered (lent st) (Called true s.call s.answer) (lent next) = called_on st v f number_is in
    let go : (b : Bool) → changes_image st s.call (number st s.call) ≡ b → Hosted (lent next) (cond b (state_image next) image) (map entering steps ++ rest) last end =
    λ b c. host next is steps fits more (subst (λ x. Hosted (lent (after next steps)) (newest (cond x (state_image next) image) next (calls_of steps)) rest last end) c k)
    in
    split (changes_image st s.call (number st s.call))
    (λ c. written entered (image-on next is) (subst (λ l. Hosted (lent next) l (map entering steps ++ rest) last end) (sym (image-there next is)) (go true c)))
    (λ c. unwritten entered (rw (back st v, ← number_is) c) (go false c))

-- P is started, counts a record and one that is refused after its claim, and is saved, which is written. Other calls change nothing of that; the power goes; a module is
-- made from it in whatever slice of that length, and P goes on: 2 is refused with 9, and 3 is accepted
abbrev lived : List Happening
lived = map entering (saving ++ others) ++ (PowerCycle ∷ (map entering resuming ++ []))

grants-state : IsState (fresh grants)
grants-state =
    let word : (n : ℕ) → IsWord n → AreWords (both_words n 0) = λ n h. record { grant = h; second = omega arith } in
    let zero_word : AreWords no_words = word 0 (omega arith) in
    state-fresh grants (record { many = refl; words = each-cons (word 31 (omega arith)) (each-cons zero_word (each-cons zero_word (each-cons zero_word (each-cons zero_word (each-cons zero_word (each-cons zero_word (each-cons zero_word each_nil))))))) })

before-fit : Each (λ s. Fits s.call) (saving ++ others)
before-fit =
    each-cons tt (each-cons tt (each-cons refl (each-cons tt (each-cons tt (each-cons tt
    (each-cons refl (each-cons tt (each-cons tt (each-cons tt (each-cons refl (each-cons tt (each-cons refl (each-cons refl (each-cons refl (each-cons tt (each-cons tt each_nil))))))))))))))))

again-fit : Each (λ s. Fits s.call) resuming
again-fit = each-cons tt (each-cons tt (each-cons refl (each-cons tt (each-cons tt each_nil))))

image-bytes : Bytes image
unfolding every
image-bytes = bytes-by image refl

restore-on : (slice : List ℕ) → length slice ≡ state_length → RestoreEntry slice image 0 (state_bytes (Image.restored image))
unfolding restore_number ◌unless◌ ◌▸◌
restore-on slice e =
    let long : eqb (length slice) state_length ≡ true = eq-eqb (length slice) state_length e in
    record { number_is = rw (long, examples.accepted-is); bytes-are = rw (long, examples.accepted-is) }

-- the flash's image in the end: P was continued, so it has no row
abbrev rowless : List ℕ
rowless = (1 ∷ 0 ∷ 8 ∷ 0 ∷ 10 ∷ 0 ∷ 0 ∷ 0 ∷ 74 ∷ 0 ∷ []) ++ ((31 ∷ 0 ∷ 0 ∷ 0 ∷ []) ++ replicate 60 0)

abbrev end : Slices
end = lent (after (Image.restored image) resuming)

resumed-hosted : Hosted (lent (Image.restored image)) image (map entering resuming ++ []) end rowless
unfolding opened has_saved touches_image newest
resumed-hosted = host (Image.restored image) (image-state image image-bytes examples.accepted-is) resuming again-fit kept-between.goes_on none

pub lived-hosted : (slice : List ℕ) → length slice ≡ state_length → Hosted (lent (fresh grants)) (state_image (fresh grants)) lived end rowless
lived-hosted slice e =
    host (fresh grants) grants-state (saving ++ others) before-fit kept-between.numbers-are
    (rw kept-between.newest-is (cycled {slices = lends slice} image-bytes (restore-on slice e) resumed-hosted))

-- what is then told: of P every number since its start, of Q nothing
abbrev told_then : Name → Life
told_then name = told (since_all (begun (fresh grants) nobody) lived).tell (since_all (begun (fresh grants) nobody) lived).events name

pub lived-told : (told_then P ≡ Live (session 0) (credential 0) (3 ∷ 2 ∷ 1 ∷ 0 ∷ [])) × (told_then Q ≡ Gone)
unfolding opened since_all
lived-told = (refl, refl)
