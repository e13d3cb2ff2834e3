-- Demand 3 from an image, and through a power cycle.
-- Assumes nothing.
use Prim.Native.Nat.{ℕ, ◌≤◌, ◌<◌}
use mathlib.Core.Path.{◌≡◌, refl, sym, ap, subst, ◌∙◌}
use mathlib.Core.Bool.{Bool, true, false, cond, not}
use mathlib.Core.List.{List, [], map}
use native.Mathlib.Omega.{arith}
use lib.ListN.{length}
use Rattle.lists.specs.Each.{Each, each_nil}
use Rattle.lists.specs.Lists.{select, reject}
use Rattle.lists.proofs.Lists.{length-reject}
use Rattle.lists.proofs.Tests.{clash}
use Rattle.lists.proofs.Each.{each-imp, each-imp₂, each_all, each-reject, each_left, pairs-imp, pairs-reject}
use Rattle.rows.specs.Bytes.{Bytes}
use Rattle.rows.specs.Rows.{rows}
use Rattle.names.specs.declared.Credential.{Credential}
use Rattle.names.specs.declared.Kind.{Kind}
use Rattle.names.specs.declared.Kind.TheVariants.{User, Elevation, Saved}
use Rattle.names.specs.declared.Name.{Name}
use Rattle.names.specs.declared.Session.{Session}
use Rattle.table.specs.Table.{is_saved}
use Rattle.table.specs.declared.Active.TheVariants.{UserOf}
use Rattle.table.specs.declared.Process.{Process}
use Rattle.table.proofs.Laws.{standing-of}
use Rattle.module_state.specs.Module.{provisioned, active_process}
use Rattle.module_state.specs.Claim.{admitted}
use Rattle.module_state.specs.declared.Claim.TheVariants.{ByUser}
use Rattle.module_state.specs.declared.Grants.{Grants}
use Rattle.module_state.specs.declared.State.{State}
use Rattle.module_state.specs.declared.UserClaim.{UserClaim}
use Rattle.calls.specs.Calls.{Call, fresh}
use Rattle.calls.specs.Run.{run}
use Rattle.module_rules.specs.Facts.{processes, is_running, Owned, Rules, IsState}
use Rattle.history.specs.Lives.{Life, Gone, Live, Raised, SavedBy, passed, count, follow, told, nobody, down}
use Rattle.history.specs.History.{history}
use Rattle.history.specs.Demand.{life, life_of, look, Tells}
use Rattle.history.specs.Since.{is_new, Demand3From, IsClaimFrom}
use Rattle.history.specs.Fits.{Fits, Eight}
use Rattle.history.proofs.Looked.{look-reject}
use Rattle.history.proofs.Form.{state-run, state-fresh}
use Rattle.history.proofs.Told.{live-not-gone, length-down, down-below, tells-look, look-tells}
use Rattle.history.proofs.Calls.{steps}
use Rattle.history.proofs.Since.{follow-gone}
use Rattle.history.proofs.Theorems.{tells-from, in-turn-from, demand3-told, claim-told-from}
use Rattle.image.specs.declared.SavedRow.{SavedRow}
use Rattle.image.specs.Image.{Image, is_saved_one, saved_of, saved_in, image_in, saved_process, is_image, restored, cycled, image_of, state_image}
use Rattle.image_damaged.specs.Rescue.{is_usable, rescued}
use Rattle.image.proofs.Rows.{select-reject}
use Rattle.image.proofs.Laws.{each_map, each-unmap, stands-is, image-bytes, image-back, image-state, state-fit, state-image, state-restored, stands-cycled}
use Rattle.image_damaged.proofs.Laws.{rescued-accepted, rescued-bytes}
use Rattle.history_resumed.specs.Resumed.{told_by, FromImage, cut}

-- ---- no history comes to a saved process at next number 0: "a save has counted one"
pub counted-from : (first : State) → IsState first → (calls : List Call) → Each Fits calls → Each (λ p. p.kind ≡ Saved → 1 ≤ p.next) (processes (run first calls))
counted-from first v calls w = each-imp (λ p f. f.counted) (state-run first calls w v).formed.each

pub saved-counted : (pairs : List Grants) → Eight pairs → (calls : List Call) → Each Fits calls → Each (λ p. p.kind ≡ Saved → 1 ≤ p.next) (processes (run (fresh pairs) calls))
saved-counted pairs eight = counted-from (fresh pairs) (state-fresh pairs eight)

-- ---- what an image tells
tells-by : (b : List ℕ) → Rules (restored b) → Tells (told_by b) (restored b)
tells-by b v = look-tells (restored b) v (told_by b) (λ n. ap (look n) (sym (stands-is b)))

module _ (b : List ℕ) (g : Bytes b) (e : is_image b ≡ true) where
  pub image-tells : Tells (told_by b) (restored b)
  image-tells = tells-by b (image-state b g e).rules

  rows_tell : Each (λ r. told_by b r.name ≡ SavedBy r.owner (down r.next)) (saved_in b)
  unfolding saved_process
  rows_tell = each-unmap saved_process (saved_in b) (subst (λ l. Each (λ p. told_by b p.name ≡ life_of p) l) (stands-is b) image-tells.stands)

  pub from-image : FromImage b
  unfolding passed
  from-image =
      record {
        rows = rows_tell;
        numbers = each-imp (λ p q. rw q (length-down p.next)) rows_tell;
        others = λ n h. image-tells.gone n (rw (stands-is b) (unfold saved_process in each_map saved_process h));
      }

  -- any calls on the module that it makes
  pub image-demand3 : (calls : List Call) → Demand3From (told_by b) (history (restored b) calls) (run (restored b) calls)
  image-demand3 calls = demand3-told (steps (restored b) calls) (image-state b g e).rules (told_by b) image-tells

  pub image-claim : (calls : List Call) (s : Session) (u : UserClaim) → admitted (run (restored b) calls) s (ByUser u) ≡ 0 → IsClaimFrom (told_by b) (history (restored b) calls) s u (active_process (run (restored b) calls) (UserOf s u.credential)).name
  image-claim calls = claim-told-from (steps (restored b) calls) (image-state b g e).rules (told_by b) image-tells

-- ---- order 8: a rescued image is an image, and demand 3 counts from its numbers as from those of any
module _ (b : List ℕ) (g : Bytes b) (u : is_usable b ≡ true) where
  pub rescued-from : FromImage (rescued b)
  rescued-from = from-image (rescued b) (rescued-bytes b g u) (rescued-accepted b g u)

  pub rescued-demand3 : (calls : List Call) → Demand3From (told_by (rescued b)) (history (restored (rescued b)) calls) (run (restored (rescued b)) calls)
  rescued-demand3 = image-demand3 (rescued b) (rescued-bytes b g u) (rescued-accepted b g u)

-- ---- a power cycle
cut-life : (k : Kind) (s : Session) (c : Credential) (n : ℕ) → cut (life k s c n) ≡ cond (not (is_saved k)) Gone (life k s c n)
cut-life User s c n = refl
cut-life Elevation s c n = refl
cut-life Saved s c n = refl

idle : (k : Kind) → not (is_saved k) ≡ false → is_running k ≡ true → ⊥
idle User e h = clash refl e
idle Elevation e h = clash refl e
idle Saved e h = clash h refl

module _ (st : State) (v : IsState st) where
  abbrev is_active_one : Process → Bool
  is_active_one p = not (is_saved_one p)

  stand-cycled : processes (cycled st) ≡ reject is_active_one (processes st)
  stand-cycled = stands-cycled v ∙ select-reject is_saved_one (processes st)

  rules-cycled : Rules (cycled st)
  rules-cycled =
      record {
        few = rw stand-cycled (omega (arith, length-reject is_active_one (processes st), v.rules.few));
        each =
            rw stand-cycled
            (each-imp₂
            (λ p e (o : Owned st p). record { owner = unfold cycled image_of provisioned in o.owner; seated = λ h. absurd (idle p.kind e h) })
            (each_left is_active_one (processes st))
            (each-reject is_active_one v.rules.each));
        pairs = rw stand-cycled (pairs-reject is_active_one v.rules.pairs);
      }

  pub cycled-life : (n : Name) → look n (processes (cycled st)) ≡ cut (look n (processes st))
  cycled-life n =
      rw stand-cycled
      (look-reject n cut refl is_active_one (processes st) (pairs-imp (λ p q a. a.names) v.rules.pairs)
      (each_all (processes st) (λ p. cut-life p.kind p.session p.credential p.next)))

-- what the image of a state tells is what was told of the state, cut there
pub told-cut : (st : State) → IsState st → (tell : Name → Life) → Tells tell st → (name : Name) → told_by (state_image st) name ≡ cut (tell name)
told-cut st v tell tells n =
    ap (look n) (sym (stands-is (state_image st)) ∙ ap (λ (s : State). processes s) (state-restored v))
    ∙ cycled-life st v n
    ∙ ap cut (sym (tells-look tell st tells n))

-- so it is after calls
module _ (first : State) (v : IsState first) (tell : Name → Life) (tells : Tells tell first) (calls : List Call) (w : Each Fits calls) where
  last : IsState (run first calls)
  last = state-run first calls w v

  abbrev image : List ℕ
  image = state_image (run first calls)

  pub told-through : (name : Name) → told_by (state_image (run first calls)) name ≡ cut (told tell (history first calls) name)
  told-through = told-cut (run first calls) last (told tell (history first calls)) (tells-from (steps first calls) v.rules tell tells)

  abbrev again : State
  again = restored image

  rules-again : Rules again
  rules-again = rw (state-restored last) (rules-cycled (run first calls) last)

  module _ (more : List Call) (s : Session) (u : UserClaim) (e : admitted (run again more) s (ByUser u) ≡ 0) where
    abbrev name : Name
    name = (active_process (run again more) (UserOf s u.credential)).name

    after : IsClaimFrom (told_by image) (history again more) s u name
    after = claim-told-from (steps again more) rules-again (told_by image) (tells-by image rules-again) s u e

    module _ (old : is_new (history again more) name ≡ false) where
      not-gone : cut (told tell (history first calls) name) ≡ Gone → ⊥
      not-gone z =
          live-not-gone
          (sym after.claim.is ∙ ap (follow name (history again more)) (told-through name ∙ z) ∙ follow-gone name (steps again more) old)

      above : (is : Life) → told tell (history first calls) name ≡ is → passed is ≡ down (count is) → Each (λ n. n < u.number) (passed is)
      unfolding passed
      above Gone is turn = each_nil
      above (Live t d ns) is turn = absurd (not-gone (rw is))
      above (Raised t d) is turn = each_nil
      above (SavedBy d ns) is turn =
          let low : count (told_by image name) ≤ u.number = after.not-below old in
          let as-saved : told_by image name ≡ SavedBy d ns = told-through name ∙ rw is in
          subst (λ (l : List ℕ). Each (λ n. n < u.number) l) (sym turn) (down-below (length ns) u.number (rw as-saved at low))

      -- so of a process that was saved then, no number that passed before passes after
      pub claim-through : Each (λ n. n < u.number) (passed (told tell (history first calls) name))
      claim-through = above (told tell (history first calls) name) refl (in-turn-from (steps first calls) v.rules tell tells name)

-- ---- a fresh module is the case of an image without rows
module _ (pairs : List Grants) (eight : Eight pairs) where
  abbrev begun : State
  begun = fresh pairs

  none-saved : saved_of begun ≡ []
  unfolding saved_of fresh select
  none-saved = rw (standing-of [])

  fresh-bytes : Bytes (state_image begun)
  unfolding state_image image_of
  fresh-bytes = image-bytes (image_of begun) (rw none-saved each_nil)

  begun-is : IsState begun
  begun-is = state-fresh pairs eight

  fresh-again : restored (state_image begun) ≡ begun
  unfolding cycled image_of fresh
  fresh-again = state-restored begun-is ∙ rw none-saved

  none_in : saved_in (state_image begun) ≡ []
  unfolding state_image image_in image_of
  none_in = ap (λ (i : Image). i.saved) (image-back (state-fit begun-is)) ∙ none-saved

  pub fresh-image : (restored (state_image (fresh pairs)) ≡ fresh pairs) × (saved_in (state_image (fresh pairs)) ≡ [])
  fresh-image = (fresh-again, none_in)

  pub fresh-demand3 : (calls : List Call) → Demand3From nobody (history (fresh pairs) calls) (run (fresh pairs) calls)
  fresh-demand3 calls =
      subst (λ (l : List SavedRow). Demand3From (λ name. look name (map saved_process l)) (history begun calls) (run begun calls)) none_in
      (subst (λ st. Demand3From (told_by (state_image begun)) (history st calls) (run st calls)) fresh-again
      (image-demand3 (state_image begun) fresh-bytes (state-image begun-is) calls))
