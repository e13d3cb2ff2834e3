-- Each operation on what the module holds keeps demand 3's rules.
-- Assumes nothing.
use Prim.Native.Nat.{ℕ, ◌≤◌, ◌<◌}
use mathlib.Core.Path.{◌≡◌, refl, ap, ◌∙◌}
use mathlib.Core.Bool.{Bool, true, false}
use mathlib.Core.List.{List, [], ◌∷◌, ◌++◌}
use native.Mathlib.Omega.{arith}
use borrow.Author.Tests.{eqb-true}
use lib.Dec.{eqb}
use lib.ListN.{length, set, length-append, length-set}
use lib.Seq.{get_or-set_other}
use Rattle.lists.specs.Each.{Each, each_nil, Pairs, pairs-nil}
use Rattle.lists.specs.Lists.{reject, remove_at}
use Rattle.lists.proofs.Tests.{split, clash}
use Rattle.lists.proofs.Lists.{length-remove, length-reject}
use Rattle.lists.proofs.Each.{passes-set, each-imp, each-imp₂, each_append, each-remove, each_set, each-reject, pairs-append, pairs-remove, pairs-reject, pairs_set}
use Rattle.names.specs.declared.Credential.{Credential}
use Rattle.names.specs.declared.Session.{Session}
use Rattle.table.specs.Table.{places, table_of, is_active_in}
use Rattle.table.specs.declared.Process.{Process}
use Rattle.table.proofs.Laws.{standing-of}
use Rattle.module_state.specs.Module.{closed_session, phase_of, is_chosen, unprovisioned, provisioned}
use Rattle.module_state.specs.declared.Grants.{Grants}
use Rattle.module_state.specs.declared.Phase.{Phase}
use Rattle.module_state.specs.declared.Phase.TheVariants.{Chosen}
use Rattle.module_state.specs.declared.SessionState.{SessionState}
use Rattle.module_state.specs.declared.State.{State}
use Rattle.calls.specs.Calls.{with_table, with_phase, with_grants, fresh}
use Rattle.module_rules.specs.Facts.{processes, is_running, Owned, Apart, Rules}
use Rattle.module_rules.proofs.Laws.{apart-turn, active-in}

-- ---- the processes
module _ (st : State) where
  rules-table : (l : List Process) → length l ≤ places → Each (Owned st) l → Pairs Apart l → Rules (with_table st (table_of l))
  unfolding provisioned phase_of
  rules-table l few each pairs =
      record {
        few = rw (standing-of l) few;
        each = rw (standing-of l) (each-imp (λ p o. record { owner = o.owner; seated = o.seated }) each);
        pairs = rw (standing-of l) pairs;
      }

  pub rules-append : Rules st → (y : Process) → length (processes st) < places → Owned st y → Each (λ x. Apart x y) (processes st) → Rules (with_table st (table_of (processes st ++ (y ∷ []))))
  rules-append v y h o a =
      rules-table (processes st ++ (y ∷ [])) (simp length-append (omega arith)) (each_append y v.each o) (pairs-append y v.pairs a)

  pub rules-set : Rules st → (i : ℕ) (y : Process) → i < length (processes st) → Owned st y → Each (λ x. Apart x y) (remove_at i (processes st)) → Rules (with_table st (table_of (set (processes st) i y)))
  rules-set v i y h o a =
      rules-table (set (processes st) i y) (rw length-set v.few) (each_set i y v.each o) (pairs_set apart-turn i y h v.pairs a)

  pub rules-remove : Rules st → (i : ℕ) → i < length (processes st) → Rules (with_table st (table_of (remove_at i (processes st))))
  rules-remove v i h =
      rules-table (remove_at i (processes st)) (omega (arith, length-remove i (processes st) h, v.few)) (each-remove i h v.each) (pairs-remove i h v.pairs)

  pub rules-reject : Rules st → (f : Process → Bool) → Rules (with_table st (table_of (reject f (processes st))))
  rules-reject v f =
      rules-table (reject f (processes st)) (omega (arith, length-reject f (processes st), v.few)) (each-reject f v.each) (pairs-reject f v.pairs)

-- ---- the sessions and the credentials
module _ (st : State) (v : Rules st) where
  -- a session in which no process is active
  pub rules-idle : (s : Session) (phase : Phase) → Each (λ p. is_active_in s p ≡ false) (processes st) → Rules (with_phase st s phase)
  unfolding provisioned phase_of
  rules-idle s phase idle = record { few = v.few; each = each-imp₂ other v.each idle; pairs = v.pairs }
    where
      elsewhere : (p : Process) → is_running p.kind ≡ true → is_active_in s p ≡ false → p.session.0 ≡ s.0 → ⊥
      elsewhere p k e q = clash (active-in s p k q) e

      other : (p : Process) → Owned st p → is_active_in s p ≡ false → Owned (with_phase st s phase) p
      other p o e =
          record {
            owner = o.owner;
            seated = λ k. ap (λ (x : SessionState). is_chosen x.phase) (get_or-set_other st.sessions s.0 p.session.0 (record { phase = phase }) closed_session (elsewhere p k e)) ∙ o.seated k;
          }

  -- one for which a version is chosen
  pub rules-chosen : (s : Session) → Rules (with_phase st s Chosen)
  unfolding provisioned phase_of is_chosen
  rules-chosen s = record { few = v.few; each = each-imp chosen v.each; pairs = v.pairs }
    where
      chosen : (p : Process) → Owned st p → Owned (with_phase st s Chosen) p
      chosen p o =
          record {
            owner = o.owner;
            seated = λ k. passes-set (λ (x : SessionState). is_chosen x.phase) st.sessions s.0 p.session.0 closed_session (record { phase = Chosen }) refl (o.seated k);
          }

  -- a credential's grants, where they are a provisioned one's
  pub rules-grants : (c : Credential) (g : Grants) → g.provisioned ≡ true → Rules (with_grants st c g)
  unfolding provisioned phase_of
  rules-grants c g still = record { few = v.few; each = each-imp stays v.each; pairs = v.pairs }
    where
      stays : (p : Process) → Owned st p → Owned (with_grants st c g) p
      stays p o =
          record {
            owner = passes-set (λ (g : Grants). g.provisioned) st.credentials c.0 p.credential.0 unprovisioned g still o.owner;
            seated = o.seated;
          }

  -- no process is active in a session for which no version is chosen
  pub idle : (s : Session) → is_chosen (phase_of st s) ≡ false → Each (λ p. is_active_in s p ≡ false) (processes st)
  unfolding is_active_in phase_of
  idle s e = each-imp free v.each
    where
      free : (p : Process) → Owned st p → is_active_in s p ≡ false
      free p o =
          split (is_running p.kind)
          (λ k. split (eqb p.session.0 s.0) (λ q. clash (rw (eqb-true p.session.0 s.0 q) at (o.seated k)) e) (λ q. rw (k, q)))
          (λ k. rw k)

-- ---- a fresh module has no process
pub rules-fresh : (pairs : List Grants) → Rules (fresh pairs)
unfolding fresh
rules-fresh pairs = rules-table (fresh pairs) [] (omega arith) each_nil pairs-nil
