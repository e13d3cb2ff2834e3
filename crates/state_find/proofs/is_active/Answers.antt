use Rattle.std.proofs.Common.{eqb-true, sym, ◌∙◌}
use Rattle.state_find.proofs.Rules.{active-no-user, active-elsewhere, active-user}
use Rattle.state_find.proofs.is_active.Goals.{then-place-eq-USER_TYPE, else-place-eq-USER_TYPE}
use Rattle.state_find.proofs.is_active.Goals as goal

pub returns-then-place-s : goal.returns-then-place-s
returns-then-place-s c =
    elim c.if-place-eq-USER_TYPE.branch [
      | then-place-eq-USER_TYPE w ↦ active-user c.args.place.now c.in-UserOf.is w.if-place-eq-USER_TYPE.true (sym w.value-is ∙ c.if-place-s.true) c.from.ensures
      | else-place-eq-USER_TYPE w ↦ absurd (w.if-place-eq-USER_TYPE.false (eqb-true _ _ (sym w.value-is ∙ c.if-place-s.true)))
    ]

pub returns-else-place-s : goal.returns-else-place-s
returns-else-place-s c =
    c.if-place-s.false
    ∙ elim c.if-place-eq-USER_TYPE.branch [
      | then-place-eq-USER_TYPE w ↦ active-elsewhere c.args.place.now c.in-UserOf.is w.if-place-eq-USER_TYPE.true (sym w.value-is ∙ c.if-place-s.false)
      | else-place-eq-USER_TYPE w ↦ active-no-user c.args.place.now c.in-UserOf.is (sym w.value-is ∙ c.if-place-s.false)
    ]
