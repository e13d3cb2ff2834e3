use mathlib.Core.Path.{◌∙◌, sym}
use Rattle.state_fields.proofs.Rules.{fit_free, fit-owners}
use Rattle.state_fields.proofs.all_fit.Goals.{then-rest_is_free, else-rest_is_free}
use Rattle.state_fields.proofs.all_fit.Goals as goal

pub returns-else-owners_fit : goal.returns-else-owners_fit
returns-else-owners_fit c =
    elim c.if-rest_is_free.branch [
      | then-rest_is_free w ↦ w.value-is ∙ fit-owners c.args.s.now c.rest_is_free.ensures w.if-rest_is_free.true w.owners_fit.ensures (sym w.value-is ∙ c.if-owners_fit.false)
      | else-rest_is_free w ↦ w.value-is ∙ fit_free c.args.s.now c.rest_is_free.ensures w.if-rest_is_free.false
    ]
