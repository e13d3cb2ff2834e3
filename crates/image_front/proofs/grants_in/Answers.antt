use Rattle.module_state.specs.Module.{unprovisioned}
use Rattle.image.specs.Image.{grant_in}
use Rattle.image_front.proofs.Rules.{rules}
use Rattle.image_front.proofs.Rows.{mapped}
use Rattle.image_front.proofs.grants_in.Goals as goal

pub returns : goal.returns
unfolding grant_in
returns c = mapped _ _ grant_in c.args.l unprovisioned (λ x y f k. search rules) (search rules) c.map.ensures.items
