use Rattle.store_test.proofs.Rules.{rules}
use Rattle.store_test.proofs.parts_fit.Goals.{then-store-le-SET_FLAG, else-store-le-SET_FLAG}
use Rattle.store_test.proofs.parts_fit.Goals as goal

pub returns-then-heads_fit : goal.returns-then-heads_fit
returns-then-heads_fit c =
    elim c.if-store-le-SET_FLAG.branch [ then-store-le-SET_FLAG w ↦ search rules | else-store-le-SET_FLAG w ↦ search rules ]

pub returns-else-heads_fit : goal.returns-else-heads_fit
returns-else-heads_fit c =
    elim c.if-store-le-SET_FLAG.branch [ then-store-le-SET_FLAG w ↦ search rules | else-store-le-SET_FLAG w ↦ search rules ]
