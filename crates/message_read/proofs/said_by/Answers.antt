use mathlib.Core.Path.{◌≡◌, sym, ap, ◌∙◌}
use mathlib.Core.Bool.{true, false}
use Rattle.std.specs.Prelude.{is_err}
use Rattle.message_read.proofs.Rules.{inside, Taken, bare-refused, values-refused, short-refused, rest-refused, message-taken}
use Rattle.message_read.proofs.said_by.Goals.{in-Ok, in-Ok-2}
use Rattle.message_read.proofs.said_by.Goals as goal

pub returns-in_err-behind : goal.returns-in_err-behind
returns-in_err-behind c = bare-refused c.args.message.now c.in_err-behind.ensures.lookup.0 c.from_residual.ensures

pub returns-in_err-rest : goal.returns-in_err-rest
returns-in_err-rest c =
    let taken : Taken c.shape_in-shape.result c.in_ok-behind.behind.now c.match-said.said c.match-said.long =
    elim c.match-said.branch [ in-Ok w ↦ (cc, w.long-is ∙ sym (ap inside w.said-is)) | in-Ok-2 w ↦ (cc, w.long-is ∙ sym (ap inside w.said-is)) ] in
    short-refused c.args.message.now c.in_ok-behind.ensures.lookup.0.0 c.in_ok-behind.ensures.lookup.0.2 c.shape_in-shape.ensures taken
    c.in_err-rest.ensures.lookup.0 c.from_residual-in_err-rest.ensures

pub returns-then-is_err : goal.returns-then-is_err
returns-then-is_err c =
    let taken : Taken c.shape_in-shape.result c.in_ok-behind.behind.now c.match-said.said c.match-said.long =
    elim c.match-said.branch [ in-Ok w ↦ (cc, w.long-is ∙ sym (ap inside w.said-is)) | in-Ok-2 w ↦ (cc, w.long-is ∙ sym (ap inside w.said-is)) ] in
    let denied : is_err c.match-said.said ≡ true = cc in
    values-refused c.args.message.now c.in_ok-behind.ensures.lookup.0.0 c.in_ok-behind.ensures.lookup.0.2 c.shape_in-shape.ensures taken denied

pub returns-then-not-fits_rest : goal.returns-then-not-fits_rest
returns-then-not-fits_rest c =
    let taken : Taken c.shape_in-shape.result c.in_ok-behind.behind.now c.match-said.said c.match-said.long =
    elim c.match-said.branch [ in-Ok w ↦ (cc, w.long-is ∙ sym (ap inside w.said-is)) | in-Ok-2 w ↦ (cc, w.long-is ∙ sym (ap inside w.said-is)) ] in
    let granted : is_err c.match-said.said ≡ false = cc in
    rest-refused c.args.message.now c.in_ok-behind.ensures.lookup.0.0 c.in_ok-behind.ensures.lookup.0.2 c.shape_in-shape.ensures taken granted
    c.in_ok-rest.ensures.lookup.0.0 c.in_ok-rest.ensures.lookup.0.2 c.rest_of.ensures c.fits_rest.ensures c.if-not-fits_rest.true

pub returns : goal.returns
returns c =
    let taken : Taken c.shape_in-shape.result c.in_ok-behind.behind.now c.match-said.said c.match-said.long =
    elim c.match-said.branch [ in-Ok w ↦ (cc, w.long-is ∙ sym (ap inside w.said-is)) | in-Ok-2 w ↦ (cc, w.long-is ∙ sym (ap inside w.said-is)) ] in
    let granted : is_err c.match-said.said ≡ false = cc in
    message-taken c.args.message.now c.in_ok-behind.ensures.lookup.0.0 c.in_ok-behind.ensures.lookup.0.2 c.shape_in-shape.ensures taken granted
    c.in_ok-rest.ensures.lookup.0.0 c.in_ok-rest.ensures.lookup.0.2 c.rest_of.ensures c.fits_rest.ensures c.if-not-fits_rest.false
