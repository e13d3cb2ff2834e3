use Rattle.std.proofs.Common.{ap, ◌∙◌, ℕ, List, length}
use Rattle.state_layout.specs.Layout.{state_of}
use Rattle.state_find.specs.Checks.{tested}
use Rattle.state_find.proofs.Rules.{err-is, tested-refused, tested-passed, passed-inside, row-fits, row-inside, next-read, owner-read}
use Rattle.state_find.proofs.check.Goals as goal

pub returns-in_err-place : goal.returns-in_err-place
returns-in_err-place c =
    let whole = c.in-Ok.ensures.1 in
    rw (err-is c.from_residual.result c.in_err-place.field-0.0 c.from_residual.ensures.1)
    (tested-refused (state_of c.in-Ok.s.now) c.args.session c.args.claim c.in_err-place.field-0.0 c.in_err-place.ensures
    ∙ ap (λ (b : List ℕ). tested (state_of b) c.args.session c.args.claim) whole.same)

pub offset_bounds-places-place : goal.offset_bounds-places-place
offset_bounds-places-place c =
    let whole = c.in-Ok.ensures.1 in
    row-fits c.in-Ok.s.now (ap length whole.same ∙ whole.long) c.places.ensures (passed-inside (state_of c.in-Ok.s.now) c.args.session c.args.claim c.in_ok-place.ensures)

pub bounds-places-place : goal.bounds-places-place
bounds-places-place c =
    let whole = c.in-Ok.ensures.1 in
    row-inside c.in-Ok.s.now (ap length whole.same ∙ whole.long) c.places.ensures (passed-inside (state_of c.in-Ok.s.now) c.args.session c.args.claim c.in_ok-place.ensures)

pub returns : goal.returns
returns c =
    let whole = c.in-Ok.ensures.1 in
    let long = ap length whole.same ∙ whole.long in
    let inside = passed-inside (state_of c.in-Ok.s.now) c.args.session c.args.claim c.in_ok-place.ensures in
    tested-passed (state_of c.in-Ok.s.now) c.args.session c.args.claim c.in_ok-place.ensures
    (next-read c.in-Ok.s.now long c.places.ensures inside c.next_number.ensures) (owner-read c.in-Ok.s.now long c.places.ensures inside c.credential_of.ensures) c.speaks_for-credential.ensures c.grants_of.ensures
    ∙ ap (λ (b : List ℕ). tested (state_of b) c.args.session c.args.claim) whole.same
