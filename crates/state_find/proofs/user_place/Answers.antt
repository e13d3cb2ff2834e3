use Rattle.state_layout.specs.Layout.{state_of}
use Rattle.state_find.proofs.Rules.{err-is, found_inside, row-fits, row-inside, next-read, user-turn, user-at}
use Rattle.state_find.proofs.user_place.Goals as goal

pub offset_bounds-places-place : goal.offset_bounds-places-place
offset_bounds-places-place c = row-fits c.args.s.now c.told-s c.places.ensures (found_inside (state_of c.args.s.now) c.sought.result c.find_active.ensures c.in-Some.is)

pub bounds-places-place : goal.bounds-places-place
bounds-places-place c = row-inside c.args.s.now c.told-s c.places.ensures (found_inside (state_of c.args.s.now) c.sought.result c.find_active.ensures c.in-Some.is)

pub returns-in_err-turn_number : goal.returns-in_err-turn_number
returns-in_err-turn_number c =
    let inside = found_inside (state_of c.args.s.now) c.sought.result c.find_active.ensures c.in-Some.is in
    rw (err-is c.from_residual.result c.in_err-turn_number.field-0.0 c.from_residual.ensures.1)
    (user-turn (state_of c.args.s.now) c.args.session c.sought.result c.find_active.ensures c.args.u c.sought.ensures c.grants_of.ensures c.if-not-grants_of.false c.in-Some.is
    (next-read c.args.s.now c.told-s c.places.ensures inside c.next_number.ensures) c.in_err-turn_number.field-0.0 c.in_err-turn_number.ensures)

pub returns : goal.returns
returns c =
    let inside = found_inside (state_of c.args.s.now) c.sought.result c.find_active.ensures c.in-Some.is in
    user-at (state_of c.args.s.now) c.args.session c.sought.result c.find_active.ensures c.args.u c.sought.ensures c.grants_of.ensures c.if-not-grants_of.false c.in-Some.is
    (next-read c.args.s.now c.told-s c.places.ensures inside c.next_number.ensures) c.in_ok-turn_number.ensures
