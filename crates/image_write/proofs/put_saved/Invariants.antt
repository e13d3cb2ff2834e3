use Rattle.rows.proofs.Loops.{WroteChosen}
use Rattle.table.specs.Table.{places}
use Rattle.image.specs.Image.{saved_at, saved_size, saved_bytes, saved_row, is_saved_one}
use Rattle.image_write.proofs.put_saved.Given as goal

abbrev pub invariant-loop-i : goal.invariant-loop-i
invariant-loop-i l = WroteChosen is_saved_one saved_row saved_bytes saved_size saved_at places l.t.places l.i-end l.initial.buffer l.buffer l.k l.i
