use Rattle.rows.specs.Bytes.{number_of}
use Rattle.rows.proofs.Loops.{FilledBy}
use Rattle.module_state.specs.Module.{credential_count, word_size}
use Rattle.image_head.proofs.read_words.Given as goal

abbrev pub invariant-loop-i : goal.invariant-loop-i
invariant-loop-i l = FilledBy number_of credential_count word_size l.at l.b l.initial.words l.words l.i
