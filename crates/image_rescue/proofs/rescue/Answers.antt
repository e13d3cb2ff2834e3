use Rattle.image_rescue.proofs.Rules.{rules}
use Rattle.image_rescue.proofs.rescue.Goals as goal

pub returns-then-not-is_usable : goal.returns-then-not-is_usable
returns-then-not-is_usable c = search rules

pub sort_rows-sorted-requires-clause-offset_value : goal.sort_rows-sorted-requires-clause-offset_value
sort_rows-sorted-requires-clause-offset_value c = search rules

pub sort_rows-sorted-requires-clause-n_le_places : goal.sort_rows-sorted-requires-clause-n_le_places
sort_rows-sorted-requires-clause-n_le_places c = search rules

pub overflow_add-long : goal.overflow_add-long
overflow_add-long c = search rules

pub returns-then-buffer-long : goal.returns-then-buffer-long
returns-then-buffer-long c = search rules

pub put_image-requires-clause-offset_value : goal.put_image-requires-clause-offset_value
put_image-requires-clause-offset_value c = search rules

pub put_image-requires-clause-held_few : goal.put_image-requires-clause-held_few
put_image-requires-clause-held_few c = search rules

pub put_image-requires-clause-room : goal.put_image-requires-clause-room
put_image-requires-clause-room c = search rules

pub returns : goal.returns
returns c = search rules
