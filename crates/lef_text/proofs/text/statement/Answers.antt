use Rattle.std.proofs.Common.{arith}
use Rattle.lef_text.proofs.SoundCounts.{room_shorter}
use Rattle.lef_text.proofs.text.statement.Goals as goal

pub layer_statement-requires : goal.layer_statement-requires
layer_statement-requires c = room_shorter c.args.lib.now _ _ c.requires.room (omega (arith, c.in_ok-word.ensures.1))

pub count_section-requires : goal.count_section-requires
count_section-requires c = omega (arith, c.requires.room.few.sections, c.requires.room.room, c.in_ok-word.ensures.1, c.in_ok-named_section-in-Rule.ensures.1)
