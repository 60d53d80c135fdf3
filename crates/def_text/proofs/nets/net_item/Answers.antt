use Rattle.std.proofs.Common.{arith}
use Rattle.def_text.specs.declared.def.DefNet.{DefNet}
use Rattle.def_text.specs.Wiring.{IsNetOf}
use Rattle.def_text.proofs.Listing.{listed_more}
use Rattle.def_text.proofs.nets.net_item.Goals as goal

pub returns-clause-sound : goal.returns-clause-sound
returns-clause-sound c =
    rw (c.in_ok-new_name.ensures.added, c.in_ok-push.ensures.ok)
    (listed_more (IsNetOf c.args.total) (λ (n : DefNet). n.name) c.args.listed.now c.in_ok-word.word.bytes.now
    (record { name = c.in_ok-new.field-0; pins = c.in_ok-pins.pins; wiring = c.options.new.net.wiring; close = c.options.new.net.close })
    c.options.new.net.skipped c.requires.sound c.in_ok-new_name.ensures.fresh
    (record { pins = c.in_ok-pins.ensures.sound; pin_count = omega (arith, c.in_ok-pins.ensures.few, c.in_ok-word.ensures.reads.1, c.requires.few); wiring = c.in_ok-options.ensures.wiring }) c.in_ok-new.ensures)
