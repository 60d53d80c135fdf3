use Rattle.def_text.specs.declared.def.DefNet.{DefNet}
use Rattle.def_text.specs.Wiring.{IsNetOf}
use Rattle.def_text.proofs.Listing.{listed_more, net_without_pins}
use Rattle.def_text.proofs.special.special_item.Goals as goal

pub returns-clause-sound : goal.returns-clause-sound
returns-clause-sound c =
    rw (c.in_ok-new_name.ensures.added, c.in_ok-push.ensures.ok)
    (listed_more (IsNetOf c.args.total) (λ (n : DefNet). n.name) c.args.listed.now c.in_ok-word.word.bytes.now
    (record { name = c.in_ok-new.field-0; pins = c.new-3.result; wiring = c.options.new.net.wiring; close = c.options.new.net.close })
    c.args.listed.now.skipped c.requires c.in_ok-new_name.ensures.fresh
    (net_without_pins c.args.total c.in_ok-new.field-0 c.new-3.result c.options.new.net.wiring c.options.new.net.close c.new-3.ensures c.in_ok-options.ensures.sound.wiring) c.in_ok-new.ensures)
