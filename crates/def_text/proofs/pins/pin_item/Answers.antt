use Rattle.std.proofs.Common.{subst, sym}
use Rattle.def_text.specs.declared.def.IoPin.{IoPin}
use Rattle.def_text.specs.Defs.{IsNameWord, IsIoPin}
use Rattle.def_text.proofs.Listing.{listed_more}
use Rattle.def_text.proofs.pins.pin_item.Goals as goal

pub returns-clause-sound : goal.returns-clause-sound
returns-clause-sound c =
    let named = subst (λ n. IsNameWord n) (sym c.in_ok-new.ensures) c.in_ok-word.ensures.name in
    rw (c.in_ok-new_name.ensures.added, c.in_ok-push.ensures.ok)
    (listed_more IsIoPin (λ (p : IoPin). p.name) c.args.listed.now c.in_ok-word.word.bytes.now
    (record { name = c.in_ok-new.field-0; rects = c.end_port.new.ports.rects })
    c.args.listed.now.skipped c.requires c.in_ok-new_name.ensures.fresh
    (record { name = named; rects = c.in_ok-end_port.ensures.sound.rects }) c.in_ok-new.ensures)
