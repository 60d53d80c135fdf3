use Rattle.std.proofs.Common.{◌≡◌, true, sym, subst}
use Rattle.rt_forms.specs.Reading.{is_name_word}
use Rattle.guide_text.proofs.Listing.{listed_more}
use Rattle.guide_text.proofs.read.net.Goals as goal

pub returns-clause-sound : goal.returns-clause-sound
returns-clause-sound c =
    rw (c.in_ok-new_name.ensures.added, c.in_ok-push.ensures.ok)
    (listed_more c.args.listed.now c.in_ok-word.word.bytes.now (c.in_ok-new.field-0, c.in_ok-boxes.boxes) c.requires c.in_ok-new_name.ensures.fresh
    (subst (λ n. is_name_word n ≡ true) (sym c.in_ok-new.ensures) c.in_ok-word.ensures.name, c.in_ok-boxes.ensures.sound) c.in_ok-new.ensures)
