use Rattle.std.proofs.Common.{◌≡◌, ◌∙◌, sym, true, false, rules}
use Rattle.track_graph.specs.Levels.{is_horizontal}
use Rattle.pin_access.proofs.area.along.Goals as goal

pub returns-then-is_level_horizontal : goal.returns-then-is_level_horizontal
returns-then-is_level_horizontal c =
    let h : is_horizontal c.args.tech.now c.args.area.now.level ≡ true = sym c.is_level_horizontal.ensures ∙ c.if-is_level_horizontal.true in
    rw h (search rules)

pub returns-else-is_level_horizontal : goal.returns-else-is_level_horizontal
returns-else-is_level_horizontal c =
    let h : is_horizontal c.args.tech.now c.args.area.now.level ≡ false = sym c.is_level_horizontal.ensures ∙ c.if-is_level_horizontal.false in
    rw h (search rules)
