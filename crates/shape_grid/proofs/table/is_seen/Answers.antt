use Rattle.std.proofs.Common.{◌∙◌, sym}
use Rattle.std.proofs.lemmas.Bool.{OnFalse_from, OnFalse_at}
use Rattle.shape_grid.specs.Cells.{Seen}
use Rattle.shape_grid.proofs.Near.{column_seen, row_seen}
use Rattle.shape_grid.proofs.table.is_seen.Goals as goal

pub returns-then-not-is_among : goal.returns-then-not-is_among
returns-then-not-is_among c = λ s.
    c.if-not-is_among.ensures s.i s.column (column_seen c.args.side c.args.up c.args.bits.columns c.args.bits.rows c.args.b s)

pub returns : goal.returns
returns c =
    OnFalse_from c.is_among-2.result (Seen c.args.side c.args.up c.args.bits.columns c.args.bits.rows c.args.b → ⊥) (λ no s.
    OnFalse_at no c.is_among-2.ensures s.j s.row (row_seen c.args.side c.args.up c.args.bits.columns c.args.bits.rows c.args.b s ∙ sym c.wrap-row.ensures.value))
