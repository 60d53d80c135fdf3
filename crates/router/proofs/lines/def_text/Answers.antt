use Rattle.router.proofs.lines.def_text.Goals as goal

pub returns-in-DiePolygon : goal.returns-in-DiePolygon
returns-in-DiePolygon c = rw c.in-DiePolygon.is (rw c.from-in-DiePolygon.ensures at c.with_number-in-DiePolygon.ensures)
