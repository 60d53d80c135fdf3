use Rattle.router.proofs.lines.wire_text.Goals as goal

pub returns-in-NoSuchLayer : goal.returns-in-NoSuchLayer
returns-in-NoSuchLayer c = rw c.in-NoSuchLayer.is (rw c.from-in-NoSuchLayer.ensures at c.with_number-in-NoSuchLayer.ensures)

pub returns-in-NoSuchVia : goal.returns-in-NoSuchVia
returns-in-NoSuchVia c = rw c.in-NoSuchVia.is (rw c.from-in-NoSuchVia.ensures at c.with_number-in-NoSuchVia.ensures)

pub returns-in-ViaOffLayer : goal.returns-in-ViaOffLayer
returns-in-ViaOffLayer c = rw c.in-ViaOffLayer.is (rw c.from-in-ViaOffLayer.ensures at c.with_number-in-ViaOffLayer.ensures)
