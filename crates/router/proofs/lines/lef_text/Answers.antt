use Rattle.router.proofs.lines.lef_text.Goals as goal

pub returns-in-LayerWithout : goal.returns-in-LayerWithout
returns-in-LayerWithout c = rw c.in-LayerWithout.is (rw (c.bytes-in-LayerWithout.ensures, c.what_word.ensures) at c.with_names.ensures)

pub returns-in-SameDirection : goal.returns-in-SameDirection
returns-in-SameDirection c = rw c.in-SameDirection.is (rw (c.bytes-in-SameDirection.ensures, c.bytes-in-SameDirection-2.ensures) at c.with_names-in-SameDirection.ensures)
