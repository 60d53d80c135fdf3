use Rattle.std.proofs.Common.{◌≡◌, ◌∙◌, pos, [], ◌∷◌}
use Rattle.regions.proofs.HandMade.{is_chip}
use Rattle.regions.proofs.tests.chip.Goals as goal

pub returns : goal.returns
returns c =
    let layers : c.from_vec.result ≡ c.in_ok-lower.lower ∷ c.in_ok-upper.upper ∷ [] = c.from_vec.ensures ∙ c.in_ok-vec.ensures.items in
    let lines : c.from_vec-2.result ≡ c.new-2.result ∷ c.new-3.result ∷ [] = c.from_vec-2.ensures ∙ c.in_ok-vec-2.ensures.items in
    let steps : c.from_vec-3.result ≡ pos 200 ∷ pos 200 ∷ [] = c.from_vec-3.ensures ∙ c.in_ok-vec-3.ensures.items in
    let nets : c.from_vec-4.result ≡ c.in_ok-a.a ∷ c.in_ok-b.b ∷ [] = c.from_vec-4.ensures ∙ c.in_ok-vec-4.ensures.items in
    rw (layers, c.in_ok-lower.ensures, c.in_ok-upper.ensures, c.new.ensures, lines, c.new-2.ensures, c.new-3.ensures, steps, nets, c.new-4.ensures)
    (is_chip c.in_ok-a.a c.in_ok-b.b c.new-5.result c.in_ok-a.ensures.name c.in_ok-b.ensures.name c.in_ok-a.ensures.net c.in_ok-b.ensures.net)
