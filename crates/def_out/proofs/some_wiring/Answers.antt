use Rattle.std.proofs.Common.{◌++◌, List, ℕ}
use Rattle.std.specs.Prelude.{codes, flat_map}
use Rattle.track_graph.proofs.PathLemmas.{joined}
use Rattle.def_out.specs.Wiring.{further_text, stroke_text}
use Rattle.def_out.proofs.some_wiring.Goals as goal

pub returns : goal.returns
returns c =
    let t : List ℕ = c.args.text.now in
    let word : List ℕ = codes "\n  + ROUTED " in
    let first : List ℕ = stroke_text c.args.tech.now c.args.first.now in
    let others : List ℕ = flat_map (further_text c.args.tech.now) c.args.others.now in
    joined t _ _ (word ++ first ++ others) (codes "\n")
    (joined t _ _ (word ++ first) others (joined t _ _ word first c.in_ok-bytes.ensures.ok c.in_ok-stroke.ensures) c.in_ok-further.ensures)
    c.in_ok-bytes-2.ensures.ok
