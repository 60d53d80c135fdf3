use Rattle.std.proofs.Common.{◌++◌, List, ℕ}
use Rattle.std.specs.Prelude.{codes, flat_map}
use Rattle.track_graph.proofs.PathLemmas.{joined}
use Rattle.journal_text.specs.Lines.{ripped_text}
use Rattle.journal_text.proofs.ripped_line.Goals as goal

pub returns : goal.returns
returns c =
    let t : List ℕ = c.args.text.now in
    let word : List ℕ = codes "ripped" in
    let names : List ℕ = flat_map (ripped_text c.args.design.now) c.args.nets.now in
    joined t _ _ (word ++ names) (codes "\n") (joined t _ _ word names c.in_ok-bytes.ensures.ok c.in_ok-ripped.ensures) c.in_ok-bytes-2.ensures.ok
