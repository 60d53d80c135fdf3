use Rattle.std.proofs.Common.{◌≡◌, ◌^◌, ◌≤◌, List, length, take, All, ap, subst, sym, ◌∙◌, arith}
use Rattle.std.specs.List.{flat_map}
use Rattle.std.proofs.lemmas.List.{take_all}
use Rattle.def_wires.specs.declared.wiring.WirePath.{WirePath}
use Rattle.def_wires.specs.Meaning.{path_metal, wiring_metal}
use Rattle.def_wires.specs.Sound.{IsOn}
use Rattle.def_wires.proofs.Within.{wiring_within}
use Rattle.def_wires.proofs.rectangles.denote.Goals as goal

pub returns-clause-within : goal.returns-clause-within
returns-clause-within c =
    let tech = c.args.tech.now in
    let paths = c.args.wiring.now.paths in
    let e : c.as_slice-path-items.result.now ≡ paths = c.as_slice-path-items.ensures in
    let done : length paths ≤ c.paths.path-index = omega (arith, c.paths-test.false, ap (λ (v : List WirePath). length v) e) in
    let all : c.paths.metal ≡ wiring_metal tech c.args.wiring.now = c.paths.invariant ∙ ap (λ (v : List WirePath). flat_map (path_metal tech) v) (take_all c.paths.path-index paths done) in
    subst (All (IsOn (length tech.layers) (2 ^ 62))) (sym all) (wiring_within tech c.args.wiring.now c.requires.tech c.requires.wiring)
