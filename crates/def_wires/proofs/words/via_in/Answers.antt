use Rattle.std.proofs.Common.{◌≡◌, Some, sym, ◌∙◌, map, length, arith}
use Rattle.std.proofs.lemmas.List.{length-map}
use Rattle.rt_base.specs.declared.tech.Via.{Via}
use Rattle.def_wires.specs.Names.{via_named}
use Rattle.def_wires.proofs.Naming.{last_within}
use Rattle.def_wires.proofs.words.via_in.Goals as goal

pub returns-in-Some-clause-inside : goal.returns-in-Some-clause-inside
returns-in-Some-clause-inside c =
    let at : via_named c.args.tech.now.vias c.args.word.bytes.now ≡ Some c.in-Some.v = sym (c.requires.vias c.args.word.bytes.now) ∙ sym c.in-Some.ensures in
    omega (arith, last_within c.args.word.bytes.now 0 (map (λ (v : Via). v.name) c.args.tech.now.vias) c.in-Some.v at, length-map c.args.tech.now.vias (λ (v : Via). v.name))
