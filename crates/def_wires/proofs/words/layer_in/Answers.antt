use Rattle.std.proofs.Common.{◌≡◌, Some, sym, ◌∙◌, map, length, arith}
use Rattle.std.proofs.lemmas.List.{length-map}
use Rattle.rt_base.specs.declared.tech.Layer.{Layer}
use Rattle.def_wires.specs.Names.{layer_named}
use Rattle.def_wires.proofs.Naming.{last_within}
use Rattle.def_wires.proofs.words.layer_in.Goals as goal

pub returns-in-Some-clause-inside : goal.returns-in-Some-clause-inside
returns-in-Some-clause-inside c =
    let at : layer_named c.args.tech.now.layers c.args.word.bytes.now ≡ Some c.in-Some.k = sym (c.requires c.args.word.bytes.now) ∙ sym c.in-Some.ensures in
    omega (arith, last_within c.args.word.bytes.now 0 (map (λ (l : Layer). l.name) c.args.tech.now.layers) c.in-Some.k at, length-map c.args.tech.now.layers (λ (l : Layer). l.name))
