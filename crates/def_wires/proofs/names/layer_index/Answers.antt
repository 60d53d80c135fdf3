use Rattle.std.proofs.Common.{◌≡◌, ℕ, ◌+◌, ◌-◌, ◌<◌, List, map, length, drop, get_or, refl, sym, ap, ◌∙◌, arith}
use Rattle.std.proofs.lemmas.List.{drop_all}
use Rattle.rt_base.specs.declared.tech.Layer.{Layer}
use Rattle.def_wires.specs.Names.{found_in, last_from, or_else, here_if}
use Rattle.def_wires.proofs.Naming.{last_before}
use Rattle.def_wires.proofs.names.layer_index.Goals as goal

pub layers-preserved : goal.layers-preserved
layers-preserved c =
    let ls = c.args.layers.now in
    let k = c.layers.k - 1 in
    let item : Layer = get_or ls k c.index-layers-k.result in
    let next : c.layers.k ≡ k + 1 = omega arith in
    let lt : k < length ls = omega arith in
    record {
      found = λ word. c.in_ok-add.ensures.found word ∙ rw (c.layers.invariant.found word, c.bytes.ensures) (sym (last_before (λ (l : Layer). l.name) ls k c.layers.k item word lt next (ap (λ (x : Layer). get_or ls k x) c.index-layers-k.is)));
      paired = c.in_ok-add.ensures.paired;
      some = omega arith;
    }

pub layers-init : goal.layers-init
layers-init c = record {
  found = λ word. c.new-index.ensures.names word ∙ rw (drop_all (length c.args.layers.now) c.args.layers.now (omega arith)) refl;
  paired = c.new-index.ensures.paired;
  some = omega arith;
}
