use Rattle.std.proofs.Common.{◌≡◌, ℕ, ◌+◌, ◌-◌, ◌<◌, List, map, length, drop, get_or, refl, sym, ap, ◌∙◌, arith}
use Rattle.std.proofs.lemmas.List.{drop_all}
use Rattle.rt_base.specs.declared.tech.Via.{Via}
use Rattle.def_wires.specs.Names.{found_in, last_from, or_else, here_if}
use Rattle.def_wires.proofs.Naming.{last_before}
use Rattle.def_wires.proofs.names.via_index.Goals as goal

pub vias-preserved : goal.vias-preserved
vias-preserved c =
    let ls = c.args.vias.now in
    let k = c.vias.k - 1 in
    let item : Via = get_or ls k c.index-vias-k.result in
    let next : c.vias.k ≡ k + 1 = omega arith in
    let lt : k < length ls = omega arith in
    record {
      found = λ word. c.in_ok-add.ensures.found word ∙ rw (c.vias.invariant.found word, c.bytes.ensures) (sym (last_before (λ (v : Via). v.name) ls k c.vias.k item word lt next (ap (λ (x : Via). get_or ls k x) c.index-vias-k.is)));
      paired = c.in_ok-add.ensures.paired;
      some = omega arith;
    }

pub vias-init : goal.vias-init
vias-init c = record {
  found = λ word. c.new-index.ensures.names word ∙ rw (drop_all (length c.args.vias.now) c.args.vias.now (omega arith)) refl;
  paired = c.new-index.ensures.paired;
  some = omega arith;
}
