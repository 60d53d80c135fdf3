use Rattle.std.proofs.Common.{◌≡◌, ℕ, List, Some, slice_get, length, refl, subst, ap, arith, rules}
use Rattle.std.proofs.lemmas.Option.{slice_get_read}
use Rattle.rt_base.specs.declared.tech.Via.{Via}
use Rattle.plain_route.specs.Steps.{HasVias}
use Rattle.plain_route.proofs.StepLemmas.{vias-none, vias-more}
use Rattle.plain_route.proofs.steps.add_vias.Goals as goal

pub loop-k-init : goal.loop-k-init
loop-k-init c = vias-none _ _ _

pub loop-k-preserved : goal.loop-k-preserved
loop-k-preserved c =
    let read : slice_get c.as_slice-via-items.result.now c.loop-k.k ≡ Some c.via-item.result =
    slice_get_read c.as_slice-via-items.result.now (length c.as_slice-via-items.result.now) c.loop-k.k c.via-item.result refl c.loop-k-test.true c.via-item.is in
    let at : slice_get c.args.tech.now.vias c.loop-k.k ≡ Some c.via-item.result = subst (λ (vs : List Via). slice_get vs c.loop-k.k ≡ Some c.via-item.result) c.as_slice-via-items.ensures read in
    vias-more c.args.tech.now c.args.v c.loop-k.k c.via-item.result c.near_layers-layers.result at c.near_layers-layers.ensures c.args.edges.now c.loop-k.edges c.add_via.new.edges c.loop-k.invariant c.in_ok-add_via.ensures

pub returns : goal.returns
returns c =
    let same : c.loop-k.k ≡ length c.args.tech.now.vias = let e = ap length c.as_slice-via-items.ensures in first_of (omega (arith, c.loop-k-test.false, e), grind (arith, e), search rules) in
    subst (λ (n : ℕ). HasVias c.args.tech.now c.args.v n c.args.edges.now c.loop-k.edges) same c.loop-k.invariant
