use Rattle.std.proofs.Common.{◌∙◌, ℕ, List, [], ◌∷◌, ◌++◌, Some, None, option_map, take, sym, ap, Vec, Global}
use Rattle.std.proofs.lemmas.List.{append-nil}
use Rattle.track_graph.specs.Metal.{Metal}
use Rattle.build.specs.LookUps.{layer_number, layer_no_of, metals_of}
use Rattle.build.proofs.MetalLemmas.{metals_more, metal_some, metal_none}
use Rattle.build.proofs.layer_names.LayerNames.metals.Goals.{in-Some+in_ok-push-in-Some, in-None}
use Rattle.build.proofs.layer_names.LayerNames.metals.Goals as goal

pub loop-name-preserved : goal.loop-name-preserved
loop-name-preserved c =
    let names = c.args.self.now in
    let rects = c.args.rects.now in
    let i = c.loop-name.name-index in
    let r = c.loop-name-item.result in
    let said = ap (λ (n : List ℕ). option_map layer_no_of (layer_number names n)) c.bytes.ensures in
    elim c.match-number.branch [
      | in-Some+in_ok-push-in-Some w ↦
          let is = sym said ∙ sym c.number.ensures ∙ w.in-Some.is in
          ap (λ (v : Vec Metal Global). v.items) w.metals-is
          ∙ w.in_ok-push-in-Some.ensures.items
          ∙ ap (λ (ms : List Metal). ms ++ (w.in-Some.layer, r.1) ∷ []) c.loop-name.invariant
          ∙ sym (metals_more names rects i r (Some (w.in-Some.layer, r.1)) c.loop-name-test.true c.loop-name-item.is (metal_some (layer_number names r.0) w.in-Some.layer r.1 is))
      | in-None w ↦
          let is = sym said ∙ sym c.number.ensures ∙ w.in-None.is in
          ap (λ (v : Vec Metal Global). v.items) w.metals-is
          ∙ c.loop-name.invariant
          ∙ sym (metals_more names rects i r None c.loop-name-test.true c.loop-name-item.is (metal_none (layer_number names r.0) r.1 is) ∙ append-nil (metals_of names (take i rects)))
    ]
