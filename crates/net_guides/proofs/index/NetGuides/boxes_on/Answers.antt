use Rattle.std.proofs.Common.{◌∙◌, ℕ, List, [], ◌∷◌, ◌++◌, Some, None, position, option_map, bytes_eq, take, sym, ap}
use Rattle.std.specs.List.{filter_map}
use Rattle.std.proofs.lemmas.List.{append-nil}
use Rattle.rt_base.specs.Sides.{Sides}
use Rattle.net_guides.specs.NetGuides.{box_among}
use Rattle.net_guides.proofs.NameLemmas.{boxes_more}
use Rattle.net_guides.proofs.index.NetGuides.boxes_on.Goals.{in-Some+in_ok-push-in-Some, in-None}
use Rattle.net_guides.proofs.index.NetGuides.boxes_on.Goals as goal

pub loop-name-preserved : goal.loop-name-preserved
loop-name-preserved c =
    let levels = c.args.self.now.levels in
    let boxes = c.args.boxes.now in
    let i = c.loop-name.name-index in
    let box = c.loop-name-item.result in
    let said = ap (λ (n : List ℕ). position (bytes_eq n) levels) (sym c.bytes.ensures) ∙ sym c.level.ensures in
    elim c.match-level.branch [
      | in-Some+in_ok-push-in-Some w ↦
          w.found-is
          ∙ w.in_ok-push-in-Some.ensures.ok
          ∙ ap (λ (bs : List (ℕ × Sides)). bs ++ (w.in-Some.level, box.1) ∷ []) c.loop-name.invariant
          ∙ sym (boxes_more levels boxes i box (Some (w.in-Some.level, box.1)) c.loop-name-test.true c.loop-name-item.is (ap (option_map {U = ℕ × Sides} (λ (level : ℕ). (level, box.1))) (said ∙ w.in-Some.is)))
      | in-None w ↦
          w.found-is
          ∙ c.loop-name.invariant
          ∙ sym (boxes_more levels boxes i box None c.loop-name-test.true c.loop-name-item.is (ap (option_map {U = ℕ × Sides} (λ (level : ℕ). (level, box.1))) (said ∙ w.in-None.is)) ∙ append-nil (filter_map (box_among levels) (take i boxes)))
    ]
