use Rattle.std.proofs.Common.{◌≡◌, take}
use Rattle.std.specs.List.{filter_map}
use Rattle.net_guides.specs.NetGuides.{box_among}
use Rattle.net_guides.proofs.index.NetGuides.boxes_on.Given as goal

abbrev pub invariant-loop-name : goal.invariant-loop-name
invariant-loop-name l = l.found ≡ filter_map (box_among l.self.levels) (take l.name-index l.boxes)
