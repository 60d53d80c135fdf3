use Rattle.std.proofs.Common.{◌<◌, length, reverse}
use Rattle.path_back.proofs.Back.{IsBack}
use Rattle.path_back.proofs.corner.recover.Given as goal

abbrev pub invariant-back : goal.invariant-back
invariant-back l = record {
  inside : l.at.0 < length l.arena.labels;
  back : IsBack l.arena.graph l.arena.labels l.fn.label.0 l.at.0 (reverse l.corners.items);
}

abbrev pub decreases-back : goal.decreases-back
decreases-back l = l.at.0
