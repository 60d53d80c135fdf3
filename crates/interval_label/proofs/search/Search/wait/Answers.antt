use Rattle.std.proofs.Common.{◌+◌, ℕ, refl, subst}
use Rattle.interval_label.specs.Queue.{IsWithOneMore}
use Rattle.interval_label.proofs.Queues.{more_from_push}
use Rattle.interval_label.proofs.search.Search.wait.Goals as goal

pub returns : goal.returns
returns c = record {
  ok = record {
    best = refl;
    floor = c.in_ok-push.ensures.floor;
    queue = subst (λ (n : ℕ). IsWithOneMore (c.args.candidate.dist + n, c.args.candidate) c.args.self.now.queue.pairs c.push.new.self.pairs) c.left.ensures (more_from_push _ _ _ c.in_ok-push.ensures.bag);
  };
}
