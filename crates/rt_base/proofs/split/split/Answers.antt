use Rattle.std.proofs.Common.{◌≡◌, ap, sym, ◌∙◌, refl, ◌++◌}
use Rattle.std.proofs.lemmas.List.{append-nil}
use Rattle.rt_base.specs.declared.split.Piece.{Piece}
use Rattle.rt_base.proofs.Scanning.{step}
use Rattle.rt_base.proofs.split.split.Goals as goal
use Rattle.rt_base.proofs.split.split.Goals.{then-piece+in_ok-push, else-piece}

pub loop-rest-preserved : goal.loop-rest-preserved
loop-rest-preserved c =
    elim c.if-piece.branch [
      | then-piece+in_ok-push w ↦
          step _ _ _ _ _ _ _ c.loop-rest.invariant c.in-len1-up.len_at_least c.in-Some.ensures.part (rw (w.tokens-is, w.in_ok-push.ensures.items, w.if-piece.true) refl)
      | else-piece w ↦
          step _ _ _ _ _ _ _ c.loop-rest.invariant c.in-len1-up.len_at_least c.in-Some.ensures.part (rw (w.tokens-is, w.if-piece.false, append-nil) refl)
    ]
