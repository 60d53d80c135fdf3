use Rattle.std.proofs.lemmas.Result.{err_from_is_err_and}
use Rattle.router.specs.Outputs.{shelf_at}
use Rattle.router.proofs.ReadLemmas.{says_cause}
use Rattle.router.proofs.read.guide_file.Goals as goal

pub returns-in_err-source-clause-refusal : goal.returns-in_err-source-clause-refusal
returns-in_err-source-clause-refusal g c =
    let p = err_from_is_err_and c.from_residual.result c.from_residual.ensures.1 in
    rw (p.1, p.2) (λ ne. c.in_err-source.ensures.refusal)

pub returns-in_err-guides-clause-refusal : goal.returns-in_err-guides-clause-refusal
returns-in_err-guides-clause-refusal g c =
    let p = err_from_is_err_and c.from_residual-in_err-guides.result c.from_residual-in_err-guides.ensures.1 in
    rw (p.1, p.2) (λ ne. says_cause (shelf_at g.F.Shelf.told g.F.Shelf.faults c.args.files.now) (shelf_at g.F.Shelf.told g.F.Shelf.faults c.take_guide.new.files) c.args.name.now _ _ c.in_ok-source.ensures.source (c.in_err-guides.ensures.refusal ne))

pub returns-clause-guides : goal.returns-clause-guides
returns-clause-guides g c = record { source = _; cut = c.in_ok-source.ensures.source; says = c.in_ok-guides.ensures.says }
