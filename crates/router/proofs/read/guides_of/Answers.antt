use Rattle.std.proofs.lemmas.Result.{err_from_is_err_and}
use Rattle.rt_base.proofs.Scanning.{made_inside}
use Rattle.router.proofs.ReadLemmas.{guide_refusal}
use Rattle.router.proofs.read.guides_of.Goals as goal

pub read_guides_tokens-requires : goal.read_guides_tokens-requires
read_guides_tokens-requires c = rw (c.as_slice.ensures, c.as_slice-2.ensures) (made_inside _ _ c.requires.cut.made)

pub returns-in_err-read_guides_tokens-clause-refusal : goal.returns-in_err-read_guides_tokens-clause-refusal
returns-in_err-read_guides_tokens-clause-refusal c =
    let p = err_from_is_err_and c.from_residual.result c.from_residual.ensures.1 in
    let reads = rw (c.as_slice.ensures, c.as_slice-2.ensures) at c.in_err-read_guides_tokens.ensures.reads in
    rw (p.1, p.2) (guide_refusal c.args.source.now _ (λ ne. reads.refused ne))

pub returns-clause-says : goal.returns-clause-says
returns-clause-says c =
    let reads = rw (c.as_slice.ensures, c.as_slice-2.ensures) at c.in_ok-read_guides_tokens.ensures.reads in
    reads.found
