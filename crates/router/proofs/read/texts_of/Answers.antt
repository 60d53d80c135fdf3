use Rattle.std.proofs.Common.{inr}
use Rattle.std.proofs.lemmas.Result.{err_from_is_err_and}
use Rattle.router.proofs.ReadLemmas.{def_refusal}
use Rattle.router.proofs.read.texts_of.Goals as goal

pub returns-in_err-library-clause-refusal : goal.returns-in_err-library-clause-refusal
returns-in_err-library-clause-refusal c =
    let p = err_from_is_err_and c.from_residual.result c.from_residual.ensures.1 in
    rw (p.1, p.2) c.in_err-library.ensures.refusal

pub returns-in_err-chip-clause-refusal : goal.returns-in_err-chip-clause-refusal
returns-in_err-chip-clause-refusal c =
    let p = err_from_is_err_and c.from_residual-in_err-chip.result c.from_residual-in_err-chip.ensures.1 in
    let says = c.in_ok-library.ensures.says in
    let reads = rw (c.as_slice.ensures, c.as_slice-2.ensures) at c.in_err-chip.ensures.reads in
    rw (p.1, p.2) (def_refusal c.args.lef.now c.args.def.now _ (λ ne. inr (says.0, _, says.1, reads.refused ne)))

pub returns-clause-say : goal.returns-clause-say
returns-clause-say c =
    let says = c.in_ok-library.ensures.says in
    let reads = rw (c.as_slice.ensures, c.as_slice-2.ensures) at c.in_ok-chip.ensures.reads in
    record { units = says.0; in_units = says.1; def_says = reads.found }

pub returns-clause-fit : goal.returns-clause-fit
returns-clause-fit c = record {
  lef_fits = c.in_ok-library.ensures.fits;
  def_fits = c.in_ok-chip.ensures.fits;
  ranges = rw c.as_slice-2.ensures at c.in_ok-chip.ensures.ranges;
  closes = rw c.as_slice.ensures at c.in_ok-chip.ensures.closes;
}
