use Rattle.std.proofs.Common.{inl}
use Rattle.std.proofs.lemmas.Result.{err_from_is_err_and}
use Rattle.router.proofs.ReadLemmas.{def_refusal, lef_refusal, lef_refused}
use Rattle.router.proofs.read.lef_of.Goals as goal

pub returns-in_err-units-clause-refusal : goal.returns-in_err-units-clause-refusal
returns-in_err-units-clause-refusal c =
    let p = err_from_is_err_and c.from_residual.result c.from_residual.ensures.1 in
    let units = rw (c.as_slice.ensures, c.as_slice-2.ensures) at c.in_err-units.ensures in
    rw (p.1, p.2) (def_refusal c.args.lef.now c.args.def.now _ (λ ne. inl (units.refused ne)))

pub read_lef_tokens-requires : goal.read_lef_tokens-requires
read_lef_tokens-requires c = record {
  text = rw c.as_slice-3.ensures c.requires.lef.size;
  tokens = rw (c.as_slice-3.ensures, c.as_slice-4.ensures) c.requires.lef.cut;
}

pub returns-in_err-read_lef_tokens-clause-refusal : goal.returns-in_err-read_lef_tokens-clause-refusal
returns-in_err-read_lef_tokens-clause-refusal c =
    let p = err_from_is_err_and c.from_residual-in_err-read_lef_tokens.result c.from_residual-in_err-read_lef_tokens.ensures.1 in
    let units = rw (c.as_slice.ensures, c.as_slice-2.ensures) at c.in_ok-units.ensures in
    let text = rw (c.as_slice-3.ensures, c.as_slice-4.ensures) at c.in_err-read_lef_tokens.ensures.text in
    rw (p.1, p.2) (lef_refusal c.args.lef.now c.args.def.now _ (λ ne. lef_refused c.args.lef.now c.args.def.now _ _ units.found (text.refused ne)))

pub returns-clause-says : goal.returns-clause-says
returns-clause-says c =
    let units = rw (c.as_slice.ensures, c.as_slice-2.ensures) at c.in_ok-units.ensures in
    let text = rw (c.as_slice-3.ensures, c.as_slice-4.ensures) at c.in_ok-read_lef_tokens.ensures.text in
    (_, record { has_units = units.found; lef_says = text.found })
