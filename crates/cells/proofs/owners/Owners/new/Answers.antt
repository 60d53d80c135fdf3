use Rattle.std.proofs.Common.{◌∙◌, ℕ, List, Option, Some, None, cond, sym, ap}
use Rattle.std.specs.List.{list_any}
use Rattle.std.specs.Option.{option_or}
use Rattle.std.proofs.lemmas.List.{take_all}
use Rattle.def_text.specs.declared.def.DefNet.{DefNet}
use Rattle.cells.specs.Firsts.{first_in}
use Rattle.cells.specs.Owners.{same_pin, names_pin, owner_from, owner_of}
use Rattle.cells.specs.Indexes.{key}
use Rattle.cells.proofs.FirstLemmas.{place_more}
use Rattle.cells.proofs.owners.Owners.new.Goals as goal

pub loop-number-preserved : goal.loop-number-preserved
loop-number-preserved c = (
  c.in_ok-claim_all.ensures.paired,
  λ d.
      c.in_ok-claim_all.ensures.claimed d
      ∙ ap (λ (cs : List (List ℕ × List ℕ)). option_or (first_in c.loop-number.owners.nets (key d.0 d.1)) (cond (list_any (same_pin d) cs) (Some c.loop-number.number) None)) c.as_slice.ensures
      ∙ ap (λ (o : Option ℕ). option_or o (cond (names_pin d c.index-nets-number.result) (Some c.loop-number.number) None)) (c.loop-number.invariant.1 d)
      ∙ sym (place_more (names_pin d) c.args.nets.now c.loop-number.number c.index-nets-number.result c.loop-number-test.true c.index-nets-number.is),
)

pub returns : goal.returns
returns c d = ap owner_from (c.loop-number.invariant.1 d) ∙ ap (λ (ns : List DefNet). owner_of ns d) (take_all c.loop-number.number c.args.nets.now c.loop-number-test.false)
