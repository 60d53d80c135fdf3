use Rattle.std.proofs.Common.{List, [], option_map, unwrap_or, subst}
use Rattle.std.specs.Option.{option_copied}
use Rattle.rt_base.specs.declared.tech.Layer.{Layer}
use Rattle.guide_text.specs.declared.guides.Guides.{Guides}
use Rattle.net_guides.specs.Indexes.{IsIndexOf}
use Rattle.build.specs.Inputs.{input_by}
use Rattle.build.proofs.Assembling.{out_of_memory}
use Rattle.build.proofs.design.guided.Goals as goal

pub designed-requires : goal.designed-requires
designed-requires c = record {
  is_input = c.requires.known.is_input;
  chosen = c.requires.options;
  known_is = c.requires.known.is_lookup;
  index_is = subst (λ (ls : List Layer). IsIndexOf ls (unwrap_or (option_map (λ (g : Guides). g.nets) (option_copied c.args.given.now.guides)) []) c.in_ok-index.index) c.as_slice.ensures c.in_ok-index.ensures;
}

pub returns-in_err-index-clause-refusal : goal.returns-in_err-index-clause-refusal
returns-in_err-index-clause-refusal c = out_of_memory (input_by c.args.given.now) c.args.options c.from_residual.result c.from_residual.ensures.1
