use Rattle.std.proofs.Common.{List, length, All, sym, ap, subst, arith}
use Rattle.def_text.specs.declared.def.DefNet.{DefNet}
use Rattle.def_text.specs.Defs.{IsDefNet}
use Rattle.build.specs.EntryCounts.{NetsHave}
use Rattle.build.specs.Ground.{input_on, system_on}
use Rattle.build.proofs.entry_counts.count_all.Goals as goal

pub count_nets-requires : goal.count_nets-requires
count_nets-requires c = record {
  ground = c.requires;
  tracks = c.in_ok-tracks.ensures.levels;
  of = c.in_ok-tracks.ensures.of;
  nets = subst (λ (ns : List DefNet). All IsDefNet ns) (sym c.as_slice.ensures) c.requires.is_input.is_def.nets;
  few = omega (arith, ap length c.as_slice.ensures, c.requires.is_input.is_def.net_count);
}

pub returns : goal.returns
returns c = subst (λ (ns : List DefNet). NetsHave (input_on c.args.on.now) (system_on c.args.on.now) ns c.in_ok-count.count) c.as_slice.ensures c.in_ok-count.ensures
