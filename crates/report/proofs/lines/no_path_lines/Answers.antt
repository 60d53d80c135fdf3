use Rattle.std.proofs.Common.{◌∙◌, ◌++◌, List, ℕ, ap, sym, take}
use Rattle.std.specs.Prelude.{flat_map}
use Rattle.std.specs.List.{zip}
use Rattle.std.proofs.lemmas.List.{flat_map_more}
use Rattle.track_graph.specs.declared.design.Net.{Net}
use Rattle.track_graph.specs.declared.history.NetState.{NetState}
use Rattle.report.specs.Lines.{no_path_line}
use Rattle.report.proofs.Lists.{take-zip, take_all-zip}
use Rattle.report.proofs.lines.no_path_lines.Goals as goal

pub loop-i-preserved : goal.loop-i-preserved
loop-i-preserved c =
    let n = c.index-nets-i.result in
    let s = c.index-states-i.result in
    let ps : List (Net × NetState) = take c.loop-i.i (zip c.args.nets.now c.args.states.now) in
    let text : List (Net × NetState) → List ℕ = λ qs. c.args.text.now ++ flat_map no_path_line qs in
    c.in_ok-no_path_line.ensures
    ∙ ap (λ (t : List ℕ). t ++ no_path_line (n, s)) c.loop-i.invariant
    ∙ flat_map_more no_path_line c.args.text.now ps (n, s)
    ∙ ap text (sym (take-zip c.args.nets.now c.args.states.now c.loop-i.i n s c.requires c.loop-i-test.true c.index-nets-i.is c.index-states-i.is))

pub returns : goal.returns
returns c =
    let text : List (Net × NetState) → List ℕ = λ qs. c.args.text.now ++ flat_map no_path_line qs in
    c.loop-i.invariant ∙ ap text (take_all-zip c.args.nets.now c.args.states.now c.loop-i.i c.loop-i-test.false)
