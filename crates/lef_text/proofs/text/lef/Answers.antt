use Rattle.std.proofs.Common.{◌≤◌, ◌^◌, subst, sym}
use Rattle.lef_text.specs.Counts.{HasRoom, skips}
use Rattle.lef_text.specs.declared.library.Library.{Library}
use Rattle.lef_text.proofs.Grammar.{looks_err, looks_ok}
use Rattle.lef_text.proofs.Counts.{few_begins}
use Rattle.lef_text.proofs.SoundCounts.{room_begins}
use Rattle.lef_text.proofs.text.lef.Goals as goal

pub statements-requires-clause-few : goal.statements-requires-clause-few
statements-requires-clause-few c = subst (λ (l : Library). skips l c.args.words.now ≤ 2 ^ 32) (sym c.empty-lib.ensures) (few_begins c.args.words.now c.requires)

pub statements-requires-clause-room : goal.statements-requires-clause-room
statements-requires-clause-room c = subst (λ (l : Library). HasRoom l c.args.words.now) (sym c.empty-lib.ensures) (room_begins c.args.words.now c.requires)

pub returns-in_err-statements : goal.returns-in_err-statements
returns-in_err-statements c = looks_err c.args.units _ _ c.empty-lib.result _ _ c.empty-lib.ensures c.in_err-statements.ensures c.from_residual.ensures.1

pub returns : goal.returns
returns c = looks_ok c.args.units _ _ c.empty-lib.result c.statements.new.lib c.lef_of.result c.empty-lib.ensures c.in_ok-statements.ensures.0 c.in_ok-statements.ensures.1 c.lef_of.ensures.ok c.lef_of.ensures.err
