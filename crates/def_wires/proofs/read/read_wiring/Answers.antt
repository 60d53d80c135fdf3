use Rattle.rt_forms.proofs.Whole.{reads_text, whole_is}
use Rattle.def_wires.specs.Faults.{wire_faults}
use Rattle.def_wires.specs.Options.{wiring, wiring_form}
use Rattle.def_wires.proofs.Grammar.{lawful_wiring_form}
use Rattle.def_wires.proofs.read.read_wiring.Goals as goal

pub returns-clause-reads : goal.returns-clause-reads
returns-clause-reads c = reads_text wire_faults (λ w. w) (wiring_form c.args.tech.now c.args.special) (lawful_wiring_form c.args.tech.now c.args.special) (whole_is (wiring c.args.tech.now c.args.special)) c.args.text.now c.args.tokens.now _ c.whole_wiring.result (rw c.new-words.ensures.words at c.whole_wiring.ensures.reads)
