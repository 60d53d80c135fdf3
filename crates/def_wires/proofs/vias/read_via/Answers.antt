use Rattle.rt_forms.proofs.Whole.{reads_text, whole_is}
use Rattle.def_wires.specs.Faults.{wire_faults}
use Rattle.def_wires.specs.Vias.{named_via, via_form}
use Rattle.def_wires.proofs.ViaGrammar.{lawful_via_form}
use Rattle.def_wires.proofs.vias.read_via.Goals as goal

pub returns-clause-reads : goal.returns-clause-reads
returns-clause-reads c = reads_text wire_faults (λ v. v) (via_form c.args.name.now c.args.tech.now) (lawful_via_form c.args.name.now c.args.tech.now) (whole_is (named_via c.args.name.now c.args.tech.now)) c.args.text.now c.args.tokens.now _ c.whole_via.result (rw c.new-words.ensures.words at c.whole_via.ensures.reads)
