-- What a design that was read is ready for, and what is made of it.
use Rattle.std.specs.Prelude.{◌≡◌, ℕ, List, Option}
use Rattle.track_graph.specs.declared.design.Design.{Design}
use Rattle.track_graph.specs.Designs.{IsDesign}
use Rattle.track_graph.specs.States.{state_of}
use Rattle.def_out.specs.Conditions.{AreCloses}
use Rattle.journal_text.specs.Lines.{journal_lines}
use Rattle.report.specs.Lines.{report_text}
use Rattle.shelf.specs.Shelf.{Files}
use Rattle.wire_cover.specs.GoodStrokes.{AreViasOrdered}
use Rattle.router.specs.declared.outputs.Outputs.{Outputs}
use Rattle.router.specs.Words.{CommandLine}
use Rattle.router.specs.Outcomes.{IsDesigned}
use Rattle.router.specs.Sources.{AreReadable}
use Rattle.router.specs.Runs.{IsRouting, routed_text, routed_status}

-- the files give the design, and what they say is in range
pub record IsRead (told : Option Files) (asked : CommandLine) (text : List ℕ) (d : Design) : Type 0 where
  pub designed : IsDesigned told asked text d
  pub readable : AreReadable designed.def designed.said
  pub ordered : AreViasOrdered d.tech

-- the design can be routed, and its nets end in this text
pub record IsReady (text : List ℕ) (d : Design) : Type 0 where
  pub design : IsDesign d
  pub closes : AreCloses text d.nets

-- the journal routes the design, and the texts are those of the journal
pub record AreOutputs (text : List ℕ) (d : Design) (o : Outputs) : Type 0 where
  pub routing : IsRouting d o.journal.blocks
  pub routed : o.routed ≡ routed_text text d o.journal.blocks
  pub lines : o.lines ≡ journal_lines d o.journal.blocks
  pub report : o.report ≡ report_text d o.journal.blocks
  pub status : o.status ≡ routed_status d (state_of d o.journal.blocks)
