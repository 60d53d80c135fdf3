-- What a run comes to, and what it leaves: the promise of the whole router.
use Rattle.std.specs.Prelude.{◌≡◌, ◌⊎◌, ℕ, ◌≤◌, List, [], Option, Some, Bool, ◌||◌, if◌then◌else◌}
use Rattle.std.specs.List.{list_any, zip}
use Rattle.track_graph.specs.declared.design.Design.{Design}
use Rattle.track_graph.specs.declared.design.Net.{Net}
use Rattle.track_graph.specs.declared.history.Block.{Block}
use Rattle.track_graph.specs.declared.history.State.{State}
use Rattle.track_graph.specs.Histories.{IsFinishedHistory}
use Rattle.track_graph.specs.Orders.{AreTakenInOrder}
use Rattle.track_graph.specs.States.{state_of}
use Rattle.ripup.specs.Headline.{IsHeadline}
use Rattle.def_out.specs.Wiring.{routed_def}
use Rattle.journal_text.specs.Lines.{journal_lines}
use Rattle.report.specs.Lines.{is_open, is_unguided, report_text}
use Rattle.shelf.specs.Faults.{HasRisen}
use Rattle.shelf.specs.Shelf.{Files}
use Rattle.shelf.specs.Sink.{with_more, IsPartlySaid}
use Rattle.router.specs.declared.run.Done.{Done}
use Rattle.router.specs.declared.refusal.Refusal.{Refusal}
use Rattle.router.specs.declared.refusal.Refusal.TheVariants.{Words, Read, Write, Memory}
use Rattle.router.specs.declared.words.WordsFault.{WordsFault}
use Rattle.router.specs.Words.{CommandLine}
use Rattle.router.specs.Refusals.{status_of}
use Rattle.router.specs.ErrorLines.{error_line}
use Rattle.read_back.specs.ReadBack.{IsReadBack}
use Rattle.router.specs.Outcomes.{IsDesigned, IsFirstRefusal, input_from}
use Rattle.router.specs.Outputs.{ShelfView, SinkView, shelf_at, sink_at, with_outputs, IsPartlyPut, IsPutFault, Says}

-- what a shelf and a sink tell at one moment
pub record Moment : Type 0 where
  pub shelf : ShelfView
  pub sink : SinkView

abbrev pub moment_at : {F K : Type 0} → (F → Option Files) → (F → ℕ) → (K → Option (List ℕ)) → (K → ℕ) → F → K → Moment
moment_at told faults text text_faults files out = record { shelf = shelf_at told faults files; sink = sink_at text text_faults out }

-- ---- routed

-- a routable net has a pin that isn't joined, or a net has no guide
abbrev pub has_unrouted : Design → State → Bool
has_unrouted d s = list_any is_open (zip d.nets s.nets) || list_any (λ (net : Net). is_unguided net.kind) d.nets

-- 0, or 1 where a net is stuck or unguided
abbrev pub routed_status : Design → State → ℕ
routed_status d s = if has_unrouted d s then 1 else 0

-- the DEF text with the wires that stand after the blocks
abbrev pub routed_text : List ℕ → Design → List Block → List ℕ
routed_text text d blocks = routed_def text d (state_of d blocks)

-- the blocks are a finished history of one thread, keep what the router promises of each wire and each mark, and first take the nets in their order
pub record IsRouting (d : Design) (blocks : List Block) : Type 0 where
  pub finished : IsFinishedHistory d blocks
  pub headline : IsHeadline d blocks
  pub order : AreTakenInOrder d blocks

-- the routed DEF of a design that the files gave, read again, says what DEF said, and its wiring states the final wires
abbrev pub ReadsBack : {told : Option Files} {asked : CommandLine} {text : List ℕ} {d : Design} → IsDesigned told asked text d → List Block → Type 0
ReadsBack {told} {asked} {text} {d} designed blocks = IsReadBack (input_from designed.def designed.said designed.guides) d (state_of d blocks)

-- the files told a design, and the journal is its routing: OUT holds the routed DEF, JOURNAL the journal, every other name what it held, and the report was said
pub record IsRouted (asked : CommandLine) (before after : Moment) (done : Done) : Type 0 where
  pub text : List ℕ
  pub design : Design
  pub designed : IsDesigned before.shelf.files asked text design
  pub routing : IsRouting design done.journal.blocks
  pub read_back : ReadsBack designed done.journal.blocks
  pub files : after.shelf.files ≡ with_outputs before.shelf.files asked (routed_text text design done.journal.blocks) (journal_lines design done.journal.blocks)
  pub said : after.sink.text ≡ with_more before.sink.text (report_text design done.journal.blocks)
  pub status : done.status ≡ routed_status design (state_of design done.journal.blocks)

-- ---- refused

-- a file could not be read, with a fault in this call; or it is the first refusal of the files
abbrev pub Cause : ShelfView → ShelfView → CommandLine → Refusal → Type 0
Cause before after asked (Read name) = HasRisen before.faults after.faults × ((name ≡ asked.lef) ⊎ (name ≡ asked.def) ⊎ (asked.guide ≡ Some name))
Cause before after asked r = IsFirstRefusal before.files asked r

-- a refusal with its cause: its line was said, and the files are as before
pub record IsRefused (asked : CommandLine) (before after : Moment) (done : Done) : Type 0 where
  pub refusal : Refusal
  pub status : done.status ≡ status_of refusal
  pub cause : Cause before.shelf after.shelf asked refusal
  pub said : Says before.sink after.sink (error_line refusal)
  pub files : after.shelf.files ≡ before.shelf.files
  pub no_blocks : done.journal.blocks ≡ []

-- ---- ended while the outputs were written

-- OUT or JOURNAL could not be put, with a fault in this call, and the line that names it was said
pub record IsPutFailed (asked : CommandLine) (before after : Moment) (routed journal : List ℕ) : Type 0 where
  pub name : List ℕ
  pub risen : HasRisen before.shelf.faults after.shelf.faults
  pub files : IsPutFault before.shelf.files after.shelf.files asked routed journal name
  pub said : Says before.sink after.sink (error_line (Write name))

-- both were put, and the report could not be said, with a fault in this call
pub record IsSayFailed (asked : CommandLine) (before after : Moment) (routed journal report : List ℕ) : Type 0 where
  pub risen : HasRisen before.sink.faults after.sink.faults
  pub files : after.shelf.files ≡ with_outputs before.shelf.files asked routed journal
  pub said : IsPartlySaid before.sink.text after.sink.text report

-- a design was routed, and an output could not be written
pub record IsUnwritten (asked : CommandLine) (before after : Moment) (done : Done) : Type 0 where
  pub text : List ℕ
  pub design : Design
  pub designed : IsDesigned before.shelf.files asked text design
  pub routing : IsRouting design done.journal.blocks
  pub fault : IsPutFailed asked before after (routed_text text design done.journal.blocks) (journal_lines design done.journal.blocks)
      ⊎ IsSayFailed asked before after (routed_text text design done.journal.blocks) (journal_lines design done.journal.blocks) (report_text design done.journal.blocks)

-- ---- want of memory

-- a design was routed, and some of the outputs were put
pub record IsPartlyWritten (asked : CommandLine) (before after : ShelfView) : Type 0 where
  pub text : List ℕ
  pub design : Design
  pub blocks : List Block
  pub designed : IsDesigned before.files asked text design
  pub routing : IsRouting design blocks
  pub files : IsPartlyPut before.files after.files asked (routed_text text design blocks) (journal_lines design blocks)
      ⊎ (after.files ≡ with_outputs before.files asked (routed_text text design blocks) (journal_lines design blocks))

-- its line was said, or nothing
abbrev pub SaysMemory : SinkView → SinkView → Type 0
SaysMemory before after = Says before after (error_line Memory) ⊎ (after.text ≡ before.text)

pub record IsOutOfMemory (asked : CommandLine) (before after : Moment) (done : Done) : Type 0 where
  pub said : SaysMemory before.sink after.sink
  pub files : (after.shelf.files ≡ before.shelf.files) ⊎ IsPartlyWritten asked before.shelf after.shelf
  pub no_blocks : done.journal.blocks ≡ []

-- ---- the whole

-- what a run of `route` with these files comes to, by its status
pub record Runs (asked : CommandLine) (before after : Moment) (done : Done) : Type 0 where
  -- 0 and 1: routed
  pub routed : done.status ≤ 1 → IsRouted asked before after done
  -- 3 to 8: refused
  pub refused : 2 ≤ done.status → done.status ≤ 8 → IsRefused asked before after done
  -- 9: an output could not be written
  pub unwritten : done.status ≡ 9 → IsUnwritten asked before after done
  -- 10: want of memory
  pub out_of_memory : done.status ≡ 10 → IsOutOfMemory asked before after done
  -- and no other
  pub most : done.status ≤ 10

-- a run answers what its files come to: their first refusal has its status, and a design is routed, unless a fault came in this call or memory ran out
pub record AnswersExactly (asked : CommandLine) (before after : Moment) (done : Done) : Type 0 where
  pub refusals : (files : Files) (r : Refusal) → before.shelf.files ≡ Some files → IsFirstRefusal (Some files) asked r → ¬ HasRisen before.shelf.faults after.shelf.faults → (done.status ≡ status_of r) ⊎ (done.status ≡ 10)
  pub designs : (files : Files) (text : List ℕ) (d : Design) → before.shelf.files ≡ Some files → IsDesigned (Some files) asked text d → ¬ HasRisen before.shelf.faults after.shelf.faults → ¬ HasRisen before.sink.faults after.sink.faults → (done.status ≤ 1) ⊎ (done.status ≡ 10)

-- what a run with words that are no command line comes to: status 2, or want of memory, and nothing is touched
pub record RefusesWords (fault : WordsFault) (before after : Moment) (done : Done) : Type 0 where
  pub said : ((done.status ≡ 2) × Says before.sink after.sink (error_line (Words fault))) ⊎ ((done.status ≡ 10) × SaysMemory before.sink after.sink)
  pub files : after.shelf.files ≡ before.shelf.files
  pub no_blocks : done.journal.blocks ≡ []
