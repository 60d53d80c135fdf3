-- The steps of a run: a refusal that is said, outputs that are put, and the report.
use Rattle.std.specs.Prelude.{◌≡◌, ◌⊎◌, ℕ, List, []}
use Rattle.shelf.specs.Faults.{HasRisen}
use Rattle.shelf.specs.Shelf.{IsCutShort}
use Rattle.shelf.specs.Sink.{with_more, IsPartlySaid}
use Rattle.track_graph.specs.declared.history.Block.{Block}
use Rattle.router.specs.declared.outputs.Outputs.{Outputs}
use Rattle.router.specs.declared.run.Done.{Done}
use Rattle.router.specs.declared.refusal.Refusal.{Refusal}
use Rattle.router.specs.declared.refusal.Refusal.TheVariants.{Write, Memory}
use Rattle.router.specs.Words.{CommandLine}
use Rattle.router.specs.Refusals.{status_of}
use Rattle.router.specs.ErrorLines.{error_line}
use Rattle.router.specs.Outputs.{ShelfView, SinkView, with_outputs, IsPartlyPut, IsPutFault, Says}
use Rattle.router.specs.Runs.{Moment, SaysMemory, IsPutFailed, IsSayFailed}

-- the line of a refusal was said, with its status, or memory ran out
abbrev pub SaysRefusal : SinkView → SinkView → Refusal → ℕ → Type 0
SaysRefusal before after refusal status = ((status ≡ status_of refusal) × Says before after (error_line refusal)) ⊎ ((status ≡ 10) × SaysMemory before after)

-- and the run ends without blocks
pub record EndsRefused (before after : SinkView) (refusal : Refusal) (done : Done) : Type 0 where
  pub said : SaysRefusal before after refusal done.status
  pub no_blocks : done.journal.blocks ≡ []

-- a put of the bytes gave up: with a fault, or for want of memory
abbrev pub IsUnputFile : ShelfView → ShelfView → List ℕ → List ℕ → Refusal → Type 0
IsUnputFile before after name bytes (Write n) = (n ≡ name) × HasRisen before.faults after.faults × IsCutShort before.files after.files name bytes
IsUnputFile before after name bytes Memory = IsCutShort before.files after.files name bytes
IsUnputFile before after name bytes _ = ⊥

-- a put of OUT or of JOURNAL gave up
abbrev pub IsUnput : ShelfView → ShelfView → CommandLine → List ℕ → List ℕ → Refusal → Type 0
IsUnput before after asked routed journal (Write n) = HasRisen before.faults after.faults × IsPutFault before.files after.files asked routed journal n
IsUnput before after asked routed journal Memory = IsPartlyPut before.files after.files asked routed journal
IsUnput before after asked routed journal _ = ⊥

-- the report was said, or not whole, or memory ran out
abbrev pub EndsSaid : ℕ → List Block → List ℕ → SinkView → SinkView → Done → Type 0
EndsSaid status blocks report before after done =
    ((done.status ≡ status) × (done.journal.blocks ≡ blocks) × (after.text ≡ with_more before.text report))
    ⊎ ((done.status ≡ 9) × (done.journal.blocks ≡ blocks) × HasRisen before.faults after.faults × IsPartlySaid before.text after.text report)
    ⊎ ((done.status ≡ 10) × (done.journal.blocks ≡ []) × SaysMemory before after)

-- all outputs were written
pub record EndsWritten (asked : CommandLine) (o : Outputs) (before after : Moment) (done : Done) : Type 0 where
  pub status : done.status ≡ o.status
  pub journal : done.journal.blocks ≡ o.journal.blocks
  pub files : after.shelf.files ≡ with_outputs before.shelf.files asked o.routed o.lines
  pub said : after.sink.text ≡ with_more before.sink.text o.report

-- a put failed, or the report
pub record EndsUnwritten (asked : CommandLine) (o : Outputs) (before after : Moment) (done : Done) : Type 0 where
  pub status : done.status ≡ 9
  pub journal : done.journal.blocks ≡ o.journal.blocks
  pub fault : IsPutFailed asked before after o.routed o.lines ⊎ IsSayFailed asked before after o.routed o.lines o.report

-- memory ran out at a put, at the line of one that failed, or at the report
pub record EndsOutOfMemory (asked : CommandLine) (o : Outputs) (before after : Moment) (done : Done) : Type 0 where
  pub status : done.status ≡ 10
  pub no_blocks : done.journal.blocks ≡ []
  pub files : IsPartlyPut before.shelf.files after.shelf.files asked o.routed o.lines ⊎ (after.shelf.files ≡ with_outputs before.shelf.files asked o.routed o.lines)
  pub said : SaysMemory before.sink after.sink

-- how a run ends once a design is routed
abbrev pub Ends : CommandLine → Outputs → Moment → Moment → Done → Type 0
Ends asked o before after done = EndsWritten asked o before after done ⊎ EndsUnwritten asked o before after done ⊎ EndsOutOfMemory asked o before after done
