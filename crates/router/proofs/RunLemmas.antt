-- How a run ends: what its steps come to in the promise of the whole.
use Rattle.std.proofs.Common.{◌≡◌, ◌≢◌, ◌⊎◌, inl, inr, ℕ, ◌≤◌, List, [], Option, Some, None, refl, sym, ap, subst, ◌∙◌, arith, true, false, Bool, lit≤, Result, Ok, Err}
use Rattle.std.specs.Prelude.{OnOk, IfErr, IsErrOf}
use Rattle.shelf.specs.declared.fault.SayFault.{SayFault}
use Rattle.shelf.specs.declared.fault.SayFault.TheVariants.{Failed as SayFailed, Memory as SayMemory}
use Rattle.std.specs.Prelude.{if◌then◌else◌, ◌==◌, codes}
use Rattle.std.specs.Fmt.{digits}
use Rattle.shelf.specs.Sink.{with_more, IsPartlySaid}
use Rattle.router.specs.declared.words.WordsFault.{WordsFault}
use Rattle.track_graph.specs.declared.design.Design.{Design}
use Rattle.track_graph.specs.declared.history.Block.{Block}
use Rattle.track_graph.specs.declared.history.State.{State}
use Rattle.track_graph.specs.States.{state_of}
use Rattle.journal_text.specs.Lines.{journal_lines}
use Rattle.report.specs.Lines.{report_text}
use Rattle.build.specs.declared.error.BuildError.{BuildError}
use Rattle.build.specs.declared.error.BuildError.TheVariants.{Scale, NoMacro, NoComponent, NoPin, NoLayer, NoNet, PinTwice, Wiring, NoTracks, Limit, Memory as BuildMemory}
use Rattle.shelf.specs.Faults.{HasRisen}
use Rattle.shelf.specs.Shelf.{Files, with_file, IsCutShort}
use Rattle.router.specs.declared.outputs.Outputs.{Outputs}
use Rattle.router.specs.declared.run.Done.{Done}
use Rattle.router.specs.declared.refusal.Refusal.{Refusal}
use Rattle.router.specs.declared.refusal.Refusal.TheVariants.{Words, LefBytes, DefBytes, GuideBytes, Lef, Def, Guide, Build, Read, Write, Memory}
use Rattle.router.specs.Words.{CommandLine}
use Rattle.router.specs.Refusals.{status_of, build_status}
use Rattle.router.specs.ErrorLines.{error_line}
use Rattle.router.specs.Outcomes.{input_from, options_of, IsGuideFileRefusal, IsGuideRefusal, IsFirstRefusal}
use Rattle.router.specs.Outputs.{ShelfView, SinkView, with_outputs, IsPartlyPut, IsPutFault, Says}
use Rattle.router.specs.Runs.{Moment, Cause, has_unrouted, routed_text, routed_status, IsRouting, ReadsBack, IsRouted, IsRefused, IsUnwritten, IsPutFailed, IsSayFailed, IsOutOfMemory, SaysMemory, RefusesWords, Runs}
use Rattle.router.specs.Made.{IsRead, IsReady, AreOutputs}
use Rattle.def_out.specs.Conditions.{AreCloses}
use Rattle.read_back.proofs.Again.{read_back}
use Rattle.router.specs.Steps.{SaysRefusal, IsUnputFile, IsUnput, EndsSaid, EndsRefused, Ends}

-- ---- counts of faults

pub risen_from : (a b c : ℕ) → a ≤ b → HasRisen b c → HasRisen a c
risen_from a b c h k = omega arith

pub risen_to : (a b c : ℕ) → HasRisen a b → b ≤ c → HasRisen a c
risen_to a b c h k = omega arith

-- ---- runs by their statuses

routed_runs : (asked : CommandLine) (before after : Moment) (done : Done) → done.status ≤ 1 → IsRouted asked before after done → Runs asked before after done
routed_runs asked before after done s r = record {
  routed = λ _. r;
  refused = λ low high. absurd (omega arith);
  unwritten = λ h. absurd (omega arith);
  out_of_memory = λ h. absurd (omega arith);
  most = omega arith;
}

refused_runs : (asked : CommandLine) (before after : Moment) (done : Done) → 2 ≤ done.status → done.status ≤ 8 → IsRefused asked before after done → Runs asked before after done
refused_runs asked before after done low high r = record {
  routed = λ h. absurd (omega arith);
  refused = λ _ _. r;
  unwritten = λ h. absurd (omega arith);
  out_of_memory = λ h. absurd (omega arith);
  most = omega arith;
}

unwritten_runs : (asked : CommandLine) (before after : Moment) (done : Done) → done.status ≡ 9 → IsUnwritten asked before after done → Runs asked before after done
unwritten_runs asked before after done s r = record {
  routed = λ h. absurd (omega arith);
  refused = λ low high. absurd (omega arith);
  unwritten = λ _. r;
  out_of_memory = λ h. absurd (omega arith);
  most = omega arith;
}

memory_runs : (asked : CommandLine) (before after : Moment) (done : Done) → done.status ≡ 10 → IsOutOfMemory asked before after done → Runs asked before after done
memory_runs asked before after done s r = record {
  routed = λ h. absurd (omega arith);
  refused = λ low high. absurd (omega arith);
  unwritten = λ h. absurd (omega arith);
  out_of_memory = λ _. r;
  most = omega arith;
}

-- ---- refused

-- a refusal that no file of guides has
no_guide : (told : Option Files) (guide : Option (List ℕ)) (r : Refusal) → IsGuideRefusal told guide r → ((name : List ℕ) → IsGuideFileRefusal told name r → ⊥) → ⊥
no_guide told None r h none = h
no_guide told (Some name) r h none = none name h

-- no word, no name of a file that was written and no want of memory is a first refusal
no_words : (told : Option Files) (asked : CommandLine) (e : WordsFault) → IsFirstRefusal told asked (Words e) → ⊥
no_words told asked e h = elim h [ inl x ↦ x | inr l ↦ elim l.2 [ inl x ↦ x | inr d ↦ elim d.2 [ inl x ↦ x | inr t ↦ elim t.2 [ inl x ↦ no_guide told asked.guide (Words e) x (λ name y. y) | inr x ↦ x.2 ] ] ] ]

no_write : (told : Option Files) (asked : CommandLine) (name : List ℕ) → IsFirstRefusal told asked (Write name) → ⊥
no_write told asked name h = elim h [ inl x ↦ x | inr l ↦ elim l.2 [ inl x ↦ x | inr d ↦ elim d.2 [ inl x ↦ x | inr t ↦ elim t.2 [ inl x ↦ no_guide told asked.guide (Write name) x (λ file y. y) | inr x ↦ x.2 ] ] ] ]

-- a refusal with its cause, whose status is from 2 to 8
cause_runs : (asked : CommandLine) (before after : Moment) (done : Done) (r : Refusal) → Cause before.shelf after.shelf asked r → after.shelf.files ≡ before.shelf.files → done.journal.blocks ≡ [] → done.status ≡ status_of r → 2 ≤ status_of r → status_of r ≤ 8 → Says before.sink after.sink (error_line r) → Runs asked before after done
cause_runs asked before after done r cause files blocks s low high said =
    let low' : 2 ≤ done.status = subst (λ n. 2 ≤ n) (sym s) low in
    let high' : done.status ≤ 8 = subst (λ n. n ≤ 8) (sym s) high in
    refused_runs asked before after done low' high' (record { refusal = r; status = s; cause = cause; said = said; files = files; no_blocks = blocks })

-- a refusal of the design
build_runs : (asked : CommandLine) (before after : Moment) (done : Done) (e : BuildError) → Cause before.shelf after.shelf asked (Build e) → after.shelf.files ≡ before.shelf.files → done.journal.blocks ≡ [] → done.status ≡ build_status e → Says before.sink after.sink (error_line (Build e)) → Runs asked before after done
build_runs asked before after done (Scale lef def) cause files blocks s said = cause_runs asked before after done (Build (Scale lef def)) cause files blocks s (lit≤ tt) (lit≤ tt) said
build_runs asked before after done (NoMacro name) cause files blocks s said = cause_runs asked before after done (Build (NoMacro name)) cause files blocks s (lit≤ tt) (lit≤ tt) said
build_runs asked before after done (NoComponent name) cause files blocks s said = cause_runs asked before after done (Build (NoComponent name)) cause files blocks s (lit≤ tt) (lit≤ tt) said
build_runs asked before after done (NoPin name) cause files blocks s said = cause_runs asked before after done (Build (NoPin name)) cause files blocks s (lit≤ tt) (lit≤ tt) said
build_runs asked before after done (NoLayer name) cause files blocks s said = cause_runs asked before after done (Build (NoLayer name)) cause files blocks s (lit≤ tt) (lit≤ tt) said
build_runs asked before after done (NoNet name) cause files blocks s said = cause_runs asked before after done (Build (NoNet name)) cause files blocks s (lit≤ tt) (lit≤ tt) said
build_runs asked before after done (PinTwice name) cause files blocks s said = cause_runs asked before after done (Build (PinTwice name)) cause files blocks s (lit≤ tt) (lit≤ tt) said
build_runs asked before after done (Wiring fault) cause files blocks s said = cause_runs asked before after done (Build (Wiring fault)) cause files blocks s (lit≤ tt) (lit≤ tt) said
build_runs asked before after done (NoTracks name) cause files blocks s said = cause_runs asked before after done (Build (NoTracks name)) cause files blocks s (lit≤ tt) (lit≤ tt) said
build_runs asked before after done (Limit what count most) cause files blocks s said = cause_runs asked before after done (Build (Limit what count most)) cause files blocks s (lit≤ tt) (lit≤ tt) said
build_runs asked before after done BuildMemory cause files blocks s said = memory_runs asked before after done s (record { said = inl said; files = inl files; no_blocks = blocks })

-- a refusal that was said with its status
said_runs : (asked : CommandLine) (before after : Moment) (done : Done) (r : Refusal) → (r ≢ Memory → Cause before.shelf after.shelf asked r) → after.shelf.files ≡ before.shelf.files → done.journal.blocks ≡ [] → done.status ≡ status_of r → Says before.sink after.sink (error_line r) → Runs asked before after done
said_runs asked before after done (Words e) cause files blocks s said = absurd (no_words before.shelf.files asked e (cause (λ h. cc)))
said_runs asked before after done (LefBytes read) cause files blocks s said = cause_runs asked before after done (LefBytes read) (cause (λ h. cc)) files blocks s (lit≤ tt) (lit≤ tt) said
said_runs asked before after done (DefBytes read) cause files blocks s said = cause_runs asked before after done (DefBytes read) (cause (λ h. cc)) files blocks s (lit≤ tt) (lit≤ tt) said
said_runs asked before after done (GuideBytes read) cause files blocks s said = cause_runs asked before after done (GuideBytes read) (cause (λ h. cc)) files blocks s (lit≤ tt) (lit≤ tt) said
said_runs asked before after done (Lef e) cause files blocks s said = cause_runs asked before after done (Lef e) (cause (λ h. cc)) files blocks s (lit≤ tt) (lit≤ tt) said
said_runs asked before after done (Def e) cause files blocks s said = cause_runs asked before after done (Def e) (cause (λ h. cc)) files blocks s (lit≤ tt) (lit≤ tt) said
said_runs asked before after done (Guide e) cause files blocks s said = cause_runs asked before after done (Guide e) (cause (λ h. cc)) files blocks s (lit≤ tt) (lit≤ tt) said
said_runs asked before after done (Build e) cause files blocks s said = build_runs asked before after done e (cause (λ h. cc)) files blocks s said
said_runs asked before after done (Read name) cause files blocks s said = cause_runs asked before after done (Read name) (cause (λ h. cc)) files blocks s (lit≤ tt) (lit≤ tt) said
said_runs asked before after done (Write name) cause files blocks s said = absurd (no_write before.shelf.files asked name (cause (λ h. cc)))
said_runs asked before after done Memory cause files blocks s said = memory_runs asked before after done s (record { said = inl said; files = inl files; no_blocks = blocks })

-- a run that is refused before anything is put
pub runs_refused : (asked : CommandLine) (before after : Moment) (done : Done) (r : Refusal) → (r ≢ Memory → Cause before.shelf after.shelf asked r) → after.shelf.files ≡ before.shelf.files → EndsRefused before.sink after.sink r done → Runs asked before after done
runs_refused asked before after done r cause files ends = elim ends.said [
  | inl said ↦ said_runs asked before after done r cause files ends.no_blocks said.0 said.1
  | inr said ↦ memory_runs asked before after done said.0 (record { said = said.1; files = inl files; no_blocks = ends.no_blocks })
]

-- ---- routed

status_low : (d : Design) (s : State) → routed_status d s ≤ 1
status_low d s = at (has_unrouted d s)
  where
    at : (b : Bool) → (if b then 1 else 0) ≤ 1
    at true = lit≤ tt
    at false = lit≤ tt

-- the routed DEF is read again
written_again : (asked : CommandLine) (told : Option Files) (text : List ℕ) (d : Design) (blocks : List Block) → (read : IsRead told asked text d) → IsReady text d → IsRouting d blocks → ReadsBack read.designed blocks
written_again asked told text d blocks read fits routing =
    let designed = read.designed in
    read_back (input_from designed.def designed.said designed.guides) (options_of asked designed.said) d blocks designed.def_cut.cut designed.say.def_says
    (record { is_lef = read.readable.lef_fits; is_def = read.readable.def_fits; gives = designed.gives; design = fits.design; ordered = read.ordered; closes = subst (λ x. AreCloses x d.nets) designed.text_is fits.closes; history = routing.finished.history })

-- the texts that were put are those of the journal
pub runs_ended : (asked : CommandLine) (before after : Moment) (text : List ℕ) (d : Design) (o : Outputs) (done : Done) → IsRead before.shelf.files asked text d → IsReady text d → AreOutputs text d o → Ends asked o before after done → Runs asked before after done
runs_ended asked before after text d o done read fits made ends = elim ends [
  | inl w ↦
      let routing : IsRouting d done.journal.blocks = subst (λ (bs : List Block). IsRouting d bs) (sym w.journal) made.routing in
      let status : done.status ≡ routed_status d (state_of d done.journal.blocks) = w.status ∙ made.status ∙ ap (λ (bs : List Block). routed_status d (state_of d bs)) (sym w.journal) in
      routed_runs asked before after done (subst (λ n. n ≤ 1) (sym status) (status_low d (state_of d done.journal.blocks))) (record {
        text = text;
        design = d;
        designed = read.designed;
        routing = routing;
        read_back = written_again asked before.shelf.files text d done.journal.blocks read fits routing;
        files = w.files ∙ ap (λ (r : List ℕ). with_outputs before.shelf.files asked r o.lines) (made.routed ∙ ap (routed_text text d) (sym w.journal)) ∙ ap (λ (l : List ℕ). with_outputs before.shelf.files asked (routed_text text d done.journal.blocks) l) (made.lines ∙ ap (journal_lines d) (sym w.journal));
        said = w.said ∙ ap (λ (r : List ℕ). with_more before.sink.text r) (made.report ∙ ap (report_text d) (sym w.journal));
        status = status;
      })
  | inr v ↦ elim v [
    | inl w ↦
        let routed = made.routed ∙ ap (routed_text text d) (sym w.journal) in
        let lines = made.lines ∙ ap (journal_lines d) (sym w.journal) in
        let report = made.report ∙ ap (report_text d) (sym w.journal) in
        let Fault : List ℕ → List ℕ → List ℕ → Type 0 = λ r l t. IsPutFailed asked before after r l ⊎ IsSayFailed asked before after r l t in
        unwritten_runs asked before after done w.status (record {
          text = text;
          design = d;
          designed = read.designed;
          routing = subst (λ (bs : List Block). IsRouting d bs) (sym w.journal) made.routing;
          fault = subst (λ r. Fault r (journal_lines d done.journal.blocks) (report_text d done.journal.blocks)) routed (subst (λ l. Fault o.routed l (report_text d done.journal.blocks)) lines (subst (λ t. Fault o.routed o.lines t) report w.fault));
        })
    | inr w ↦
        let Left : List ℕ → List ℕ → Type 0 = λ r l. IsPartlyPut before.shelf.files after.shelf.files asked r l ⊎ (after.shelf.files ≡ with_outputs before.shelf.files asked r l) in
        memory_runs asked before after done w.status (record {
          said = w.said;
          files = inr (record {
            text = text;
            design = d;
            blocks = o.journal.blocks;
            designed = read.designed;
            routing = made.routing;
            files = subst (λ r. Left r (journal_lines d o.journal.blocks)) made.routed (subst (λ l. Left o.routed l) made.lines w.files);
          });
          no_blocks = w.no_blocks;
        })
  ]
]

-- ---- steps

-- the line of want of memory, byte by byte
pub memory_line : codes "error 10 memory\n" ≡ error_line Memory
unfolding digits
memory_line = refl

-- the line of want of memory, or any other that may meet it
pub said_memory : (before after : SinkView) (r : Result (Unit {0}) SayFault) (bytes : List ℕ) → bytes ≡ error_line Memory → OnOk r (after.text ≡ with_more before.text bytes) → (IsErrOf r SayFailed → HasRisen before.faults after.faults) → (IsErrOf r SayFailed → IsPartlySaid before.text after.text bytes) → (IsErrOf r SayMemory → after.text ≡ before.text) → SaysMemory before after
said_memory before after (Ok x) bytes is ok failed part memory = inl (inl (rw is at ok))
said_memory before after (Err SayFailed) bytes is ok failed part memory = inl (inr (failed refl, rw is at (part refl)))
said_memory before after (Err SayMemory) bytes is ok failed part memory = inr (memory refl)

-- a put that failed
pub unput_file : (before after : ShelfView) (name bytes : List ℕ) (r : Refusal) → (r ≡ Memory) ⊎ (r ≡ Write name) → HasRisen before.faults after.faults → IsCutShort before.files after.files name bytes → IsUnputFile before after name bytes r
unput_file before after name bytes r h risen cut = elim h [
  | inl is ↦ rw is cut
  | inr is ↦ rw is (refl, risen, cut)
]

-- OUT was not put
pub unput_out : (before after : ShelfView) (asked : CommandLine) (name routed journal : List ℕ) (r : Refusal) → name ≡ asked.out → IsUnputFile before after name routed r → IsUnput before after asked routed journal r
unput_out before after asked name routed journal (Words e) is h = absurd h
unput_out before after asked name routed journal (LefBytes read) is h = absurd h
unput_out before after asked name routed journal (DefBytes read) is h = absurd h
unput_out before after asked name routed journal (GuideBytes read) is h = absurd h
unput_out before after asked name routed journal (Lef e) is h = absurd h
unput_out before after asked name routed journal (Def e) is h = absurd h
unput_out before after asked name routed journal (Guide e) is h = absurd h
unput_out before after asked name routed journal (Build e) is h = absurd h
unput_out before after asked name routed journal (Read n) is h = absurd h
unput_out before after asked name routed journal (Write n) is h = (h.1, inl (h.0 ∙ is, subst (λ n. IsCutShort before.files after.files n routed) is h.2))
unput_out before after asked name routed journal Memory is h = inl (subst (λ n. IsCutShort before.files after.files n routed) is h)

-- a second file was cut short behind a first that was put
cut_behind : (before mid after : ShelfView) (asked : CommandLine) (out_name name routed journal : List ℕ) → out_name ≡ asked.out → name ≡ asked.journal → mid.files ≡ with_file before.files out_name routed → IsCutShort mid.files after.files name journal → IsCutShort (with_file before.files asked.out routed) after.files asked.journal journal
cut_behind before mid after asked out_name name routed journal is is' ok h =
    subst (λ n. IsCutShort (with_file before.files asked.out routed) after.files n journal) is'
    (subst (λ n. IsCutShort (with_file before.files n routed) after.files name journal) is
    (subst (λ t. IsCutShort t after.files name journal) ok h))

-- JOURNAL was not put
pub unput_journal : (before mid after : ShelfView) (asked : CommandLine) (out_name name routed journal : List ℕ) (r : Refusal) → out_name ≡ asked.out → name ≡ asked.journal → mid.files ≡ with_file before.files out_name routed → before.faults ≤ mid.faults → IsUnputFile mid after name journal r → IsUnput before after asked routed journal r
unput_journal before mid after asked out_name name routed journal (Words e) is is' ok count h = absurd h
unput_journal before mid after asked out_name name routed journal (LefBytes read) is is' ok count h = absurd h
unput_journal before mid after asked out_name name routed journal (DefBytes read) is is' ok count h = absurd h
unput_journal before mid after asked out_name name routed journal (GuideBytes read) is is' ok count h = absurd h
unput_journal before mid after asked out_name name routed journal (Lef e) is is' ok count h = absurd h
unput_journal before mid after asked out_name name routed journal (Def e) is is' ok count h = absurd h
unput_journal before mid after asked out_name name routed journal (Guide e) is is' ok count h = absurd h
unput_journal before mid after asked out_name name routed journal (Build e) is is' ok count h = absurd h
unput_journal before mid after asked out_name name routed journal (Read n) is is' ok count h = absurd h
unput_journal before mid after asked out_name name routed journal (Write n) is is' ok count h =
    (risen_from before.faults mid.faults after.faults count h.1, inr (h.0 ∙ is', cut_behind before mid after asked out_name name routed journal is is' ok h.2))
unput_journal before mid after asked out_name name routed journal Memory is is' ok count h = inr (cut_behind before mid after asked out_name name routed journal is is' ok h)

-- both were put
pub put_both : (told mid after : Option Files) (asked : CommandLine) (out_name name routed journal : List ℕ) (r : Result (Unit {0}) Refusal) → out_name ≡ asked.out → name ≡ asked.journal → mid ≡ with_file told out_name routed → OnOk r (after ≡ with_file mid name journal) → OnOk r (after ≡ with_outputs told asked routed journal)
put_both told mid after asked out_name name routed journal (Ok x) is is' ok h = rw (ok, is, is') at h
put_both told mid after asked out_name name routed journal (Err e) is is' ok h = h

-- the line of a refusal
pub said_line : (before after : SinkView) (refusal : Refusal) (status : ℕ) (r : Result (Unit {0}) SayFault) (bytes : List ℕ) → bytes ≡ error_line refusal → r ≢ Err SayMemory → status ≡ status_of refusal → OnOk r (after.text ≡ with_more before.text bytes) → (IsErrOf r SayFailed → HasRisen before.faults after.faults) → (IsErrOf r SayFailed → IsPartlySaid before.text after.text bytes) → SaysRefusal before after refusal status
said_line before after refusal status (Ok x) bytes is ne s ok failed part = inl (s, inl (rw is at ok))
said_line before after refusal status (Err SayFailed) bytes is ne s ok failed part = inl (s, inr (failed refl, rw is at (part refl)))
said_line before after refusal status (Err SayMemory) bytes is ne s ok failed part = absurd (ne refl)

-- want of memory is said behind something that left the text as it was
pub memory_behind : (before mid after : SinkView) → mid.text ≡ before.text → before.faults ≤ mid.faults → SaysMemory mid after → SaysMemory before after
memory_behind before mid after same count said = elim said [
  | inl says ↦ elim says [
    | inl whole ↦ inl (inl (rw same at whole))
    | inr part ↦ inl (inr (risen_from before.faults mid.faults after.faults count part.0, rw same at part.1))
  ]
  | inr is ↦ inr (is ∙ same)
]

-- the outputs were put, and the report was said or not
pub ends_said : (asked : CommandLine) (o : Outputs) (before after : Moment) (done : Done) → after.shelf.files ≡ with_outputs before.shelf.files asked o.routed o.lines → EndsSaid o.status o.journal.blocks o.report before.sink after.sink done → Ends asked o before after done
ends_said asked o before after done files said = elim said [
  | inl w ↦ inl (record { status = w.0; journal = w.1; files = files; said = w.2 })
  | inr v ↦ elim v [
    | inl w ↦ inr (inl (record { status = w.0; journal = w.1; fault = inr (record { risen = w.2; files = files; said = w.3 }) }))
    | inr w ↦ inr (inr (record { status = w.0; no_blocks = w.1; files = inr files; said = w.2 }))
  ]
]

partly_put : (old new : Option Files) (asked : CommandLine) (routed journal name : List ℕ) → IsPutFault old new asked routed journal name → IsPartlyPut old new asked routed journal
partly_put old new asked routed journal name h = elim h [ inl x ↦ inl x.1 | inr x ↦ inr x.1 ]

-- an output was not put, and the line was said or not
pub ends_unput : (asked : CommandLine) (o : Outputs) (before after : Moment) (done : Done) (r : Refusal) → IsUnput before.shelf after.shelf asked o.routed o.lines r → SaysRefusal before.sink after.sink r done.status → done.journal.blocks ≡ (if done.status == 9 then o.journal.blocks else []) → Ends asked o before after done
ends_unput asked o before after done (Words e) h said blocks = absurd h
ends_unput asked o before after done (LefBytes read) h said blocks = absurd h
ends_unput asked o before after done (DefBytes read) h said blocks = absurd h
ends_unput asked o before after done (GuideBytes read) h said blocks = absurd h
ends_unput asked o before after done (Lef e) h said blocks = absurd h
ends_unput asked o before after done (Def e) h said blocks = absurd h
ends_unput asked o before after done (Guide e) h said blocks = absurd h
ends_unput asked o before after done (Build e) h said blocks = absurd h
ends_unput asked o before after done (Read n) h said blocks = absurd h
ends_unput asked o before after done (Write n) h said blocks = elim said [
  | inl s ↦ inr (inl (record { status = s.0; journal = rw s.0 at blocks; fault = inl (record { name = n; risen = h.0; files = h.1; said = s.1 }) }))
  | inr s ↦ inr (inr (record { status = s.0; no_blocks = rw s.0 at blocks; files = inl (partly_put before.shelf.files after.shelf.files asked o.routed o.lines n h.1); said = s.1 }))
]
ends_unput asked o before after done Memory h said blocks = elim said [
  | inl s ↦ inr (inr (record { status = s.0; no_blocks = rw s.0 at blocks; files = inl h; said = inl s.1 }))
  | inr s ↦ inr (inr (record { status = s.0; no_blocks = rw s.0 at blocks; files = inl h; said = s.1 }))
]

-- reading leaves the files as they were
put_failed_from : (asked : CommandLine) (s : ShelfView) (k : SinkView) (t : ShelfView) (after : Moment) (routed journal : List ℕ) → t.files ≡ s.files → s.faults ≤ t.faults → IsPutFailed asked (record { shelf = t; sink = k }) after routed journal → IsPutFailed asked (record { shelf = s; sink = k }) after routed journal
put_failed_from asked s k t after routed journal same count h = record {
  name = h.name;
  risen = risen_from s.faults t.faults after.shelf.faults count h.risen;
  files = subst (λ told. IsPutFault told after.shelf.files asked routed journal h.name) same h.files;
  said = h.said;
}

say_failed_from : (asked : CommandLine) (s : ShelfView) (k : SinkView) (t : ShelfView) (after : Moment) (routed journal report : List ℕ) → t.files ≡ s.files → IsSayFailed asked (record { shelf = t; sink = k }) after routed journal report → IsSayFailed asked (record { shelf = s; sink = k }) after routed journal report
say_failed_from asked s k t after routed journal report same h = record {
  risen = h.risen;
  files = h.files ∙ ap (λ told. with_outputs told asked routed journal) same;
  said = h.said;
}

pub ends_from : (asked : CommandLine) (o : Outputs) (s : ShelfView) (k : SinkView) (t : ShelfView) (after : Moment) (done : Done) → t.files ≡ s.files → s.faults ≤ t.faults → Ends asked o (record { shelf = t; sink = k }) after done → Ends asked o (record { shelf = s; sink = k }) after done
ends_from asked o s k t after done same count ends = elim ends [
  | inl w ↦ inl (record { status = w.status; journal = w.journal; files = w.files ∙ ap (λ told. with_outputs told asked o.routed o.lines) same; said = w.said })
  | inr v ↦ elim v [
    | inl w ↦ inr (inl (record { status = w.status; journal = w.journal; fault = elim w.fault [ inl x ↦ inl (put_failed_from asked s k t after o.routed o.lines same count x) | inr x ↦ inr (say_failed_from asked s k t after o.routed o.lines o.report same x) ] }))
    | inr w ↦ inr (inr (record {
      status = w.status;
      no_blocks = w.no_blocks;
      files = elim w.files [
        | inl x ↦ inl (subst (λ told. IsPartlyPut told after.shelf.files asked o.routed o.lines) same x)
        | inr x ↦ inr (x ∙ ap (λ told. with_outputs told asked o.routed o.lines) same)
      ];
      said = w.said;
    }))
  ]
]

-- the words are refused
pub words_refused : (fault : WordsFault) (s : ShelfView) (old new : SinkView) (done : Done) → EndsRefused old new (Words fault) done → RefusesWords fault (record { shelf = s; sink = old }) (record { shelf = s; sink = new }) done
words_refused fault s old new done ends = record { said = ends.said; files = refl; no_blocks = ends.no_blocks }

-- the put of JOURNAL behind that of OUT
pub behind_put : (before mid after : ShelfView) (asked : CommandLine) (out_name name routed journal : List ℕ) (r : Result (Unit {0}) Refusal) → out_name ≡ asked.out → name ≡ asked.journal → mid.files ≡ with_file before.files out_name routed → before.faults ≤ mid.faults → IfErr r (IsUnputFile mid after name journal) → IfErr r (IsUnput before after asked routed journal)
behind_put before mid after asked out_name name routed journal (Ok x) is is' ok count h = tt
behind_put before mid after asked out_name name routed journal (Err e) is is' ok count h = unput_journal before mid after asked out_name name routed journal e is is' ok count h
