-- Why a file gave no tokens.
use Rattle.std.specs.Prelude.{◌≡◌, ℕ, ◌<◌, ◌^◌, List, Option, Some, None, length}
use Rattle.rt_base.specs.Scan.{IsCutInto}
use Rattle.rt_base.specs.declared.scan.ScanError.{ScanError}
use Rattle.rt_base.specs.declared.scan.ScanError.TheVariants.{UnclosedQuote, NotText, Memory as ScanMemory}
use Rattle.rt_forms.specs.Clauses.{IsRefused}
use Rattle.lef_text.specs.IsLef.{IsLef}
use Rattle.def_text.specs.Defs.{IsDef, AreRanges, AreCloses}
use Rattle.guide_text.specs.Faults.{guide_faults}
use Rattle.guide_text.specs.Guides.{guides as guides_form}
use Rattle.shelf.specs.declared.fault.TakeFault.{TakeFault}
use Rattle.shelf.specs.declared.fault.TakeFault.TheVariants.{Failed as TakeFailed, Long as TakeLong, Memory as TakeMemory}
use Rattle.shelf.specs.Faults.{HasRisen}
use Rattle.shelf.specs.Shelf.{Files}
use Rattle.router.specs.declared.source.SourceFault.{SourceFault}
use Rattle.router.specs.declared.source.SourceFault.TheVariants.{Failed, Long, Scan, Memory}
use Rattle.router.specs.declared.source.Source.{Source}
use Rattle.router.specs.declared.read.Texts.{Texts}
use Rattle.router.specs.declared.refusal.Refusal.{Refusal}
use Rattle.router.specs.declared.refusal.Refusal.TheVariants.{Guide, Read, Memory as OutOfMemory}
use Rattle.router.specs.Outcomes.{IsTooLong, IsUncut, IsLefFileRefusal, IsDefFileRefusal, IsGuideFileRefusal}
use Rattle.router.specs.Outputs.{ShelfView}

abbrev pub of_take : TakeFault → SourceFault
of_take TakeFailed = Failed
of_take (TakeLong read) = Long read
of_take TakeMemory = Memory

abbrev pub of_scan : ScanError → SourceFault
of_scan (UnclosedQuote line) = Scan (UnclosedQuote line)
of_scan (NotText line) = Scan (NotText line)
of_scan ScanMemory = Memory

-- a fault came, or the file is above its limit or has no tokens; or memory ran out
abbrev pub IsSourceFault : Option Files → ℕ → ℕ → List ℕ → ℕ → SourceFault → Type 0
IsSourceFault told before after name most Failed = HasRisen before after
IsSourceFault told before after name most (Long read) = IsTooLong told name most read
IsSourceFault told before after name most (Scan e) = IsUncut told name most e
IsSourceFault told before after name most Memory = Unit {0}

-- the text is cut into the tokens, and is below 2 ^ 32 bytes
pub record IsSized (s : Source) : Type 0 where
  pub size : length s.text < 2 ^ 32
  pub cut : IsCutInto s.text s.tokens

-- what LEF and DEF say can be built from, with the text of DEF
pub record AreReadable (def : Source) (said : Texts) : Type 0 where
  pub lef_fits : IsLef said.lef
  pub def_fits : IsDef said.def
  pub ranges : AreRanges (length def.tokens) said.def
  pub closes : AreCloses (length def.text) said.def.nets

-- a text of guides is refused
abbrev pub SaysNoGuides : Source → Refusal → Type 0
SaysNoGuides s (Guide e) = IsRefused guide_faults guides_form s.text s.tokens e
SaysNoGuides s _ = ⊥

-- LEF's file could not be read, with a fault, or it is refused; or memory ran out
abbrev pub IsLefFileCause : ShelfView → ShelfView → List ℕ → Refusal → Type 0
IsLefFileCause before after name (Read file) = HasRisen before.faults after.faults × (file ≡ name)
IsLefFileCause before after name OutOfMemory = Unit {0}
IsLefFileCause before after name r = IsLefFileRefusal before.files name r

abbrev pub IsDefFileCause : ShelfView → ShelfView → List ℕ → Refusal → Type 0
IsDefFileCause before after name (Read file) = HasRisen before.faults after.faults × (file ≡ name)
IsDefFileCause before after name OutOfMemory = Unit {0}
IsDefFileCause before after name r = IsDefFileRefusal before.files name r

abbrev pub IsGuideFileCause : ShelfView → ShelfView → List ℕ → Refusal → Type 0
IsGuideFileCause before after name (Read file) = HasRisen before.faults after.faults × (file ≡ name)
IsGuideFileCause before after name OutOfMemory = Unit {0}
IsGuideFileCause before after name r = IsGuideFileRefusal before.files name r

-- the same for the guides of a command line
abbrev pub IsGuideCause : ShelfView → ShelfView → Option (List ℕ) → Refusal → Type 0
IsGuideCause before after None r = ⊥
IsGuideCause before after (Some name) r = IsGuideFileCause before after name r
