-- What the texts that a shelf tells come to: a design, or the first refusal in the order of work. It knows neither memory nor faults.
use Rattle.std.specs.Prelude.{◌≡◌, ◌⊎◌, ℕ, ◌<◌, ◌≤◌, List, Option, Some, None, Err, IfSome, length, unwrap_or}
use Rattle.rt_base.specs.declared.scan.ScanError.{ScanError}
use Rattle.rt_base.specs.Scan.{Reads, IsCutInto}
use Rattle.rt_forms.specs.Lexeme.{lexemes}
use Rattle.rt_forms.specs.Clauses.{IsText, IsRefused}
use Rattle.track_graph.specs.declared.design.Design.{Design}
use Rattle.track_graph.specs.declared.design.Options.{Options}
use Rattle.lef_text.specs.declared.lef.Lef.{Lef as LefValue}
use Rattle.lef_text.specs.declared.error.LefError.TheVariants.{Scan as LefScan}
use Rattle.lef_text.specs.Faults.{lef_faults}
use Rattle.lef_text.specs.Lef.{lef as lef_form}
use Rattle.def_text.specs.declared.error.DefError.{DefError}
use Rattle.def_text.specs.declared.error.DefError.TheVariants.{Scan as DefScan}
use Rattle.def_text.specs.Clauses.{Begins}
use Rattle.def_text.specs.Faults.{def_faults}
use Rattle.def_text.specs.Texts.{def_form, units_form}
use Rattle.guide_text.specs.declared.guides.Guides.{Guides}
use Rattle.guide_text.specs.declared.error.GuideError.{GuideError}
use Rattle.guide_text.specs.declared.error.GuideError.TheVariants.{Scan as GuideScan}
use Rattle.guide_text.specs.Faults.{guide_faults}
use Rattle.guide_text.specs.Guides.{guides as guides_form}
use Rattle.build.specs.Inputs.{Input, input_of}
use Rattle.build.specs.Refusals.{Gives, Refuses}
use Rattle.build.specs.TrackLines.{default_tile_of}
use Rattle.shelf.specs.Shelf.{Files, HoldsBytes, HoldsAtLeast, IsHeld}
use Rattle.router.specs.declared.source.Source.{Source}
use Rattle.router.specs.declared.read.Texts.{Texts}
use Rattle.router.specs.declared.refusal.Refusal.{Refusal}
use Rattle.router.specs.declared.refusal.Refusal.TheVariants.{LefBytes, DefBytes, GuideBytes, Lef, Def, Guide, Build}
use Rattle.router.specs.Refusals.{lef_most, def_most, guide_most}
use Rattle.router.specs.Words.{CommandLine}

-- ---- a file

-- a file within its limit, cut into tokens
pub record IsSource (told : Option Files) (name : List ℕ) (most : ℕ) (s : Source) : Type 0 where
  pub holds : HoldsBytes told name s.text
  pub within : length s.text ≤ most
  pub cut : IsCutInto s.text s.tokens

-- a file within its limit that has no tokens, and its first fault
pub record IsUncut (told : Option Files) (name : List ℕ) (most : ℕ) (e : ScanError) : Type 0 where
  pub text : List ℕ
  pub holds : HoldsBytes told name text
  pub within : length text ≤ most
  pub fault : Reads text (Err e)

-- a file above its limit: the count of its bytes is left open
pub record IsTooLong (told : Option Files) (name : List ℕ) (most read : ℕ) : Type 0 where
  pub above : most < read
  pub long : HoldsAtLeast told name read

-- LEF is too long, or has no tokens
abbrev pub IsLefFileRefusal : Option Files → List ℕ → Refusal → Type 0
IsLefFileRefusal told name (LefBytes read) = IsTooLong told name lef_most read
IsLefFileRefusal told name (Lef e) = (fault : ScanError) × IsUncut told name lef_most fault × (e ≡ LefScan fault)
IsLefFileRefusal told name _ = ⊥

-- DEF is too long, or has no tokens
abbrev pub IsDefFileRefusal : Option Files → List ℕ → Refusal → Type 0
IsDefFileRefusal told name (DefBytes read) = IsTooLong told name def_most read
IsDefFileRefusal told name (Def e) = (fault : ScanError) × IsUncut told name def_most fault × (e ≡ DefScan fault)
IsDefFileRefusal told name _ = ⊥

-- ---- LEF and DEF

-- DEF has so many units to the micron, and LEF says this in them
pub record SaysLef (lef def : Source) (units : ℕ) (l : LefValue) : Type 0 where
  pub has_units : Begins units_form (lexemes def.text def.tokens) units
  pub lef_says : IsText (lef_form units) lef.text lef.tokens l

-- and DEF says this
pub record SayBoth (lef def : Source) (said : Texts) : Type 0 where
  pub units : ℕ
  pub in_units : SaysLef lef def units said.lef
  pub def_says : IsText def_form def.text def.tokens said.def

-- DEF's units are refused, or DEF as a whole, once LEF is read
abbrev pub IsDefRefusal : Source → Source → DefError → Type 0
IsDefRefusal lef def e =
    IsRefused def_faults units_form def.text def.tokens e
    ⊎ ((units : ℕ) × (l : LefValue) × SaysLef lef def units l × IsRefused def_faults def_form def.text def.tokens e)

-- the texts are cut into tokens, and give this refusal
abbrev pub IsTextRefusal : Source → Source → Refusal → Type 0
IsTextRefusal lef def (Lef e) = (units : ℕ) × Begins units_form (lexemes def.text def.tokens) units × IsRefused lef_faults (lef_form units) lef.text lef.tokens e
IsTextRefusal lef def (Def e) = IsDefRefusal lef def e
IsTextRefusal lef def _ = ⊥

-- ---- guides

-- a file says these guides
pub record IsGuideFile (told : Option Files) (name : List ℕ) (g : Guides) : Type 0 where
  pub source : Source
  pub cut : IsSource told name guide_most source
  pub says : IsText guides_form source.text source.tokens g

-- a file has tokens, and its text is refused
pub record IsNoGuideText (told : Option Files) (name : List ℕ) (e : GuideError) : Type 0 where
  pub source : Source
  pub cut : IsSource told name guide_most source
  pub refused : IsRefused guide_faults guides_form source.text source.tokens e

-- a file has no tokens, or its text is refused
abbrev pub IsNoGuide : Option Files → List ℕ → GuideError → Type 0
IsNoGuide told name e = ((fault : ScanError) × IsUncut told name guide_most fault × (e ≡ GuideScan fault)) ⊎ IsNoGuideText told name e

-- a file of guides is too long, or says none
abbrev pub IsGuideFileRefusal : Option Files → List ℕ → Refusal → Type 0
IsGuideFileRefusal told name (GuideBytes read) = IsTooLong told name guide_most read
IsGuideFileRefusal told name (Guide e) = IsNoGuide told name e
IsGuideFileRefusal told name _ = ⊥

-- the guides of a command line: none, or those of its file
abbrev pub AreGuidesOf : Option Files → Option (List ℕ) → Option Guides → Type 0
AreGuidesOf told None guides = guides ≡ None
AreGuidesOf told (Some name) guides = (g : Guides) × IsGuideFile told name g × (guides ≡ Some g)

abbrev pub IsGuideRefusal : Option Files → Option (List ℕ) → Refusal → Type 0
IsGuideRefusal told None r = ⊥
IsGuideRefusal told (Some name) r = IsGuideFileRefusal told name r

-- ---- the design

-- what the design is built of
abbrev pub input_from : Source → Texts → Option Guides → Input
input_from def said guides = input_of said.lef said.def def.text def.tokens guides

-- what a command line chooses: without a tile of its own, that of the texts
abbrev pub options_of : CommandLine → Texts → Options
options_of asked said = record { via = asked.via; tile = unwrap_or asked.tile (default_tile_of said.lef said.def); rips = asked.rips }

-- LEF, DEF and guides are read, and no design can be built of them
abbrev pub IsBuildRefusal : CommandLine → Source → Texts → Option Guides → Refusal → Type 0
IsBuildRefusal asked def said guides (Build e) = Refuses (input_from def said guides) (options_of asked said) e
IsBuildRefusal asked def said guides _ = ⊥

-- ---- the outcome

-- the shelf tells its files, and those that are read are among them
pub record AreHeld (told : Option Files) (asked : CommandLine) : Type 0 where
  pub lef_held : IsHeld told asked.lef
  pub def_held : IsHeld told asked.def
  pub guide_held : IfSome asked.guide (IsHeld told)

-- the files give the design, and this is the text of DEF
pub record IsDesigned (told : Option Files) (asked : CommandLine) (text : List ℕ) (d : Design) : Type 0 where
  pub lef : Source
  pub lef_cut : IsSource told asked.lef lef_most lef
  pub def : Source
  pub def_cut : IsSource told asked.def def_most def
  pub said : Texts
  pub say : SayBoth lef def said
  pub guides : Option Guides
  pub are_guides : AreGuidesOf told asked.guide guides
  pub gives : Gives (input_from def said guides) (options_of asked said) d
  pub text_is : text ≡ def.text

-- the refusals in the order of work: each step gives what the next one works on, or refuses
abbrev pub IsRefusedBehindTexts : Option Files → CommandLine → Source → Texts → Refusal → Type 0
IsRefusedBehindTexts told asked def said r = IsGuideRefusal told asked.guide r ⊎ ((guides : Option Guides) × AreGuidesOf told asked.guide guides × IsBuildRefusal asked def said guides r)

abbrev pub IsRefusedBehindDef : Option Files → CommandLine → Source → Source → Refusal → Type 0
IsRefusedBehindDef told asked lef def r = IsTextRefusal lef def r ⊎ ((said : Texts) × SayBoth lef def said × IsRefusedBehindTexts told asked def said r)

abbrev pub IsRefusedBehindLef : Option Files → CommandLine → Source → Refusal → Type 0
IsRefusedBehindLef told asked lef r = IsDefFileRefusal told asked.def r ⊎ ((def : Source) × IsSource told asked.def def_most def × IsRefusedBehindDef told asked lef def r)

-- the first refusal: of LEF's file, then DEF's file, then what the two say, then the guides, then the design
abbrev pub IsFirstRefusal : Option Files → CommandLine → Refusal → Type 0
IsFirstRefusal told asked r = IsLefFileRefusal told asked.lef r ⊎ ((lef : Source) × IsSource told asked.lef lef_most lef × IsRefusedBehindLef told asked lef r)

-- one refusal, but for the count of a file that is too long
abbrev pub AreSame : Refusal → Refusal → Type 0
AreSame r s =
    (r ≡ s)
    ⊎ ((m n : ℕ) × (r ≡ LefBytes m) × (s ≡ LefBytes n))
    ⊎ ((m n : ℕ) × (r ≡ DefBytes m) × (s ≡ DefBytes n))
    ⊎ ((m n : ℕ) × (r ≡ GuideBytes m) × (s ≡ GuideBytes n))
