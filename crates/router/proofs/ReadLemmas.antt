-- From what the readers answer to the outcome of the texts.
use Rattle.std.proofs.Common.{◌≡◌, ◌≢◌, ◌⊎◌, inl, inr, ℕ, ◌<◌, ◌≤◌, Err, IfSome, List, [], ◌∷◌, Option, Some, None, length, get_or, refl, sym, subst, ap, ◌∙◌, zero, suc, arith, All}
use Rattle.std.specs.Prelude.{ℤ, unwrap_or}
use Rattle.std.specs.List.{AllZip}
use Rattle.track_graph.specs.declared.design.Net.{Net}
use Rattle.def_text.specs.Defs.{AreCloses as DefCloses}
use Rattle.def_out.specs.Conditions.{AreCloses}
use Rattle.build.specs.Built.{IsDesignOf}
use Rattle.def_text.specs.declared.def.DefNet.{DefNet}
use Rattle.def_text.specs.declared.error.DefError.{DefError}
use Rattle.def_text.specs.declared.error.DefError.TheVariants.{Memory as DefMemory}
use Rattle.lef_text.specs.declared.error.LefError.{LefError}
use Rattle.lef_text.specs.declared.error.LefError.TheVariants.{Memory as LefMemory}
use Rattle.guide_text.specs.declared.guides.Guides.{Guides}
use Rattle.guide_text.specs.declared.error.GuideError.{GuideError}
use Rattle.guide_text.specs.declared.error.GuideError.TheVariants.{Memory as GuideMemory}
use Rattle.guide_text.specs.Faults.{guide_faults}
use Rattle.guide_text.specs.Guides.{guides as guides_form}
use Rattle.build.specs.declared.error.BuildError.{BuildError}
use Rattle.build.specs.declared.error.BuildError.TheVariants.{Memory as BuildMemory}
use Rattle.router.specs.declared.refusal.Refusal.{Refusal}
use Rattle.router.specs.declared.refusal.Refusal.TheVariants.{Words, LefBytes, DefBytes, GuideBytes, Lef, Def, Guide, Build, Read, Write, Memory}
use Rattle.router.specs.declared.source.Source.{Source}
use Rattle.router.specs.declared.read.Texts.{Texts}
use Rattle.router.specs.Refusals.{of_lef, of_def, of_guide, of_build}
use Rattle.rt_forms.specs.Lexeme.{lexemes}
use Rattle.rt_forms.specs.Clauses.{IsRefused}
use Rattle.track_graph.specs.declared.design.Design.{Design}
use Rattle.track_graph.specs.declared.design.Options.{Options}
use Rattle.track_graph.specs.Designs.{IsDesign}
use Rattle.lef_text.specs.Faults.{lef_faults}
use Rattle.lef_text.specs.Lef.{lef as lef_form}
use Rattle.def_text.specs.Clauses.{Begins}
use Rattle.def_text.specs.Texts.{units_form}
use Rattle.build.specs.Inputs.{Input}
use Rattle.build.specs.Refusals.{Gives, Refuses}
use Rattle.build.specs.TrackLines.{default_tile_of}
use Rattle.router.specs.Words.{CommandLine}
use Rattle.router.specs.Refusals.{lef_most, def_most, guide_most}
use Rattle.router.specs.Outcomes.{IsSource, IsDefFileRefusal, IsDefRefusal, IsTextRefusal, SayBoth, IsGuideRefusal, AreGuidesOf, input_from, options_of, IsBuildRefusal, IsFirstRefusal, AreHeld}
use Rattle.router.specs.Outputs.{ShelfView}
use Rattle.router.specs.Runs.{Cause}
use Rattle.router.specs.Made.{IsRead, IsReady}
use Rattle.rt_base.specs.declared.tech.Via.{Via}
use Rattle.track_graph.specs.Metal.{Metal}
use Rattle.wire_cover.specs.GoodStrokes.{IsOrdered}
use Rattle.rt_base.proofs.Lists.{All-at}
use Rattle.router.specs.Sources.{AreReadable, of_take, of_scan, IsSourceFault, SaysNoGuides, IsLefFileCause, IsDefFileCause, IsGuideFileCause, IsGuideCause}
use Rattle.router.proofs.RunLemmas.{risen_from, risen_to}
use Rattle.rt_base.specs.declared.scan.ScanError.{ScanError}
use Rattle.rt_base.specs.declared.scan.ScanError.TheVariants.{UnclosedQuote, NotText, Memory as ScanMemory}
use Rattle.rt_base.specs.Scan.{Reads, answer_of, IsCutInto}
use Rattle.shelf.specs.declared.fault.TakeFault.{TakeFault}
use Rattle.shelf.specs.declared.fault.TakeFault.TheVariants.{Failed as TakeFailed, Long as TakeLong, Memory as TakeMemory}
use Rattle.shelf.specs.Faults.{HasRisen}
use Rattle.shelf.specs.Shelf.{Files, HoldsBytes, HoldsAtLeast, IsHeld}

-- ---- files

-- a fault of a take
pub take_fault : (told : Option Files) (before after : ℕ) (name : List ℕ) (most : ℕ) (e : TakeFault) → (e ≡ TakeFailed → HasRisen before after) → ((read : ℕ) → e ≡ TakeLong read → most < read) → ((read : ℕ) → e ≡ TakeLong read → HoldsAtLeast told name read) → IsSourceFault told before after name most (of_take e)
take_fault told before after name most TakeFailed failed above long = failed refl
take_fault told before after name most (TakeLong read) failed above long = record { above = above read refl; long = long read refl }
take_fault told before after name most TakeMemory failed above long = tt

-- a fault of a text that isn't want of memory
pub scan_refused : (text : List ℕ) (e : ScanError) → IfSome (answer_of (Err e)) (Reads text) → e ≢ ScanMemory → Reads text (Err e)
scan_refused text (UnclosedQuote line) h ne = h
scan_refused text (NotText line) h ne = h
scan_refused text ScanMemory h ne = absurd (ne refl)

-- a fault of a file's text
pub scan_fault : (told : Option Files) (before after : ℕ) (name : List ℕ) (most : ℕ) (text : List ℕ) (e : ScanError) → HoldsBytes told name text → length text ≤ most → (e ≢ ScanMemory → Reads text (Err e)) → IsSourceFault told before after name most (of_scan e)
scan_fault told before after name most text (UnclosedQuote line) holds within h = record { text = text; holds = holds; within = within; fault = h (λ is. cc) }
scan_fault told before after name most text (NotText line) holds within h = record { text = text; holds = holds; within = within; fault = h (λ is. cc) }
scan_fault told before after name most text ScanMemory holds within h = tt

-- a file's text and its tokens
pub source_of : (told : Option Files) (name : List ℕ) (most : ℕ) (text : List ℕ) (s : Source) → HoldsBytes told name text → length text ≤ most → s.text ≡ text → IsCutInto text s.tokens → IsSource told name most s
source_of told name most text s holds within same cut = record {
  holds = subst (λ t. HoldsBytes told name t) (sym same) holds;
  within = subst (λ (t : List ℕ). length t ≤ most) (sym same) within;
  cut = subst (λ t. IsCutInto t s.tokens) (sym same) cut;
}

-- a file that could not be read
pub unread_lef : (before after : ShelfView) (name : List ℕ) (r : Refusal) → (r ≡ Memory) ⊎ (r ≡ Read name) → HasRisen before.faults after.faults → IsLefFileCause before after name r
unread_lef before after name r h risen = elim h [
  | inl is ↦ rw is tt
  | inr is ↦ rw is (risen, refl)
]

pub unread_def : (before after : ShelfView) (name : List ℕ) (r : Refusal) → (r ≡ Memory) ⊎ (r ≡ Read name) → HasRisen before.faults after.faults → IsDefFileCause before after name r
unread_def before after name r h risen = elim h [
  | inl is ↦ rw is tt
  | inr is ↦ rw is (risen, refl)
]

pub unread_guide : (before after : ShelfView) (name : List ℕ) (r : Refusal) → (r ≡ Memory) ⊎ (r ≡ Read name) → HasRisen before.faults after.faults → IsGuideFileCause before after name r
unread_guide before after name r h risen = elim h [
  | inl is ↦ rw is tt
  | inr is ↦ rw is (risen, refl)
]

-- ---- causes

-- the file of LEF decides
pub lef_cause : (before after : ShelfView) (asked : CommandLine) (name : List ℕ) (r : Refusal) → name ≡ asked.lef → IsLefFileCause before after name r → r ≢ Memory → Cause before after asked r
lef_cause before after asked name (Words e) is h ne = absurd h
lef_cause before after asked name (LefBytes read) is h ne = inl (rw is at h)
lef_cause before after asked name (DefBytes read) is h ne = absurd h
lef_cause before after asked name (GuideBytes read) is h ne = absurd h
lef_cause before after asked name (Lef e) is h ne = inl (rw is at h)
lef_cause before after asked name (Def e) is h ne = absurd h
lef_cause before after asked name (Guide e) is h ne = absurd h
lef_cause before after asked name (Build e) is h ne = absurd h
lef_cause before after asked name (Read file) is h ne = (h.0, inl (h.1 ∙ is))
lef_cause before after asked name (Write file) is h ne = absurd h
lef_cause before after asked name Memory is h ne = absurd (ne refl)

-- the file of DEF decides
behind_lef : (before : ShelfView) (asked : CommandLine) (lef : Source) (r : Refusal) → IsSource before.files asked.lef lef_most lef → IsDefFileRefusal before.files asked.def r → IsFirstRefusal before.files asked r
behind_lef before asked lef r cut h = inr (lef, cut, inl h)

pub def_cause : (before mid after : ShelfView) (asked : CommandLine) (lef_name def_name : List ℕ) (lef : Source) (r : Refusal) → lef_name ≡ asked.lef → def_name ≡ asked.def → IsSource before.files lef_name lef_most lef → mid.files ≡ before.files → before.faults ≤ mid.faults → IsDefFileCause mid after def_name r → r ≢ Memory → Cause before after asked r
def_cause before mid after asked lef_name def_name lef (Words e) is is' source same count h ne = absurd h
def_cause before mid after asked lef_name def_name lef (LefBytes read) is is' source same count h ne = absurd h
def_cause before mid after asked lef_name def_name lef (DefBytes read) is is' source same count h ne = behind_lef before asked lef (DefBytes read) (rw is at source) (rw (is', same) at h)
def_cause before mid after asked lef_name def_name lef (GuideBytes read) is is' source same count h ne = absurd h
def_cause before mid after asked lef_name def_name lef (Lef e) is is' source same count h ne = absurd h
def_cause before mid after asked lef_name def_name lef (Def e) is is' source same count h ne = behind_lef before asked lef (Def e) (rw is at source) (rw (is', same) at h)
def_cause before mid after asked lef_name def_name lef (Guide e) is is' source same count h ne = absurd h
def_cause before mid after asked lef_name def_name lef (Build e) is is' source same count h ne = absurd h
def_cause before mid after asked lef_name def_name lef (Read file) is is' source same count h ne = (risen_from before.faults mid.faults after.faults count h.0, inr (inl (h.1 ∙ is')))
def_cause before mid after asked lef_name def_name lef (Write file) is is' source same count h ne = absurd h
def_cause before mid after asked lef_name def_name lef Memory is is' source same count h ne = absurd (ne refl)

-- LEF and DEF are cut, as the words name them
pub record AreCut (told : Option Files) (asked : CommandLine) (lef def : Source) : Type 0 where
  pub lef_cut : IsSource told asked.lef lef_most lef
  pub def_cut : IsSource told asked.def def_most def

pub sources_of : (told mid : Option Files) (asked : CommandLine) (lef_name def_name : List ℕ) (lef def : Source) → lef_name ≡ asked.lef → def_name ≡ asked.def → IsSource told lef_name lef_most lef → mid ≡ told → IsSource mid def_name def_most def → AreCut told asked lef def
sources_of told mid asked lef_name def_name lef def is is' source same source' = record {
  lef_cut = subst (λ n. IsSource told n lef_most lef) is source;
  def_cut = subst (λ n. IsSource told n def_most def) is' (subst (λ t. IsSource t def_name def_most def) same source');
}

-- the texts decide
pub text_cause : (before after : ShelfView) (asked : CommandLine) (lef def : Source) (r : Refusal) → AreCut before.files asked lef def → (r ≢ Memory → IsTextRefusal lef def r) → r ≢ Memory → Cause before after asked r
text_cause before after asked lef def (Read file) cut h ne = absurd (h ne)
text_cause before after asked lef def r cut h ne = inr (lef, cut.lef_cut, inr (def, cut.def_cut, inl (h ne)))

-- a count that never falls
pub grown : (a b c : ℕ) → a ≤ b → b ≤ c → a ≤ c
grown a b c h k = omega arith

-- the guides decide
behind_texts : (before : ShelfView) (asked : CommandLine) (lef def : Source) (said : Texts) (r : Refusal) → AreCut before.files asked lef def → SayBoth lef def said → IsGuideRefusal before.files asked.guide r → IsFirstRefusal before.files asked r
behind_texts before asked lef def said r cut say h = inr (lef, cut.lef_cut, inr (def, cut.def_cut, inr (said, say, inl h)))

file_cause : (before mid after : ShelfView) (asked : CommandLine) (lef def : Source) (said : Texts) (name : List ℕ) (r : Refusal) → Some name ≡ asked.guide → AreCut before.files asked lef def → SayBoth lef def said → mid.files ≡ before.files → before.faults ≤ mid.faults → IsGuideFileCause mid after name r → r ≢ Memory → Cause before after asked r
file_cause before mid after asked lef def said name (Words e) is cut say same count h ne = absurd h
file_cause before mid after asked lef def said name (LefBytes read) is cut say same count h ne = absurd h
file_cause before mid after asked lef def said name (DefBytes read) is cut say same count h ne = absurd h
file_cause before mid after asked lef def said name (GuideBytes read) is cut say same count h ne = behind_texts before asked lef def said (GuideBytes read) cut say (subst (λ g. IsGuideRefusal before.files g (GuideBytes read)) is (rw same at h))
file_cause before mid after asked lef def said name (Lef e) is cut say same count h ne = absurd h
file_cause before mid after asked lef def said name (Def e) is cut say same count h ne = absurd h
file_cause before mid after asked lef def said name (Guide e) is cut say same count h ne = behind_texts before asked lef def said (Guide e) cut say (subst (λ g. IsGuideRefusal before.files g (Guide e)) is (rw same at h))
file_cause before mid after asked lef def said name (Build e) is cut say same count h ne = absurd h
file_cause before mid after asked lef def said name (Read file) is cut say same count h ne = (risen_from before.faults mid.faults after.faults count h.0, inr (inr (sym is ∙ ap Some (sym h.1))))
file_cause before mid after asked lef def said name (Write file) is cut say same count h ne = absurd h
file_cause before mid after asked lef def said name Memory is cut say same count h ne = absurd (ne refl)

pub guide_cause : (before mid after : ShelfView) (asked : CommandLine) (lef def : Source) (said : Texts) (guide : Option (List ℕ)) (r : Refusal) → guide ≡ asked.guide → AreCut before.files asked lef def → SayBoth lef def said → mid.files ≡ before.files → before.faults ≤ mid.faults → (r ≢ Memory → IsGuideCause mid after guide r) → r ≢ Memory → Cause before after asked r
guide_cause before mid after asked lef def said None r is cut say same count h ne = absurd (h ne)
guide_cause before mid after asked lef def said (Some name) r is cut say same count h ne = file_cause before mid after asked lef def said name r is cut say same count (h ne) ne

-- the guides were read of the same files
pub guides_read : (told mid : Option Files) (guide : Option (List ℕ)) (guides : Option Guides) (asked : CommandLine) → guide ≡ asked.guide → mid ≡ told → AreGuidesOf mid guide guides → AreGuidesOf told asked.guide guides
guides_read told mid guide guides asked is same h = subst (λ g. AreGuidesOf told g guides) is (subst (λ t. AreGuidesOf t guide guides) same h)

-- the files give the design
pub read_of : (told : Option Files) (asked : CommandLine) (lef def : Source) (said : Texts) (guides : Option Guides) (d : Design) → AreCut told asked lef def → SayBoth lef def said → AreGuidesOf told asked.guide guides → Gives (input_from def said guides) (options_of asked said) d → AreReadable def said → All (λ (v : Via). All (λ (m : Metal). IsOrdered m.1) v.rects) d.tech.vias → IsRead told asked def.text d
read_of told asked lef def said guides d cut say are gives readable ordered = record {
  designed = record {
    lef = lef;
    lef_cut = cut.lef_cut;
    def = def;
    def_cut = cut.def_cut;
    said = said;
    say = say;
    guides = guides;
    are_guides = are;
    gives = gives;
    text_is = refl;
  };
  readable = readable;
  ordered = λ k v is usable. All-at (λ (x : Via). All (λ (m : Metal). IsOrdered m.1) x.rects) d.tech.vias k v ordered is;
}

-- the design decides
pub build_cause : (before after : ShelfView) (asked : CommandLine) (lef def : Source) (said : Texts) (guides : Option Guides) (r : Refusal) → AreCut before.files asked lef def → SayBoth lef def said → AreGuidesOf before.files asked.guide guides → (r ≢ Memory → IsBuildRefusal asked def said guides r) → r ≢ Memory → Cause before after asked r
build_cause before after asked lef def said guides (Read file) cut say are h ne = absurd (h ne)
build_cause before after asked lef def said guides r cut say are h ne = inr (lef, cut.lef_cut, inr (def, cut.def_cut, inr (said, say, inr (guides, are, h ne))))

-- ---- texts

-- LEF in DEF's units is refused
pub lef_refused : (lef def : Source) (units : ℕ) (e : LefError) → Begins units_form (lexemes def.text def.tokens) units → IsRefused lef_faults (lef_form units) lef.text lef.tokens e → IsTextRefusal lef def (Lef e)
lef_refused lef def units e begins refused = (units, begins, refused)

-- the words' tile, or that of the texts
pub chosen_tile : (asked : CommandLine) (said : Texts) (tile : ℤ) → tile ≡ unwrap_or asked.tile (default_tile_of said.lef said.def) → (let o : Options = record { via = asked.via; tile = tile; rips = asked.rips } in o) ≡ options_of asked said
chosen_tile asked said tile is = ap (λ (t : ℤ). let o : Options = record { via = asked.via; tile = t; rips = asked.rips } in o) is

-- a fault of a reader that isn't want of memory is a refusal of the texts
pub def_refusal : (lef def : Source) (e : DefError) → (e ≢ DefMemory → IsDefRefusal lef def e) → of_def e ≢ Memory → IsTextRefusal lef def (of_def e)
def_refusal lef def DefMemory h ne = absurd (ne refl)
def_refusal lef def e h ne = h (λ is. cc)

pub lef_refusal : (lef def : Source) (e : LefError) → (e ≢ LefMemory → IsTextRefusal lef def (Lef e)) → of_lef e ≢ Memory → IsTextRefusal lef def (of_lef e)
lef_refusal lef def LefMemory h ne = absurd (ne refl)
lef_refusal lef def e h ne = h (λ is. cc)

pub guide_refusal : (s : Source) (e : GuideError) → (e ≢ GuideMemory → IsRefused guide_faults guides_form s.text s.tokens e) → of_guide e ≢ Memory → SaysNoGuides s (of_guide e)
guide_refusal s GuideMemory h ne = absurd (ne refl)
guide_refusal s e h ne = h (λ is. cc)

pub build_refusal : (asked : CommandLine) (def : Source) (said : Texts) (guides : Option Guides) (e : BuildError) → (e ≢ BuildMemory → Refuses (input_from def said guides) (options_of asked said) e) → of_build e ≢ Memory → IsBuildRefusal asked def said guides (of_build e)
build_refusal asked def said guides BuildMemory h ne = absurd (ne refl)
build_refusal asked def said guides e h ne = h (λ is. cc)

-- ---- guides

-- the file of guides decides
pub take_cause : (before mid after : ShelfView) (name : List ℕ) (r : Refusal) → IsGuideFileCause before mid name r → mid.faults ≤ after.faults → r ≢ Memory → IsGuideFileCause before after name r
take_cause before mid after name (Words e) h count ne = h
take_cause before mid after name (LefBytes read) h count ne = h
take_cause before mid after name (DefBytes read) h count ne = h
take_cause before mid after name (GuideBytes read) h count ne = h
take_cause before mid after name (Lef e) h count ne = h
take_cause before mid after name (Def e) h count ne = h
take_cause before mid after name (Guide e) h count ne = h
take_cause before mid after name (Build e) h count ne = h
take_cause before mid after name (Read file) h count ne = (risen_to before.faults mid.faults after.faults h.0 count, h.1)
take_cause before mid after name (Write file) h count ne = h
take_cause before mid after name Memory h count ne = h

-- the text of guides decides
pub says_cause : (before after : ShelfView) (name : List ℕ) (s : Source) (r : Refusal) → IsSource before.files name guide_most s → SaysNoGuides s r → IsGuideFileCause before after name r
says_cause before after name s (Words e) cut h = absurd h
says_cause before after name s (LefBytes read) cut h = absurd h
says_cause before after name s (DefBytes read) cut h = absurd h
says_cause before after name s (GuideBytes read) cut h = absurd h
says_cause before after name s (Lef e) cut h = absurd h
says_cause before after name s (Def e) cut h = absurd h
says_cause before after name s (Guide e) cut h = inr (record { source = s; cut = cut; refused = h })
says_cause before after name s (Build e) cut h = absurd h
says_cause before after name s (Read file) cut h = absurd h
says_cause before after name s (Write file) cut h = absurd h
says_cause before after name s Memory cut h = absurd h

-- ---- closes

-- two lists related place by place
zip_at : {A B : Type 0} (R : A → B → Type 0) (xs : List A) (ys : List B) (i : ℕ) (d : A) (e : B) → AllZip R xs ys → i < length ys → (i < length xs) × R (get_or xs i d) (get_or ys i e)
zip_at R [] [] i d e h k = absurd (omega arith)
zip_at R [] (y ∷ ys) i d e h k = absurd h
zip_at R (x ∷ xs) [] i d e h k = absurd h
zip_at R (x ∷ xs) (y ∷ ys) zero d e h k = (omega arith, h.0)
zip_at R (x ∷ xs) (y ∷ ys) (suc i) d e h k =
    let within : i < length ys = omega arith in
    let rest = zip_at R xs ys i d e h.1 within in
    (omega (arith, rest.0), rest.1)

no_net : DefNet
no_net = record { name = []; pins = []; wiring = []; close = 0 }

-- nets that end where those of DEF end
pub closes_of : (R : DefNet → Net → Type 0) (text : List ℕ) (said : List DefNet) (nets : List Net) → ((a : DefNet) (b : Net) → R a b → b.close ≡ a.close) → AllZip R said nets → DefCloses (length text) said → AreCloses text nets
closes_of R text said nets close zip closes = record {
  ascending = λ i j d below within.
      let a : (i < length said) × R (get_or said i no_net) (get_or nets i d) = zip_at R said nets i no_net d zip (omega arith) in
      let b : (j < length said) × R (get_or said j no_net) (get_or nets j d) = zip_at R said nets j no_net d zip within in
      let ordered = closes.ascending i j no_net below b.0 in
      omega (arith, ordered, close _ _ a.1, close _ _ b.1);
  within = λ k d within.
      let a : (k < length said) × R (get_or said k no_net) (get_or nets k d) = zip_at R said nets k no_net d zip within in
      let inside = closes.within k no_net a.0 in
      omega (arith, inside, close _ _ a.1);
}

-- a design that was built is ready to be routed
pub ready_of : (i : Input) (o : Options) (text : List ℕ) (d : Design) → IsDesign d → IsDesignOf i o d → DefCloses (length text) i.def.nets → IsReady text d
ready_of i o text d design built closes = record {
  design = design;
  closes = closes_of _ text i.def.nets d.nets (λ a b h. h.close) built.nets closes;
}

-- no fault comes while LEF is taken
pub lef_count : (told : Option Files) (asked : CommandLine) (name : List ℕ) (a b : ℕ) → name ≡ asked.lef → AreHeld told asked → (IsHeld told name → b ≡ a) → b ≡ a
lef_count told asked name a b is held count = count (subst (λ n. IsHeld told n) (sym is) held.lef_held)

-- nor while DEF is
pub both_counts : (told mid : Option Files) (asked : CommandLine) (lef_name def_name : List ℕ) (a b c : ℕ) → lef_name ≡ asked.lef → def_name ≡ asked.def → mid ≡ told → AreHeld told asked → (IsHeld told lef_name → b ≡ a) → (IsHeld mid def_name → c ≡ b) → c ≡ a
both_counts told mid asked lef_name def_name a b c is is' same held first second =
    second (subst (λ n. IsHeld mid n) (sym is') (subst (λ t. IsHeld t asked.def) (sym same) held.def_held)) ∙ first (subst (λ n. IsHeld told n) (sym is) held.lef_held)

-- nor while the guides are
pub guide_count : (told mid : Option Files) (asked : CommandLine) (guide : Option (List ℕ)) (b c : ℕ) → guide ≡ asked.guide → mid ≡ told → AreHeld told asked → (IfSome guide (IsHeld mid) → c ≡ b) → c ≡ b
guide_count told mid asked guide b c is same held count = count (subst (λ t. IfSome guide (IsHeld t)) (sym same) (subst (λ g. IfSome g (IsHeld told)) (sym is) held.guide_held))
