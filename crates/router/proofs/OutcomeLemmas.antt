-- The outcome of told files is one: one refusal, but for the count of a file that is too long, and no refusal where there is a design.
use Rattle.std.proofs.Common.{◌≡◌, ◌⊎◌, inl, inr, ℕ, ◌<◌, ◌≤◌, List, [], ◌∷◌, Option, Some, None, Ok, Err, length, refl, sym, subst, ap, ◌∙◌, arith}
use Rattle.std.proofs.lemmas.Bool.{cases_lt}
use Rattle.std.proofs.lemmas.Option.{same_Some}
use Rattle.rt_base.specs.declared.scan.ScanError.{ScanError}
use Rattle.rt_base.specs.Scan.{Reads, IsCutInto}
use Rattle.rt_base.proofs.Scanning.{reads_same}
use Rattle.rt_forms.specs.Lexeme.{End, lexemes, places, last_line}
use Rattle.rt_forms.specs.Clauses.{IsText, IsRefused}
use Rattle.rt_forms.proofs.Laws.{one_value, one_fault, no_fault, ok_is}
use Rattle.track_graph.specs.declared.design.Design.{Design}
use Rattle.lef_text.specs.declared.error.LefError.{LefError}
use Rattle.lef_text.specs.declared.error.LefError.TheVariants.{Scan as LefScan}
use Rattle.lef_text.specs.declared.lef.Lef.{Lef as LefValue}
use Rattle.lef_text.specs.Faults.{lef_faults}
use Rattle.lef_text.specs.Lef.{lef as lef_form}
use Rattle.lef_text.proofs.Grammar.{lawful_lef}
use Rattle.def_text.specs.declared.error.DefError.{DefError}
use Rattle.def_text.specs.declared.error.DefError.TheVariants.{Scan as DefScan}
use Rattle.def_text.specs.declared.def.Def.{Def as DefValue}
use Rattle.def_text.specs.Faults.{def_faults}
use Rattle.def_text.specs.Clauses.{Begins}
use Rattle.def_text.specs.Texts.{def_form, units_form}
use Rattle.def_text.proofs.Grammar.{lawful_def, lawful_units}
use Rattle.guide_text.specs.declared.guides.Guides.{Guides}
use Rattle.guide_text.specs.declared.error.GuideError.{GuideError}
use Rattle.guide_text.specs.declared.error.GuideError.TheVariants.{Scan as GuideScan}
use Rattle.guide_text.specs.Faults.{guide_faults}
use Rattle.guide_text.specs.Guides.{guides as guides_form}
use Rattle.guide_text.proofs.Grammar.{lawful_guides}
use Rattle.build.specs.declared.error.BuildError.{BuildError}
use Rattle.build.specs.Refusals.{Gives, Refuses}
use Rattle.build.proofs.Uniqueness.{one_refusal, no_refusal}
use Rattle.shelf.specs.Faults.{HasRisen}
use Rattle.shelf.specs.Shelf.{Files, HoldsBytes}
use Rattle.router.specs.declared.run.Done.{Done}
use Rattle.router.specs.Outputs.{ShelfView}
use Rattle.router.specs.Runs.{Moment, Cause, Runs, AnswersExactly}
use Rattle.router.specs.declared.refusal.Refusal.{Refusal}
use Rattle.router.specs.declared.refusal.Refusal.TheVariants.{Words, LefBytes, DefBytes, GuideBytes, Lef, Def, Guide, Build, Read, Write, Memory}
use Rattle.router.specs.declared.source.Source.{Source}
use Rattle.router.specs.declared.read.Texts.{Texts}
use Rattle.router.specs.Words.{CommandLine}
use Rattle.router.specs.Refusals.{lef_most, def_most, guide_most, status_of}
use Rattle.router.specs.Outcomes.{IsSource, IsUncut, IsTooLong, IsLefFileRefusal, IsDefFileRefusal, SaysLef, SayBoth, IsDefRefusal, IsTextRefusal, IsGuideFile, IsNoGuide, IsGuideFileRefusal, AreGuidesOf, IsGuideRefusal, input_from, options_of, IsBuildRefusal, IsDesigned, IsRefusedBehindTexts, IsRefusedBehindDef, IsRefusedBehindLef, IsFirstRefusal, AreSame}

-- ---- files

bytes_same : (files : Files) (name a b : List ℕ) → HoldsBytes (Some files) name a → HoldsBytes (Some files) name b → a ≡ b
bytes_same files name a b h k = same_Some a b (sym h ∙ k)

source_same : (files : Files) (name : List ℕ) (most : ℕ) (s t : Source) → IsSource (Some files) name most s → IsSource (Some files) name most t → s ≡ t
source_same files name most s t h k =
    let text : s.text ≡ t.text = bytes_same files name s.text t.text h.holds k.holds in
    let cut : IsCutInto t.text s.tokens = subst (λ x. IsCutInto x s.tokens) text h.cut in
    let tokens : s.tokens ≡ t.tokens = ok_is {E = ScanError} s.tokens t.tokens (reads_same t.text (Ok s.tokens) (Ok t.tokens) cut k.cut) in
    ap (λ x. let u : Source = record { text = x; tokens = s.tokens } in u) text ∙ ap (λ x. let u : Source = record { text = t.text; tokens = x } in u) tokens

source_uncut : (files : Files) (name : List ℕ) (most : ℕ) (s : Source) (e : ScanError) → IsSource (Some files) name most s → IsUncut (Some files) name most e → ⊥
source_uncut files name most s e h k =
    let text : s.text ≡ k.text = bytes_same files name s.text k.text h.holds k.holds in
    let same = reads_same k.text (Ok s.tokens) (Err e) (subst (λ x. IsCutInto x s.tokens) text h.cut) k.fault in
    cc

uncut_same : (files : Files) (name : List ℕ) (most : ℕ) (d e : ScanError) → IsUncut (Some files) name most d → IsUncut (Some files) name most e → d ≡ e
uncut_same files name most d e h k =
    let text : h.text ≡ k.text = bytes_same files name h.text k.text h.holds k.holds in
    let same = reads_same k.text (Err d) (Err e) (subst (λ x. Reads x (Err d)) text h.fault) k.fault in
    cc

long_text : (files : Files) (name : List ℕ) (most read : ℕ) (text : List ℕ) → HoldsBytes (Some files) name text → length text ≤ most → IsTooLong (Some files) name most read → ⊥
long_text files name most read text holds within h =
    let least : read ≤ length text = rw holds at h.long in
    let above : most < read = h.above in
    absurd (omega arith)

-- ---- texts

units_same : (d : Source) (u v : ℕ) → Begins units_form (lexemes d.text d.tokens) u → Begins units_form (lexemes d.text d.tokens) v → u ≡ v
units_same d u v h k = ap (λ p. p.0) (one_value units_form lawful_units def_faults h.front k.front h.rest k.rest u v h.taken k.taken (sym h.same ∙ k.same))

units_clash : (d : Source) (u : ℕ) (e : DefError) → Begins units_form (lexemes d.text d.tokens) u → IsRefused def_faults units_form d.text d.tokens e → ⊥
units_clash d u e h k = no_fault units_form lawful_units def_faults h.front h.rest u e h.taken (subst (λ ws. units_form.refuses def_faults ws e) h.same k)

lef_same : (units : ℕ) (l : Source) (x y : LefValue) → IsText (lef_form units) l.text l.tokens x → IsText (lef_form units) l.text l.tokens y → x ≡ y
lef_same units l x y h k = ap (λ p. p.0) (one_value (lef_form units) (lawful_lef units) lef_faults (places l.text l.tokens) (places l.text l.tokens) (End (last_line l.tokens) ∷ []) (End (last_line l.tokens) ∷ []) x y h k refl)

lef_clash : (units : ℕ) (l : Source) (x : LefValue) (e : LefError) → IsText (lef_form units) l.text l.tokens x → IsRefused lef_faults (lef_form units) l.text l.tokens e → ⊥
lef_clash units l x e h k = no_fault (lef_form units) (lawful_lef units) lef_faults (places l.text l.tokens) (End (last_line l.tokens) ∷ []) x e h k

def_same : (d : Source) (x y : DefValue) → IsText def_form d.text d.tokens x → IsText def_form d.text d.tokens y → x ≡ y
def_same d x y h k = ap (λ p. p.0) (one_value def_form lawful_def def_faults (places d.text d.tokens) (places d.text d.tokens) (End (last_line d.tokens) ∷ []) (End (last_line d.tokens) ∷ []) x y h k refl)

def_clash : (d : Source) (x : DefValue) (e : DefError) → IsText def_form d.text d.tokens x → IsRefused def_faults def_form d.text d.tokens e → ⊥
def_clash d x e h k = no_fault def_form lawful_def def_faults (places d.text d.tokens) (End (last_line d.tokens) ∷ []) x e h k

-- guides are read in one way
guide_same : (s : Source) (x y : Guides) → IsText guides_form s.text s.tokens x → IsText guides_form s.text s.tokens y → x ≡ y
guide_same s x y h k = ap (λ p. p.0) (one_value guides_form lawful_guides guide_faults (places s.text s.tokens) (places s.text s.tokens) (End (last_line s.tokens) ∷ []) (End (last_line s.tokens) ∷ []) x y h k refl)

guide_clash : (s : Source) (x : Guides) (e : GuideError) → IsText guides_form s.text s.tokens x → IsRefused guide_faults guides_form s.text s.tokens e → ⊥
guide_clash s x e h k = no_fault guides_form lawful_guides guide_faults (places s.text s.tokens) (End (last_line s.tokens) ∷ []) x e h k

-- LEF is read in one way
says_clash : (l d : Source) (u v : ℕ) (x : LefValue) (e : LefError) → SaysLef l d u x → Begins units_form (lexemes d.text d.tokens) v → IsRefused lef_faults (lef_form v) l.text l.tokens e → ⊥
says_clash l d u v x e h k r = lef_clash u l x e h.lef_says (subst (λ w. IsRefused lef_faults (lef_form w) l.text l.tokens e) (sym (units_same d u v h.has_units k)) r)

-- the texts say one thing
both_same : (l d : Source) (x y : Texts) → SayBoth l d x → SayBoth l d y → x ≡ y
both_same l d x y h k =
    let units : k.units ≡ h.units = units_same d k.units h.units k.in_units.has_units h.in_units.has_units in
    let lef : x.lef ≡ y.lef = lef_same h.units l x.lef y.lef h.in_units.lef_says (subst (λ w. IsText (lef_form w) l.text l.tokens y.lef) units k.in_units.lef_says) in
    let def : x.def ≡ y.def = def_same d x.def y.def h.def_says k.def_says in
    (λ i. record { lef = lef i; def = def i })

IsLefPart : Source → Source → Refusal → Type 0
IsLefPart l d r = (e : LefError) × (r ≡ Lef e) × IsTextRefusal l d (Lef e)

IsDefPart : Source → Source → Refusal → Type 0
IsDefPart l d r = (e : DefError) × (r ≡ Def e) × IsDefRefusal l d e

text_parts : (l d : Source) (r : Refusal) → IsTextRefusal l d r → IsLefPart l d r ⊎ IsDefPart l d r
unfolding IsLefPart IsDefPart
text_parts l d (Words e) h = absurd h
text_parts l d (LefBytes read) h = absurd h
text_parts l d (DefBytes read) h = absurd h
text_parts l d (GuideBytes read) h = absurd h
text_parts l d (Lef e) h = inl (e, refl, h)
text_parts l d (Def e) h = inr (e, refl, h)
text_parts l d (Guide e) h = absurd h
text_parts l d (Build e) h = absurd h
text_parts l d (Read name) h = absurd h
text_parts l d (Write name) h = absurd h
text_parts l d Memory h = absurd h

lef_lef : (l d : Source) (e f : LefError) → IsTextRefusal l d (Lef e) → IsTextRefusal l d (Lef f) → e ≡ f
lef_lef l d e f h k =
    let units : k.0 ≡ h.0 = units_same d k.0 h.0 k.1 h.1 in
    one_fault (lef_form h.0) (lawful_lef h.0) lef_faults (lexemes l.text l.tokens) e f h.2 (subst (λ w. IsRefused lef_faults (lef_form w) l.text l.tokens f) units k.2)

lef_def : (l d : Source) (e : LefError) (f : DefError) → IsTextRefusal l d (Lef e) → IsDefRefusal l d f → ⊥
lef_def l d e f h k = elim k [
  | inl r ↦ units_clash d h.0 f h.1 r
  | inr r ↦ says_clash l d r.0 h.0 r.1 e r.2 h.1 h.2
]

def_def : (l d : Source) (e f : DefError) → IsDefRefusal l d e → IsDefRefusal l d f → e ≡ f
def_def l d e f h k = elim h [
  | inl a ↦ elim k [
    | inl b ↦ one_fault units_form lawful_units def_faults (lexemes d.text d.tokens) e f a b
    | inr b ↦ absurd (units_clash d b.0 e b.2.has_units a)
  ]
  | inr a ↦ elim k [
    | inl b ↦ absurd (units_clash d a.0 f a.2.has_units b)
    | inr b ↦ one_fault def_form lawful_def def_faults (lexemes d.text d.tokens) e f a.3 b.3
  ]
]

says_def : (l d : Source) (x : Texts) (e : DefError) → SayBoth l d x → IsDefRefusal l d e → ⊥
says_def l d x e h k = elim k [
  | inl r ↦ units_clash d h.units e h.in_units.has_units r
  | inr r ↦ def_clash d x.def e h.def_says r.3
]

one_text_refusal : (l d : Source) (r s : Refusal) → IsTextRefusal l d r → IsTextRefusal l d s → r ≡ s
unfolding IsLefPart IsDefPart
one_text_refusal l d r s h k = elim (text_parts l d r h) [
  | inl a ↦ elim (text_parts l d s k) [
    | inl b ↦ a.1 ∙ ap Lef (lef_lef l d a.0 b.0 a.2 b.2) ∙ sym b.1
    | inr b ↦ absurd (lef_def l d a.0 b.0 a.2 b.2)
  ]
  | inr a ↦ elim (text_parts l d s k) [
    | inl b ↦ absurd (lef_def l d b.0 a.0 b.2 a.2)
    | inr b ↦ a.1 ∙ ap Def (def_def l d a.0 b.0 a.2 b.2) ∙ sym b.1
  ]
]

-- texts that say something are not refused
no_text_refusal : (l d : Source) (x : Texts) (r : Refusal) → SayBoth l d x → IsTextRefusal l d r → ⊥
unfolding IsLefPart IsDefPart
no_text_refusal l d x r h k = elim (text_parts l d r k) [
  | inl a ↦ says_clash l d h.units a.2.0 x.lef a.0 h.in_units a.2.1 a.2.2
  | inr a ↦ says_def l d x a.0 h a.2
]

-- ---- the outcome

IsLong : (told : Option Files) (name : List ℕ) (most : ℕ) (make : ℕ → Refusal) (r : Refusal) → Type 0
IsLong told name most make r = (read : ℕ) × (r ≡ make read) × IsTooLong told name most read

IsCut : (told : Option Files) (name : List ℕ) (most : ℕ) (make : ScanError → Refusal) (r : Refusal) → Type 0
IsCut told name most make r = (e : ScanError) × (r ≡ make e) × IsUncut told name most e

lef_scan : ScanError → Refusal
lef_scan e = Lef (LefScan e)

def_scan : ScanError → Refusal
def_scan e = Def (DefScan e)

lef_parts : (told : Option Files) (name : List ℕ) (r : Refusal) → IsLefFileRefusal told name r → IsLong told name lef_most LefBytes r ⊎ IsCut told name lef_most lef_scan r
unfolding IsLong IsCut lef_scan
lef_parts told name (Words e) h = absurd h
lef_parts told name (LefBytes read) h = inl (read, refl, h)
lef_parts told name (DefBytes read) h = absurd h
lef_parts told name (GuideBytes read) h = absurd h
lef_parts told name (Lef e) h = inr (h.0, ap Lef h.2, h.1)
lef_parts told name (Def e) h = absurd h
lef_parts told name (Guide e) h = absurd h
lef_parts told name (Build e) h = absurd h
lef_parts told name (Read file) h = absurd h
lef_parts told name (Write file) h = absurd h
lef_parts told name Memory h = absurd h

def_parts : (told : Option Files) (name : List ℕ) (r : Refusal) → IsDefFileRefusal told name r → IsLong told name def_most DefBytes r ⊎ IsCut told name def_most def_scan r
unfolding IsLong IsCut def_scan
def_parts told name (Words e) h = absurd h
def_parts told name (LefBytes read) h = absurd h
def_parts told name (DefBytes read) h = inl (read, refl, h)
def_parts told name (GuideBytes read) h = absurd h
def_parts told name (Lef e) h = absurd h
def_parts told name (Def e) h = inr (h.0, ap Def h.2, h.1)
def_parts told name (Guide e) h = absurd h
def_parts told name (Build e) h = absurd h
def_parts told name (Read file) h = absurd h
def_parts told name (Write file) h = absurd h
def_parts told name Memory h = absurd h

-- a file that is cut is not refused
no_lef_refusal : (files : Files) (name : List ℕ) (s : Source) (r : Refusal) → IsSource (Some files) name lef_most s → IsLefFileRefusal (Some files) name r → ⊥
unfolding IsLong IsCut
no_lef_refusal files name s r h k = elim (lef_parts (Some files) name r k) [
  | inl a ↦ long_text files name lef_most a.0 s.text h.holds h.within a.2
  | inr a ↦ source_uncut files name lef_most s a.0 h a.2
]

no_def_refusal : (files : Files) (name : List ℕ) (s : Source) (r : Refusal) → IsSource (Some files) name def_most s → IsDefFileRefusal (Some files) name r → ⊥
unfolding IsLong IsCut
no_def_refusal files name s r h k = elim (def_parts (Some files) name r k) [
  | inl a ↦ long_text files name def_most a.0 s.text h.holds h.within a.2
  | inr a ↦ source_uncut files name def_most s a.0 h a.2
]

-- a file is refused in one way, but for the count
one_lef_file : (files : Files) (name : List ℕ) (r s : Refusal) → IsLefFileRefusal (Some files) name r → IsLefFileRefusal (Some files) name s → AreSame r s
unfolding IsLong IsCut
one_lef_file files name r s h k = elim (lef_parts (Some files) name r h) [
  | inl a ↦ elim (lef_parts (Some files) name s k) [
    | inl b ↦ inr (inl (a.0, b.0, a.1, b.1))
    | inr b ↦ absurd (long_text files name lef_most a.0 b.2.text b.2.holds b.2.within a.2)
  ]
  | inr a ↦ elim (lef_parts (Some files) name s k) [
    | inl b ↦ absurd (long_text files name lef_most b.0 a.2.text a.2.holds a.2.within b.2)
    | inr b ↦ inl (a.1 ∙ ap lef_scan (uncut_same files name lef_most a.0 b.0 a.2 b.2) ∙ sym b.1)
  ]
]

one_def_file : (files : Files) (name : List ℕ) (r s : Refusal) → IsDefFileRefusal (Some files) name r → IsDefFileRefusal (Some files) name s → AreSame r s
unfolding IsLong IsCut
one_def_file files name r s h k = elim (def_parts (Some files) name r h) [
  | inl a ↦ elim (def_parts (Some files) name s k) [
    | inl b ↦ inr (inr (inl (a.0, b.0, a.1, b.1)))
    | inr b ↦ absurd (long_text files name def_most a.0 b.2.text b.2.holds b.2.within a.2)
  ]
  | inr a ↦ elim (def_parts (Some files) name s k) [
    | inl b ↦ absurd (long_text files name def_most b.0 a.2.text a.2.holds a.2.within b.2)
    | inr b ↦ inl (a.1 ∙ ap def_scan (uncut_same files name def_most a.0 b.0 a.2 b.2) ∙ sym b.1)
  ]
]

-- ---- guides

IsGuidePart : (told : Option Files) (name : List ℕ) (r : Refusal) → Type 0
IsGuidePart told name r = (e : GuideError) × (r ≡ Guide e) × IsNoGuide told name e

guide_parts : (told : Option Files) (name : List ℕ) (r : Refusal) → IsGuideFileRefusal told name r → IsLong told name guide_most GuideBytes r ⊎ IsGuidePart told name r
unfolding IsLong IsGuidePart
guide_parts told name (Words e) h = absurd h
guide_parts told name (LefBytes read) h = absurd h
guide_parts told name (DefBytes read) h = absurd h
guide_parts told name (GuideBytes read) h = inl (read, refl, h)
guide_parts told name (Lef e) h = absurd h
guide_parts told name (Def e) h = absurd h
guide_parts told name (Guide e) h = inr (e, refl, h)
guide_parts told name (Build e) h = absurd h
guide_parts told name (Read file) h = absurd h
guide_parts told name (Write file) h = absurd h
guide_parts told name Memory h = absurd h

-- a file that says guides is not refused
file_no_guide : (files : Files) (name : List ℕ) (g : Guides) (e : GuideError) → IsGuideFile (Some files) name g → IsNoGuide (Some files) name e → ⊥
file_no_guide files name g e h k = elim k [
  | inl a ↦ source_uncut files name guide_most h.source a.0 h.cut a.1
  | inr a ↦
      let same = source_same files name guide_most a.source h.source a.cut h.cut in
      let refused : IsRefused guide_faults guides_form h.source.text h.source.tokens e = subst (λ (s : Source). IsRefused guide_faults guides_form s.text s.tokens e) same a.refused in
      guide_clash h.source g e h.says refused
]

file_refusal : (files : Files) (name : List ℕ) (g : Guides) (r : Refusal) → IsGuideFile (Some files) name g → IsGuideFileRefusal (Some files) name r → ⊥
unfolding IsLong IsGuidePart
file_refusal files name g r h k = elim (guide_parts (Some files) name r k) [
  | inl a ↦ long_text files name guide_most a.0 h.source.text h.cut.holds h.cut.within a.2
  | inr a ↦ file_no_guide files name g a.0 h a.2
]

-- a file without guides has one fault
one_no_guide : (files : Files) (name : List ℕ) (e f : GuideError) → IsNoGuide (Some files) name e → IsNoGuide (Some files) name f → e ≡ f
one_no_guide files name e f h k = elim h [
  | inl a ↦ elim k [
    | inl b ↦ a.2 ∙ ap GuideScan (uncut_same files name guide_most a.0 b.0 a.1 b.1) ∙ sym b.2
    | inr b ↦ absurd (source_uncut files name guide_most b.source a.0 b.cut a.1)
  ]
  | inr a ↦ elim k [
    | inl b ↦ absurd (source_uncut files name guide_most a.source b.0 a.cut b.1)
    | inr b ↦
        let same = source_same files name guide_most b.source a.source b.cut a.cut in
        let refused : IsRefused guide_faults guides_form a.source.text a.source.tokens f = subst (λ (s : Source). IsRefused guide_faults guides_form s.text s.tokens f) same b.refused in
        one_fault guides_form lawful_guides guide_faults (lexemes a.source.text a.source.tokens) e f a.refused refused
  ]
]

long_no_guide : (files : Files) (name : List ℕ) (read : ℕ) (e : GuideError) → IsTooLong (Some files) name guide_most read → IsNoGuide (Some files) name e → ⊥
long_no_guide files name read e h k = elim k [
  | inl a ↦ long_text files name guide_most read a.1.text a.1.holds a.1.within h
  | inr a ↦ long_text files name guide_most read a.source.text a.cut.holds a.cut.within h
]

one_guide_file : (files : Files) (name : List ℕ) (r s : Refusal) → IsGuideFileRefusal (Some files) name r → IsGuideFileRefusal (Some files) name s → AreSame r s
unfolding IsLong IsGuidePart
one_guide_file files name r s h k = elim (guide_parts (Some files) name r h) [
  | inl a ↦ elim (guide_parts (Some files) name s k) [
    | inl b ↦ inr (inr (inr (a.0, b.0, a.1, b.1)))
    | inr b ↦ absurd (long_no_guide files name a.0 b.0 a.2 b.2)
  ]
  | inr a ↦ elim (guide_parts (Some files) name s k) [
    | inl b ↦ absurd (long_no_guide files name b.0 a.0 b.2 a.2)
    | inr b ↦ inl (a.1 ∙ ap Guide (one_no_guide files name a.0 b.0 a.2 b.2) ∙ sym b.1)
  ]
]

-- the guides of a command line are one
file_same : (files : Files) (name : List ℕ) (x y : Guides) → IsGuideFile (Some files) name x → IsGuideFile (Some files) name y → x ≡ y
file_same files name x y h k =
    let same = source_same files name guide_most k.source h.source k.cut h.cut in
    let says : IsText guides_form h.source.text h.source.tokens y = subst (λ (s : Source). IsText guides_form s.text s.tokens y) same k.says in
    guide_same h.source x y h.says says

guides_same : (files : Files) (name : Option (List ℕ)) (x y : Option Guides) → AreGuidesOf (Some files) name x → AreGuidesOf (Some files) name y → x ≡ y
guides_same files None x y h k = h ∙ sym k
guides_same files (Some name) x y h k = h.2 ∙ ap Some (file_same files name h.0 k.0 h.1 k.1) ∙ sym k.2

no_guide_refusal : (files : Files) (name : Option (List ℕ)) (x : Option Guides) (r : Refusal) → AreGuidesOf (Some files) name x → IsGuideRefusal (Some files) name r → ⊥
no_guide_refusal files None x r h k = k
no_guide_refusal files (Some name) x r h k = file_refusal files name h.0 r h.1 k

one_guide_refusal : (files : Files) (name : Option (List ℕ)) (r s : Refusal) → IsGuideRefusal (Some files) name r → IsGuideRefusal (Some files) name s → AreSame r s
one_guide_refusal files None r s h k = absurd h
one_guide_refusal files (Some name) r s h k = one_guide_file files name r s h k

-- ---- the design

IsBuildPart : CommandLine → Source → Texts → Option Guides → Refusal → Type 0
IsBuildPart asked def said guides r = (e : BuildError) × (r ≡ Build e) × Refuses (input_from def said guides) (options_of asked said) e

build_part : (asked : CommandLine) (def : Source) (said : Texts) (guides : Option Guides) (r : Refusal) → IsBuildRefusal asked def said guides r → IsBuildPart asked def said guides r
unfolding IsBuildPart
build_part asked def said guides (Words e) h = absurd h
build_part asked def said guides (LefBytes read) h = absurd h
build_part asked def said guides (DefBytes read) h = absurd h
build_part asked def said guides (GuideBytes read) h = absurd h
build_part asked def said guides (Lef e) h = absurd h
build_part asked def said guides (Def e) h = absurd h
build_part asked def said guides (Guide e) h = absurd h
build_part asked def said guides (Build e) h = (e, refl, h)
build_part asked def said guides (Read file) h = absurd h
build_part asked def said guides (Write file) h = absurd h
build_part asked def said guides Memory h = absurd h

one_build_refusal : (asked : CommandLine) (def : Source) (said : Texts) (guides : Option Guides) (r s : Refusal) → IsBuildRefusal asked def said guides r → IsBuildRefusal asked def said guides s → AreSame r s
unfolding IsBuildPart
one_build_refusal asked def said guides r s h k =
    let a = build_part asked def said guides r h in
    let b = build_part asked def said guides s k in
    inl (a.1 ∙ ap Build (one_refusal (input_from def said guides) (options_of asked said) a.0 b.0 a.2 b.2) ∙ sym b.1)

no_build_refusal : (asked : CommandLine) (def : Source) (said : Texts) (guides : Option Guides) (d : Design) (r : Refusal) → Gives (input_from def said guides) (options_of asked said) d → IsBuildRefusal asked def said guides r → ⊥
unfolding IsBuildPart
no_build_refusal asked def said guides d r h k =
    let a = build_part asked def said guides r k in
    no_refusal (input_from def said guides) (options_of asked said) d a.0 h a.2

-- ---- step by step

-- a step that refuses, or gives what the next one refuses
IsStep : {A : Type 0} → Type 0 → (A → Type 0) → (A → Type 0) → Type 0
IsStep {A} Refuses Gives Next = Refuses ⊎ ((a : A) × Gives a × Next a)

-- two refusals of a step are the same where those of the step itself are, and those of the next one
same_steps : {A : Type 0} (Fails : Refusal → Type 0) (Gives : A → Type 0) (Next : A → Refusal → Type 0) (r s : Refusal) → (Fails r → Fails s → AreSame r s) → ((a : A) (t : Refusal) → Gives a → Fails t → ⊥) → ((a b : A) → Gives a → Gives b → a ≡ b) → ((a : A) → Gives a → Next a r → Next a s → AreSame r s) → IsStep (Fails r) Gives (λ a. Next a r) → IsStep (Fails s) Gives (λ a. Next a s) → AreSame r s
unfolding IsStep
same_steps Fails Gives Next r s one clash same next h k = elim h [
  | inl a ↦ elim k [
    | inl b ↦ one a b
    | inr b ↦ absurd (clash b.0 r b.1 a)
  ]
  | inr a ↦ elim k [
    | inl b ↦ absurd (clash a.0 s a.1 b)
    | inr b ↦ next a.0 a.1 a.2 (subst (λ x. Next x s) (same b.0 a.0 b.1 a.1) b.2)
  ]
]

-- a step that gives something refuses only where the next one does
no_step : {A : Type 0} (Fails : Type 0) (Gives : A → Type 0) (Next : A → Type 0) (a : A) → Gives a → (Fails → ⊥) → ((b : A) → Gives b → b ≡ a) → (Next a → ⊥) → IsStep Fails Gives Next → ⊥
unfolding IsStep
no_step Fails Gives Next a gives fails same next h = elim h [
  | inl x ↦ fails x
  | inr x ↦ next (subst Next (same x.0 x.1) x.2)
]

behind_texts : (files : Files) (asked : CommandLine) (def : Source) (said : Texts) (r s : Refusal) → IsRefusedBehindTexts (Some files) asked def said r → IsRefusedBehindTexts (Some files) asked def said s → AreSame r s
unfolding IsStep
behind_texts files asked def said r s h k = same_steps (IsGuideRefusal (Some files) asked.guide) (AreGuidesOf (Some files) asked.guide) (λ g t. IsBuildRefusal asked def said g t) r s
    (one_guide_refusal files asked.guide r s)
    (λ g t gives fails. no_guide_refusal files asked.guide g t gives fails)
    (guides_same files asked.guide)
    (λ g gives x y. one_build_refusal asked def said g r s x y)
    h k

behind_def : (files : Files) (asked : CommandLine) (lef def : Source) (r s : Refusal) → IsRefusedBehindDef (Some files) asked lef def r → IsRefusedBehindDef (Some files) asked lef def s → AreSame r s
unfolding IsStep
behind_def files asked lef def r s h k = same_steps (IsTextRefusal lef def) (SayBoth lef def) (λ said t. IsRefusedBehindTexts (Some files) asked def said t) r s
    (λ x y. inl (one_text_refusal lef def r s x y))
    (λ said t gives fails. no_text_refusal lef def said t gives fails)
    (both_same lef def)
    (λ said gives x y. behind_texts files asked def said r s x y)
    h k

behind_lef : (files : Files) (asked : CommandLine) (lef : Source) (r s : Refusal) → IsRefusedBehindLef (Some files) asked lef r → IsRefusedBehindLef (Some files) asked lef s → AreSame r s
unfolding IsStep
behind_lef files asked lef r s h k = same_steps (IsDefFileRefusal (Some files) asked.def) (IsSource (Some files) asked.def def_most) (λ def t. IsRefusedBehindDef (Some files) asked lef def t) r s
    (one_def_file files asked.def r s)
    (λ def t gives fails. no_def_refusal files asked.def def t gives fails)
    (source_same files asked.def def_most)
    (λ def gives x y. behind_def files asked lef def r s x y)
    h k

-- told files have one first refusal, but for the count of a file that is too long
pub one_refusal_of_files : (files : Files) (asked : CommandLine) (r s : Refusal) → IsFirstRefusal (Some files) asked r → IsFirstRefusal (Some files) asked s → AreSame r s
unfolding IsStep
one_refusal_of_files files asked r s h k = same_steps (IsLefFileRefusal (Some files) asked.lef) (IsSource (Some files) asked.lef lef_most) (λ lef t. IsRefusedBehindLef (Some files) asked lef t) r s
    (one_lef_file files asked.lef r s)
    (λ lef t gives fails. no_lef_refusal files asked.lef lef t gives fails)
    (source_same files asked.lef lef_most)
    (λ lef gives x y. behind_lef files asked lef r s x y)
    h k

-- and none where they give a design
pub no_refusal_of_files : (files : Files) (asked : CommandLine) (text : List ℕ) (d : Design) (r : Refusal) → IsDesigned (Some files) asked text d → IsFirstRefusal (Some files) asked r → ⊥
unfolding IsStep
no_refusal_of_files files asked text d r h k =
    no_step (IsLefFileRefusal (Some files) asked.lef r) (IsSource (Some files) asked.lef lef_most) (λ lef. IsRefusedBehindLef (Some files) asked lef r) h.lef h.lef_cut
    (no_lef_refusal files asked.lef h.lef r h.lef_cut)
    (λ lef cut. source_same files asked.lef lef_most lef h.lef cut h.lef_cut)
    (no_step (IsDefFileRefusal (Some files) asked.def r) (IsSource (Some files) asked.def def_most) (λ def. IsRefusedBehindDef (Some files) asked h.lef def r) h.def h.def_cut
    (no_def_refusal files asked.def h.def r h.def_cut)
    (λ def cut. source_same files asked.def def_most def h.def cut h.def_cut)
    (no_step (IsTextRefusal h.lef h.def r) (SayBoth h.lef h.def) (λ said. IsRefusedBehindTexts (Some files) asked h.def said r) h.said h.say
    (no_text_refusal h.lef h.def h.said r h.say)
    (λ said say. both_same h.lef h.def said h.said say h.say)
    (no_step (IsGuideRefusal (Some files) asked.guide r) (AreGuidesOf (Some files) asked.guide) (λ g. IsBuildRefusal asked h.def h.said g r) h.guides h.are_guides
    (no_guide_refusal files asked.guide h.guides r h.are_guides)
    (λ g gives. guides_same files asked.guide g h.guides gives h.are_guides)
    (no_build_refusal asked h.def h.said h.guides d r h.gives)))) k

-- refusals that are the same have one status
pub status_same : (r s : Refusal) → AreSame r s → status_of r ≡ status_of s
status_same r s h = elim h [
  | inl e ↦ ap status_of e
  | inr v ↦ elim v [
    | inl e ↦ ap status_of e.2 ∙ sym (ap status_of e.3)
    | inr w ↦ elim w [
      | inl e ↦ ap status_of e.2 ∙ sym (ap status_of e.3)
      | inr e ↦ ap status_of e.2 ∙ sym (ap status_of e.3)
    ]
  ]
]

-- ---- what a run answers

status_cases : (n : ℕ) → n ≤ 10 → (n ≤ 1) ⊎ ((2 ≤ n) × (n ≤ 8)) ⊎ (n ≡ 9) ⊎ (n ≡ 10)
status_cases n h = elim (cases_lt 1 n) [
  | inr low ↦ inl low
  | inl above ↦ elim (cases_lt 8 n) [
    | inr mid ↦ inr (inl (omega arith, mid))
    | inl high ↦ elim (cases_lt 9 n) [
      | inr nine ↦ inr (inr (inl (omega arith)))
      | inl ten ↦ inr (inr (inr (omega arith)))
    ]
  ]
]

-- a cause that is no fault is the first refusal
cause_refusal : (before after : ShelfView) (asked : CommandLine) (r : Refusal) → Cause before after asked r → ¬ HasRisen before.faults after.faults → IsFirstRefusal before.files asked r
cause_refusal before after asked (Words e) h ne = h
cause_refusal before after asked (LefBytes read) h ne = h
cause_refusal before after asked (DefBytes read) h ne = h
cause_refusal before after asked (GuideBytes read) h ne = h
cause_refusal before after asked (Lef e) h ne = h
cause_refusal before after asked (Def e) h ne = h
cause_refusal before after asked (Guide e) h ne = h
cause_refusal before after asked (Build e) h ne = h
cause_refusal before after asked (Read name) h ne = absurd (ne h.0)
cause_refusal before after asked (Write name) h ne = h
cause_refusal before after asked Memory h ne = h

-- where the files have a first refusal
exact_refusal : (asked : CommandLine) (before after : Moment) (done : Done) (files : Files) (r : Refusal) → Runs asked before after done → before.shelf.files ≡ Some files → IsFirstRefusal (Some files) asked r → ¬ HasRisen before.shelf.faults after.shelf.faults → (done.status ≡ status_of r) ⊎ (done.status ≡ 10)
exact_refusal asked before after done files r runs told first ne = elim (status_cases done.status runs.most) [
  | inl low ↦
      let run = runs.routed low in
      absurd (no_refusal_of_files files asked run.text run.design r (subst (λ t. IsDesigned t asked run.text run.design) told run.designed) first)
  | inr u ↦ elim u [
    | inl mid ↦
        let run = runs.refused mid.0 mid.1 in
        let other = subst (λ t. IsFirstRefusal t asked run.refusal) told (cause_refusal before.shelf after.shelf asked run.refusal run.cause ne) in
        inl (run.status ∙ status_same run.refusal r (one_refusal_of_files files asked run.refusal r other first))
    | inr v ↦ elim v [
      | inl nine ↦
          let run = runs.unwritten nine in
          absurd (no_refusal_of_files files asked run.text run.design r (subst (λ t. IsDesigned t asked run.text run.design) told run.designed) first)
      | inr ten ↦ inr ten
    ]
  ]
]

-- where the files give a design
exact_design : (asked : CommandLine) (before after : Moment) (done : Done) (files : Files) (text : List ℕ) (d : Design) → Runs asked before after done → before.shelf.files ≡ Some files → IsDesigned (Some files) asked text d → ¬ HasRisen before.shelf.faults after.shelf.faults → ¬ HasRisen before.sink.faults after.sink.faults → (done.status ≤ 1) ⊎ (done.status ≡ 10)
exact_design asked before after done files text d runs told designed ne ne' = elim (status_cases done.status runs.most) [
  | inl low ↦ inl low
  | inr u ↦ elim u [
    | inl mid ↦
        let run = runs.refused mid.0 mid.1 in
        let other = subst (λ t. IsFirstRefusal t asked run.refusal) told (cause_refusal before.shelf after.shelf asked run.refusal run.cause ne) in
        absurd (no_refusal_of_files files asked text d run.refusal designed other)
    | inr v ↦ elim v [
      | inl nine ↦ elim (runs.unwritten nine).fault [
        | inl x ↦ absurd (ne x.risen)
        | inr x ↦ absurd (ne' x.risen)
      ]
      | inr ten ↦ inr ten
    ]
  ]
]

-- a run answers what its files come to
pub answers_exactly : (asked : CommandLine) (before after : Moment) (done : Done) → Runs asked before after done → AnswersExactly asked before after done
answers_exactly asked before after done runs = record {
  refusals = λ files r told first ne. exact_refusal asked before after done files r runs told first ne;
  designs = λ files text d told designed ne ne'. exact_design asked before after done files text d runs told designed ne ne';
}
