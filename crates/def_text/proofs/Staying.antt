-- What statements keep of what was read.
use Rattle.def_text.specs.Blockages.{more_blockages}
use Rattle.std.proofs.Common.{◌≡◌, ◌++◌, List, [], ◌∷◌, Some, refl, codes}
use Rattle.rt_forms.specs.Lexeme.{Lexeme, Place}
use Rattle.rt_forms.specs.Form.{Form, next, check, done, ◌>>=◌, loop, More, Done}
use Rattle.rt_forms.specs.Reading.{the_word, rest, up_to_word, up_to_pair}
use Rattle.def_text.specs.declared.error.DefError.{DefError}
use Rattle.def_text.specs.declared.statements.Parsed.{Parsed}
use Rattle.def_text.specs.declared.kinds.Statement.{Statement}
use Rattle.def_text.specs.declared.kinds.Statement.TheVariants.{Units, Die, Tracks, Unused, Skipped, Extension, Vias, Components, Pins, Blockages, Special, Nets, End as EndStatement, Other}
use Rattle.def_text.specs.Kinds.{statement_of}
use Rattle.def_text.specs.Sections.{said_count, more_items}
use Rattle.def_text.specs.Parts.{once}
use Rattle.def_text.specs.Vias.{via_item}
use Rattle.def_text.specs.Components.{component_item}
use Rattle.def_text.specs.Special.{special_item}
use Rattle.def_text.specs.Pins.{pin_item}
use Rattle.def_text.specs.Tracks.{die, track_row}
use Rattle.def_text.specs.Texts.{units_statement, die_statement, tracks_statement, vias_section, components_section, pins_section, special_section, nets_section, statement_by, statement, blockages_section}
use Rattle.def_text.proofs.Closes.{Leads, Lasts, ByTurn, leads_bind, leads_any, leads_done, leads_not}

-- a fact of the units, the nets and the special nets that were read and of the words that are left
pub record Stays (P : Parsed → List Lexeme → Type 0) : Type 0 where
  pub lasts : (s : Parsed) → Lasts (P s)
  pub same : (s t : Parsed) (ws : List Lexeme) → t.units ≡ s.units → t.nets ≡ s.nets → t.special ≡ s.special → P s ws → P t ws
  pub units : (w : Place) (s : Parsed) → Leads (P s) (units_statement w s) (ByTurn P P)
  pub nets : (w : Place) (s : Parsed) → Leads (P s) (nets_section w s) (ByTurn P P)
  pub special : (w : Place) (s : Parsed) → Leads (P s) (special_section w s) (ByTurn P P)

-- a step of a statement
pub step : {A B : Type 0} (P : Parsed → List Lexeme → Type 0) → ((s : Parsed) → Lasts (P s)) → (s : Parsed) (F : Form DefError A) (G : A → Form DefError B) (R : B → List Lexeme → Type 0) → ((a : A) → Leads (P s) (G a) R) → Leads (P s) (F >>= G) R
step P lasts s F G R k = leads_bind (P s) F (λ a. P s) G R (leads_any (P s) F (lasts s)) k

kept : (P : Parsed → List Lexeme → Type 0) → Stays P → (s t : Parsed) → t.units ≡ s.units → t.nets ≡ s.nets → t.special ≡ s.special → Leads (P s) (done {E = DefError} (More t)) (ByTurn P P)
kept P stays s t units nets special = leads_done (P s) (More t) (ByTurn P P) (λ ws p. stays.same s t ws units nets special p)

die_stays : (P : Parsed → List Lexeme → Type 0) → Stays P → (w : Place) (s : Parsed) → Leads (P s) (die_statement w s) (ByTurn P P)
unfolding die_statement
die_stays P stays w s =
    step P stays.lasts s (check (once s.die w)) _ _ (λ a.
    step P stays.lasts s die _ _ (λ sides. kept P stays s (record s { die = Some sides }) refl refl refl))

tracks_stay : (P : Parsed → List Lexeme → Type 0) → Stays P → (s : Parsed) → Leads (P s) (tracks_statement s) (ByTurn P P)
unfolding tracks_statement
tracks_stay P stays s = step P stays.lasts s track_row _ _ (λ row. kept P stays s (record s { tracks = s.tracks ++ row ∷ [] }) refl refl refl)

pins_stay : (P : Parsed → List Lexeme → Type 0) → Stays P → (w : Place) (s : Parsed) → Leads (P s) (pins_section w s) (ByTurn P P)
unfolding pins_section
pins_stay P stays w s =
    step P stays.lasts s (check (once s.pins w)) _ _ (λ a.
    step P stays.lasts s said_count _ _ (λ said.
    step P stays.lasts s (loop (more_items (codes "PINS") said pin_item) (record { names = []; items = []; skipped = s.skipped })) _ _ (λ l.
    kept P stays s (record s { pins = Some l.items; skipped = l.skipped }) refl refl refl)))

blockages_stay : (P : Parsed → List Lexeme → Type 0) → Stays P → (w : Place) (s : Parsed) → Leads (P s) (blockages_section w s) (ByTurn P P)
unfolding blockages_section
blockages_stay P stays w s =
    step P stays.lasts s (check (once s.blockages w)) _ _ (λ a.
    step P stays.lasts s said_count _ _ (λ said.
    step P stays.lasts s (loop (more_blockages said) (record { metal = []; found = 0; skipped = s.skipped })) _ _ (λ b.
    kept P stays s (record s { blockages = Some b.metal; skipped = b.skipped }) refl refl refl)))

vias_stay : (P : Parsed → List Lexeme → Type 0) → Stays P → (w : Place) (s : Parsed) → Leads (P s) (vias_section w s) (ByTurn P P)
unfolding vias_section
vias_stay P stays w s =
    step P stays.lasts s (check (once s.vias w)) _ _ (λ a.
    step P stays.lasts s said_count _ _ (λ said.
    step P stays.lasts s (loop (more_items (codes "VIAS") said (via_item s.total)) (record { names = []; items = []; skipped = s.skipped })) _ _ (λ l.
    kept P stays s (record s { vias = Some l.items; skipped = l.skipped }) refl refl refl)))

components_stay : (P : Parsed → List Lexeme → Type 0) → Stays P → (w : Place) (s : Parsed) → Leads (P s) (components_section w s) (ByTurn P P)
unfolding components_section
components_stay P stays w s =
    step P stays.lasts s (check (once s.components w)) _ _ (λ a.
    step P stays.lasts s said_count _ _ (λ said.
    step P stays.lasts s (loop (more_items (codes "COMPONENTS") said component_item) (record { names = []; items = []; skipped = s.skipped })) _ _ (λ l.
    kept P stays s (record s { components = Some l.items; skipped = l.skipped }) refl refl refl)))

-- a fact of the units and the nets alone
pub special_stays : (P : Parsed → List Lexeme → Type 0) → ((s : Parsed) → Lasts (P s)) → ((s t : Parsed) (ws : List Lexeme) → t.units ≡ s.units → t.nets ≡ s.nets → P s ws → P t ws) → (w : Place) (s : Parsed) → Leads (P s) (special_section w s) (ByTurn P P)
unfolding special_section
special_stays P lasts same w s =
    step P lasts s (check (once s.special w)) _ _ (λ a.
    step P lasts s said_count _ _ (λ said.
    step P lasts s (loop (more_items (codes "SPECIALNETS") said (special_item s.total)) (record { names = []; items = []; skipped = s.skipped })) _ _ (λ l.
    leads_done (P s) (More (record s { special = Some l.items; skipped = l.skipped })) (ByTurn P P) (λ ws p. same s (record s { special = Some l.items; skipped = l.skipped }) ws refl refl p))))

by_stays : (P : Parsed → List Lexeme → Type 0) → Stays P → (kind : Statement) (w : Place) (s : Parsed) → Leads (P s) (statement_by kind w s) (ByTurn P P)
by_stays P stays Units w s = stays.units w s
by_stays P stays Die w s = die_stays P stays w s
by_stays P stays Tracks w s = tracks_stay P stays s
by_stays P stays Vias w s = vias_stay P stays w s
by_stays P stays Components w s = components_stay P stays w s
by_stays P stays Pins w s = pins_stay P stays w s
by_stays P stays Blockages w s = blockages_stay P stays w s
by_stays P stays Special w s = stays.special w s
by_stays P stays Nets w s = stays.nets w s
by_stays P stays Unused w s = step P stays.lasts s rest _ _ (λ a. kept P stays s s refl refl refl)
by_stays P stays Skipped w s = step P stays.lasts s (up_to_pair (codes "END") w.word) _ _ (λ a. kept P stays s s refl refl refl)
by_stays P stays Extension w s = step P stays.lasts s (up_to_word (codes "ENDEXT")) _ _ (λ a. kept P stays s s refl refl refl)
by_stays P stays EndStatement w s = step P stays.lasts s (the_word (codes "DESIGN")) _ _ (λ a. leads_done (P s) (Done s) (ByTurn P P) (λ ws p. p))
by_stays P stays Other w s = leads_not _ _ _

pub statement_stays : (P : Parsed → List Lexeme → Type 0) → Stays P → (s : Parsed) → Leads (P s) (statement s) (ByTurn P P)
unfolding statement
statement_stays P stays s = step P stays.lasts s next _ _ (λ w. by_stays P stays (statement_of w.word) w s)
