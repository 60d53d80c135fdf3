-- Statements take the same words, from what was read before that fits.
use Rattle.std.proofs.Common.{◌≢◌, ℕ, List, [], ◌∷◌, ◌++◌, Option, refl, ap, codes}
use Rattle.rt_forms.specs.Form.{loop}
use Rattle.def_text.specs.declared.kinds.Statement.{Statement}
use Rattle.def_text.specs.declared.kinds.Statement.TheVariants.{Units, Die, Tracks, Unused, Skipped, Extension, Vias, Components, Pins, Blockages, Special, Nets, End, Other}
use Rattle.def_text.specs.declared.def.DefNet.{DefNet}
use Rattle.def_text.specs.declared.statements.Parsed.{Parsed}
use Rattle.def_text.specs.Components.{component_item}
use Rattle.def_text.specs.Pins.{pin_item}
use Rattle.def_text.specs.Special.{special_item}
use Rattle.def_text.specs.Vias.{via_item}
use Rattle.def_text.specs.Blockages.{more_blockages}
use Rattle.def_text.specs.Sections.{more_items}
use Rattle.def_text.specs.Texts.{units_statement, die_statement, tracks_statement, vias_section, components_section, pins_section, blockages_section, special_section, statement_by}
use Rattle.same_words.specs.Same.{Frame, Same}
use Rattle.same_words.specs.Values.{Equal, TurnsBy, Pairwise}
use Rattle.same_words.specs.States.{HoldsMoved, IsViaBy, IsNetBy, IsListedBy, IsParsedBy}
use Rattle.same_words.proofs.Combining.{same_then, same_bind, same_admit, same_check, same_done, same_refused}
use Rattle.same_words.proofs.Skipping.{same_up_to, same_up_to_pair}
use Rattle.same_words.proofs.Parts.{fits_once, fits_once_equal, same_said_count, same_equal_items, same_count}
use Rattle.same_words.proofs.Sections.{same_die, same_track_row, same_component_item, same_pin_item}
use Rattle.same_words.proofs.Blockages.{same_all_blockages}
use Rattle.same_words.proofs.Vias.{same_all_vias}
use Rattle.same_words.proofs.Special.{same_all_special}

pub same_units_statement : {f : Frame} {R : ℕ × ℕ → ℕ × ℕ → Type 0} {N : Option (List DefNet) → Option (List DefNet) → Type 0} → (line first line' first' : ℕ) (word : List ℕ) (s s' : Parsed) → IsParsedBy f.total f.more R N s s' → Same f (TurnsBy (IsParsedBy f.total f.more R N)) (units_statement (record { line = line; first = first; word = word }) s) (units_statement (record { line = line'; first = first'; word = word }) s')
unfolding units_statement
same_units_statement line first line' first' word s s' h =
    same_bind _ _ _ _ (same_check _ _ (fits_once_equal s.units s'.units _ _ h.units)) (λ x.
    same_bind _ _ _ _ (same_admit _ _ (λ k l k' l' v. refl)) (λ y.
    same_bind _ _ _ _ (same_admit _ _ (λ k l k' l' v. refl)) (λ z.
    same_bind _ _ _ _ (same_count 1 1000000) (λ units.
    same_bind _ _ _ _ (same_admit _ _ (λ k l k' l' v. refl)) (λ e.
    same_done _ _ (record { all = h.all; all' = h.all'; units = refl; die = h.die; tracks = h.tracks; vias = h.vias; components = h.components; pins = h.pins; blockages = h.blockages; special = h.special; nets = h.nets; skipped = h.skipped }))))))

pub same_die_statement : {f : Frame} {R : ℕ × ℕ → ℕ × ℕ → Type 0} {N : Option (List DefNet) → Option (List DefNet) → Type 0} → (line first line' first' : ℕ) (word : List ℕ) (s s' : Parsed) → IsParsedBy f.total f.more R N s s' → Same f (TurnsBy (IsParsedBy f.total f.more R N)) (die_statement (record { line = line; first = first; word = word }) s) (die_statement (record { line = line'; first = first'; word = word }) s')
unfolding die_statement
same_die_statement line first line' first' word s s' h =
    same_bind _ _ _ _ (same_check _ _ (fits_once_equal s.die s'.die _ _ h.die)) (λ x.
    same_bind _ _ _ _ same_die (λ sides.
    same_done _ _ (record { all = h.all; all' = h.all'; units = h.units; die = refl; tracks = h.tracks; vias = h.vias; components = h.components; pins = h.pins; blockages = h.blockages; special = h.special; nets = h.nets; skipped = h.skipped })))

pub same_tracks_statement : {f : Frame} {R : ℕ × ℕ → ℕ × ℕ → Type 0} {N : Option (List DefNet) → Option (List DefNet) → Type 0} → (s s' : Parsed) → IsParsedBy f.total f.more R N s s' → Same f (TurnsBy (IsParsedBy f.total f.more R N)) (tracks_statement s) (tracks_statement s')
unfolding tracks_statement
same_tracks_statement s s' h =
    same_bind _ _ _ _ same_track_row (λ row.
    same_done _ _ (record { all = h.all; all' = h.all'; units = h.units; die = h.die; tracks = ap (λ rows. rows ++ row ∷ []) h.tracks; vias = h.vias; components = h.components; pins = h.pins; blockages = h.blockages; special = h.special; nets = h.nets; skipped = h.skipped }))

pub same_vias_section : {f : Frame} {R : ℕ × ℕ → ℕ × ℕ → Type 0} {N : Option (List DefNet) → Option (List DefNet) → Type 0} → HoldsMoved f R → (line first line' first' : ℕ) (word : List ℕ) (s s' : Parsed) → IsParsedBy f.total f.more R N s s' → Same f (TurnsBy (IsParsedBy f.total f.more R N)) (vias_section (record { line = line; first = first; word = word }) s) (vias_section (record { line = line'; first = first'; word = word }) s')
unfolding vias_section
same_vias_section {f} {R} {N} holds line first line' first' word s s' h =
    same_bind _ _ _ _ (same_check _ _ (fits_once (Pairwise (IsViaBy R)) s.vias s'.vias _ _ h.vias)) (λ x.
    same_bind _ _ _ _ same_said_count (λ said.
    same_then (IsListedBy (IsViaBy R)) _ _ _ _ (items said) (λ l l' r.
    same_done _ _ (record { all = h.all; all' = h.all'; units = h.units; die = h.die; tracks = h.tracks; vias = r.items; components = h.components; pins = h.pins; blockages = h.blockages; special = h.special; nets = h.nets; skipped = r.skipped }))))
  where
    items : (said : ℕ) → Same f (IsListedBy (IsViaBy R)) (loop (more_items (codes "VIAS") said (via_item s.total)) (record { names = []; items = []; skipped = s.skipped })) (loop (more_items (codes "VIAS") said (via_item s'.total)) (record { names = []; items = []; skipped = s'.skipped }))
    items said = rw (h.all, h.all') (same_all_vias holds (codes "VIAS") said _ _ (record { names = refl; items = tt; skipped = h.skipped }))

pub same_components_section : {f : Frame} {R : ℕ × ℕ → ℕ × ℕ → Type 0} {N : Option (List DefNet) → Option (List DefNet) → Type 0} → (line first line' first' : ℕ) (word : List ℕ) (s s' : Parsed) → IsParsedBy f.total f.more R N s s' → Same f (TurnsBy (IsParsedBy f.total f.more R N)) (components_section (record { line = line; first = first; word = word }) s) (components_section (record { line = line'; first = first'; word = word }) s')
unfolding components_section
same_components_section {f} line first line' first' word s s' h =
    same_bind _ _ _ _ (same_check _ _ (fits_once_equal s.components s'.components _ _ h.components)) (λ x.
    same_bind _ _ _ _ same_said_count (λ said.
    same_bind _ _ _ _ (items said) (λ listed.
    same_done _ _ (record { all = h.all; all' = h.all'; units = h.units; die = h.die; tracks = h.tracks; vias = h.vias; components = refl; pins = h.pins; blockages = h.blockages; special = h.special; nets = h.nets; skipped = refl }))))
  where
    items : (said : ℕ) → Same f Equal (loop (more_items (codes "COMPONENTS") said component_item) (record { names = []; items = []; skipped = s.skipped })) (loop (more_items (codes "COMPONENTS") said component_item) (record { names = []; items = []; skipped = s'.skipped }))
    items said = rw h.skipped (same_equal_items (codes "COMPONENTS") said component_item same_component_item _)

pub same_pins_section : {f : Frame} {R : ℕ × ℕ → ℕ × ℕ → Type 0} {N : Option (List DefNet) → Option (List DefNet) → Type 0} → (line first line' first' : ℕ) (word : List ℕ) (s s' : Parsed) → IsParsedBy f.total f.more R N s s' → Same f (TurnsBy (IsParsedBy f.total f.more R N)) (pins_section (record { line = line; first = first; word = word }) s) (pins_section (record { line = line'; first = first'; word = word }) s')
unfolding pins_section
same_pins_section {f} line first line' first' word s s' h =
    same_bind _ _ _ _ (same_check _ _ (fits_once_equal s.pins s'.pins _ _ h.pins)) (λ x.
    same_bind _ _ _ _ same_said_count (λ said.
    same_bind _ _ _ _ (items said) (λ listed.
    same_done _ _ (record { all = h.all; all' = h.all'; units = h.units; die = h.die; tracks = h.tracks; vias = h.vias; components = h.components; pins = refl; blockages = h.blockages; special = h.special; nets = h.nets; skipped = refl }))))
  where
    items : (said : ℕ) → Same f Equal (loop (more_items (codes "PINS") said pin_item) (record { names = []; items = []; skipped = s.skipped })) (loop (more_items (codes "PINS") said pin_item) (record { names = []; items = []; skipped = s'.skipped }))
    items said = rw h.skipped (same_equal_items (codes "PINS") said pin_item same_pin_item _)

pub same_blockages_section : {f : Frame} {R : ℕ × ℕ → ℕ × ℕ → Type 0} {N : Option (List DefNet) → Option (List DefNet) → Type 0} → (line first line' first' : ℕ) (word : List ℕ) (s s' : Parsed) → IsParsedBy f.total f.more R N s s' → Same f (TurnsBy (IsParsedBy f.total f.more R N)) (blockages_section (record { line = line; first = first; word = word }) s) (blockages_section (record { line = line'; first = first'; word = word }) s')
unfolding blockages_section
same_blockages_section {f} line first line' first' word s s' h =
    same_bind _ _ _ _ (same_check _ _ (fits_once_equal s.blockages s'.blockages _ _ h.blockages)) (λ x.
    same_bind _ _ _ _ same_said_count (λ said.
    same_bind _ _ _ _ (items said) (λ blocked.
    same_done _ _ (record { all = h.all; all' = h.all'; units = h.units; die = h.die; tracks = h.tracks; vias = h.vias; components = h.components; pins = h.pins; blockages = refl; special = h.special; nets = h.nets; skipped = refl }))))
  where
    items : (said : ℕ) → Same f Equal (loop (more_blockages said) (record { metal = []; found = 0; skipped = s.skipped })) (loop (more_blockages said) (record { metal = []; found = 0; skipped = s'.skipped }))
    items said = rw h.skipped (same_all_blockages said _)

pub same_special_section : {f : Frame} {R : ℕ × ℕ → ℕ × ℕ → Type 0} {N : Option (List DefNet) → Option (List DefNet) → Type 0} → HoldsMoved f R → (line first line' first' : ℕ) (word : List ℕ) (s s' : Parsed) → IsParsedBy f.total f.more R N s s' → Same f (TurnsBy (IsParsedBy f.total f.more R N)) (special_section (record { line = line; first = first; word = word }) s) (special_section (record { line = line'; first = first'; word = word }) s')
unfolding special_section
same_special_section {f} {R} {N} holds line first line' first' word s s' h =
    same_bind _ _ _ _ (same_check _ _ (fits_once (Pairwise (IsNetBy R)) s.special s'.special _ _ h.special)) (λ x.
    same_bind _ _ _ _ same_said_count (λ said.
    same_then (IsListedBy (IsNetBy R)) _ _ _ _ (items said) (λ l l' r.
    same_done _ _ (record { all = h.all; all' = h.all'; units = h.units; die = h.die; tracks = h.tracks; vias = h.vias; components = h.components; pins = h.pins; blockages = h.blockages; special = r.items; nets = h.nets; skipped = r.skipped }))))
  where
    items : (said : ℕ) → Same f (IsListedBy (IsNetBy R)) (loop (more_items (codes "SPECIALNETS") said (special_item s.total)) (record { names = []; items = []; skipped = s.skipped })) (loop (more_items (codes "SPECIALNETS") said (special_item s'.total)) (record { names = []; items = []; skipped = s'.skipped }))
    items said = rw (h.all, h.all') (same_all_special holds (codes "SPECIALNETS") said _ _ (record { names = refl; items = tt; skipped = h.skipped }))

-- any statement but NETS
pub same_statement_by : {f : Frame} {R : ℕ × ℕ → ℕ × ℕ → Type 0} {N : Option (List DefNet) → Option (List DefNet) → Type 0} → HoldsMoved f R → (kind : Statement) → kind ≢ Nets → (line first line' first' : ℕ) (word : List ℕ) (s s' : Parsed) → IsParsedBy f.total f.more R N s s' → Same f (TurnsBy (IsParsedBy f.total f.more R N)) (statement_by kind (record { line = line; first = first; word = word }) s) (statement_by kind (record { line = line'; first = first'; word = word }) s')
same_statement_by holds Units other line first line' first' word s s' h = same_units_statement line first line' first' word s s' h
same_statement_by holds Die other line first line' first' word s s' h = same_die_statement line first line' first' word s s' h
same_statement_by holds Tracks other line first line' first' word s s' h = same_tracks_statement s s' h
same_statement_by holds Vias other line first line' first' word s s' h = same_vias_section holds line first line' first' word s s' h
same_statement_by holds Components other line first line' first' word s s' h = same_components_section line first line' first' word s s' h
same_statement_by holds Pins other line first line' first' word s s' h = same_pins_section line first line' first' word s s' h
same_statement_by holds Blockages other line first line' first' word s s' h = same_blockages_section line first line' first' word s s' h
same_statement_by holds Special other line first line' first' word s s' h = same_special_section holds line first line' first' word s s' h
same_statement_by holds Nets other line first line' first' word s s' h = absurd (other refl)
same_statement_by holds Unused other line first line' first' word s s' h = same_bind _ _ _ _ (same_up_to _) (λ x. same_done _ _ h)
same_statement_by holds Skipped other line first line' first' word s s' h = same_bind _ _ _ _ (same_up_to_pair _ _) (λ x. same_done _ _ h)
same_statement_by holds Extension other line first line' first' word s s' h = same_bind _ _ _ _ (same_up_to _) (λ x. same_done _ _ h)
same_statement_by holds End other line first line' first' word s s' h = same_bind _ _ _ _ (same_admit _ _ (λ k l k' l' v. refl)) (λ x. same_done _ _ h)
same_statement_by holds Other other line first line' first' word s s' h = same_refused _ _
