-- A DEF text: statements and sections in any order, ended by END DESIGN (DEF 5.8, Order of DEF Statements; that any order is admitted is this project's choice).
use Rattle.def_text.specs.Blockages.{more_blockages}
use Rattle.rt_base.specs.Names.{IsName}
use Rattle.rt_base.specs.Sides.{Sides}
use Rattle.std.specs.Prelude.{ℕ, List, [], ◌∷◌, ◌++◌, Result, Ok, Err, Option, Some, None, codes, ◌^◌, ◌≤◌, ◌<◌, length, All, IfSome}
use Rattle.rt_forms.specs.Lexeme.{Place}
use Rattle.rt_forms.specs.Form.{Form, next, check, done, ◌>>=◌, loop, whole, Turn, More, Done}
use Rattle.rt_forms.specs.Reading.{the_word, semicolon, left, rest, up_to_word, up_to_pair}
use Rattle.def_text.specs.declared.error.DefError.{DefError}
use Rattle.def_text.specs.declared.error.DefError.TheVariants.{Unknown, Missing}
use Rattle.def_text.specs.declared.kinds.Statement.{Statement}
use Rattle.def_text.specs.declared.kinds.Statement.TheVariants.{Units, Die, Tracks, Unused, Skipped, Extension, Vias, Components, Pins, Blockages, Special, Nets, End, Other}
use Rattle.rt_base.specs.Ranges.{AreSidesWithin}
use Rattle.def_text.specs.declared.def.Def.{Def}
use Rattle.def_text.specs.declared.def.DefVia.{DefVia}
use Rattle.def_text.specs.declared.def.Component.{Component}
use Rattle.def_text.specs.declared.def.IoPin.{IoPin}
use Rattle.def_text.specs.declared.def.DefNet.{DefNet}
use Rattle.def_text.specs.Defs.{AreNamedApart, IsTrackRow, IsComponent, IsIoPin, IsMetal}
use Rattle.def_text.specs.declared.statements.Parsed.{Parsed}
use Rattle.def_text.specs.Kinds.{statement_of}
use Rattle.def_text.specs.Parts.{a_count, once}
use Rattle.def_text.specs.Tracks.{die, track_row}
use Rattle.def_text.specs.Sections.{said_count, more_items}
use Rattle.def_text.specs.Wiring.{IsNetOf}
use Rattle.def_text.specs.Vias.{via_item, IsDefVia}
use Rattle.def_text.specs.Components.{component_item}
use Rattle.def_text.specs.Pins.{pin_item}
use Rattle.def_text.specs.Special.{special_item}
use Rattle.def_text.specs.Nets.{net_item}

-- nothing was read yet of a text of so many words
abbrev pub nothing_read : ℕ → Parsed
nothing_read total = record { total = total; units = None; die = None; tracks = []; vias = None; components = None; pins = None; blockages = None; special = None; nets = None; skipped = 0 }

-- `UNITS DISTANCE MICRONS n ;`
unfoldable pub units_statement : Place → Parsed → Form DefError (Turn Parsed)
units_statement w s = do
  _ ← check (once s.units w)
  _ ← the_word (codes "DISTANCE")
  _ ← the_word (codes "MICRONS")
  units ← a_count 1 1000000
  _ ← semicolon
  done (More (record s { units = Some units }))

unfoldable pub die_statement : Place → Parsed → Form DefError (Turn Parsed)
die_statement w s = do
  _ ← check (once s.die w)
  sides ← die
  done (More (record s { die = Some sides }))

unfoldable pub tracks_statement : Parsed → Form DefError (Turn Parsed)
tracks_statement s = do
  row ← track_row
  done (More (record s { tracks = s.tracks ++ row ∷ [] }))

unfoldable pub vias_section : Place → Parsed → Form DefError (Turn Parsed)
vias_section w s = do
  _ ← check (once s.vias w)
  said ← said_count
  listed ← loop (more_items (codes "VIAS") said (via_item s.total)) (record { names = []; items = []; skipped = s.skipped })
  done (More (record s { vias = Some listed.items; skipped = listed.skipped }))

unfoldable pub components_section : Place → Parsed → Form DefError (Turn Parsed)
components_section w s = do
  _ ← check (once s.components w)
  said ← said_count
  listed ← loop (more_items (codes "COMPONENTS") said component_item) (record { names = []; items = []; skipped = s.skipped })
  done (More (record s { components = Some listed.items; skipped = listed.skipped }))

unfoldable pub pins_section : Place → Parsed → Form DefError (Turn Parsed)
pins_section w s = do
  _ ← check (once s.pins w)
  said ← said_count
  listed ← loop (more_items (codes "PINS") said pin_item) (record { names = []; items = []; skipped = s.skipped })
  done (More (record s { pins = Some listed.items; skipped = listed.skipped }))

unfoldable pub blockages_section : Place → Parsed → Form DefError (Turn Parsed)
blockages_section w s = do
  _ ← check (once s.blockages w)
  said ← said_count
  blocked ← loop (more_blockages said) (record { metal = []; found = 0; skipped = s.skipped })
  done (More (record s { blockages = Some blocked.metal; skipped = blocked.skipped }))

unfoldable pub special_section : Place → Parsed → Form DefError (Turn Parsed)
special_section w s = do
  _ ← check (once s.special w)
  said ← said_count
  listed ← loop (more_items (codes "SPECIALNETS") said (special_item s.total)) (record { names = []; items = []; skipped = s.skipped })
  done (More (record s { special = Some listed.items; skipped = listed.skipped }))

unfoldable pub nets_section : Place → Parsed → Form DefError (Turn Parsed)
nets_section w s = do
  _ ← check (once s.nets w)
  said ← said_count
  listed ← loop (more_items (codes "NETS") said (net_item s.total)) (record { names = []; items = []; skipped = s.skipped })
  done (More (record s { nets = Some listed.items; skipped = listed.skipped }))

abbrev pub statement_by : Statement → Place → Parsed → Form DefError (Turn Parsed)
statement_by Units w s = units_statement w s
statement_by Die w s = die_statement w s
statement_by Tracks w s = tracks_statement s
statement_by Vias w s = vias_section w s
statement_by Components w s = components_section w s
statement_by Pins w s = pins_section w s
statement_by Blockages w s = blockages_section w s
statement_by Special w s = special_section w s
statement_by Nets w s = nets_section w s
statement_by Unused w s = do
  _ ← rest
  done (More s)
statement_by Skipped w s = do
  _ ← up_to_pair (codes "END") w.word
  done (More s)
statement_by Extension w s = do
  _ ← up_to_word (codes "ENDEXT")
  done (More s)
statement_by End w s = do
  _ ← the_word (codes "DESIGN")
  done (Done s)
statement_by Other w s = check (Err (Unknown w.line))

unfoldable pub statement : Parsed → Form DefError (Turn Parsed)
statement s = do
  w ← next
  statement_by (statement_of w.word) w s

abbrev pub or_none : {A : Type 0} → Option (List A) → List A
or_none None = []
or_none (Some items) = items

abbrev pub units_or_missing : Option ℕ → Result ℕ DefError
units_or_missing None = Err (Missing (codes "units"))
units_or_missing (Some units) = Ok units

-- what was read is in range
pub record IsParsed (s : Parsed) : Type 0 where
  pub units : IfSome s.units (λ n. (1 ≤ n) × (n ≤ 1000000))
  pub die : IfSome s.die (AreSidesWithin (2 ^ 30))
  pub tracks : All IsTrackRow s.tracks
  pub vias : All (IsDefVia s.total) (or_none s.vias)
  pub via_names : AreNamedApart (λ (v : DefVia). v.name) (or_none s.vias)
  pub components : All IsComponent (or_none s.components)
  pub component_names : AreNamedApart (λ (c : Component). c.name) (or_none s.components)
  pub pins : All IsIoPin (or_none s.pins)
  pub pin_names : AreNamedApart (λ (p : IoPin). p.name) (or_none s.pins)
  pub pin_count : length (or_none s.pins) < 2 ^ 32
  pub blockages : All IsMetal (or_none s.blockages)
  pub special : All (IsNetOf s.total) (or_none s.special)
  pub special_names : AreNamedApart (λ (n : DefNet). n.name) (or_none s.special)
  pub nets : All (IsNetOf s.total) (or_none s.nets)
  pub net_names : AreNamedApart (λ (n : DefNet). n.name) (or_none s.nets)
  pub net_count : length (or_none s.nets) < 2 ^ 32

-- what a text says, at its end
abbrev pub finished_of : Option ℕ → Option Sides → Parsed → Result Def DefError
finished_of None sides s = Err (Missing (codes "units"))
finished_of (Some units) None s = Err (Missing (codes "die-area"))
finished_of (Some units) (Some sides) s = Ok (record {
  units = units;
  die = sides;
  tracks = s.tracks;
  vias = or_none s.vias;
  components = or_none s.components;
  pins = or_none s.pins;
  blockages = or_none s.blockages;
  special = or_none s.special;
  nets = or_none s.nets;
  skipped = s.skipped;
})

abbrev pub finished : Parsed → Result Def DefError
finished s = finished_of s.units s.die s

-- each net and each special net has a name
pub record AreNetsNamed (d : Def) : Type 0 where
  pub special : All (λ (n : DefNet). IsName n.name) d.special
  pub nets : All (λ (n : DefNet). IsName n.name) d.nets

-- ---- the whole text

unfoldable pub a_def : Form DefError Def
a_def = do
  total ← left
  s ← loop statement (nothing_read total)
  check (finished s)

abbrev pub def_form : Form DefError Def
def_form = whole a_def

-- ---- the units, which stand in a beginning of the text

-- reading stops behind UNITS
abbrev pub stop_where : Option ℕ → Parsed → Turn Parsed
stop_where None s = More s
stop_where (Some units) s = Done s

abbrev pub stop_at_units : Turn Parsed → Turn Parsed
stop_at_units (Done s) = Done s
stop_at_units (More s) = stop_where s.units s

unfoldable pub until_units : Parsed → Form DefError (Turn Parsed)
until_units s = do
  t ← statement s
  done (stop_at_units t)

-- statements up to and including UNITS, or up to END DESIGN
unfoldable pub units_form : Form DefError ℕ
units_form = do
  total ← left
  s ← loop until_units (nothing_read total)
  check (units_or_missing s.units)
