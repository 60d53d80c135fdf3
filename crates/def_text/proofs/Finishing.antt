-- What is read of a whole text is in range.
use Rattle.std.proofs.Common.{ℕ, ◌≤◌, ◌^◌}
use Rattle.rt_base.specs.Sides.{Sides}
use Rattle.rt_base.specs.Ranges.{AreSidesWithin}
use Rattle.def_text.specs.declared.def.Def.{Def}
use Rattle.def_text.specs.declared.statements.Parsed.{Parsed}
use Rattle.def_text.specs.Defs.{IsDef, AreRanges}
use Rattle.def_text.specs.Texts.{IsParsed, or_none, AreNetsNamed}

-- what a text says
abbrev pub said : Parsed → ℕ → Sides → Def
said s units sides = record {
  units = units;
  die = sides;
  tracks = s.tracks;
  vias = or_none s.vias;
  components = or_none s.components;
  pins = or_none s.pins;
  blockages = or_none s.blockages;
  special = or_none s.special;
  nets = or_none s.nets;
  skipped = s.skipped;
}

pub finished_sound : (s : Parsed) (units : ℕ) (sides : Sides) → IsParsed s → ((1 ≤ units) × (units ≤ 1000000)) → AreSidesWithin (2 ^ 30) sides → AreNetsNamed (said s units sides) → IsDef (said s units sides)
finished_sound s units sides h u e named = record {
  units = u;
  die = e;
  tracks = h.tracks;
  vias = λ k d lt. (h.vias k d lt).name;
  via_names = h.via_names;
  components = h.components;
  component_names = h.component_names;
  pins = h.pins;
  pin_names = h.pin_names;
  pin_count = h.pin_count;
  blockages = h.blockages;
  special = λ k d lt. let n = h.special k d lt in record { name = named.special k d lt; pins = n.pins; pin_count = n.pin_count };
  special_names = h.special_names;
  nets = λ k d lt. let n = h.nets k d lt in record { name = named.nets k d lt; pins = n.pins; pin_count = n.pin_count };
  net_names = h.net_names;
  net_count = h.net_count;
}

pub finished_ranges : (s : Parsed) (units : ℕ) (sides : Sides) → IsParsed s → AreRanges s.total (said s units sides)
finished_ranges s units sides h = record {
  vias = λ k d lt. (h.vias k d lt).tokens;
  special = λ k d lt. (h.special k d lt).wiring;
  nets = λ k d lt. (h.nets k d lt).wiring;
}
