-- The vias and the wiring of nets that DEF brings along (DEF 5.8, VIAS, NETS and SPECIALNETS). That a via of DEF stands behind those of LEF, so that it is meant where they have one name, is this project's reading.
use Rattle.std.specs.Prelude.{ℕ, List, [], ◌∷◌, ◌++◌, map, slice_range, Result, Ok, Err, Option, Some, None, Bool}
use Rattle.std.specs.List.{flat_map}
use Rattle.rt_base.specs.declared.token.Token.{Token}
use Rattle.rt_base.specs.declared.tech.Via.{Via}
use Rattle.rt_base.specs.declared.tech.Tech.{Tech}
use Rattle.def_text.specs.declared.def.DefVia.{DefVia}
use Rattle.def_wires.specs.declared.error.WireFault.{WireFault}
use Rattle.def_wires.specs.declared.wiring.Wiring.{Wiring}
use Rattle.def_wires.specs.Meaning.{Metal, wiring_metal}
use Rattle.def_wires.specs.Options.{wiring_form}
use Rattle.def_wires.specs.Vias.{via_form}
use Rattle.def_wires.specs.Says.{says}

-- the first fault of these answers
abbrev pub first_fault : {A : Type 0} → List (Result A WireFault) → Option WireFault
first_fault [] = None
first_fault (Ok x ∷ answers) = first_fault answers
first_fault (Err e ∷ answers) = Some e

-- the values of these answers
abbrev pub values : {A : Type 0} → List (Result A WireFault) → List A
values [] = []
values (Ok x ∷ answers) = x ∷ values answers
values (Err e ∷ answers) = values answers

-- the tokens of a range
abbrev pub range_of : List Token → ℕ × ℕ → List Token
range_of tokens r = slice_range tokens r.0 r.1

-- ---- vias

-- what an item of VIAS says: a via names layers alone, so each is read with the technology without the others
abbrev pub via_said : Tech → List ℕ → List Token → DefVia → Result Via WireFault
via_said tech text tokens v = says (via_form v.name tech) text (range_of tokens v.tokens)

-- the first fault in the items of VIAS
abbrev pub vias_fault : Tech → List ℕ → List Token → List DefVia → Option WireFault
vias_fault tech text tokens vias = first_fault (map (via_said tech text tokens) vias)

-- a technology with the vias of DEF behind its own: wiring means the last via of a name
abbrev pub wire_tech : Tech → List ℕ → List Token → List DefVia → Tech
wire_tech tech text tokens vias = record tech { vias = tech.vias ++ values (map (via_said tech text tokens) vias) }

-- ---- wiring

-- what a range of wiring says, of a net of NETS or, where special, of SPECIALNETS
abbrev pub wiring_said : Tech → List ℕ → List Token → Bool → ℕ × ℕ → Result Wiring WireFault
wiring_said tech text tokens special r = says (wiring_form tech special) text (range_of tokens r)

-- the first fault in the wiring of a net
abbrev pub wires_fault : Tech → List ℕ → List Token → Bool → List (ℕ × ℕ) → Option WireFault
wires_fault tech text tokens special ranges = first_fault (map (wiring_said tech text tokens special) ranges)

-- the rectangles that the wiring of a net means, range by range
abbrev pub wires_metal : Tech → List ℕ → List Token → Bool → List (ℕ × ℕ) → List Metal
wires_metal tech text tokens special ranges = flat_map (wiring_metal tech) (values (map (wiring_said tech text tokens special) ranges))
