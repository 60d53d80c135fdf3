-- Routed texts of the worked examples, byte for byte.
use Rattle.std.proofs.Common.{◌≡◌, ℕ, List, [], ◌∷◌, refl}
use Rattle.std.specs.Prelude.{codes}
use Rattle.std.specs.Fmt.{digits}
use Rattle.rt_base.specs.declared.walk.Walk.{Walk}
use Rattle.track_graph.specs.declared.design.Design.{Design}
use Rattle.track_graph.specs.declared.design.NetKind.TheVariants.{Routable}
use Rattle.track_graph.specs.declared.design.Pin.{Pin}
use Rattle.track_graph.specs.declared.history.Block.TheVariants.{Wire, Stuck}
use Rattle.track_graph.specs.States.{state_of}
use Rattle.track_graph.proofs.Chip.{chip_of, corner, from_pin, net_of, pin_at, stub_pin, stubbed}
use Rattle.def_out.specs.Wiring.{routed_def}

-- ---- one wire

abbrev text : List ℕ
text = codes "VERSION 5.8 ;\nDESIGN top ;\nUNITS DISTANCE MICRONS 1000 ;\nDIEAREA ( 0 0 ) ( 2000 2000 ) ;\nTRACKS Y 100 DO 10 STEP 200 LAYER M1 ;\nTRACKS X 100 DO 10 STEP 200 LAYER M2 ;\nPINS 2 ;\n- p + NET a + LAYER M1 ( -50 -50 ) ( 50 50 ) + PLACED ( 100 100 ) N ;\n- q + NET a + LAYER M2 ( -50 -50 ) ( 50 50 ) + PLACED ( 900 500 ) N ;\nEND PINS\nNETS 1 ;\n- a ( PIN p ) ( PIN q ) ;\nEND NETS\nEND DESIGN\n"

-- its net is closed by the byte 358
abbrev text_chip : List Pin → Design
text_chip pins = chip_of (net_of (codes "a") Routable 358 pins ∷ []) []

abbrev two_pins : List Pin
two_pins = pin_at 0 0 100 100 ∷ pin_at 1 1 900 500 ∷ []

corner_text : routed_def text (text_chip two_pins) (state_of (text_chip two_pins) (Wire 0 corner ∷ []))
    ≡ codes "VERSION 5.8 ;\nDESIGN top ;\nUNITS DISTANCE MICRONS 1000 ;\nDIEAREA ( 0 0 ) ( 2000 2000 ) ;\nTRACKS Y 100 DO 10 STEP 200 LAYER M1 ;\nTRACKS X 100 DO 10 STEP 200 LAYER M2 ;\nPINS 2 ;\n- p + NET a + LAYER M1 ( -50 -50 ) ( 50 50 ) + PLACED ( 100 100 ) N ;\n- q + NET a + LAYER M2 ( -50 -50 ) ( 50 50 ) + PLACED ( 900 500 ) N ;\nEND PINS\nNETS 1 ;\n- a ( PIN p ) ( PIN q ) \n  + ROUTED M1 ( 100 100 ) ( 900 100 )\n    NEW M1 ( 900 100 ) V12\n    NEW M2 ( 900 100 ) ( 900 500 )\n;\nEND NETS\nEND DESIGN\n"
unfolding digits
corner_text = refl

stuck_text : routed_def text (text_chip two_pins) (state_of (text_chip two_pins) (Stuck 0 ∷ [])) ≡ text
unfolding digits
stuck_text = refl

-- ---- both pins at one vertex

abbrev spot : Walk
spot = record { start = from_pin 0 0 300 300; edges = []; finish = from_pin 1 0 300 300 }

spot_text : routed_def text (text_chip two_pins) (state_of (text_chip two_pins) (Wire 0 spot ∷ [])) ≡ text
unfolding digits
spot_text = refl

-- ---- a stub

abbrev stub_pins : List Pin
stub_pins = stub_pin ∷ pin_at 1 1 900 500 ∷ []

abbrev short_text : List ℕ
short_text = codes "NETS 2 ;\n- a ( PIN p ) ( PIN q ) ;\n- b ( PIN r ) ;\nEND NETS\n"

-- the nets are closed by the bytes 33 and 49
abbrev stub_chip : Design
stub_chip = chip_of (net_of (codes "a") Routable 33 stub_pins ∷ net_of (codes "b") Routable 49 [] ∷ []) []

stub_text : routed_def short_text stub_chip (state_of stub_chip (Wire 0 stubbed ∷ []))
    ≡ codes "NETS 2 ;\n- a ( PIN p ) ( PIN q ) \n  + ROUTED M1 ( 150 150 ) ( 100 150 )\n    NEW M1 ( 100 150 ) ( 100 100 )\n    NEW M1 ( 100 100 ) ( 900 100 )\n    NEW M1 ( 900 100 ) V12\n    NEW M2 ( 900 100 ) ( 900 500 )\n;\n- b ( PIN r ) ;\nEND NETS\n"
unfolding digits
stub_text = refl
