-- Reports of the worked examples, byte for byte.
use Rattle.std.proofs.Common.{◌≡◌, List, [], ◌∷◌, refl}
use Rattle.std.specs.Prelude.{codes}
use Rattle.std.specs.Fmt.{digits}
use Rattle.rt_base.specs.declared.walk.Walk.{Walk}
use Rattle.track_graph.specs.declared.design.Design.{Design}
use Rattle.track_graph.specs.declared.design.NetKind.TheVariants.{Routable, Prewired, Unguided, Single}
use Rattle.track_graph.specs.declared.design.Pin.{Pin}
use Rattle.track_graph.specs.declared.history.Block.TheVariants.{Wire, Stuck}
use Rattle.track_graph.proofs.Chip.{along, chip, chip_of, corner, corner_chip, crossed_blocks, crossed_chip, from_pin, net_of, pin_at, stub_pin, stubbed}
use Rattle.report.specs.Lines.{report_text}

-- ---- one wire

corner_report : report_text corner_chip (Wire 0 corner ∷ [])
    ≡ codes "nets 1\njoined 1\nstuck 0\nunguided 0\nprewired 0\nsingle 0\nrips 0\nwire 1200\nvias 1\nskipped 0\n"
unfolding digits
corner_report = refl

-- ---- no net

no_report : report_text (chip_of [] []) []
    ≡ codes "nets 0\njoined 0\nstuck 0\nunguided 0\nprewired 0\nsingle 0\nrips 0\nwire 0\nvias 0\nskipped 0\n"
unfolding digits
no_report = refl

-- ---- a net of each kind, and one without a path

abbrev along_track : Walk
along_track = record {
  start = from_pin 0 0 100 100;
  edges = along 0 300 100 ∷ along 0 500 100 ∷ along 0 700 100 ∷ along 0 900 100 ∷ [];
  finish = from_pin 1 0 900 100;
}

abbrev two_pins : List Pin
two_pins = pin_at 0 0 100 100 ∷ pin_at 1 0 900 100 ∷ []

abbrev kinds : Design
kinds = chip_of (
    net_of (codes "r") Routable 0 two_pins
    ∷ net_of (codes "s") Single 0 (pin_at 0 0 100 300 ∷ [])
    ∷ net_of (codes "p") Prewired 0 two_pins
    ∷ net_of (codes "u") Unguided 0 two_pins
    ∷ []) []

kinds_report : report_text kinds (Wire 0 along_track ∷ [])
    ≡ codes "nets 4\njoined 1\nstuck 0\nunguided 1\nprewired 1\nsingle 1\nrips 0\nwire 800\nvias 0\nskipped 0\nunguided-net u\n"
unfolding digits
kinds_report = refl

stuck_report : report_text (record kinds { skipped = (codes "M1", 4) ∷ (codes "M2", 0) ∷ (codes "-", 1) ∷ [] }) (Stuck 0 ∷ [])
    ≡ codes "nets 4\njoined 0\nstuck 1\nunguided 1\nprewired 1\nsingle 1\nrips 0\nwire 0\nvias 0\nskipped 5\nskipped-in M1 4\nskipped-in - 1\nno-path r\nunguided-net u\n"
unfolding digits
stuck_report = refl

-- ---- a stub of 100 units

stub_report : report_text (chip (stub_pin ∷ pin_at 1 1 900 500 ∷ []) []) (Wire 0 stubbed ∷ [])
    ≡ codes "nets 1\njoined 1\nstuck 0\nunguided 0\nprewired 0\nsingle 0\nrips 0\nwire 1300\nvias 1\nskipped 0\n"
unfolding digits
stub_report = refl

-- ---- a wire that is ripped for another one, and finds another way

ripped_report : report_text crossed_chip crossed_blocks
    ≡ codes "nets 2\njoined 2\nstuck 0\nunguided 0\nprewired 0\nsingle 0\nrips 1\nwire 2000\nvias 2\nskipped 0\n"
unfolding digits
ripped_report = refl
