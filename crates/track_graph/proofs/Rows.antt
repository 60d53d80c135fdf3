-- Worked examples of the definitions: a chip of two levels, whose costs, shapes and strokes were counted by hand.
use Rattle.std.proofs.Common.{◌≡◌, ℕ, ℤ, pos, negsuc, ◌≤ℤ◌, ◌<ℤ◌, ◌⊎◌, List, [], ◌∷◌, true, false, refl, inl, inr, arith}
use Rattle.rt_base.specs.Sides.{Sides}
use Rattle.rt_base.specs.Conflict.{conflict_of}
use Rattle.rt_base.specs.Geometry.{Holds}
use Rattle.rt_base.specs.declared.geometry.Point.{Point}
use Rattle.rt_base.specs.declared.tech.Owner.TheVariants.{Net as OfNet, Nobody}
use Rattle.rt_base.specs.declared.tech.Shape.{Shape}
use Rattle.rt_base.specs.declared.walk.EntryKind.TheVariants.{Pin as AtPin}
use Rattle.rt_base.specs.declared.walk.Walk.{Walk}
use Rattle.track_graph.specs.Readings.{hard_reading, soft_reading}
use Rattle.track_graph.specs.declared.design.Design.{Design}
use Rattle.track_graph.specs.declared.history.Stroke.{Stroke}
use Rattle.track_graph.specs.declared.history.Stroke.TheVariants.{Run, Via as ViaAt}
use Rattle.track_graph.specs.declared.history.Block.TheVariants.{Wire, RipFor}
use Rattle.track_graph.specs.declared.history.State.{State}
use Rattle.track_graph.specs.Histories.{crossed_from}
use Rattle.track_graph.specs.States.{first_state, net_state, state_of}
use Rattle.track_graph.specs.Searches.{some_conflict, walk_cost}
use Rattle.track_graph.specs.Strokes.{walk_strokes}
use Rattle.track_graph.specs.Walks.{walk_shapes_of, end_of}
use Rattle.track_graph.specs.Guide.{Guide, InGuide, RunsInGuide}
use Rattle.track_graph.proofs.Chip.{sides, no, tech, at, pin_at, chip, along, by_via, corner, corner_chip, stub_pin, stubbed, crossed_chip, short_way, straight_way}
use Rattle.rt_base.proofs.Lists.{Any-cases, Any-none, Any-here, Any-there}
use Rattle.std.proofs.lemmas.Int.{ints}
use Rattle.std.proofs.lemmas.Bool.{cases_lt}

abbrev run : ℕ → ℕ → ℕ → ℕ → ℕ → Stroke
run level ax ay bx end_y = Run level (record { x = pos ax; y = pos ay }) (record { x = pos bx; y = pos end_y })

abbrev via_at : ℕ → ℕ → Stroke
via_at x y = ViaAt 0 (record { x = pos x; y = pos y })

-- ---- from (100, 100) on the lower level to (900, 500) on the upper one

-- 800 + 1000 + 400
corner_cost : walk_cost corner_chip 0 (hard_reading corner_chip (first_state corner_chip)) corner ≡ 2200
corner_cost = refl

corner_strokes : walk_strokes corner_chip 0 corner ≡ run 0 100 100 900 100 ∷ via_at 900 100 ∷ run 1 900 100 900 500 ∷ []
corner_strokes = refl

corner_arrives : end_of corner.start.vertex corner.edges ≡ corner.finish.vertex
corner_arrives = refl

-- ---- both pins at one vertex

abbrev spot : Walk
spot = record { start = record { vertex = at 0 300 300; kind = AtPin 0 }; edges = []; finish = record { vertex = at 0 300 300; kind = AtPin 1 } }

abbrev spot_chip : Design
spot_chip = chip (pin_at 0 0 300 300 ∷ pin_at 1 0 300 300 ∷ []) []

spot_cost : walk_cost spot_chip 0 (hard_reading spot_chip (first_state spot_chip)) spot ≡ 0
spot_cost = refl

spot_strokes : walk_strokes spot_chip 0 spot ≡ []
spot_strokes = refl

-- ---- a straight wire, wires beside it, and blockages

abbrev straight : ℕ → Walk
straight y = record {
  start = record { vertex = at 0 100 y; kind = AtPin 0 };
  edges = along 0 300 y ∷ along 0 500 y ∷ along 0 700 y ∷ along 0 900 y ∷ [];
  finish = record { vertex = at 0 900 y; kind = AtPin 1 };
}

abbrev flat_chip : Design
flat_chip = chip (pin_at 0 0 100 100 ∷ pin_at 1 0 900 100 ∷ []) []

straight_cost : walk_cost flat_chip 0 (hard_reading flat_chip (first_state flat_chip)) (straight 100) ≡ 800
straight_cost = refl

abbrev wire_shapes : ℕ → ℕ → List Shape
wire_shapes n y = walk_shapes_of flat_chip n (straight y)

abbrev blockage : ℕ → ℕ → Shape
blockage yl yh = record { layer = no 0; rect = sides (pos 480) (pos yl) (pos 520) (pos yh); owner = Nobody; fixed = true }

-- two tracks are 100 units apart, edge to edge
beside : some_conflict tech (wire_shapes 0 100) (wire_shapes 1 300) ≡ false
beside = refl

hundred_away : some_conflict tech (wire_shapes 0 100) (blockage 250 251 ∷ []) ≡ false
hundred_away = refl

ninety_nine_away : some_conflict tech (wire_shapes 0 100) (blockage 249 251 ∷ []) ≡ true
ninety_nine_away = refl

-- the next track is closed by the same blockage
next_track : some_conflict tech (wire_shapes 0 300) (blockage 249 251 ∷ []) ≡ true
next_track = refl

-- the way round over the track at 500: 800 + 800 + 4 vias
abbrev detour : Walk
detour = record {
  start = record { vertex = at 0 100 100; kind = AtPin 0 };
  edges = by_via 1 100 100 ∷ along 1 100 300 ∷ along 1 100 500 ∷ by_via 0 100 500
      ∷ along 0 300 500 ∷ along 0 500 500 ∷ along 0 700 500 ∷ along 0 900 500
      ∷ by_via 1 900 500 ∷ along 1 900 300 ∷ along 1 900 100 ∷ by_via 0 900 100 ∷ [];
  finish = record { vertex = at 0 900 100; kind = AtPin 1 };
}

detour_cost : walk_cost flat_chip 0 (hard_reading flat_chip (first_state flat_chip)) detour ≡ 5600
detour_cost = refl

detour_clear : some_conflict tech (walk_shapes_of flat_chip 0 detour) (blockage 249 251 ∷ []) ≡ false
detour_clear = refl

-- ---- corners: 60 * 60 + 80 * 80 is 100 * 100, and 60 * 60 + 79 * 79 is less

abbrev square : ℕ → ℕ → ℕ → ℕ → ℕ → Shape
square n xl yl xh yh = record { layer = no 0; rect = sides (pos xl) (pos yl) (pos xh) (pos yh); owner = OfNet n; fixed = true }

far_corners : conflict_of tech (square 0 0 0 100 100) (square 1 160 180 260 280) ≡ false
far_corners = refl

near_corners : conflict_of tech (square 0 0 0 100 100) (square 1 160 179 260 279) ≡ true
near_corners = refl

-- ---- a stub from the pin's corner (150, 150) in x and then in y

abbrev stub_chip : Design
stub_chip = chip (stub_pin ∷ pin_at 1 1 900 500 ∷ []) []

-- 400 more
stubbed_cost : walk_cost stub_chip 0 (hard_reading stub_chip (first_state stub_chip)) stubbed ≡ 2600
stubbed_cost = refl

stubbed_strokes : walk_strokes stub_chip 0 stubbed ≡ run 0 150 150 100 150 ∷ run 0 100 150 100 100 ∷ run 0 100 100 900 100 ∷ via_at 900 100 ∷ run 1 900 100 900 500 ∷ []
stubbed_strokes = refl

-- ---- guides: boxes with no whole number between them hold the run over both, and boxes with one between them don't

abbrev meeting : Guide
meeting = (0, sides (pos 0) (pos 0) (pos 399) (pos 200)) ∷ (0, sides (pos 400) (pos 0) (pos 1000) (pos 200)) ∷ []

abbrev gaping : Guide
gaping = (0, sides (pos 0) (pos 0) (pos 399) (pos 200)) ∷ (0, sides (pos 401) (pos 0) (pos 1000) (pos 200)) ∷ []

abbrev point : ℕ → ℕ → Point
point x y = record { x = pos x; y = pos y }

abbrev BoxHolds : Point → ℕ × Sides → Type 0
BoxHolds p box = (box.0 ≡ 0) × Holds box.1 p

outside_gap : InGuide gaping 0 (point 400 100) → ⊥
outside_gap h =
    elim (Any-cases (BoxHolds (point 400 100)) (0, sides (pos 0) (pos 0) (pos 399) (pos 200)) ((0, sides (pos 401) (pos 0) (pos 1000) (pos 200)) ∷ []) h) [
      | inl box ↦ let right = box.1.right in omega (arith, ints)
      | inr others ↦ elim (Any-cases (BoxHolds (point 400 100)) (0, sides (pos 401) (pos 0) (pos 1000) (pos 200)) [] others) [
        | inl box ↦ let left = box.1.left in omega (arith, ints)
        | inr none ↦ Any-none (BoxHolds (point 400 100)) none
      ]
    ]

gap_closed : RunsInGuide gaping 0 (point 300 100) (point 500 100) → ⊥
gap_closed h = outside_gap (h (point 400 100) (record { left = omega (arith, ints); right = omega (arith, ints); low = omega (arith, ints); high = omega (arith, ints) }))

cases_le : (x y : ℤ) → (x ≤ℤ y) ⊎ (y <ℤ x)
cases_le (pos a) (pos b) = elim (cases_lt b a) [ inl lt ↦ inr (omega (arith, ints)) | inr le ↦ inl (omega (arith, ints)) ]
cases_le (pos a) (negsuc b) = inr (omega (arith, ints))
cases_le (negsuc a) (pos b) = inl (omega (arith, ints))
cases_le (negsuc a) (negsuc b) = elim (cases_lt a b) [ inl lt ↦ inr (omega (arith, ints)) | inr le ↦ inl (omega (arith, ints)) ]

meeting_open : RunsInGuide meeting 0 (point 300 100) (point 500 100)
meeting_open r h =
    let left = h.left in
    let right = h.right in
    let low = h.low in
    let high = h.high in
    elim (cases_le r.x (pos 399)) [
      | inl before ↦ Any-here (BoxHolds r) (0, sides (pos 0) (pos 0) (pos 399) (pos 200)) ((0, sides (pos 400) (pos 0) (pos 1000) (pos 200)) ∷ []) (refl, record { left = omega (arith, ints); right = before; low = omega (arith, ints); high = omega (arith, ints) })
      | inr after ↦ Any-there (BoxHolds r) (0, sides (pos 0) (pos 0) (pos 399) (pos 200)) ((0, sides (pos 400) (pos 0) (pos 1000) (pos 200)) ∷ []) (Any-here (BoxHolds r) (0, sides (pos 400) (pos 0) (pos 1000) (pos 200)) [] (refl, record { left = omega (arith, ints); right = omega (arith, ints); low = omega (arith, ints); high = omega (arith, ints) }))
    ]

-- ---- rips: net 0 crosses the way of net 1

abbrev crossed : State
crossed = state_of crossed_chip (Wire 0 short_way ∷ [])

short_way_cost : walk_cost crossed_chip 0 (hard_reading crossed_chip (first_state crossed_chip)) short_way ≡ 2600
short_way_cost = refl

straight_way_forbidden : some_conflict tech (walk_shapes_of crossed_chip 1 straight_way) (hard_reading crossed_chip crossed).forbidding ≡ true
straight_way_forbidden = refl

-- each of its five edges conflicts with net 0's wire
soft_cost : walk_cost crossed_chip 1 (soft_reading crossed_chip crossed 1) straight_way ≡ 8000
soft_cost = refl

soft_allows : some_conflict tech (walk_shapes_of crossed_chip 1 straight_way) (soft_reading crossed_chip crossed 1).forbidding ≡ false
soft_allows = refl

ripped : crossed_from crossed_chip 1 straight_way 0 crossed.nets ≡ 0 ∷ []
ripped = refl

abbrev after_rip : State
after_rip = state_of crossed_chip (Wire 0 short_way ∷ RipFor 1 straight_way (0 ∷ []) straight_way ∷ [])

-- net 0 has only its first pin joined and one rip, and net 1 is joined
emptied_net_0 : net_state after_rip 0 ≡ record { walks = []; joined = true ∷ false ∷ []; rips = 1; stuck = false }
emptied_net_0 = refl

joined_net_1 : net_state after_rip 1 ≡ record { walks = straight_way ∷ []; joined = true ∷ true ∷ []; rips = 0; stuck = false }
joined_net_1 = refl
