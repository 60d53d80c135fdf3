-- The near vertices of a level, gathered track by track.
use Rattle.std.proofs.Common.{get_or, drop, cond, [], ◌∷◌, ◌≡◌, ◌⊎◌, ◌↔◌, inl, inr, ⊎_elim, ℕ, ◌+◌, ◌<◌, ◌≤◌, ℤ, pos, ◌≤ℤ◌, ◌+ℤ◌, ◌-ℤ◌, unsigned_abs, Bool, true, false, if◌then◌else◌, List, ◌++◌, length, map, Contains, refl, sym, ap, subst, ◌∙◌, arith}
use Rattle.std.proofs.lemmas.Bool.Decides.{nat_tests}
use Rattle.std.proofs.lemmas.Int.{ints, clamps}
use Rattle.std.proofs.lemmas.List.{append_assoc, at_drop_more}
use Rattle.std.proofs.lemmas.List.Elements.{Contains-append_left, Contains-append_right, Contains-append_cases}
use Rattle.rt_base.specs.Sides.{Sides}
use Rattle.rt_base.specs.Geometry.{Holds, distance, nearest, nearest_point}
use Rattle.rt_base.specs.declared.geometry.Point.{Point}
use Rattle.rt_base.specs.declared.geometry.Span.{Span}
use Rattle.rt_base.specs.declared.walk.Vertex.{Vertex}
use Rattle.rt_base.proofs.Ranges.{sides_from_within}
use Rattle.track_graph.specs.Levels.{TrackSystem, IsVertex, vertex_at, levels, is_horizontal, lines_of, lines_below, positions_of}
use Rattle.rt_base.specs.declared.tech.Tech.{Tech}
use Rattle.pin_access.specs.declared.area.Area.{Area}
use Rattle.pin_access.specs.Nearby.{is_near, near_on_line, near_on_lines, range_near, across_of, along_of, IsNear, IsRect}
use Rattle.pin_access.proofs.Members.{contains_image, from_image, contains_kept, from_kept, contains_piece, from_piece}

-- a number lies in a range
abbrev pub IsIn : Span → ℤ → Type 0
IsIn range z = (range.lo ≤ℤ z) × (z ≤ℤ range.hi)

abbrev line_part : Bool → Point → ℤ
line_part h p = if h then p.y else p.x

abbrev along_part : Bool → Point → ℤ
along_part h p = if h then p.x else p.y

abbrev point_at : Bool → ℤ → ℤ → Point
point_at h line position = if h then record { x = position; y = line } else record { x = line; y = position }

point_parts : (h : Bool) (p : Point) → point_at h (line_part h p) (along_part h p) ≡ p
point_parts true p = refl
point_parts false p = refl

line_part-at : (h : Bool) (line position : ℤ) → line_part h (point_at h line position) ≡ line
line_part-at true line position = refl
line_part-at false line position = refl

along_part-at : (h : Bool) (line position : ℤ) → along_part h (point_at h line position) ≡ position
along_part-at true line position = refl
along_part-at false line position = refl

-- the near vertices on a line at some positions
pub record IsOn (tech : Tech) (a : Area) (lines positions : List ℤ) (v : Vertex) : Type 0 where
  pub level : v.level ≡ a.level
  pub line : Contains lines (line_part (is_horizontal tech a.level) v.point)
  pub position : Contains positions (along_part (is_horizontal tech a.level) v.point)
  pub near : is_near a v ≡ true

pub on_from_gathered : (tech : Tech) (a : Area) (lines positions : List ℤ) (v : Vertex) → Contains (near_on_lines tech a lines positions) v → IsOn tech a lines positions v
on_from_gathered tech a lines positions v h =
    let piece : (line : ℤ) × Contains lines line × Contains (near_on_line tech a positions line) v = from_piece (near_on_line tech a positions) lines v h in
    let kept : Contains (map (vertex_at tech a.level piece.0) positions) v × (is_near a v ≡ true) = from_kept (is_near a) (map (vertex_at tech a.level piece.0) positions) v piece.2 in
    let image : (position : ℤ) × Contains positions position × (vertex_at tech a.level piece.0 position ≡ v) = from_image (vertex_at tech a.level piece.0) positions v kept.0 in
    let line : piece.0 ≡ line_part (is_horizontal tech a.level) v.point = sym (line_part-at (is_horizontal tech a.level) piece.0 image.0) ∙ ap (λ (w : Vertex). line_part (is_horizontal tech a.level) w.point) image.2 in
    let position : image.0 ≡ along_part (is_horizontal tech a.level) v.point = sym (along_part-at (is_horizontal tech a.level) piece.0 image.0) ∙ ap (λ (w : Vertex). along_part (is_horizontal tech a.level) w.point) image.2 in
    record {
      level = sym (ap (λ (w : Vertex). w.level) image.2);
      line = subst (λ z. Contains lines z) line piece.1;
      position = subst (λ z. Contains positions z) position image.1;
      near = kept.1;
    }

pub gathered_from_on : (tech : Tech) (a : Area) (lines positions : List ℤ) (v : Vertex) → IsOn tech a lines positions v → Contains (near_on_lines tech a lines positions) v
gathered_from_on tech a lines positions v on =
    let line = line_part (is_horizontal tech a.level) v.point in
    let position = along_part (is_horizontal tech a.level) v.point in
    let same : vertex_at tech a.level line position ≡ v = vertex_parts v.level on.level in
    let image : Contains (map (vertex_at tech a.level line) positions) v = subst (λ w. Contains (map (vertex_at tech a.level line) positions) w) same (contains_image (vertex_at tech a.level line) positions position on.position) in
    contains_piece (near_on_line tech a positions) lines line v on.line (contains_kept (is_near a) (map (vertex_at tech a.level line) positions) v image on.near)
  where
    vertex_parts : (level : ℕ) → level ≡ a.level → vertex_at tech a.level (line_part (is_horizontal tech a.level) v.point) (along_part (is_horizontal tech a.level) v.point) ≡ record { level = level; point = v.point }
    vertex_parts level e = rw (e, point_parts (is_horizontal tech a.level) v.point)

-- in each direction a near point is at most the reach away
part_within : (lo hi z : ℤ) (m : ℕ) → lo ≤ℤ hi → unsigned_abs (nearest lo hi z -ℤ z) ≤ m → ((lo -ℤ pos m) ≤ℤ z) × (z ≤ℤ (hi +ℤ pos m))
part_within lo hi z m up h =
    let sides = sides_from_within m (nearest lo hi z -ℤ z) h in
    (omega (arith, ints, clamps), omega (arith, ints, clamps))

in_range_near : (lo hi z die_lo die_hi : ℤ) (m : ℕ) → lo ≤ℤ hi → unsigned_abs (nearest lo hi z -ℤ z) ≤ m → die_lo ≤ℤ z → z ≤ℤ die_hi → IsIn (range_near lo hi m die_lo die_hi) z
in_range_near lo hi z die_lo die_hi m up h low high = let parts = part_within lo hi z m up h in (omega (arith, ints, clamps), omega (arith, ints, clamps))

in_die : (lo hi z die_lo die_hi : ℤ) (m : ℕ) → IsIn (range_near lo hi m die_lo die_hi) z → (die_lo ≤ℤ z) × (z ≤ℤ die_hi)
in_die lo hi z die_lo die_hi m h = (omega (arith, ints, clamps), omega (arith, ints, clamps))

ranges_hold : (tech : Tech) (a : Area) (die : Sides) (p : Point) → IsIn (across_of tech a die) (line_part (is_horizontal tech a.level) p) → IsIn (along_of tech a die) (along_part (is_horizontal tech a.level) p) → Holds die p
ranges_hold tech a die p across_in along_in = by_direction (is_horizontal tech a.level) across_in along_in
  where
    x_range : Span
    x_range = range_near a.rect.xl a.rect.xh a.reach die.xl die.xh

    y_range : Span
    y_range = range_near a.rect.yl a.rect.yh a.reach die.yl die.yh

    by_direction : (h : Bool) → IsIn (if h then range_near a.rect.yl a.rect.yh a.reach die.yl die.yh else range_near a.rect.xl a.rect.xh a.reach die.xl die.xh) (line_part h p) → IsIn (if h then range_near a.rect.xl a.rect.xh a.reach die.xl die.xh else range_near a.rect.yl a.rect.yh a.reach die.yl die.yh) (along_part h p) → Holds die p
    by_direction true ys xs =
        let x = in_die a.rect.xl a.rect.xh p.x die.xl die.xh a.reach xs in
        let y = in_die a.rect.yl a.rect.yh p.y die.yl die.yh a.reach ys in
        record { left = x.0; right = x.1; low = y.0; high = y.1 }
    by_direction false xs ys =
        let x = in_die a.rect.xl a.rect.xh p.x die.xl die.xh a.reach xs in
        let y = in_die a.rect.yl a.rect.yh p.y die.yl die.yh a.reach ys in
        record { left = x.0; right = x.1; low = y.0; high = y.1 }

ranges_reach : (tech : Tech) (a : Area) (die : Sides) (p : Point) → IsRect a.rect → Holds die p → distance (nearest_point a.rect p) p ≤ a.reach → IsIn (across_of tech a die) (line_part (is_horizontal tech a.level) p) × IsIn (along_of tech a die) (along_part (is_horizontal tech a.level) p)
ranges_reach tech a die p rect held near =
    let x : IsIn (range_near a.rect.xl a.rect.xh a.reach die.xl die.xh) p.x = in_range_near a.rect.xl a.rect.xh p.x die.xl die.xh a.reach rect.0 (omega arith) held.left held.right in
    let y : IsIn (range_near a.rect.yl a.rect.yh a.reach die.yl die.yh) p.y = in_range_near a.rect.yl a.rect.yh p.y die.yl die.yh a.reach rect.1 (omega arith) held.low held.high in
    by_direction (is_horizontal tech a.level) x y
  where
    by_direction : (h : Bool) → IsIn (range_near a.rect.xl a.rect.xh a.reach die.xl die.xh) p.x → IsIn (range_near a.rect.yl a.rect.yh a.reach die.yl die.yh) p.y → IsIn (if h then range_near a.rect.yl a.rect.yh a.reach die.yl die.yh else range_near a.rect.xl a.rect.xh a.reach die.xl die.xh) (line_part h p) × IsIn (if h then range_near a.rect.xl a.rect.xh a.reach die.xl die.xh else range_near a.rect.yl a.rect.yh a.reach die.yl die.yh) (along_part h p)
    by_direction true x y = (y, x)
    by_direction false x y = (x, y)

near_true : (a : Area) (v : Vertex) → distance (nearest_point a.rect v.point) v.point ≤ a.reach → is_near a v ≡ true
near_true a v h = grind (arith, nat_tests)

near_from_true : (a : Area) (v : Vertex) → is_near a v ≡ true → distance (nearest_point a.rect v.point) v.point ≤ a.reach
near_from_true a v h = grind (arith, nat_tests)

-- some of these numbers, those in a range
abbrev pub ArePart : List ℤ → List ℤ → Span → Type 0
ArePart part all range = (z : ℤ) → Contains part z ↔ (Contains all z × (range.lo ≤ℤ z) × (z ≤ℤ range.hi))

-- what is gathered on the near lines at the near positions below and above
pub gathered_exactly : (g : TrackSystem) (a : Area) (lines below above : List ℤ) (v : Vertex) → a.level < length (levels g.tech) → IsRect a.rect → ArePart lines (lines_of g.tracks a.level) (across_of g.tech a g.die) → ArePart below (lines_below g.tracks a.level) (along_of g.tech a g.die) → ArePart above (lines_of g.tracks (a.level + 1)) (along_of g.tech a g.die) → (Contains (near_on_lines g.tech a lines below) v ⊎ Contains (near_on_lines g.tech a lines above) v) ↔ IsNear g a.level a.reach a.rect v
gathered_exactly g a lines below above v level rect is_lines is_below is_above = (
  λ h. ⊎_elim
      (λ (b : Contains (near_on_lines g.tech a lines below) v). from_part below (lines_below g.tracks a.level) is_below (λ z c. Contains-append_left (lines_below g.tracks a.level) (lines_of g.tracks (a.level + 1)) z c) (on_from_gathered g.tech a lines below v b))
      (λ (b : Contains (near_on_lines g.tech a lines above) v). from_part above (lines_of g.tracks (a.level + 1)) is_above (λ z c. Contains-append_right (lines_below g.tracks a.level) (lines_of g.tracks (a.level + 1)) z c) (on_from_gathered g.tech a lines above v b))
      h,
  to_part,
)
  where
    from_part : (part all : List ℤ) → ArePart part all (along_of g.tech a g.die) → ((z : ℤ) → Contains all z → Contains (positions_of g.tracks a.level) z) → IsOn g.tech a lines part v → IsNear g a.level a.reach a.rect v
    from_part part all is_part into on =
        let on_line = (is_lines (line_part (is_horizontal g.tech a.level) v.point)).0 on.line in
        let at = (is_part (along_part (is_horizontal g.tech a.level) v.point)).0 on.position in
        record {
          level = on.level;
          vertex = vertex v.level on.level on_line.0 (into (along_part (is_horizontal g.tech a.level) v.point) at.0) (ranges_hold g.tech a g.die v.point (on_line.1, on_line.2) (at.1, at.2));
          near = near_from_true a v on.near;
        }
      where
        vertex : (k : ℕ) → k ≡ a.level → Contains (lines_of g.tracks a.level) (line_part (is_horizontal g.tech a.level) v.point) → Contains (positions_of g.tracks a.level) (along_part (is_horizontal g.tech a.level) v.point) → Holds g.die v.point → IsVertex g (record { level = k; point = v.point })
        vertex k e on_line at held = rw e (record {
          level = level;
          in_die = held;
          on_track = on_line;
          at_position = at;
        })

    to_part : IsNear g a.level a.reach a.rect v → Contains (near_on_lines g.tech a lines below) v ⊎ Contains (near_on_lines g.tech a lines above) v
    to_part n =
        let at : IsVertex g (record { level = a.level; point = v.point }) = subst (λ k. IsVertex g (record { level = k; point = v.point })) n.level n.vertex in
        let line : Contains (lines_of g.tracks a.level) (line_part (is_horizontal g.tech a.level) v.point) = at.on_track in
        let position : Contains (positions_of g.tracks a.level) (along_part (is_horizontal g.tech a.level) v.point) = at.at_position in
        let reached = ranges_reach g.tech a g.die v.point rect at.in_die n.near in
        let on_line : Contains lines (line_part (is_horizontal g.tech a.level) v.point) = (is_lines (line_part (is_horizontal g.tech a.level) v.point)).1 (line, reached.0.0, reached.0.1) in
        let near : is_near a v ≡ true = near_true a v n.near in
        ⊎_elim
        (λ (b : Contains (lines_below g.tracks a.level) (along_part (is_horizontal g.tech a.level) v.point)). inl (gathered_from_on g.tech a lines below v (record {
          level = n.level;
          line = on_line;
          position = (is_below (along_part (is_horizontal g.tech a.level) v.point)).1 (b, reached.1.0, reached.1.1);
          near = near;
        })))
        (λ (b : Contains (lines_of g.tracks (a.level + 1)) (along_part (is_horizontal g.tech a.level) v.point)). inr (gathered_from_on g.tech a lines above v (record {
          level = n.level;
          line = on_line;
          position = (is_above (along_part (is_horizontal g.tech a.level) v.point)).1 (b, reached.1.0, reached.1.1);
          near = near;
        })))
        (Contains-append_cases (lines_below g.tracks a.level) (lines_of g.tracks (a.level + 1)) (along_part (is_horizontal g.tech a.level) v.point) position)

-- one position more
pub near_more : (tech : Tech) (a : Area) (positions : List ℤ) (line : ℤ) (i : ℕ) (z : ℤ) (start out more : List Vertex) → i < length positions → get_or positions i z ≡ z → out ++ near_on_line tech a (drop i positions) line ≡ start → more ≡ out ++ near_on_line tech a (z ∷ []) line → more ++ near_on_line tech a (drop (i + 1) positions) line ≡ start
near_more tech a positions line i z start out more within is before step =
    let split : near_on_line tech a (z ∷ []) line ++ near_on_line tech a (drop (i + 1) positions) line ≡ near_on_line tech a (drop i positions) line = near_split (is_near a (vertex_at tech a.level line z)) ∙ sym (rw is at (at_drop_more (λ zs. near_on_line tech a zs line) positions i z within)) in
    rw (step, append_assoc, split) before
  where
    near_split : (b : Bool) → cond b (vertex_at tech a.level line z ∷ []) [] ++ near_on_line tech a (drop (i + 1) positions) line ≡ cond b (vertex_at tech a.level line z ∷ near_on_line tech a (drop (i + 1) positions) line) (near_on_line tech a (drop (i + 1) positions) line)
    near_split true = refl
    near_split false = refl

-- one line more
pub near_lines_more : (tech : Tech) (a : Area) (lines positions : List ℤ) (i : ℕ) (line : ℤ) (start out more : List Vertex) → i < length lines → get_or lines i line ≡ line → out ++ near_on_lines tech a (drop i lines) positions ≡ start → more ≡ out ++ near_on_line tech a positions line → more ++ near_on_lines tech a (drop (i + 1) lines) positions ≡ start
near_lines_more tech a lines positions i line start out more within is before step =
    let split : near_on_lines tech a (drop i lines) positions ≡ near_on_line tech a positions line ++ near_on_lines tech a (drop (i + 1) lines) positions = rw is at (at_drop_more (λ zs. near_on_lines tech a zs positions) lines i line within) in
    rw (step, append_assoc, ← split) before

-- two lists gathered behind a list
pub joined_exactly : (P : Type 0) (old first second new : List Vertex) (v : Vertex) → new ≡ (old ++ first) ++ second → (Contains first v ⊎ Contains second v) ↔ P → Contains new v ↔ (Contains old v ⊎ P)
joined_exactly P old first second new v is exact = (
  λ h. ⊎_elim
      (λ (in_front : Contains (old ++ first) v). ⊎_elim (λ (l : Contains old v). inl l) (λ (r : Contains first v). inr (exact.0 (inl r))) (Contains-append_cases old first v in_front))
      (λ (r : Contains second v). inr (exact.0 (inr r)))
      (Contains-append_cases (old ++ first) second v (subst (λ l. Contains l v) is h)),
  λ h. subst (λ l. Contains l v) (sym is) (⊎_elim
      (λ (l : Contains old v). Contains-append_left (old ++ first) second v (Contains-append_left old first v l))
      (λ (p : P). ⊎_elim
      (λ (l : Contains first v). Contains-append_left (old ++ first) second v (Contains-append_right old first v l))
      (λ (r : Contains second v). Contains-append_right (old ++ first) second v r)
      (exact.1 p))
      h),
)
