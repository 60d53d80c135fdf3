-- What a technology says of wires beside a shape, and which shapes and rules are kept together.
use Rattle.std.specs.Prelude.{◌≡◌, ℕ, ◌+◌, ◌^◌, ◌≤◌, ℤ, pos, Option, Some, None, MatchOption, option_map, slice_get, Bool, false, not, ◌&&◌, ◌==◌}
use Rattle.rt_base.specs.Conflict.{pair_spacing, same_owner}
use Rattle.rt_base.specs.Ranges.{AreSidesWithin}
use Rattle.rt_base.specs.Sides.{Sides}
use Rattle.rt_base.specs.declared.geometry.Point.{Point}
use Rattle.rt_base.specs.declared.tech.LayerNo.{LayerNo}
use Rattle.rt_base.specs.declared.tech.Owner.TheVariants.{Net as OfNet}
use Rattle.rt_base.specs.declared.tech.Shape.{Shape}
use Rattle.rt_base.specs.declared.tech.Tech.{Tech}
use Rattle.track_graph.specs.Levels.{levels, is_horizontal, number_of}
use Rattle.track_graph.specs.Metal.{Metal, wire_metal, shape_of}
use Rattle.legality.specs.declared.mover.Mover.{Mover}
use Rattle.legality.specs.declared.rule.WireRule.{WireRule}
use Rattle.legality.specs.Forbidden.{is_near_at}

abbrev pub origin : Point
origin = record { x = pos 0; y = pos 0 }

-- the square of a level's wires round (0, 0)
abbrev pub wire_square : Tech → ℕ → Metal
wire_square tech level = wire_metal tech level origin origin

-- a level's direction, the square of its wires, and what that keeps to a shape of the level
abbrev pub rule_at : Tech → Shape → ℕ → WireRule
rule_at tech s level = record {
  level = level;
  horizontal = is_horizontal tech level;
  square = (wire_square tech level).1;
  spacing = pair_spacing tech s (shape_of 0 (wire_square tech level));
}

pub record IsRule (r : WireRule) : Type 0 where
  pub square : AreSidesWithin (2 ^ 60 + 2 ^ 30) r.square
  pub spacing : r.spacing ≤ 2 ^ 32

-- the wire's square, moving along a line of its level
abbrev pub wire_mover : WireRule → ℤ → Mover
wire_mover r line = record { line = record { in_x = r.horizontal; at = line }; rect = r.square; spacing = r.spacing }

-- this is the level of a layer
abbrev pub IsLevelOf : Tech → LayerNo → ℕ → Type 0
IsLevelOf tech layer level = option_map number_of (slice_get (levels tech) level) ≡ Some layer.0

-- what a technology says of wires beside a shape: nothing beside one on a cut layer
abbrev pub Says : Tech → Shape → Option WireRule → Type 0
Says tech s o = MatchOption o ((level : ℕ) → IsLevelOf tech s.layer level → ⊥) (λ r. IsLevelOf tech s.layer r.level × (r ≡ rule_at tech s r.level))

-- where there is one, it is in range
abbrev pub IsRuleIfAny : Option WireRule → Type 0
IsRuleIfAny None = Unit {0}
IsRuleIfAny (Some r) = IsRule r

-- a shape, and what a technology said beside it
pub record Kept : Type 0 where
  pub shape : Shape
  pub rule : Option WireRule

-- a shape with what a technology says beside it
pub record IsKeptBy (tech : Tech) (s : Shape) (k : Kept) : Type 0 where
  pub shape : k.shape ≡ s
  pub rule : Says tech s k.rule

-- the wire's square at z on a line of a level is too near to the rectangle, as the rule says
abbrev pub rule_forbids : Option WireRule → ℕ → ℤ → ℤ → Sides → Bool
rule_forbids None level line z rect = false
rule_forbids (Some r) level line z rect = (r.level == level) && is_near_at (wire_mover r line) rect z

abbrev pub kept_forbids : ℕ → ℤ → ℤ → Kept → Bool
kept_forbids level line z k = rule_forbids k.rule level line z k.shape.rect

-- another owner than this net
abbrev pub is_other : ℕ → Shape → Bool
is_other net s = not (same_owner (OfNet net) s.owner)
