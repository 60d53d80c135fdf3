use Rattle.std.specs.Prelude.{◌≡◌, ◌⊎◌, ℕ, Bool, ◌&&◌, nat_eq, List, Option, Some}
use Rattle.std.specs.Ordering.{int_eq}
use Rattle.std.specs.Map.{lookup}
use Rattle.rt_base.specs.declared.walk.Vertex.{Vertex}

-- whether two vertices are one
abbrev pub same_vertex : Vertex → Vertex → Bool
same_vertex a b = nat_eq a.level b.level && (int_eq a.point.x b.point.x && int_eq a.point.y b.point.y)

-- the number of a vertex
abbrev pub number_of : List (Vertex × ℕ) → Vertex → Option ℕ
number_of es v = lookup (same_vertex v) es

-- v has number n in new, and each other vertex has its old number
pub record Sets (v : Vertex) (n : ℕ) (old new : List (Vertex × ℕ)) : Type 0 where
  pub here : number_of new v ≡ Some n
  pub apart : (u : Vertex) → (u ≡ v) ⊎ (number_of new u ≡ number_of old u)
