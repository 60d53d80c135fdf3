-- Candidates that wait, and what is added to them or taken out.
use Rattle.std.specs.Prelude.{◌≡◌, ◌⊎◌, ℕ, ◌≤◌, List, Contains}
use Rattle.label_arena.specs.declared.place.Place.{Place}
use Rattle.label_arena.specs.declared.place.Label.{Label}
use Rattle.label_arena.specs.Lists.{Graph}
use Rattle.label_arena.specs.Plain.{IsInside}

-- candidates with their keys
abbrev pub Queued : Type 0
Queued = List (ℕ × Label)

-- new is old with e, in any order
pub record IsWithOneMore (e : ℕ × Label) (old new : Queued) : Type 0 where
  pub has : Contains new e
  pub keeps : (f : ℕ × Label) → Contains old f → Contains new f
  pub only : (f : ℕ × Label) → Contains new f → (f ≡ e) ⊎ Contains old f

-- a candidate at v of at most c waits
pub record IsWaiting (q : Queued) (v : Place) (c : ℕ) : Type 0 where
  pub key : ℕ
  pub candidate : Label
  pub queued : Contains q (key, candidate)
  pub place : candidate.place ≡ v
  pub cheap : candidate.dist ≤ c

-- new is old with candidates of this kind
pub record Gains (P : ℕ → Label → Type 0) (old new : Queued) : Type 0 where
  pub keeps : (f : ℕ × Label) → Contains old f → Contains new f
  pub only : (d : ℕ) (y : Label) → Contains new (d, y) → Contains old (d, y) ⊎ P d y

-- new is old without candidates of this kind
pub record Loses (P : Label → Type 0) (old new : Queued) : Type 0 where
  pub only : (f : ℕ × Label) → Contains new f → Contains old f
  pub kept : (d : ℕ) (y : Label) → Contains old (d, y) → Contains new (d, y) ⊎ P y

-- the candidates stand at places of the graph
abbrev pub AreInside : Graph → Queued → Type 0
AreInside g q = (d : ℕ) (y : Label) → Contains q (d, y) → IsInside g y.place
