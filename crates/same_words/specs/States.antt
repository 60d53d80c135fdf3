-- How what was read fits that was read of two texts: ranges of words are related by a relation, where closing `;` stand is free.
use Rattle.std.specs.Prelude.{◌≡◌, ℕ, ◌+◌, List, Option}
use Rattle.def_text.specs.declared.def.DefNet.{DefNet}
use Rattle.def_text.specs.declared.def.DefVia.{DefVia}
use Rattle.def_text.specs.declared.nets.OpenNet.{OpenNet}
use Rattle.def_text.specs.declared.sections.Listed.{Listed}
use Rattle.def_text.specs.declared.special.Open.{Open}
use Rattle.def_text.specs.declared.special.Open.TheVariants.{Closed, Shaped, Bare, BareShaped, Paths, PathsShaped}
use Rattle.def_text.specs.declared.special.OpenSpecial.{OpenSpecial}
use Rattle.def_text.specs.declared.statements.Parsed.{Parsed}
use Rattle.same_words.specs.Same.{Frame, IsMoved, IsRangeMoved}
use Rattle.same_words.specs.Values.{Pairwise, OptionBy}

-- a relation of ranges that holds of all that are moved as the frame says
pub record HoldsMoved (f : Frame) (R : ℕ × ℕ → ℕ × ℕ → Type 0) : Type 0 where
  pub moved : (r q : ℕ × ℕ) → IsRangeMoved f r q → R r q

pub record IsViaBy (R : ℕ × ℕ → ℕ × ℕ → Type 0) (v v' : DefVia) : Type 0 where
  pub name : v'.name ≡ v.name
  pub tokens : R v.tokens v'.tokens

pub record IsNetBy (R : ℕ × ℕ → ℕ × ℕ → Type 0) (n n' : DefNet) : Type 0 where
  pub name : n'.name ≡ n.name
  pub pins : n'.pins ≡ n.pins
  pub wiring : Pairwise R n.wiring n'.wiring

-- items and their names, item by item
pub record IsListedBy {A B : Type 0} (R : A → B → Type 0) (l : Listed A) (l' : Listed B) : Type 0 where
  pub names : l'.names ≡ l.names
  pub items : Pairwise R l.items l'.items
  pub skipped : l'.skipped ≡ l.skipped

-- a net of NETS whose options are being read
pub record IsOpenNetBy (R : ℕ × ℕ → ℕ × ℕ → Type 0) (n n' : OpenNet) : Type 0 where
  pub wiring : Pairwise R n.wiring n'.wiring
  pub skipped : n'.skipped ≡ n.skipped

-- the same is open, at moved places
abbrev pub IsOpenMoved : Frame → Open → Open → Type 0
IsOpenMoved f Closed Closed = Unit {0}
IsOpenMoved f (Shaped a) (Shaped b) = IsMoved f a b
IsOpenMoved f (Bare a c) (Bare b d) = IsMoved f a b × IsMoved f c d
IsOpenMoved f (BareShaped a c) (BareShaped b d) = IsMoved f a b × IsMoved f c d
IsOpenMoved f (Paths a) (Paths b) = IsMoved f a b
IsOpenMoved f (PathsShaped a c) (PathsShaped b d) = IsMoved f a b × IsMoved f c d
IsOpenMoved f s t = ⊥

-- a special net whose options are being read
pub record IsOpenSpecialBy (f : Frame) (R : ℕ × ℕ → ℕ × ℕ → Type 0) (n n' : OpenSpecial) : Type 0 where
  pub wiring : Pairwise R n.wiring n'.wiring
  pub state : IsOpenMoved f n.state n'.state

-- what was read of a text of so many words and of one of so many more
pub record IsParsedBy (total more : ℕ) (R : ℕ × ℕ → ℕ × ℕ → Type 0) (N : Option (List DefNet) → Option (List DefNet) → Type 0) (s s' : Parsed) : Type 0 where
  pub all : s.total ≡ total
  pub all' : s'.total ≡ total + more
  pub units : s'.units ≡ s.units
  pub die : s'.die ≡ s.die
  pub tracks : s'.tracks ≡ s.tracks
  pub vias : OptionBy (Pairwise (IsViaBy R)) s.vias s'.vias
  pub components : s'.components ≡ s.components
  pub pins : s'.pins ≡ s.pins
  pub blockages : s'.blockages ≡ s.blockages
  pub special : OptionBy (Pairwise (IsNetBy R)) s.special s'.special
  pub nets : N s.nets s'.nets
  pub skipped : s'.skipped ≡ s.skipped
