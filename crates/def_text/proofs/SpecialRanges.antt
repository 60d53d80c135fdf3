-- The ranges of a special net's wiring are ranges.
use Rattle.std.proofs.Common.{◌≤◌, ℕ, Bool, true, false, List, Option, Some, None, IfSome, All, arith, if◌then◌else◌}
use Rattle.def_text.specs.declared.special.Open.{Open}
use Rattle.def_text.specs.declared.special.Open.TheVariants.{Closed, Shaped, Bare, BareShaped, Paths, PathsShaped}
use Rattle.def_text.specs.declared.special.OpenSpecial.{OpenSpecial}
use Rattle.def_text.specs.Defs.{IsRange}
use Rattle.def_text.specs.Special.{ended, ended_by_metal, metal_first, with_shape, with_words, with_range, IsOpen, IsSpecial}
use Rattle.def_text.proofs.Listing.{All-one}

all_with : (total : ℕ) (ranges : List (ℕ × ℕ)) (o : Option (ℕ × ℕ)) → All (IsRange total) ranges → IfSome o (IsRange total) → All (IsRange total) (with_range ranges o)
all_with total ranges None all one = all
all_with total ranges (Some r) all one = All-one (IsRange total) ranges r all one

ended_is : (total at : ℕ) (s : Open) → IsOpen at s → at ≤ total → IfSome (ended s at) (IsRange total)
ended_is total at Closed h le = tt
ended_is total at (Shaped shape) h le = tt
ended_is total at (Bare plus behind) h le = (h.0, le)
ended_is total at (BareShaped plus behind) h le = (h.1, le)
ended_is total at (Paths first) h le = (h, le)
ended_is total at (PathsShaped first shape) h le = let a = h.0 in let b = h.1 in (omega arith, le)

ended_by_metal_is : (total at : ℕ) (s : Open) → IsOpen at s → at ≤ total → IfSome (ended_by_metal s at) (IsRange total)
ended_by_metal_is total at Closed h le = tt
ended_by_metal_is total at (Shaped shape) h le = tt
ended_by_metal_is total at (Bare plus behind) h le = tt
ended_by_metal_is total at (BareShaped plus behind) h le = tt
ended_by_metal_is total at (Paths first) h le = (h, le)
ended_by_metal_is total at (PathsShaped first shape) h le = let b = h.1 in (h.0, omega arith)

first_before : (at now : ℕ) (s : Open) → IsOpen at s → at ≤ now → metal_first s at ≤ now
first_before at now Closed h le = le
first_before at now (Shaped shape) h le = omega (arith, h)
first_before at now (Bare plus behind) h le = let a = h.0 in omega arith
first_before at now (BareShaped plus behind) h le = let a = h.0 in omega arith
first_before at now (Paths first) h le = le
first_before at now (PathsShaped first shape) h le = let b = h.1 in omega arith

shape_before : (at now : ℕ) (s : Open) → IsOpen at s → at ≤ now → IsOpen now (with_shape s at)
shape_before at now Closed h le = le
shape_before at now (Shaped shape) h le = le
shape_before at now (Bare plus behind) h le = let a = h.0 in let b = h.1 in (omega arith, omega arith)
shape_before at now (BareShaped plus behind) h le = (h.1, le)
shape_before at now (Paths first) h le = (h, le)
shape_before at now (PathsShaped first shape) h le = let a = h.0 in let b = h.1 in (omega arith, le)

words_before : (at now : ℕ) (s : Open) → IsOpen at s → at ≤ now → IsOpen now (with_words s)
words_before at now Closed h le = tt
words_before at now (Shaped shape) h le = tt
words_before at now (Bare plus behind) h le = let b = h.1 in omega arith
words_before at now (BareShaped plus behind) h le = let b = h.1 in omega arith
words_before at now (Paths first) h le = omega (arith, h)
words_before at now (PathsShaped first shape) h le = let a = h.0 in let b = h.1 in omega arith

pub wired_sound : (total plus behind now close : ℕ) (alone : Bool) (net : OpenSpecial) → IsSpecial total plus net → plus ≤ total → plus ≤ now → behind ≤ now
    → IsSpecial total now (record { wiring = with_range net.wiring (ended net.state plus); state = if alone then Bare plus behind else Paths behind; close = close })
wired_sound total plus behind now close true net h some before le = record { wiring = all_with total net.wiring (ended net.state plus) h.wiring (ended_is total plus net.state h.state some); state = (before, le) }
wired_sound total plus behind now close false net h some before le = record { wiring = all_with total net.wiring (ended net.state plus) h.wiring (ended_is total plus net.state h.state some); state = le }

pub metal_sound : (total plus now close : ℕ) (net : OpenSpecial) → IsSpecial total plus net → plus ≤ total → plus ≤ now
    → IsSpecial total now (record { wiring = with_range net.wiring (ended_by_metal net.state plus); state = Paths (metal_first net.state plus); close = close })
metal_sound total plus now close net h some before = record { wiring = all_with total net.wiring (ended_by_metal net.state plus) h.wiring (ended_by_metal_is total plus net.state h.state some); state = first_before plus now net.state h.state before }

pub shape_sound : (total plus now close : ℕ) (alone : Bool) (net : OpenSpecial) → IsSpecial total plus net → plus ≤ now
    → IsSpecial total now (record { wiring = net.wiring; state = if alone then with_shape net.state plus else with_words net.state; close = close })
shape_sound total plus now close true net h before = record { wiring = h.wiring; state = shape_before plus now net.state h.state before }
shape_sound total plus now close false net h before = record { wiring = h.wiring; state = words_before plus now net.state h.state before }

pub closed_sound : (total plus now close : ℕ) (net : OpenSpecial) → IsSpecial total plus net → plus ≤ total
    → IsSpecial total now (record { wiring = with_range net.wiring (ended net.state plus); state = Closed; close = close })
closed_sound total plus now close net h some = record { wiring = all_with total net.wiring (ended net.state plus) h.wiring (ended_is total plus net.state h.state some); state = tt }
