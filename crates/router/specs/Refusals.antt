-- The statuses of refusals, and the limits of the texts.
use Rattle.std.specs.Prelude.{ℕ}
use Rattle.lef_text.specs.declared.error.LefError.{LefError}
use Rattle.lef_text.specs.declared.error.LefError.TheVariants.{Memory as LefMemory}
use Rattle.def_text.specs.declared.error.DefError.{DefError}
use Rattle.def_text.specs.declared.error.DefError.TheVariants.{Memory as DefMemory}
use Rattle.guide_text.specs.declared.error.GuideError.{GuideError}
use Rattle.guide_text.specs.declared.error.GuideError.TheVariants.{Memory as GuideMemory}
use Rattle.build.specs.declared.error.BuildError.{BuildError}
use Rattle.build.specs.declared.error.BuildError.TheVariants.{Scale, NoMacro, NoComponent, NoPin, NoLayer, NoNet, PinTwice, Wiring, NoTracks, Limit, Memory as BuildMemory}
use Rattle.router.specs.declared.refusal.Refusal.{Refusal}
use Rattle.router.specs.declared.refusal.Refusal.TheVariants.{Words, LefBytes, DefBytes, GuideBytes, Lef, Def, Guide, Build, Read, Write, Memory}

-- the most bytes of a LEF text, of a DEF text and of a guide text
abbrev pub lef_most : ℕ
lef_most = 67108864

abbrev pub def_most : ℕ
def_most = 268435456

abbrev pub guide_most : ℕ
guide_most = 268435456

-- 6 where names, units or wiring don't fit, 7 where a count is above its most
abbrev pub build_status : BuildError → ℕ
build_status (Scale lef def) = 6
build_status (NoMacro name) = 6
build_status (NoComponent name) = 6
build_status (NoPin name) = 6
build_status (NoLayer name) = 6
build_status (NoNet name) = 6
build_status (PinTwice name) = 6
build_status (Wiring fault) = 6
build_status (NoTracks name) = 6
build_status (Limit what count most) = 7
build_status BuildMemory = 10

abbrev pub status_of : Refusal → ℕ
status_of (Words e) = 2
status_of (LefBytes read) = 7
status_of (DefBytes read) = 7
status_of (GuideBytes read) = 7
status_of (Lef e) = 3
status_of (Def e) = 4
status_of (Guide e) = 5
status_of (Build e) = build_status e
status_of (Read name) = 8
status_of (Write name) = 9
status_of Memory = 10

-- the refusal of a fault: want of memory is one of its own
abbrev pub of_lef : LefError → Refusal
of_lef LefMemory = Memory
of_lef e = Lef e

abbrev pub of_def : DefError → Refusal
of_def DefMemory = Memory
of_def e = Def e

abbrev pub of_guide : GuideError → Refusal
of_guide GuideMemory = Memory
of_guide e = Guide e

abbrev pub of_build : BuildError → Refusal
of_build BuildMemory = Memory
of_build e = Build e
