-- What a run leaves of its outputs.
use Rattle.std.specs.Prelude.{◌≡◌, ◌⊎◌, ℕ, List, Option}
use Rattle.shelf.specs.Faults.{HasRisen}
use Rattle.shelf.specs.Shelf.{Files, with_file, IsCutShort}
use Rattle.shelf.specs.Sink.{with_more, IsPartlySaid}
use Rattle.router.specs.Words.{CommandLine}

-- what a shelf tells at one moment: what the names hold, and the count of its faults
pub record ShelfView : Type 0 where
  pub files : Option Files
  pub faults : ℕ

-- what a sink tells at one moment: what was said, and the count of its faults
pub record SinkView : Type 0 where
  pub text : Option (List ℕ)
  pub faults : ℕ

abbrev pub shelf_at : {F : Type 0} → (F → Option Files) → (F → ℕ) → F → ShelfView
shelf_at told faults files = record { files = told files; faults = faults files }

abbrev pub sink_at : {K : Type 0} → (K → Option (List ℕ)) → (K → ℕ) → K → SinkView
sink_at text faults out = record { text = text out; faults = faults out }

-- the routed DEF stands under OUT and the journal under JOURNAL; every other name as before
abbrev pub with_outputs : Option Files → CommandLine → List ℕ → List ℕ → Option Files
with_outputs files asked routed journal = with_file (with_file files asked.out routed) asked.journal journal

-- OUT was cut short, or it holds its text and JOURNAL was cut short
abbrev pub IsPartlyPut : Option Files → Option Files → CommandLine → List ℕ → List ℕ → Type 0
IsPartlyPut old new asked routed journal = IsCutShort old new asked.out routed ⊎ IsCutShort (with_file old asked.out routed) new asked.journal journal

-- a put under this name failed: OUT was cut short, or it holds its text and JOURNAL was cut short
abbrev pub IsPutFault : Option Files → Option Files → CommandLine → List ℕ → List ℕ → List ℕ → Type 0
IsPutFault old new asked routed journal name =
    ((name ≡ asked.out) × IsCutShort old new asked.out routed) ⊎ ((name ≡ asked.journal) × IsCutShort (with_file old asked.out routed) new asked.journal journal)

-- the bytes were said, or with a fault some first ones of them
abbrev pub Says : SinkView → SinkView → List ℕ → Type 0
Says before after bytes = (after.text ≡ with_more before.text bytes) ⊎ (HasRisen before.faults after.faults × IsPartlySaid before.text after.text bytes)
