-- A shelf in memory as contracts see it.
use Rattle.std.specs.Prelude.{ℕ, Bool, ◌||◌, List, is_none, map, refl, String, string_bytes}
use Rattle.std.specs.Global.{Global, Vec}
use Rattle.std.specs.Coded.{Coded, code_by, coded×, coded_ℕ, coded_list}
use Rattle.std.specs.FinMap.{code, from_entries, get, insert}
use Rattle.shelf.specs.Calls.{CallState, is_failing, after_call, written}
use Rattle.shelf.specs.Shelf.{Files}

-- its files, and the calls that it had
pub record ShelfState : Type 0 where
  pub files : Files
  pub calls : CallState

-- a state is stored as pairs
abbrev pub shelf_code : Coded ShelfState
shelf_code =
    code_by (Files × (List ℕ × (ℕ × ℕ))) (coded× (code (coded_list coded_ℕ) (coded_list coded_ℕ)) (coded× (coded_list coded_ℕ) (coded× coded_ℕ coded_ℕ)))
    (λ s. (s.files, (s.calls.fails, (s.calls.came, s.calls.faults))))
    (λ p. record { files = p.0; calls = record { fails = p.1.0; came = p.1.1.0; faults = p.1.1.1 } })
    (λ _. refl)

-- the files of a list of names with bytes. Of several with one name the first counts
abbrev pub files_of : List (String Global × Vec ℕ) → Files
files_of files = from_entries (map (λ file. (string_bytes file.0, file.1.items)) files)

-- whether a take of the name fails: the call is one of those that fail, or the name is not held
abbrev pub fails_take : ShelfState → List ℕ → Bool
fails_take s name = is_failing s.calls || is_none (get s.files name)

-- after a take of the name
abbrev pub after_take : ShelfState → List ℕ → ShelfState
after_take s name = record s { calls = after_call (fails_take s name) s.calls }

-- after a put of the bytes under the name
abbrev pub after_put : ShelfState → List ℕ → List ℕ → ShelfState
after_put s name bytes = record { files = insert s.files name (written s.calls bytes); calls = after_call (is_failing s.calls) s.calls }
