-- Sections: a word, a number, `;`, items that begin with `-`, and END and the word (DEF 5.8, Pins, Nets and others).
use Rattle.std.specs.Prelude.{ℕ, ◌^◌, List, length, Result, Ok, Err, bytes_eq, codes, nat_eq, if◌then◌else◌, ◌≡◌, map, All}
use Rattle.std.specs.List.{list_any}
use Rattle.rt_forms.specs.Lexeme.{Place}
use Rattle.rt_forms.specs.Form.{Form, next, check, done, ◌>>=◌, choose, Turn, Done, More}
use Rattle.rt_forms.specs.Reading.{the_word, semicolon}
use Rattle.def_text.specs.declared.error.DefError.{DefError}
use Rattle.def_text.specs.declared.error.DefError.TheVariants.{Expected, Twice, Count}
use Rattle.def_text.specs.declared.sections.Listed.{Listed}
use Rattle.def_text.specs.Defs.{AreNamedApart}
use Rattle.def_text.specs.Parts.{a_count}

-- a name that no item before had
abbrev pub new_name : List (List ℕ) → Place → Result (Unit {0}) DefError
new_name names w = if list_any (bytes_eq w.word) names then Err (Twice w.line w.word) else Ok tt

-- the section has as many items as it said
abbrev pub counted : List ℕ → ℕ → ℕ → Result (Unit {0}) DefError
counted section said found = if nat_eq said found then Ok tt else Err (Count section said found)

-- behind END
unfoldable pub section_end : List ℕ → ℕ → ℕ → Form DefError (Unit {0})
section_end section said found = do
  _ ← check (counted section said found)
  the_word section

-- one more item, or the end
unfoldable pub more_items : {A : Type 0} → List ℕ → ℕ → (Listed A → Form DefError (Listed A)) → Listed A → Form DefError (Turn (Listed A))
more_items section said item listed = do
  w ← next
  choose (bytes_eq w.word (codes "-")) (do
    listed' ← item listed
    done (More listed')) (
      choose (bytes_eq w.word (codes "END")) (do
        _ ← section_end section said (length listed.items)
        done (Done listed)) (
      check (Err (Expected w.line))))

-- the number and `;`
unfoldable pub said_count : Form DefError ℕ
said_count = do
  said ← a_count 0 (2 ^ 30)
  _ ← semicolon
  done said

-- the items of a section hold this, no two have one name, and their names are kept in order
pub record AreListed {A : Type 0} (P : A → Type 0) (name : A → List ℕ) (l : Listed A) : Type 0 where
  pub names : l.names ≡ map name l.items
  pub apart : AreNamedApart name l.items
  pub items : All P l.items
