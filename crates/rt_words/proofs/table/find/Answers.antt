use Rattle.std.proofs.Common.{◌≡◌, ◌∙◌, sym, ℕ, List, Option, Some, None, arith}
use Rattle.std.specs.Prelude.{bytes_eq, position}
use Rattle.std.specs.List.{position_from}
use Rattle.std.proofs.lemmas.Iterator.Adapters.{position_from-zero}
use Rattle.rt_words.specs.Table.{words_of, word_of}
use Rattle.rt_words.proofs.Words.{found_word, word_found, none_found, contained, compares, place_of_word}
use Rattle.rt_words.proofs.table.find.Goals as goal

abbrev no_row : Option ℕ
no_row = None

from : (word : List ℕ) (rows : List (List ℕ)) (r : Option ℕ) → r ≡ position (λ row. bytes_eq word (word_of row)) rows → r ≡ position_from (bytes_eq word) 0 (words_of rows)
from word rows r e = e ∙ position_from-zero (λ row. bytes_eq word (word_of row)) rows ∙ place_of_word word 0 rows

pub returns-clause-found : goal.returns-clause-found
returns-clause-found g c k =
    let word = c.args.word.now in
    let words = words_of c.args.table.now in
    let place = from word c.args.table.now _ c.find_row.ensures in
    (λ e. found_word word 0 k k words (omega arith) (sym place ∙ e), λ e. place ∙ word_found word 0 k k words (omega arith) c.requires e)

pub returns-clause-none : goal.returns-clause-none
returns-clause-none g c =
    let word = c.args.word.now in
    let words = words_of c.args.table.now in
    let place = from word c.args.table.now _ c.find_row.ensures in
    (λ none has. let at = contained word words has in let both : no_row ≡ Some at.0 = sym none ∙ place ∙ word_found word 0 at.0 at.0 words (omega arith) c.requires at.1 in absurd (cc), none_found word words _ place)

pub returns-clause-place : goal.returns-clause-place
returns-clause-place g c =
    from c.args.word.now c.args.table.now _ c.find_row.ensures ∙ sym (position_from-zero (bytes_eq c.args.word.now) (words_of c.args.table.now))

pub returns-clause-compares : goal.returns-clause-compares
returns-clause-compares g c =
    let word = c.args.word.now in
    let words = words_of c.args.table.now in
    rw (from word c.args.table.now _ c.find_row.ensures) (compares word 0 words c.requires)
