-- A word as contracts see it.
use Rattle.rt_forms.specs.Lexeme.{Place}
use Rattle.rt_forms.specs.declared.word.Word.{Word}

-- a word without where it lies in memory
abbrev pub place_of : Word → Place
place_of w = record { line = w.line; first = w.first; word = w.bytes.now }
