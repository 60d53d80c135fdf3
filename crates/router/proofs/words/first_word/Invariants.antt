use Rattle.std.proofs.Common.{◌≡◌, ◌+◌, ◌-◌, length}
use Rattle.std.specs.List.{find, range_with_len}
use Rattle.router.specs.Words.{word_texts, is_sought, first_word}
use Rattle.router.proofs.words.first_word.Given as goal

abbrev pub invariant-loop-n : goal.invariant-loop-n
invariant-loop-n l = first_word l.sought (word_texts l.words) ≡ find (is_sought l.sought (word_texts l.words)) (range_with_len l.n (length l.words + 2 - l.n))
