use Rattle.std.proofs.Common.{◌≡◌, ◌-◌, ◌&&◌, bytes_eq}
use Rattle.std.specs.List.{list_any, range_with_len}
use Rattle.router.specs.Words.{word_texts, word, is_at, stands_before}
use Rattle.router.proofs.words.stands_before.Given as goal

abbrev pub invariant-loop-m : goal.invariant-loop-m
invariant-loop-m l = stands_before l.place (word_texts l.words) l.n ≡ list_any (λ m. is_at l.place m && bytes_eq (word (word_texts l.words) m) (word (word_texts l.words) l.n)) (range_with_len l.m (l.n - l.m))
