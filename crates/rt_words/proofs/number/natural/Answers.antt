use Rattle.std.proofs.Common.{◌≡◌, ◌∙◌, sym, ℕ, Option, None, Some, List, rules, ◌<◌, ◌^◌, ap}
use Rattle.std.specs.Prelude.{◌↔◌}
use Rattle.std.specs.Fmt.{decimal}
use Rattle.rt_words.specs.Reading.{natural_of}
use Rattle.rt_words.proofs.Naturals.{natural_printed, printed_natural}
use Rattle.rt_words.proofs.number.natural.Goals as goal

both : (word : List ℕ) (r : Option ℕ) (n : ℕ) → r ≡ natural_of word → ((r ≡ Some n) ↔ ((n < 2 ^ 64) × (word ≡ decimal n)))
both word r n e = (λ is. natural_printed word n (sym e ∙ is), λ h. e ∙ ap natural_of h.1 ∙ printed_natural n h.0)

pub returns-then-not-is_plain-clause-printed : goal.returns-then-not-is_plain-clause-printed
unfolding natural_of
returns-then-not-is_plain-clause-printed c n = both c.args.word.now None n (search rules)

pub returns-clause-printed : goal.returns-clause-printed
unfolding natural_of
returns-clause-printed c n = both c.args.word.now _ n (search rules)
