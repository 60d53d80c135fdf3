-- The end of a list of words.
use Rattle.std.proofs.Common.{◌≡◌, ℕ, ◌+◌, ◌≤◌, false, List, [], ◌∷◌, length, refl, arith}
use Rattle.rt_base.specs.declared.token.Token.{Token}
use Rattle.rt_forms.specs.Reading.{left_of}
use Rattle.rt_forms.specs.Lexeme.{ended, places, is_end}

pub not_end : (text : List ℕ) (ts : List Token) (last : ℕ) → 1 ≤ length ts → is_end (ended (places text ts) last) ≡ false
not_end text [] last h = absurd (omega arith)
not_end text (t ∷ ts) last h = refl

pub length_ended : (text : List ℕ) (ts : List Token) (last : ℕ) → length (ended (places text ts) last) ≡ length ts + 1
length_ended text [] last = omega arith
length_ended text (t ∷ ts) last = omega (arith, length_ended text ts last)

pub left_ended : (text : List ℕ) (ts : List Token) (last : ℕ) → left_of (ended (places text ts) last) ≡ length ts
left_ended text [] last = refl
left_ended text (t ∷ ts) last = omega (arith, left_ended text ts last)
