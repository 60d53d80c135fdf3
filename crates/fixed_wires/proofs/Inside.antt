-- A range of tokens lies where all of them do.
use Rattle.std.proofs.Common.{ℕ, zero, suc, ◌-◌, List, [], ◌∷◌, take, drop}
use Rattle.rt_base.specs.declared.token.Token.{Token}
use Rattle.rt_base.specs.Tokens.{AllInside}

drop_inside : (n k : ℕ) (ts : List Token) → AllInside n ts → AllInside n (drop k ts)
drop_inside n zero ts h = h
drop_inside n (suc k) [] h = tt
drop_inside n (suc k) (t ∷ ts) h = drop_inside n k ts h.2

take_inside : (n k : ℕ) (ts : List Token) → AllInside n ts → AllInside n (take k ts)
take_inside n zero ts h = tt
take_inside n (suc k) [] h = tt
take_inside n (suc k) (t ∷ ts) h = (h.0, h.1, take_inside n k ts h.2)

pub range_inside : (n first past : ℕ) (ts : List Token) → AllInside n ts → AllInside n (take (past - first) (drop first ts))
range_inside n first past ts h = take_inside n (past - first) (drop first ts) (drop_inside n first ts h)
