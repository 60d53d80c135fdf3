use Rattle.std.proofs.Common.{◌≡◌, ℕ, Bool, List, [], ◌∷◌, length, refl, ap, ◌||◌, cond, bytes_eq, position, not, suc, ◌+◌}
use Rattle.std.specs.Global.{Vec}
use Rattle.std.specs.List.{list_any, position_or_len}
use Rattle.rt_forms.specs.Names.{texts}

pub any_texts : (q : List ℕ) (ks : List (Vec ℕ)) → list_any (λ k. bytes_eq q k.items) ks ≡ list_any (bytes_eq q) (texts ks)
any_texts q [] = refl
any_texts q (k ∷ ks) = ap (λ (b : Bool). bytes_eq q k.items || b) (any_texts q ks)

place_texts : (q : List ℕ) (ks : List (Vec ℕ)) → position_or_len (λ k. bytes_eq q k.items) ks ≡ position_or_len (bytes_eq q) (texts ks)
place_texts q [] = refl
place_texts q (k ∷ ks) = ap (λ (n : ℕ). cond (not (bytes_eq q k.items)) (1 + n) 0) (place_texts q ks)

length_texts : (ks : List (Vec ℕ)) → length ks ≡ length (texts ks)
length_texts [] = refl
length_texts (k ∷ ks) = ap suc (length_texts ks)

pub position_texts : (q : List ℕ) (ks : List (Vec ℕ)) → position (λ k. bytes_eq q k.items) ks ≡ position (bytes_eq q) (texts ks)
position_texts q ks = rw (place_texts q ks, length_texts ks) refl
