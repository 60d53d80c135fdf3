-- Blocks of one net more, and of nets that had some, keep the order in which nets are first taken.
use Rattle.std.proofs.Common.{◌≡◌, ◌∙◌, ◌⊎◌, ⊎_elim, inl, inr, ℕ, ◌+◌, ◌-◌, ◌<◌, ◌≤◌, List, [], ◌∷◌, ◌++◌, get_or, take, length, sym, ap, subst, All, AllPairs, Contains, arith, append-nil, append_assoc}
use Rattle.std.proofs.lemmas.Bool.{cases_lt}
use Rattle.std.proofs.lemmas.List.{get_or_default, get_or-take, length-take, take_more}
use Rattle.std.proofs.lemmas.List.Elements.{All-nil, All-append, Contains-append_left, Contains-append_right}
use Rattle.std.proofs.lemmas.Option.{slice_get_within}
use Rattle.rt_base.proofs.Lists.{All-at}
use Rattle.track_graph.specs.declared.design.Design.{Design}
use Rattle.track_graph.specs.declared.history.Block.{Block}
use Rattle.track_graph.specs.Orders.{net_of, IsBefore, AreTakenInOrder}
use Rattle.ripup.specs.Headline.{AreFirstTakenInOrder, GoesOnInOrder, HasBlockOf}
use Rattle.ripup.specs.Progress.{AddsFor}
use Rattle.ripup.proofs.BlockLists.{at_left, at_right, to_left}
use Rattle.ripup.proofs.TakenLemmas.{has-cases, has-of}

-- where no block stands before, nets are first taken in their order
pub taken-from-none : (d : Design) (blocks : List Block) → AreFirstTakenInOrder d [] blocks → AreTakenInOrder d blocks
taken-from-none d blocks h i j a b lt at_a at_b first = h i j a b lt at_a at_b (none (net_of a)) (none (net_of b)) first
  where
    none : (n : ℕ) → HasBlockOf [] n → ⊥
    none n (k, x, at, is) = absurd (omega (arith, slice_get_within [] k x at))

-- a run that begins with no block first takes the nets in their order
pub goes_on-from_none : (d : Design) (blocks before : List Block) → before ≡ [] → GoesOnInOrder d blocks before → AreTakenInOrder d blocks
goes_on-from_none d blocks before none h =
    let whole : blocks ≡ h.added = h.whole ∙ ap (λ (bs : List Block). bs ++ h.added) none in
    let order : AreFirstTakenInOrder d [] h.added = subst (λ (bs : List Block). AreFirstTakenInOrder d bs h.added) none h.order in
    subst (AreTakenInOrder d) (sym whole) (taken-from-none d h.added order)

-- each net with a block added is one that was taken, or has a block before
abbrev IsKnown : List Block → List ℕ → ℕ → Type 0
IsKnown before taken n = Contains taken n ⊎ HasBlockOf before n

-- blocks of net n, and of nets with blocks, are added to blocks of nets before it
in_order-more : (d : Design) (before blocks added : List Block) (taken : List ℕ) (n : ℕ) → AreFirstTakenInOrder d before blocks
    → ((m : ℕ) → Contains taken m → IsBefore d m n) → All (λ b. IsKnown before taken (net_of b)) blocks
    → All (λ b. (net_of b ≡ n) ⊎ HasBlockOf (before ++ blocks) (net_of b)) added → AreFirstTakenInOrder d before (blocks ++ added)
in_order-more d before blocks added taken n order earlier known of_nets i j a b lt at_a at_b new_a new_b first = ⊎_elim
    (λ (left : j < length blocks).
    order i j a b lt (at_left blocks added i a (omega arith) at_a) (at_left blocks added j b left at_b) new_a new_b
    (λ k x k_lt at_x. first k x k_lt (to_left blocks added k x at_x)))
    (λ (right : length blocks ≤ j).
    let taken_before : (m : ℕ) → (HasBlockOf before m → ⊥) → IsKnown before taken m → IsBefore d m n = λ m new k. ⊎_elim (λ (c : Contains taken m). earlier m c) (λ (has : HasBlockOf before m). absurd (new has)) k in
    let is_n : net_of b ≡ n = ⊎_elim
    (λ (e : net_of b ≡ n). e)
    (λ (has : HasBlockOf (before ++ blocks) (net_of b)). absurd (⊎_elim new_b
    (λ (among : HasBlockOf blocks (net_of b)). first among.0 among.1 (let l : among.0 < length blocks = slice_get_within blocks among.0 among.1 among.2 in omega arith) (to_left blocks added among.0 among.1 among.2) among.3)
    (has-cases before blocks (net_of b) has)))
    (All-at (λ x. (net_of x ≡ n) ⊎ HasBlockOf (before ++ blocks) (net_of x)) added (j - length blocks) b of_nets (at_right blocks added j b right at_b)) in
    let before_n : IsBefore d (net_of a) n = ⊎_elim
    (λ (l : i < length blocks). taken_before (net_of a) new_a (All-at (λ x. IsKnown before taken (net_of x)) blocks i a known (at_left blocks added i a l at_a)))
    (λ (r : length blocks ≤ i). ⊎_elim
    (λ (same : net_of a ≡ n). absurd (first i a lt at_a (same ∙ sym is_n)))
    (λ (has : HasBlockOf (before ++ blocks) (net_of a)). ⊎_elim
    (λ (old : HasBlockOf before (net_of a)). absurd (new_a old))
    (λ (among : HasBlockOf blocks (net_of a)). taken_before (net_of a) new_a (has-of (IsKnown before taken) blocks (net_of a) known among))
    (has-cases before blocks (net_of a) has))
    (All-at (λ x. (net_of x ≡ n) ⊎ HasBlockOf (before ++ blocks) (net_of x)) added (i - length blocks) a of_nets (at_right blocks added i a r at_a)))
    (cases_lt i (length blocks)) in
    subst (λ (m : ℕ). IsBefore d (net_of a) m) (sym is_n) before_n)
    (cases_lt j (length blocks))

-- each net of an order comes after those that stand before it there
pub before-next : (d : Design) (nets : List ℕ) (i m : ℕ) → AllPairs (IsBefore d) nets → i < length nets → Contains (take i nets) m → IsBefore d m (get_or nets i 0)
before-next d nets i m ordered within (k, lt, is) =
    let short : k < i = omega (arith, length-take i nets) in
    subst (λ (x : ℕ). IsBefore d x (get_or nets i 0)) (pick k short is) (ordered k i 0 short within)
  where
    pick : (k : ℕ) → k < i → get_or (take i nets) k m ≡ m → get_or nets k 0 ≡ m
    pick k short is = get_or_default nets k 0 m (omega arith) ∙ sym (get_or-take i nets k m short) ∙ is

-- the blocks go on from these, first taking nets in order, and only nets of these, or that had blocks
pub record GoesOn (d : Design) (blocks before : List Block) (taken : List ℕ) : Type 0 where
  pub added : List Block
  pub whole : blocks ≡ before ++ added
  pub order : AreFirstTakenInOrder d before added
  pub known : All (λ b. IsKnown before taken (net_of b)) added

pub all_weaker : {X : Type 0} (P Q : X → Type 0) (xs : List X) → ((x : X) → P x → Q x) → All P xs → All Q xs
all_weaker P Q xs f h k d lt = f (get_or xs k d) (h k d lt)

-- nothing is taken at first
pub goes_on-first : (d : Design) (blocks : List Block) → GoesOn d blocks blocks []
goes_on-first d blocks = record {
  added = [];
  whole = sym (append-nil blocks);
  order = λ i j a b lt at_a at_b new_a new_b first. absurd (omega (arith, slice_get_within [] j b at_b));
  known = All-nil (λ b. IsKnown blocks [] (net_of b));
}

-- the next net of the order
pub goes_on-more : (d : Design) (nets : List ℕ) (i : ℕ) (blocks mid before : List Block) → AllPairs (IsBefore d) nets → i < length nets → GoesOn d mid before (take i nets) → AddsFor (get_or nets i 0) blocks mid → GoesOn d blocks before (take (i + 1) nets)
goes_on-more d nets i blocks mid before ordered within h adds =
    let n : ℕ = get_or nets i 0 in
    let past : List ℕ = take i nets in
    let more : take (i + 1) nets ≡ past ++ n ∷ [] = take_more nets i 0 within in
    let of_nets : All (λ b. (net_of b ≡ n) ⊎ HasBlockOf (before ++ h.added) (net_of b)) adds.added = subst (λ (bs : List Block). All (λ b. (net_of b ≡ n) ⊎ HasBlockOf bs (net_of b)) adds.added) h.whole adds.of_nets in
    let longer : (m : ℕ) → IsKnown before past m → IsKnown before (past ++ n ∷ []) m =
    λ m k. ⊎_elim (λ (c : Contains past m). inl (Contains-append_left past (n ∷ []) m c)) (λ (has : HasBlockOf before m). inr has) k in
    let now : (m : ℕ) → (m ≡ n) ⊎ HasBlockOf (before ++ h.added) m → IsKnown before (past ++ n ∷ []) m =
    λ m k. ⊎_elim
    (λ (e : m ≡ n). inl (Contains-append_right past (n ∷ []) m (0, omega arith, sym e)))
    (λ (has : HasBlockOf (before ++ h.added) m). ⊎_elim
    (λ (old : HasBlockOf before m). inr old)
    (λ (among : HasBlockOf h.added m). longer m (has-of (IsKnown before past) h.added m h.known among))
    (has-cases before h.added m has))
    k in
    record {
      added = h.added ++ adds.added;
      whole = adds.whole ∙ ap (λ (bs : List Block). bs ++ adds.added) h.whole ∙ append_assoc before h.added adds.added;
      order = in_order-more d before h.added adds.added past n h.order (λ m c. before-next d nets i m ordered within c) h.known of_nets;
      known = subst (λ (ns : List ℕ). All (λ b. IsKnown before ns (net_of b)) (h.added ++ adds.added)) (sym more)
          (All-append (λ b. IsKnown before (past ++ n ∷ []) (net_of b)) h.added adds.added
          (all_weaker (λ b. IsKnown before past (net_of b)) (λ b. IsKnown before (past ++ n ∷ []) (net_of b)) h.added (λ b k. longer (net_of b) k) h.known)
          (all_weaker (λ b. (net_of b ≡ n) ⊎ HasBlockOf (before ++ h.added) (net_of b)) (λ b. IsKnown before (past ++ n ∷ []) (net_of b)) adds.added (λ b k. now (net_of b) k) of_nets));
    }
