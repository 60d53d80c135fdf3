-- The shapes that count are the forbidding or the dear ones of a reading.
use Rattle.std.proofs.Common.{◌≡◌, ℕ, suc, ◌+◌, List, [], ◌∷◌, ◌++◌, Bool, true, false, cond, not, ◌&&◌, ◌||◌, ◌==◌, flat_map, Option, Some, slice_get, unwrap_or, All, refl, sym, ap, ◌∙◌, arith}
use Rattle.std.specs.List.{list_any}
use Rattle.std.proofs.lemmas.List.Elements.{All-nil, All-cons, All-append}
use Rattle.std.proofs.lemmas.List.Folds.{list_any-append}
use Rattle.rt_base.specs.declared.tech.Owner.{Owner}
use Rattle.rt_base.specs.declared.tech.Owner.TheVariants.{Net as OfNet}
use Rattle.rt_base.specs.declared.tech.Shape.{Shape}
use Rattle.rt_base.specs.declared.walk.Walk.{Walk}
use Rattle.track_graph.specs.declared.design.Design.{Design}
use Rattle.track_graph.specs.declared.history.NetState.{NetState}
use Rattle.track_graph.specs.declared.history.State.{State}
use Rattle.track_graph.specs.Designs.{IsDesign, IsFixed}
use Rattle.track_graph.specs.Metal.{Metal, shapes_of, shape_of}
use Rattle.track_graph.specs.Readings.{may_rip}
use Rattle.track_graph.specs.States.{net_state, net_shapes, standing_from, standing, every_net}
use Rattle.track_graph.specs.Walks.{parts_shapes, walk_parts, walk_shapes_of}
use Rattle.plain_route.specs.declared.sense.Sense.{Sense}
use Rattle.plain_route.specs.declared.sense.Sense.TheVariants.{Hard, Soft, Without}
use Rattle.plain_route.specs.Roles.{is_dear_net, is_absent_net, is_net_with, counts}
use Rattle.plain_route.specs.Senses.{picked, reading_of}
use Rattle.plain_route.proofs.AnyLemmas.{any_const, all_then}

-- a routed shape of net m
abbrev pub IsOf : ℕ → Shape → Type 0
IsOf m b = (b.owner ≡ OfNet m) × (b.fixed ≡ false)

metal_of : (m : ℕ) (ms : List Metal) → All (IsOf m) (shapes_of m ms)
metal_of m [] = All-nil (IsOf m)
metal_of m (x ∷ ms) = All-cons (IsOf m) (shape_of m x) (shapes_of m ms) (refl, refl) (metal_of m ms)

parts_of : (m : ℕ) (parts : List (ℕ × List Metal)) → All (IsOf m) (parts_shapes m parts)
parts_of m [] = All-nil (IsOf m)
parts_of m (p ∷ ps) = All-append (IsOf m) (shapes_of m p.1) (parts_shapes m ps) (metal_of m p.1) (parts_of m ps)

pub walks_of : (d : Design) (m : ℕ) (ws : List Walk) → All (IsOf m) (flat_map (walk_shapes_of d m) ws)
walks_of d m [] = All-nil (IsOf m)
walks_of d m (w ∷ ws) = All-append (IsOf m) (walk_shapes_of d m w) (flat_map (walk_shapes_of d m) ws) (parts_of m (walk_parts d m w)) (walks_of d m ws)

-- how often a net was ripped in a state
abbrev pub ripped_in : State → ℕ → ℕ
ripped_in s m = (net_state s m).rips

-- whether the shapes of net m count
abbrev counts_net : Design → State → ℕ → Sense → Bool → ℕ → Bool
counts_net d s n sense true m = is_dear_net d (ripped_in s) n sense m
counts_net d s n sense false m = not (is_dear_net d (ripped_in s) n sense m || is_absent_net sense m)

counted : (d : Design) (s : State) (n : ℕ) (sense : Sense) (dear : Bool) (m : ℕ) (b : Shape) → IsOf m b → counts d (ripped_in s) n sense dear b ≡ counts_net d s n sense dear m
counted d s n sense true m b h =
    ap (λ (o : Owner). not b.fixed && is_net_with (is_dear_net d (ripped_in s) n sense) o) h.0 ∙ ap (λ (f : Bool). not f && is_dear_net d (ripped_in s) n sense m) h.1
counted d s n sense false m b h =
    ap (λ (o : Owner). b.fixed || not (is_net_with (λ k. is_dear_net d (ripped_in s) n sense k || is_absent_net sense k) o)) h.0
    ∙ ap (λ (f : Bool). f || not (is_dear_net d (ripped_in s) n sense m || is_absent_net sense m)) h.1

-- a fixed shape counts exactly where those that forbid are asked for
fixed_counted : (d : Design) (s : State) (n : ℕ) (sense : Sense) (dear : Bool) (b : Shape) → b.fixed ≡ true → counts d (ripped_in s) n sense dear b ≡ not dear
fixed_counted d s n sense true b h = ap (λ (f : Bool). not f && is_net_with (is_dear_net d (ripped_in s) n sense) b.owner) h
fixed_counted d s n sense false b h = ap (λ (f : Bool). f || not (is_net_with (λ k. is_dear_net d (ripped_in s) n sense k || is_absent_net sense k) b.owner)) h

abbrev pub Tells : (ℕ → Bool) → (ℕ → NetState → Bool) → ℕ → List NetState → Type 0
Tells c test k nets = (m i : ℕ) (net : NetState) → m ≡ k + i → slice_get nets i ≡ Some net → c m ≡ test m net

-- of all standing shapes those count that stand for the nets of a test
pub any_standing : (d : Design) (p q : Shape → Bool) (c : ℕ → Bool) (test : ℕ → NetState → Bool) (k : ℕ) (nets : List NetState) → ((m : ℕ) (b : Shape) → IsOf m b → q b ≡ c m) → Tells c test k nets → list_any (λ b. p b && q b) (standing_from d every_net k nets) ≡ list_any p (standing_from d test k nets)
any_standing d p q c test k [] is tells = refl
any_standing d p q c test k (net ∷ nets) is tells =
    let here : c k ≡ test k net = tells k 0 net (omega arith) refl in
    let all : All (λ b. q b ≡ test k net) (net_shapes d k net) = all_then (IsOf k) (λ b. q b ≡ test k net) (net_shapes d k net) (λ b h. is k b h ∙ here) (walks_of d k net.walks) in
    let first = any_const p q (test k net) (net_shapes d k net) all in
    let rest = any_standing d p q c test (k + 1) nets is (λ m i x e at. tells m (suc i) x (omega (arith, e)) at) in
    list_any-append (λ b. p b && q b) (net_shapes d k net) (standing_from d every_net (k + 1) nets)
    ∙ ap (λ (b : Bool). b || list_any (λ b. p b && q b) (standing_from d every_net (k + 1) nets)) first
    ∙ ap (λ (b : Bool). list_any p (cond (test k net) (net_shapes d k net) []) || b) rest
    ∙ sym (list_any-append p (cond (test k net) (net_shapes d k net) []) (standing_from d test (k + 1) nets))

abbrev no_net : ℕ → NetState → Bool
no_net m net = false

none_stands : (d : Design) (k : ℕ) (nets : List NetState) → standing_from d no_net k nets ≡ []
none_stands d k [] = refl
none_stands d k (net ∷ nets) = none_stands d (k + 1) nets

pub state_at : (s : State) (m i : ℕ) (net : NetState) → m ≡ 0 + i → slice_get s.nets i ≡ Some net → net_state s m ≡ net
state_at s m i net e at =
    let same : m ≡ i = omega (arith, e) in
    ap (λ (k : ℕ). net_state s k) same ∙ ap (λ (o : Option NetState). unwrap_or o (record { walks = []; joined = []; rips = 0; stuck = false })) at

module _ (d : Design) (s : State) (n : ℕ) (p : Shape → Bool) where
  stands : (sense : Sense) (dear : Bool) (test : ℕ → NetState → Bool) → Tells (counts_net d s n sense dear) test 0 s.nets → list_any (λ b. p b && counts d (ripped_in s) n sense dear b) (standing d s) ≡ list_any p (standing_from d test 0 s.nets)
  stands sense dear test tells = any_standing d p (counts d (ripped_in s) n sense dear) (counts_net d s n sense dear) test 0 s.nets (counted d s n sense dear) tells

  none_dear : (sense : Sense) → Tells (counts_net d s n sense true) no_net 0 s.nets → list_any (λ b. p b && counts d (ripped_in s) n sense true b) (standing d s) ≡ false
  none_dear sense tells = stands sense true no_net tells ∙ ap (list_any p) (none_stands d 0 s.nets)

  fixed_part : (sense : Sense) (dear : Bool) → IsDesign d → list_any (λ b. p b && counts d (ripped_in s) n sense dear b) d.fixed ≡ list_any p (cond (not dear) d.fixed [])
  fixed_part sense dear ok = any_const p (counts d (ripped_in s) n sense dear) (not dear) d.fixed (all_then (IsFixed d.tech) (λ b. counts d (ripped_in s) n sense dear b ≡ not dear) d.fixed (λ b h. fixed_counted d s n sense dear b h.fixed) ok.fixed)

  both : (sense : Sense) (dear : Bool) → IsDesign d → (rest : Bool) → list_any (λ b. p b && counts d (ripped_in s) n sense dear b) (standing d s) ≡ rest → list_any (λ b. p b && counts d (ripped_in s) n sense dear b) (d.fixed ++ standing d s) ≡ (list_any p (cond (not dear) d.fixed []) || rest)
  both sense dear ok rest e =
      list_any-append (λ b. p b && counts d (ripped_in s) n sense dear b) d.fixed (standing d s)
      ∙ ap (λ (b : Bool). b || list_any (λ b. p b && counts d (ripped_in s) n sense dear b) (standing d s)) (fixed_part sense dear ok)
      ∙ ap (λ (b : Bool). list_any p (cond (not dear) d.fixed []) || b) e

  forbids : (sense : Sense) (test : ℕ → NetState → Bool) → IsDesign d → Tells (counts_net d s n sense false) test 0 s.nets → list_any (λ b. p b && counts d (ripped_in s) n sense false b) (d.fixed ++ standing d s) ≡ list_any p (d.fixed ++ standing_from d test 0 s.nets)
  forbids sense test ok tells = both sense false ok (list_any p (standing_from d test 0 s.nets)) (stands sense false test tells) ∙ sym (list_any-append p d.fixed (standing_from d test 0 s.nets))

  -- among all shapes those that count are those of the reading
  pub any_picked : (sense : Sense) (dear : Bool) → IsDesign d → list_any (λ b. p b && counts d (ripped_in s) n sense dear b) (d.fixed ++ standing d s) ≡ list_any p (picked dear (reading_of d s n sense))
  any_picked Hard false ok = forbids Hard every_net ok (λ m i net e at. refl)
  any_picked Hard true ok = both Hard true ok false (none_dear Hard (λ m i net e at. refl))
  any_picked Soft false ok = forbids Soft (λ m net. not (may_rip d n m net)) ok (λ m i net e at. ap (λ (x : NetState). not (may_rip d n m x || false)) (state_at s m i net e at) ∙ or_no (may_rip d n m net))
    where
      or_no : (b : Bool) → not (b || false) ≡ not b
      or_no true = refl
      or_no false = refl
  any_picked Soft true ok = both Soft true ok (list_any p (standing_from d (may_rip d n) 0 s.nets)) (stands Soft true (may_rip d n) (λ m i net e at. ap (may_rip d n m) (state_at s m i net e at)))
  any_picked (Without absent) false ok = forbids (Without absent) (λ m net. not (list_any (λ k. k == m) absent)) ok (λ m i net e at. refl)
  any_picked (Without absent) true ok = both (Without absent) true ok false (none_dear (Without absent) (λ m i net e at. refl))
