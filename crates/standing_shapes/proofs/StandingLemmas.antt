-- What the shapes of a state become after a change of one net.
use Rattle.std.proofs.Common.{◌≡◌, ◌∙◌, ℕ, ◌+◌, ◌<◌, zero, suc, List, [], ◌∷◌, ◌++◌, refl, sym, ap, subst, append_assoc, length, get_or, take, arith}
use Rattle.std.specs.List.{sum_by, slice_set}
use Rattle.std.proofs.lemmas.List.{append-nil, get_or_read, length-take, take_more}
use Rattle.std.proofs.lemmas.List.Sums.{sum_by-append}
use Rattle.std.proofs.lemmas.Option.{unwrap_or-slice_get}
use Rattle.std.proofs.lemmas.Grind.{flat_map-append}
use Rattle.rt_base.specs.declared.tech.Shape.{Shape}
use Rattle.rt_base.specs.declared.walk.Walk.{Walk}
use Rattle.track_graph.specs.declared.design.Design.{Design}
use Rattle.track_graph.specs.declared.history.NetState.{NetState}
use Rattle.track_graph.specs.declared.history.State.{State}
use Rattle.track_graph.specs.States.{emptied_net, every_net, join_pin, net_shapes, net_state, standing, standing_from, with_mark, with_net, with_walk}
use Rattle.track_graph.specs.Walks.{walk_shapes_of}
use Rattle.track_graph.proofs.StateLemmas.{blank}
use Rattle.standing_shapes.specs.Standing.{AreAdded, AreAmong, AreShapesOf}

-- one net more
pub standing-push : (d : Design) (base : ℕ) (nets : List NetState) (net : NetState) → standing_from d every_net base (nets ++ net ∷ []) ≡ standing_from d every_net base nets ++ net_shapes d (base + length nets) net
standing-push d base [] net =
    let place : base ≡ base + 0 = omega arith in
    append-nil (net_shapes d base net) ∙ ap (λ (k : ℕ). net_shapes d k net) place
standing-push d base (x ∷ xs) net =
    let place : base + 1 + length xs ≡ base + length (x ∷ xs) = omega arith in
    ap (λ (ss : List Shape). net_shapes d base x ++ ss) (standing-push d (base + 1) xs net)
    ∙ ap (λ (k : ℕ). net_shapes d base x ++ (standing_from d every_net (base + 1) xs ++ net_shapes d k net)) place
    ∙ sym (append_assoc (net_shapes d base x) (standing_from d every_net (base + 1) xs) (net_shapes d (base + length (x ∷ xs)) net))

-- one net changed: the shapes that it had leave, and those that it has now come
pub standing-set : (d : Design) (measure : Shape → ℕ) (nets : List NetState) (k base place : ℕ) (new : NetState) → k < length nets → place ≡ base + k
    → sum_by measure (standing_from d every_net base (slice_set nets k new)) + sum_by measure (net_shapes d place (get_or nets k blank))
    ≡ sum_by measure (standing_from d every_net base nets) + sum_by measure (net_shapes d place new)
standing-set d measure [] k base place new l e = absurd (omega arith)
standing-set d measure (x ∷ xs) zero base place new l e =
    let rest : List Shape = standing_from d every_net (base + 1) xs in
    let here : place ≡ base = omega arith in
    let old_parts : sum_by measure (net_shapes d base x ++ rest) ≡ sum_by measure (net_shapes d base x) + sum_by measure rest = sum_by-append measure (net_shapes d base x) rest in
    let new_parts : sum_by measure (net_shapes d base new ++ rest) ≡ sum_by measure (net_shapes d base new) + sum_by measure rest = sum_by-append measure (net_shapes d base new) rest in
    subst (λ (p : ℕ). sum_by measure (net_shapes d base new ++ rest) + sum_by measure (net_shapes d p x) ≡ sum_by measure (net_shapes d base x ++ rest) + sum_by measure (net_shapes d p new)) (sym here)
    (omega arith)
standing-set d measure (x ∷ xs) (suc k) base place new l e =
    let old_rest : List Shape = standing_from d every_net (base + 1) xs in
    let new_rest : List Shape = standing_from d every_net (base + 1) (slice_set xs k new) in
    let old_parts : sum_by measure (net_shapes d base x ++ old_rest) ≡ sum_by measure (net_shapes d base x) + sum_by measure old_rest = sum_by-append measure (net_shapes d base x) old_rest in
    let new_parts : sum_by measure (net_shapes d base x ++ new_rest) ≡ sum_by measure (net_shapes d base x) + sum_by measure new_rest = sum_by-append measure (net_shapes d base x) new_rest in
    let later : sum_by measure new_rest + sum_by measure (net_shapes d place (get_or xs k blank)) ≡ sum_by measure old_rest + sum_by measure (net_shapes d place new) =
    standing-set d measure xs k (base + 1) place new (omega arith) (omega arith) in
    omega arith

-- the shapes of a state after a change of one net
pub shapes-with_net : (d : Design) (s : State) (n : ℕ) (net : NetState) (old new : List Shape) → n < length s.nets → AreShapesOf d s old
    → ((measure : Shape → ℕ) → sum_by measure new + sum_by measure (net_shapes d n (net_state s n)) ≡ sum_by measure old + sum_by measure (net_shapes d n net))
    → AreShapesOf d (with_net s n net) new
shapes-with_net d s n net old new l are change measure =
    let had : net_state s n ≡ get_or s.nets n blank = unwrap_or-slice_get s.nets n blank in
    let stood : sum_by measure old ≡ sum_by measure (d.fixed ++ standing d s) = are measure in
    let old_parts : sum_by measure (d.fixed ++ standing d s) ≡ sum_by measure d.fixed + sum_by measure (standing d s) = sum_by-append measure d.fixed (standing d s) in
    let new_parts : sum_by measure (d.fixed ++ standing d (with_net s n net)) ≡ sum_by measure d.fixed + sum_by measure (standing d (with_net s n net)) = sum_by-append measure d.fixed (standing d (with_net s n net)) in
    let set : sum_by measure (standing d (with_net s n net)) + sum_by measure (net_shapes d n (net_state s n)) ≡ sum_by measure (standing d s) + sum_by measure (net_shapes d n net) =
    subst (λ (own : NetState). sum_by measure (standing d (with_net s n net)) + sum_by measure (net_shapes d n own) ≡ sum_by measure (standing d s) + sum_by measure (net_shapes d n net)) (sym had)
    (standing-set d measure s.nets n 0 n net l (omega arith)) in
    let changed : sum_by measure new + sum_by measure (net_shapes d n (net_state s n)) ≡ sum_by measure old + sum_by measure (net_shapes d n net) = change measure in
    omega arith

-- after a walk more the shapes are those of the walk besides
pub shapes-with_walk : (d : Design) (s : State) (n : ℕ) (w : Walk) (old new : List Shape) → n < length s.nets → AreShapesOf d s old → AreAdded (walk_shapes_of d n w) old new → AreShapesOf d (with_walk s n w) new
shapes-with_walk d s n w old new l are added =
    let had : NetState = net_state s n in
    let long : NetState = record { walks = had.walks ++ w ∷ []; joined = join_pin w.finish.kind had.joined; rips = had.rips; stuck = had.stuck } in
    shapes-with_net d s n long old new l are
    (λ measure.
    let all : net_shapes d n long ≡ net_shapes d n had ++ walk_shapes_of d n w =
    flat_map-append (walk_shapes_of d n) had.walks (w ∷ []) ∙ ap (λ (ss : List Shape). net_shapes d n had ++ ss) (append-nil (walk_shapes_of d n w)) in
    let sums : sum_by measure (net_shapes d n long) ≡ sum_by measure (net_shapes d n had) + sum_by measure (walk_shapes_of d n w) =
    ap (sum_by measure) all ∙ sum_by-append measure (net_shapes d n had) (walk_shapes_of d n w) in
    let more : sum_by measure new ≡ sum_by measure (walk_shapes_of d n w) + sum_by measure old = added measure in
    omega arith)

-- a mark leaves the shapes
pub shapes-with_mark : (d : Design) (s : State) (n : ℕ) (shapes : List Shape) → n < length s.nets → AreShapesOf d s shapes → AreShapesOf d (with_mark s n) shapes
shapes-with_mark d s n shapes l are = shapes-with_net d s n _ shapes shapes l are (λ measure. refl)

-- the shapes of the first nets, and those of one net more
pub standing-more : (d : Design) (nets : List NetState) (k : ℕ) (net : NetState) → k < length nets → net ≡ get_or nets k net
    → standing_from d every_net 0 (take (k + 1) nets) ≡ standing_from d every_net 0 (take k nets) ++ net_shapes d k net
standing-more d nets k net l is =
    let count : 0 + length (take k nets) ≡ k = omega (arith, length-take k nets) in
    ap (standing_from d every_net 0) (take_more nets k net l)
    ∙ ap (λ (own : NetState). standing_from d every_net 0 (take k nets ++ own ∷ [])) (sym is)
    ∙ standing-push d 0 (take k nets) net
    ∙ ap (λ (n : ℕ). standing_from d every_net 0 (take k nets) ++ net_shapes d n net) count

-- the shapes of a net are among those of the state
pub shapes-of_net : (d : Design) (s : State) (n : ℕ) (shapes : List Shape) → n < length s.nets → AreShapesOf d s shapes → AreAmong (net_shapes d n (net_state s n)) shapes
shapes-of_net d s n shapes l are measure =
    let had : net_state s n ≡ get_or s.nets n blank = unwrap_or-slice_get s.nets n blank in
    let stood : sum_by measure shapes ≡ sum_by measure (d.fixed ++ standing d s) = are measure in
    let parts : sum_by measure (d.fixed ++ standing d s) ≡ sum_by measure d.fixed + sum_by measure (standing d s) = sum_by-append measure d.fixed (standing d s) in
    let set : sum_by measure (standing d (with_net s n blank)) + sum_by measure (net_shapes d n (net_state s n)) ≡ sum_by measure (standing d s) + 0 =
    subst (λ (own : NetState). sum_by measure (standing d (with_net s n blank)) + sum_by measure (net_shapes d n own) ≡ sum_by measure (standing d s) + 0) (sym had)
    (standing-set d measure s.nets n 0 n blank l (omega arith)) in
    omega arith

-- after a net is emptied the shapes are those of its walks fewer
pub shapes-emptied_net : (d : Design) (s : State) (n : ℕ) (old new : List Shape) → n < length s.nets → AreShapesOf d s old → AreAdded (net_shapes d n (net_state s n)) new old → AreShapesOf d (with_net s n (emptied_net (net_state s n))) new
shapes-emptied_net d s n old new l are taken =
    shapes-with_net d s n (emptied_net (net_state s n)) old new l are
    (λ measure. let fewer : sum_by measure old ≡ sum_by measure (net_shapes d n (net_state s n)) + sum_by measure new = taken measure in omega arith)

-- what stands of a net is what its place has
pub net_state-read : (s : State) (n : ℕ) (own : NetState) → n < length s.nets → own ≡ get_or s.nets n own → net_state s n ≡ own
net_state-read s n own l is = unwrap_or-slice_get s.nets n blank ∙ sym (get_or_read s.nets n own l is blank)
