-- The routed text, net by net.
use Rattle.std.proofs.Common.{◌≡◌, ◌∙◌, ℕ, ◌+◌, ◌<◌, ◌≤◌, List, [], ◌∷◌, ◌++◌, false, Option, ap, sym, subst, length, get_or, drop, unwrap_or, append_assoc, All, arith}
use Rattle.std.specs.Prelude.{flat_map, slice_range}
use Rattle.std.proofs.lemmas.List.{drop_more, get_or_default}
use Rattle.std.proofs.lemmas.List.Elements.{All-weaker}
use Rattle.std.proofs.lemmas.Option.{slice_get-get_or}
use Rattle.track_graph.specs.declared.design.Design.{Design}
use Rattle.track_graph.specs.declared.design.Net.{Net}
use Rattle.track_graph.specs.declared.history.NetState.{NetState}
use Rattle.track_graph.specs.declared.history.State.{State}
use Rattle.track_graph.specs.Conditions.{IsStateOf}
use Rattle.track_graph.specs.NetWalks.{IsNetWalk, IsWalkOf}
use Rattle.track_graph.specs.States.{net_state}
use Rattle.track_graph.specs.Strokes.{walk_strokes}
use Rattle.def_out.specs.Conditions.{AreCloses}
use Rattle.def_out.specs.Wiring.{net_strokes, routed_from, wiring_text}

-- what stands of a net that the state has
pub net_state-at : (s : State) (i : ℕ) (x : NetState) → i < length s.nets → x ≡ get_or s.nets i x → net_state s i ≡ x
net_state-at s i x h is =
    ap (λ (o : Option NetState). unwrap_or o (record { walks = []; joined = []; rips = 0; stuck = false })) (slice_get-get_or s.nets i x h) ∙ sym is

-- one net more is written
pub routed_more : (text : List ℕ) (d : Design) (s : State) (i from : ℕ) (nets : List Net) (out : List ℕ) (net : Net) (state : NetState) → i < length nets → net ≡ get_or nets i net → net_state s i ≡ state → ((out ++ slice_range text from net.close) ++ wiring_text d.tech (flat_map (walk_strokes d i) state.walks)) ++ routed_from text d s (i + 1) net.close (drop (i + 1) nets) ≡ out ++ routed_from text d s i from (drop i nets)
routed_more text d s i from nets out net state h is stands =
    let copied : List ℕ = slice_range text from net.close in
    let wired : List ℕ = wiring_text d.tech (net_strokes d s i) in
    let rest : List ℕ = routed_from text d s (i + 1) net.close (drop (i + 1) nets) in
    ap (λ (x : NetState). ((out ++ copied) ++ wiring_text d.tech (flat_map (walk_strokes d i) x.walks)) ++ rest) (sym stands)
    ∙ ap (λ (t : List ℕ). t ++ rest) (append_assoc out copied wired)
    ∙ append_assoc out (copied ++ wired) rest
    ∙ ap (λ (m : Net). out ++ routed_from text d s i from (m ∷ drop (i + 1) nets)) is
    ∙ ap (λ (ms : List Net). out ++ routed_from text d s i from ms) (sym (drop_more nets i net h))

-- the nets behind one have their closing `;` behind its own
pub closes_ahead : (text : List ℕ) (nets : List Net) → AreCloses text nets → (i : ℕ) (net : Net) → net ≡ get_or nets i net → (k : ℕ) (d : Net) → i + 1 ≤ k → k < length nets → net.close ≤ (get_or nets k d).close
closes_ahead text nets h i net is k d above within =
    let here : net.close ≡ (get_or nets i d).close = ap (λ (m : Net). m.close) (is ∙ get_or_default nets i net d (omega (arith, above, within))) in
    let later : (get_or nets i d).close < (get_or nets k d).close = h.ascending i k d (omega (arith, above)) within in
    omega (arith, here, later)

pub close_within : (text : List ℕ) (nets : List Net) → AreCloses text nets → (i : ℕ) (net : Net) → net ≡ get_or nets i net → i < length nets → net.close < length text
close_within text nets h i net is within =
    let there : (get_or nets i net).close < length text = h.within i net within in
    subst (λ (m : Net). m.close < length text) (sym is) there

-- the walks of a net that stand are walks of it
pub walks_stand : (d : Design) (s : State) → IsStateOf d s → (i : ℕ) (x : NetState) → net_state s i ≡ x → All (IsNetWalk d i) x.walks
walks_stand d s h i x is =
    All-weaker (IsWalkOf d i) (IsNetWalk d i) (λ w of_net. of_net.net_walk) x.walks (subst (λ (y : NetState). All (IsWalkOf d i) y.walks) is (h.walks i))
