-- After a history no walk stands of a net that isn't routed.
use Rattle.std.proofs.Common.{◌≡◌, ⊎_elim, ℕ, ◌<◌, List, [], ◌∷◌, Option, Some, None, option_map, unwrap_or, fold, refl, sym, ap, subst, ◌∙◌, length, slice_get, All, arith}
use Rattle.std.proofs.lemmas.Bool.{cases_eq}
use Rattle.std.proofs.lemmas.List.{length-set}
use Rattle.std.proofs.lemmas.List.Elements.{All-tail}
use Rattle.std.proofs.lemmas.Option.{slice_get-map}
use Rattle.track_graph.specs.declared.design.Design.{Design}
use Rattle.track_graph.specs.declared.design.Net.{Net}
use Rattle.track_graph.specs.declared.history.Block.{Block}
use Rattle.track_graph.specs.declared.history.Block.TheVariants.{Wire, Stuck, RipFor}
use Rattle.track_graph.specs.declared.history.NetState.{NetState}
use Rattle.track_graph.specs.declared.history.State.{State}
use Rattle.track_graph.specs.Conditions.{IsNetOf, IsStateOf}
use Rattle.track_graph.specs.Designs.{IsDesign}
use Rattle.track_graph.specs.Histories.{IsRoutable, IsRight, IsHistory, IsHistoryFrom}
use Rattle.track_graph.specs.States.{after, emptied, emptied_net, first_state, fresh, net_state, with_net, state_of}
use Rattle.track_graph.proofs.StateLemmas.{blank, first-kept, net_state-same, net_state-other}
use Rattle.track_graph.proofs.BlockLemmas.{crossed-nets_of, after-kept, right-block_of}

-- no walk stands of a net that isn't routed
abbrev RoutedAlone : Design → State → Type 0
RoutedAlone d s = (n : ℕ) → (IsRoutable d n → ⊥) → (net_state s n).walks ≡ []

-- a routed net stands otherwise
other_net : (d : Design) (s : State) (n : ℕ) (net : NetState) → IsRoutable d n → RoutedAlone d s → RoutedAlone d (with_net s n net)
other_net d s n net routable h m not_routed =
    ap (λ (x : NetState). x.walks) (net_state-other s n m net (λ (e : m ≡ n). not_routed (subst (IsRoutable d) (sym e) routable))) ∙ h m not_routed

emptied_alone : (d : Design) (s : State) (ns : List ℕ) → All (λ n. n < length s.nets) ns → RoutedAlone d s → RoutedAlone d (emptied s ns)
emptied_alone d s [] within h = h
emptied_alone d s (n ∷ ns) within h =
    let net : NetState = emptied_net (net_state s n) in
    let same : length s.nets ≡ length (with_net s n net).nets = sym (length-set s.nets n net) in
    emptied_alone d (with_net s n net) ns
    (subst (λ (k : ℕ). All (λ n. n < k) ns) same (All-tail (λ n. n < length s.nets) n ns within))
    (λ m not_routed. ⊎_elim
    (λ (e : m ≡ n). ap (λ k. (net_state (with_net s n net) k).walks) e ∙ ap (λ (x : NetState). x.walks) (net_state-same s n net (within 0 n (omega arith))))
    (λ (other : m ≡ n → ⊥). ap (λ (x : NetState). x.walks) (net_state-other s n m net other) ∙ h m not_routed)
    (cases_eq m n))

after_alone : (d : Design) (s : State) (b : Block) → IsStateOf d s → IsRight d s b → RoutedAlone d s → RoutedAlone d (after s b)
after_alone d s (Wire n w) of_design right h = other_net d s n _ right.waiting.routable h
after_alone d s (Stuck n) of_design right h = other_net d s n _ right.waiting.routable h
after_alone d s (RipFor n soft ripped w) of_design right h =
    let nets : All (IsNetOf d) ripped = subst (λ (ns : List ℕ). All (IsNetOf d) ns) (sym right.ripped_exactly) (crossed-nets_of d s n soft of_design) in
    other_net d (emptied s ripped) n _ right.waiting.routable (emptied_alone d s ripped (subst (λ (k : ℕ). All (λ m. m < k) ripped) (sym of_design.nets) nets) h)

history_alone : (d : Design) (s : State) (bs : List Block) → IsDesign d → IsStateOf d s → IsHistoryFrom d s bs → RoutedAlone d s → RoutedAlone d (fold after s bs)
history_alone d s [] ok of_design h alone = alone
history_alone d s (b ∷ bs) ok of_design h alone =
    history_alone d (after s b) bs ok (after-kept d s b of_design (right-block_of d s b ok of_design h.0)) h.1 (after_alone d s b of_design h.0 alone)

fresh_none : (o : Option Net) → (unwrap_or (option_map fresh o) blank).walks ≡ []
fresh_none None = refl
fresh_none (Some net) = refl

pub none_stand : (d : Design) (blocks : List Block) → IsDesign d → IsHistory d blocks → (n : ℕ) → (IsRoutable d n → ⊥) → (net_state (state_of d blocks) n).walks ≡ []
none_stand d blocks ok h =
    history_alone d (first_state d) blocks ok (first-kept d) h
    (λ n not_routed. ap (λ (o : Option NetState). (unwrap_or o blank).walks) (slice_get-map fresh d.nets n) ∙ fresh_none (slice_get d.nets n))
