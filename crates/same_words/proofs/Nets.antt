-- Parts of NETS take the same words, also where the second text goes on with `+` for the `;` of the first.
use Rattle.std.proofs.Common.{ℕ, ◌+◌, List, [], Some, refl, ap}
use Rattle.rt_forms.specs.Reading.{option_rest, ends_option}
use Rattle.def_text.specs.declared.error.DefError.{DefError}
use Rattle.def_text.specs.declared.kinds.NetOption.{NetOption}
use Rattle.def_text.specs.declared.kinds.NetOption.TheVariants.{Wiring, Subnet, Rule, Unused}
use Rattle.def_text.specs.declared.nets.OpenNet.{OpenNet}
use Rattle.def_text.specs.Kinds.{net_option_of}
use Rattle.def_text.specs.Parts.{no_bracket}
use Rattle.def_text.specs.Nets.{connection_tail, connection, connections, net_wiring, net_option_by, net_option}
use Rattle.same_words.specs.Same.{Frame, Same, IsMoved, IsRangeMoved}
use Rattle.same_words.specs.Values.{Equal, TurnsBy}
use Rattle.same_words.specs.States.{HoldsMoved, IsOpenNetBy}
use Rattle.same_words.proofs.Combining.{same_then, same_bind, same_next, same_name, same_look, same_done, same_refused, same_equal_loop}
use Rattle.same_words.proofs.Skipping.{same, same_before, same_unless}
use Rattle.same_words.proofs.Pairs.{pairwise_one_more}
use Rattle.same_words.proofs.Parts.{same_wiring_range}

-- ---- connections

pub same_connection_tail : {f : Frame} → Same f Equal connection_tail connection_tail
unfolding connection_tail
same_connection_tail = search same depth 16

pub same_connection : {f : Frame} (pins : List (List ℕ × List ℕ)) → Same f (TurnsBy Equal) (connection pins) (connection pins)
unfolding connection
same_connection pins = search (same, same_connection_tail) depth 16

pub same_connections : {f : Frame} → Same f Equal connections connections
same_connections = same_equal_loop _ _ [] (λ s. same_unless no_bracket connection connection s s (λ line first line' first' word. refl) (λ lax line first line' first'. refl) refl (same_connection s))

-- ---- options

pub same_option_rest : {f : Frame} → Same f Equal (option_rest {E = DefError}) option_rest
same_option_rest = same_before ends_option refl

pub same_net_wiring : {f : Frame} {R : ℕ × ℕ → ℕ × ℕ → Type 0} → HoldsMoved f R → (plus plus' : ℕ) (net net' : OpenNet) → IsMoved f plus plus' → IsOpenNetBy R net net' → Same f (IsOpenNetBy R) (net_wiring f.total plus net) (net_wiring (f.total + f.more) plus' net')
unfolding net_wiring
same_net_wiring {f} {R} holds plus plus' net net' p h =
    same_then (IsRangeMoved f) _ _ _ _ (same_wiring_range plus plus' p) (λ r q m.
    same_done _ _ (record { wiring = pairwise_one_more R net.wiring net'.wiring r q h.wiring (holds.moved r q m); skipped = h.skipped }))

pub same_net_option_by : {f : Frame} {R : ℕ × ℕ → ℕ × ℕ → Type 0} → HoldsMoved f R → (kind : NetOption) (plus plus' : ℕ) (net net' : OpenNet) → IsMoved f plus plus' → IsOpenNetBy R net net' → Same f (IsOpenNetBy R) (net_option_by kind f.total plus net) (net_option_by kind (f.total + f.more) plus' net')
same_net_option_by holds Wiring plus plus' net net' p h = same_net_wiring holds plus plus' net net' p h
same_net_option_by holds Subnet plus plus' net net' p h = same_next _ _ (λ line first line' first' word. same_refused _ _)
same_net_option_by holds Rule plus plus' net net' p h =
    same_next _ _ (λ line first line' first' word.
    same_name _ _ (λ line first line' first' word.
    same_done _ _ (record { wiring = h.wiring; skipped = ap (λ n. n + 1) h.skipped })))
same_net_option_by holds Unused plus plus' net net' p h = same_bind _ _ _ _ same_option_rest (λ x. same_done _ _ h)

pub same_net_option : {f : Frame} {R : ℕ × ℕ → ℕ × ℕ → Type 0} → HoldsMoved f R → (plus plus' : ℕ) (net net' : OpenNet) → IsMoved f plus plus' → IsOpenNetBy R net net' → Same f (IsOpenNetBy R) (net_option f.total plus net) (net_option (f.total + f.more) plus' net')
unfolding net_option
same_net_option {f} holds plus plus' net net' p h = same_look (λ w. net_option_by (net_option_of w) f.total plus net) (λ w. net_option_by (net_option_of w) (f.total + f.more) plus' net')
    (same_net_option_by holds Unused plus plus' net net' p h)
    (λ line first line' first' word. same_net_option_by holds (net_option_of (Some (record { line = line; first = first; word = word }))) plus plus' net net' p h)
    (λ line first line' first'. same_net_option_by holds Unused plus plus' net net' p h)
