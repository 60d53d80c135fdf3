-- Items of VIAS take the same words, and stand at moved places.
use Rattle.std.proofs.Common.{ℕ, ◌+◌, ◌-◌, List, [], ◌∷◌, ◌++◌, refl, ap}
use Rattle.rt_forms.specs.Form.{loop}
use Rattle.def_text.specs.declared.def.DefVia.{DefVia}
use Rattle.def_text.specs.declared.sections.Listed.{Listed}
use Rattle.def_text.specs.Vias.{via_item}
use Rattle.def_text.specs.Sections.{more_items}
use Rattle.same_words.specs.Same.{Frame, Same}
use Rattle.same_words.specs.Values.{behind_one}
use Rattle.same_words.specs.States.{HoldsMoved, IsViaBy, IsListedBy}
use Rattle.same_words.proofs.Combining.{same_bind, same_name, same_check, same_done}
use Rattle.same_words.proofs.Skipping.{same_up_to, same_here, same_behind, takes_up_to, moved_back}
use Rattle.same_words.proofs.Pairs.{pairwise_one_more, pairwise_length}
use Rattle.same_words.proofs.Parts.{fits_new_name, same_all_items}

pub same_via_item : {f : Frame} {R : ℕ × ℕ → ℕ × ℕ → Type 0} → HoldsMoved f R → (l l' : Listed DefVia) → IsListedBy (IsViaBy R) l l' → Same f (IsListedBy (IsViaBy R)) (via_item f.total l) (via_item (f.total + f.more) l')
unfolding via_item
same_via_item {f} {R} holds l l' h =
    same_name _ _ (λ line first line' first' word.
    same_bind _ _ _ _ (same_check _ _ (fits_new_name l.names l'.names line first line' first' word h.names)) (λ x.
    same_here _ _ (λ from from' m.
    same_behind _ _ _ _ (takes_up_to _) (same_up_to _) (λ y.
    same_here {f = behind_one f} _ _ (λ past past' n.
    same_done _ _ (record {
      names = ap (λ (names : List (List ℕ)). names ++ word ∷ []) h.names;
      items = pairwise_one_more (IsViaBy R) l.items l'.items _ _ h.items (record { name = refl; tokens = holds.moved (from, past - 1) (from', past' - 1) (m, moved_back n) });
      skipped = h.skipped;
    }))))))

pub same_all_vias : {f : Frame} {R : ℕ × ℕ → ℕ × ℕ → Type 0} → HoldsMoved f R → (section : List ℕ) (said : ℕ) (l l' : Listed DefVia) → IsListedBy (IsViaBy R) l l' → Same f (IsListedBy (IsViaBy R)) (loop (more_items section said (via_item f.total)) l) (loop (more_items section said (via_item (f.total + f.more))) l')
same_all_vias {f} {R} holds section said l l' h = same_all_items (IsListedBy (IsViaBy R)) section said (via_item f.total) (via_item (f.total + f.more)) (λ m m' e. pairwise_length (IsViaBy R) m.items m'.items e.items) (same_via_item holds) l l' h
