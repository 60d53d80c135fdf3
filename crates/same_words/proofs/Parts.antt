-- Parts that several statements share take the same words.
use Rattle.std.proofs.Common.{◌≡◌, ℕ, ◌+◌, Bool, true, false, List, length, Option, Some, None, refl, sym, ap, subst, if◌then◌else◌}
use Rattle.rt_forms.specs.Lexeme.{Place}
use Rattle.rt_forms.specs.Form.{Form, loop}
use Rattle.def_text.specs.declared.error.DefError.{DefError}
use Rattle.def_text.specs.declared.sections.Listed.{Listed}
use Rattle.def_text.specs.Parts.{a_number, a_count, point, placement, option_tail, once}
use Rattle.def_text.specs.Wiring.{wiring_range}
use Rattle.def_text.specs.Sections.{new_name, section_end, more_items, said_count}
use Rattle.same_words.specs.Same.{Frame, Same, IsMoved, IsRangeMoved}
use Rattle.same_words.specs.Values.{Equal, TurnsBy, Fits, OptionBy}
use Rattle.same_words.proofs.Combining.{at_equal, same_then, same_bind, same_next, same_choose, same_done, same_refused, same_loop, fits_self, fits_refused, fits_if}
use Rattle.same_words.proofs.Skipping.{same, same_here}

pub same_number : {f : Frame} → Same f Equal a_number a_number
same_number = search same

pub same_count : {f : Frame} (low high : ℕ) → Same f Equal (a_count low high) (a_count low high)
same_count low high = search same

pub same_point : {f : Frame} → Same f Equal point point
unfolding point
same_point = search same depth 16

pub same_placement : {f : Frame} → Same f Equal placement placement
unfolding placement
same_placement = search (same, same_point) depth 16

pub same_option_tail : {f : Frame} → Same f Equal option_tail option_tail
same_option_tail = search same depth 16

pub range_if : {f : Frame} (alone : Bool) (a b c a' b' c' : ℕ) → IsMoved f a a' → IsMoved f b b' → IsMoved f c c' → IsRangeMoved f (if alone then (a, c) else (b, c)) (if alone then (a', c') else (b', c'))
range_if true a b c a' b' c' h k l = (h, l)
range_if false a b c a' b' c' h k l = (k, l)

pub same_wiring_range : {f : Frame} (plus plus' : ℕ) → IsMoved f plus plus' → Same f (IsRangeMoved f) (wiring_range f.total plus) (wiring_range (f.total + f.more) plus')
unfolding wiring_range
same_wiring_range {f} plus plus' h =
    same_next _ _ (λ line first line' first' word.
    same_here _ _ (λ behind behind' b.
    same_bind _ _ _ _ same_option_tail (λ alone.
    same_here _ _ (λ past past' p.
    same_done _ _ (range_if alone plus behind past plus' behind' past' h b p)))))

-- ---- what stands once alone

pub fits_once : {A B : Type 0} (R : A → B → Type 0) (o : Option A) (o' : Option B) (p q : Place) → OptionBy R o o' → Fits (once o p) (once o' q)
fits_once R None None p q h = fits_self _
fits_once R None (Some b) p q h = absurd h
fits_once R (Some a) o' p q h = fits_refused _ _

pub fits_once_equal : {A : Type 0} (o o' : Option A) (p q : Place) → o' ≡ o → Fits (once o p) (once o' q)
fits_once_equal {A} o o' p q h = rw h (both o)
  where
    both : (x : Option A) → Fits (once x p) (once x q)
    both None = fits_self _
    both (Some a) = fits_refused _ _

-- ---- sections

pub fits_new_name : (names names' : List (List ℕ)) (line first line' first' : ℕ) (word : List ℕ) → names' ≡ names → Fits (new_name names (record { line = line; first = first; word = word })) (new_name names' (record { line = line'; first = first'; word = word }))
fits_new_name names names' line first line' first' word h = rw h (search (fits_if, fits_refused, fits_self))

pub same_said_count : {f : Frame} → Same f Equal said_count said_count
unfolding said_count
same_said_count = search same depth 16

pub same_section_end : {f : Frame} (section : List ℕ) (said found : ℕ) → Same f Equal (section_end section said found) (section_end section said found)
unfolding section_end
same_section_end section said found = search same depth 16

-- items whose lists are related so that they are as long take the same words, and are related
pub same_more_items : {A B : Type 0} {f : Frame} (R : Listed A → Listed B → Type 0) (section : List ℕ) (said : ℕ) (item : Listed A → Form DefError (Listed A)) (item' : Listed B → Form DefError (Listed B))
    → ((l : Listed A) (l' : Listed B) → R l l' → length l'.items ≡ length l.items)
    → ((l : Listed A) (l' : Listed B) → R l l' → Same f R (item l) (item' l'))
    → (l : Listed A) (l' : Listed B) → R l l' → Same f (TurnsBy R) (more_items section said item l) (more_items section said item' l')
unfolding more_items
same_more_items {f} R section said item item' long again l l' h =
    same_next _ _ (λ line first line' first' word.
    same_choose _ _ _ _ _ (same_then R _ _ _ _ (again l l' h) (λ a a' r. same_done _ _ r)) (
    same_choose _ _ _ _ _ (same_bind _ _ _ _ ends (λ x. same_done _ _ h)) (same_refused _ _)))
  where
    ends : Same f Equal (section_end section said (length l.items)) (section_end section said (length l'.items))
    ends = subst (λ (n : ℕ). Same f Equal (section_end section said (length l.items)) (section_end section said n)) (sym (long l l' h)) (same_section_end section said (length l.items))

-- all items up to the end of a section
pub same_all_items : {A B : Type 0} {f : Frame} (R : Listed A → Listed B → Type 0) (section : List ℕ) (said : ℕ) (item : Listed A → Form DefError (Listed A)) (item' : Listed B → Form DefError (Listed B))
    → ((l : Listed A) (l' : Listed B) → R l l' → length l'.items ≡ length l.items)
    → ((l : Listed A) (l' : Listed B) → R l l' → Same f R (item l) (item' l'))
    → (l : Listed A) (l' : Listed B) → R l l' → Same f R (loop (more_items section said item) l) (loop (more_items section said item') l')
same_all_items R section said item item' long again l l' h = same_loop _ _ l l' (same_more_items R section said item item' long again) h

-- items without positions
pub same_equal_items : {A : Type 0} {f : Frame} (section : List ℕ) (said : ℕ) (item : Listed A → Form DefError (Listed A)) → ((l : Listed A) → Same f Equal (item l) (item l)) → (l : Listed A) → Same f Equal (loop (more_items section said item) l) (loop (more_items section said item) l)
same_equal_items {f} section said item again l = same_all_items Equal section said item item (λ m m' e. ap (λ x. length x.items) e) (at_equal item item again) l l refl
