-- Special nets take the same words, and their wiring stands at moved places.
use Rattle.std.proofs.Common.{◌≡◌, ℕ, ◌+◌, Bool, true, false, List, [], ◌∷◌, ◌++◌, Option, Some, None, Err, bytes_eq, codes, refl, sym, ap, subst, if◌then◌else◌}
use Rattle.rt_forms.specs.Lexeme.{Place}
use Rattle.rt_forms.specs.Form.{Form, next, check, done, ◌>>=◌, choose, loop, Turn, More, Done}
use Rattle.def_text.specs.declared.error.DefError.{DefError}
use Rattle.def_text.specs.declared.error.DefError.TheVariants.{Expected}
use Rattle.def_text.specs.declared.kinds.SpecialOption.{SpecialOption}
use Rattle.def_text.specs.declared.kinds.SpecialOption.TheVariants.{Wired, Metal, Shape, Style, Refused as RefusedInSpecial, Unused}
use Rattle.def_text.specs.declared.special.Open.{Open}
use Rattle.def_text.specs.declared.special.Open.TheVariants.{Closed, Shaped, Bare, BareShaped, Paths, PathsShaped}
use Rattle.def_text.specs.declared.special.OpenSpecial.{OpenSpecial}
use Rattle.def_text.specs.declared.def.DefNet.{DefNet}
use Rattle.def_text.specs.declared.sections.Listed.{Listed}
use Rattle.def_text.specs.Kinds.{special_option_of}
use Rattle.def_text.specs.Parts.{no_bracket}
use Rattle.def_text.specs.Sections.{more_items}
use Rattle.def_text.specs.Special.{special_connection, special_connections, is_wiring, ended, ended_by_metal, metal_first, with_shape, with_words, with_range, special_wired, special_metal, loose_shape, wiring_shape, special_shape, special_unused, refused_word, special_option_by, special_option, more_special, special_item}
use Rattle.same_words.specs.Same.{Frame, Same, IsMoved, IsRangeMoved}
use Rattle.same_words.specs.Values.{Equal, TurnsBy, Pairwise, OptionBy}
use Rattle.same_words.specs.States.{HoldsMoved, IsNetBy, IsListedBy, IsOpenMoved, IsOpenSpecialBy}
use Rattle.same_words.proofs.Combining.{same_then, same_bind, same_next, same_name, same_look, same_check, same_choose, same_done, same_refused, same_loop, same_equal_loop}
use Rattle.same_words.proofs.Skipping.{same, same_here, same_unless}
use Rattle.same_words.proofs.Pairs.{pairwise_one_more, pairwise_length, with_range_again}
use Rattle.same_words.proofs.Parts.{same_option_tail, fits_new_name, same_all_items}
use Rattle.same_words.proofs.Nets.{same_connection_tail, same_option_rest}

-- ---- connections

same_special_connection : {f : Frame} (s : Unit {0}) → Same f (TurnsBy Equal) (special_connection s) (special_connection s)
unfolding special_connection
same_special_connection s = search (same, same_connection_tail) depth 16

same_special_connections : {f : Frame} → Same f Equal special_connections special_connections
same_special_connections = same_equal_loop _ _ tt (λ s. same_unless no_bracket special_connection special_connection s s (λ line first line' first' word. refl) (λ lax line first line' first'. refl) refl (same_special_connection s))

-- ---- what is open, at moved places

is_wiring_again : (f : Frame) (s t : Open) → IsOpenMoved f s t → is_wiring t ≡ is_wiring s
is_wiring_again f Closed Closed h = refl
is_wiring_again f (Shaped a) (Shaped b) h = refl
is_wiring_again f (Bare a c) (Bare b d) h = refl
is_wiring_again f (BareShaped a c) (BareShaped b d) h = refl
is_wiring_again f (Paths a) (Paths b) h = refl
is_wiring_again f (PathsShaped a c) (PathsShaped b d) h = refl
is_wiring_again f s t h = absurd h

ended_again : (f : Frame) (s t : Open) (at at' : ℕ) → IsOpenMoved f s t → IsMoved f at at' → OptionBy (IsRangeMoved f) (ended s at) (ended t at')
ended_again f Closed Closed at at' h m = tt
ended_again f (Shaped a) (Shaped b) at at' h m = tt
ended_again f (Bare a c) (Bare b d) at at' h m = (h.0, m)
ended_again f (BareShaped a c) (BareShaped b d) at at' h m = (h.1, m)
ended_again f (Paths a) (Paths b) at at' h m = (h, m)
ended_again f (PathsShaped a c) (PathsShaped b d) at at' h m = (h.0, m)
ended_again f s t at at' h m = absurd h

ended_by_metal_again : (f : Frame) (s t : Open) (at at' : ℕ) → IsOpenMoved f s t → IsMoved f at at' → OptionBy (IsRangeMoved f) (ended_by_metal s at) (ended_by_metal t at')
ended_by_metal_again f Closed Closed at at' h m = tt
ended_by_metal_again f (Shaped a) (Shaped b) at at' h m = tt
ended_by_metal_again f (Bare a c) (Bare b d) at at' h m = tt
ended_by_metal_again f (BareShaped a c) (BareShaped b d) at at' h m = tt
ended_by_metal_again f (Paths a) (Paths b) at at' h m = (h, m)
ended_by_metal_again f (PathsShaped a c) (PathsShaped b d) at at' h m = h
ended_by_metal_again f s t at at' h m = absurd h

metal_first_again : (f : Frame) (s t : Open) (at at' : ℕ) → IsOpenMoved f s t → IsMoved f at at' → IsMoved f (metal_first s at) (metal_first t at')
metal_first_again f Closed Closed at at' h m = m
metal_first_again f (Shaped a) (Shaped b) at at' h m = h
metal_first_again f (Bare a c) (Bare b d) at at' h m = h.0
metal_first_again f (BareShaped a c) (BareShaped b d) at at' h m = h.0
metal_first_again f (Paths a) (Paths b) at at' h m = m
metal_first_again f (PathsShaped a c) (PathsShaped b d) at at' h m = h.1
metal_first_again f s t at at' h m = absurd h

with_shape_again : (f : Frame) (s t : Open) (at at' : ℕ) → IsOpenMoved f s t → IsMoved f at at' → IsOpenMoved f (with_shape s at) (with_shape t at')
with_shape_again f Closed Closed at at' h m = m
with_shape_again f (Shaped a) (Shaped b) at at' h m = m
with_shape_again f (Bare a c) (Bare b d) at at' h m = h
with_shape_again f (BareShaped a c) (BareShaped b d) at at' h m = (h.1, m)
with_shape_again f (Paths a) (Paths b) at at' h m = (h, m)
with_shape_again f (PathsShaped a c) (PathsShaped b d) at at' h m = (h.0, m)
with_shape_again f s t at at' h m = absurd h

with_words_again : (f : Frame) (s t : Open) → IsOpenMoved f s t → IsOpenMoved f (with_words s) (with_words t)
with_words_again f Closed Closed h = tt
with_words_again f (Shaped a) (Shaped b) h = tt
with_words_again f (Bare a c) (Bare b d) h = h.1
with_words_again f (BareShaped a c) (BareShaped b d) h = h.1
with_words_again f (Paths a) (Paths b) h = h
with_words_again f (PathsShaped a c) (PathsShaped b d) h = h.0
with_words_again f s t h = absurd h

-- one of two states by one test
open_if : (f : Frame) (b : Bool) (s t s' t' : Open) → IsOpenMoved f s s' → IsOpenMoved f t t' → IsOpenMoved f (if b then s else t) (if b then s' else t')
open_if f true s t s' t' h k = h
open_if f false s t s' t' h k = k

holds_option : {f : Frame} {R : ℕ × ℕ → ℕ × ℕ → Type 0} → HoldsMoved f R → (o p : Option (ℕ × ℕ)) → OptionBy (IsRangeMoved f) o p → OptionBy R o p
holds_option holds None None h = tt
holds_option holds None (Some b) h = absurd h
holds_option holds (Some a) None h = absurd h
holds_option holds (Some a) (Some b) h = holds.moved a b h

-- the ranges, with what ended
ranges_again : {f : Frame} {R : ℕ × ℕ → ℕ × ℕ → Type 0} → HoldsMoved f R → (net net' : OpenSpecial) (at at' : ℕ) → IsOpenSpecialBy f R net net' → IsMoved f at at' → Pairwise R (with_range net.wiring (ended net.state at)) (with_range net'.wiring (ended net'.state at'))
ranges_again {f} {R} holds net net' at at' h m = with_range_again R net.wiring net'.wiring _ _ h.wiring (holds_option holds _ _ (ended_again f net.state net'.state at at' h.state m))

-- ---- options

same_special_wired : {f : Frame} {R : ℕ × ℕ → ℕ × ℕ → Type 0} → HoldsMoved f R → (plus plus' : ℕ) (net net' : OpenSpecial) → IsMoved f plus plus' → IsOpenSpecialBy f R net net' → Same f (IsOpenSpecialBy f R) (special_wired f.total plus net) (special_wired (f.total + f.more) plus' net')
unfolding special_wired
same_special_wired {f} holds plus plus' net net' p h =
    same_next _ _ (λ line first line' first' word.
    same_here _ _ (λ behind behind' b.
    same_bind _ _ _ _ same_option_tail (λ alone.
    same_done _ _ (record { wiring = ranges_again holds net net' plus plus' h p; state = open_if f alone (Bare plus behind) (Paths behind) (Bare plus' behind') (Paths behind') (p, b) b }))))

same_special_metal : {f : Frame} {R : ℕ × ℕ → ℕ × ℕ → Type 0} → HoldsMoved f R → (plus plus' : ℕ) (net net' : OpenSpecial) → IsMoved f plus plus' → IsOpenSpecialBy f R net net' → Same f (IsOpenSpecialBy f R) (special_metal plus net) (special_metal plus' net')
unfolding special_metal
same_special_metal {f} {R} holds plus plus' net net' p h =
    same_next _ _ (λ line first line' first' word.
    same_bind _ _ _ _ same_option_rest (λ x.
    same_done _ _ (record {
      wiring = with_range_again R net.wiring net'.wiring _ _ h.wiring (holds_option holds _ _ (ended_by_metal_again f net.state net'.state plus plus' h.state p));
      state = metal_first_again f net.state net'.state plus plus' h.state p;
    })))

same_loose_shape : {f : Frame} → Same f Equal loose_shape loose_shape
same_loose_shape = search (same, same_option_tail) depth 16

same_wiring_shape : {f : Frame} → Same f Equal wiring_shape wiring_shape
same_wiring_shape = search (same, same_option_tail) depth 16

same_special_shape : {f : Frame} {R : ℕ × ℕ → ℕ × ℕ → Type 0} → HoldsMoved f R → (plus plus' : ℕ) (net net' : OpenSpecial) → IsMoved f plus plus' → IsOpenSpecialBy f R net net' → Same f (IsOpenSpecialBy f R) (special_shape plus net) (special_shape plus' net')
unfolding special_shape
same_special_shape {f} {R} holds plus plus' net net' p h =
    same_next _ _ (λ line first line' first' word.
    same_bind _ _ _ _ shape (λ alone.
    same_done _ _ (record { wiring = h.wiring; state = open_if f alone (with_shape net.state plus) (with_words net.state) (with_shape net'.state plus') (with_words net'.state) (with_shape_again f net.state net'.state plus plus' h.state p) (with_words_again f net.state net'.state h.state) })))
  where
    shape : Same f Equal (choose (is_wiring net.state) wiring_shape loose_shape) (choose (is_wiring net'.state) wiring_shape loose_shape)
    shape = subst (λ (b : Bool). Same f Equal (choose (is_wiring net.state) wiring_shape loose_shape) (choose b wiring_shape loose_shape)) (sym (is_wiring_again f net.state net'.state h.state)) (same_choose _ _ _ _ _ same_wiring_shape same_loose_shape)

same_special_unused : {f : Frame} {R : ℕ × ℕ → ℕ × ℕ → Type 0} → HoldsMoved f R → (plus plus' : ℕ) (net net' : OpenSpecial) → IsMoved f plus plus' → IsOpenSpecialBy f R net net' → Same f (IsOpenSpecialBy f R) (special_unused plus net) (special_unused plus' net')
unfolding special_unused
same_special_unused holds plus plus' net net' p h =
    same_bind _ _ _ _ same_option_rest (λ x.
    same_done _ _ (record { wiring = ranges_again holds net net' plus plus' h p; state = tt }))

same_refused_word : {f : Frame} {R : OpenSpecial → OpenSpecial → Type 0} → Same f R refused_word refused_word
same_refused_word = same_next _ _ (λ line first line' first' word. same_refused _ _)

same_special_option_by : {f : Frame} {R : ℕ × ℕ → ℕ × ℕ → Type 0} → HoldsMoved f R → (kind : SpecialOption) (plus plus' : ℕ) (net net' : OpenSpecial) → IsMoved f plus plus' → IsOpenSpecialBy f R net net' → Same f (IsOpenSpecialBy f R) (special_option_by kind f.total plus net) (special_option_by kind (f.total + f.more) plus' net')
same_special_option_by holds Wired plus plus' net net' p h = same_special_wired holds plus plus' net net' p h
same_special_option_by holds Metal plus plus' net net' p h = same_special_metal holds plus plus' net net' p h
same_special_option_by holds Shape plus plus' net net' p h = same_special_shape holds plus plus' net net' p h
same_special_option_by {f} {R} holds Style plus plus' net net' p h =
    subst (λ (b : Bool). Same f (IsOpenSpecialBy f R) (choose (is_wiring net.state) refused_word (special_unused plus net)) (choose b refused_word (special_unused plus' net'))) (sym (is_wiring_again f net.state net'.state h.state))
    (same_choose _ _ _ _ _ same_refused_word (same_special_unused holds plus plus' net net' p h))
same_special_option_by holds RefusedInSpecial plus plus' net net' p h = same_refused_word
same_special_option_by holds Unused plus plus' net net' p h = same_special_unused holds plus plus' net net' p h

same_special_option : {f : Frame} {R : ℕ × ℕ → ℕ × ℕ → Type 0} → HoldsMoved f R → (plus plus' : ℕ) (net net' : OpenSpecial) → IsMoved f plus plus' → IsOpenSpecialBy f R net net' → Same f (IsOpenSpecialBy f R) (special_option f.total plus net) (special_option (f.total + f.more) plus' net')
unfolding special_option
same_special_option {f} holds plus plus' net net' p h = same_look (λ w. special_option_by (special_option_of w) f.total plus net) (λ w. special_option_by (special_option_of w) (f.total + f.more) plus' net')
    (same_special_option_by holds Unused plus plus' net net' p h)
    (λ line first line' first' word. same_special_option_by holds (special_option_of (Some (record { line = line; first = first; word = word }))) plus plus' net net' p h)
    (λ line first line' first'. same_special_option_by holds Unused plus plus' net net' p h)

-- a turn behind the number of its first word
abbrev special_turn : ℕ → OpenSpecial → ℕ → Place → Form DefError (Turn OpenSpecial)
special_turn total net at w =
    choose (bytes_eq w.word (codes ";")) (done (Done (record { wiring = with_range net.wiring (ended net.state at); state = Closed; close = w.first }))) (
    choose (bytes_eq w.word (codes "+")) (special_option total at net >>= (λ n. done (More n))) (
    check (Err (Expected w.line))))

same_more_special : {f : Frame} {R : ℕ × ℕ → ℕ × ℕ → Type 0} → HoldsMoved f R → (net net' : OpenSpecial) → IsOpenSpecialBy f R net net' → Same f (TurnsBy (IsOpenSpecialBy f R)) (more_special f.total net) (more_special (f.total + f.more) net')
unfolding more_special
same_more_special {f} {R} holds net net' h =
    same_here (λ at. next >>= special_turn f.total net at) (λ at. next >>= special_turn (f.total + f.more) net' at) (λ at at' m.
    same_next (special_turn f.total net at) (special_turn (f.total + f.more) net' at') (λ line first line' first' word.
    same_choose _ _ _ _ _ (same_done _ _ (record { wiring = ranges_again holds net net' at at' h m; state = tt })) (
    same_choose _ _ _ _ _ (same_then (IsOpenSpecialBy f R) _ _ _ _ (same_special_option holds at at' net net' m h) (λ n n' r. same_done _ _ r)) (
    same_refused _ _))))

pub same_special_item : {f : Frame} {R : ℕ × ℕ → ℕ × ℕ → Type 0} → HoldsMoved f R → (l l' : Listed DefNet) → IsListedBy (IsNetBy R) l l' → Same f (IsListedBy (IsNetBy R)) (special_item f.total l) (special_item (f.total + f.more) l')
unfolding special_item
same_special_item {f} {R} holds l l' h =
    same_name _ _ (λ line first line' first' word.
    same_bind _ _ _ _ (same_check _ _ (fits_new_name l.names l'.names line first line' first' word h.names)) (λ x.
    same_bind _ _ _ _ same_special_connections (λ y.
    same_then (IsOpenSpecialBy f R) _ _ _ _ (same_loop _ _ _ _ (same_more_special holds) (record { wiring = tt; state = tt })) (λ n n' r.
    same_done _ _ (record {
      names = ap (λ (names : List (List ℕ)). names ++ word ∷ []) h.names;
      items = pairwise_one_more (IsNetBy R) l.items l'.items _ _ h.items (record { name = refl; pins = refl; wiring = r.wiring });
      skipped = h.skipped;
    })))))

pub same_all_special : {f : Frame} {R : ℕ × ℕ → ℕ × ℕ → Type 0} → HoldsMoved f R → (section : List ℕ) (said : ℕ) (l l' : Listed DefNet) → IsListedBy (IsNetBy R) l l' → Same f (IsListedBy (IsNetBy R)) (loop (more_items section said (special_item f.total)) l) (loop (more_items section said (special_item (f.total + f.more))) l')
same_all_special {f} {R} holds section said l l' h = same_all_items (IsListedBy (IsNetBy R)) section said (special_item f.total) (special_item (f.total + f.more)) (λ m m' e. pairwise_length (IsNetBy R) m.items m'.items e.items) (same_special_item holds) l l' h
