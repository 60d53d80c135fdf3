-- A net of NETS, with wiring that is put in before its closing `;`.
use Rattle.std.proofs.Common.{◌≡◌, ℕ, ◌+◌, true, List, [], ◌∷◌, ◌++◌, length, map, codes, refl, ap, sym, ◌∙◌}
use Rattle.std.proofs.lemmas.List.{map-append}
use Rattle.rt_forms.specs.Lexeme.{Place}
use Rattle.rt_forms.specs.Form.{Form, check, done, ◌>>=◌, loop}
use Rattle.rt_forms.specs.Reading.{a_name}
use Rattle.def_text.specs.declared.error.DefError.{DefError}
use Rattle.def_text.specs.declared.def.DefNet.{DefNet}
use Rattle.def_text.specs.declared.nets.OpenNet.{OpenNet}
use Rattle.def_text.specs.declared.sections.Listed.{Listed}
use Rattle.def_text.specs.Sections.{new_name}
use Rattle.def_text.specs.Nets.{joined_by_must, connections, more_net, net_item}
use Rattle.same_words.specs.Same.{Frame}
use Rattle.same_words.specs.Values.{Equal, IsSameWord, Pairwise, Fits}
use Rattle.same_words.specs.States.{HoldsMoved}
use Rattle.same_words.proofs.Combining.{at_places, same_name_word, same_check, fits_if, fits_self, fits_refused}
use Rattle.same_words.proofs.Parts.{fits_new_name}
use Rattle.same_words.proofs.Nets.{same_connections}
use Rattle.def_again.specs.Again.{IsOption, range_words, range_behind, IsNetAgain}
use Rattle.def_again.proofs.Opening.{Ends, takes_ends, ends_bind, ends_done, ends_loop, Opens, opens_bind, opens_done}
use Rattle.def_again.proofs.Routed.{closes}
use Rattle.def_again.proofs.Options.{IsNetGrown, opens_options}

-- two ranges of the same words
abbrev pub SameRange : List Place → List Place → ℕ × ℕ → ℕ × ℕ → Type 0
SameRange old new r q = range_words new q ≡ range_words old r

pub ranges_words : (old new : List Place) (rs qs : List (ℕ × ℕ)) → Pairwise (SameRange old new) rs qs → map (range_words new) qs ≡ map (range_words old) rs
ranges_words old new [] [] h = refl
ranges_words old new [] (q ∷ qs) h = absurd h
ranges_words old new (r ∷ rs) [] h = absurd h
ranges_words old new (r ∷ rs) (q ∷ qs) h = let one = h.0 in let more = ranges_words old new rs qs h.1 in cc

-- ---- an item, part by part

abbrev empty_net : Listed DefNet → OpenNet
empty_net l = record { wiring = []; close = 0; skipped = l.skipped }

abbrev net_of : Place → List (List ℕ × List ℕ) → OpenNet → DefNet
net_of name pins net = record { name = name.word; pins = pins; wiring = net.wiring; close = net.close }

abbrev with_net : Listed DefNet → Place → List (List ℕ × List ℕ) → OpenNet → Listed DefNet
with_net l name pins net = record { names = l.names ++ name.word ∷ []; items = l.items ++ net_of name pins net ∷ []; skipped = net.skipped }

abbrev behind_pins : ℕ → Listed DefNet → Place → List (List ℕ × List ℕ) → Form DefError (Listed DefNet)
behind_pins total l name pins = loop (more_net total) (empty_net l) >>= (λ net. done (with_net l name pins net))

abbrev behind_new : ℕ → Listed DefNet → Place → Form DefError (Listed DefNet)
behind_new total l name = connections >>= behind_pins total l name

abbrev behind_must : ℕ → Listed DefNet → Place → Form DefError (Listed DefNet)
behind_must total l name = check (new_name l.names name) >>= (λ x. behind_new total l name)

abbrev behind_name : ℕ → Listed DefNet → Place → Form DefError (Listed DefNet)
behind_name total l name = check (joined_by_must name) >>= (λ x. behind_must total l name)

-- ---- the closing `;`

abbrev IsNetClose : OpenNet → Place → Type 0
IsNetClose net mark = (mark.first ≡ net.close) × (mark.word ≡ codes ";")

-- a word closes the net that a list got last
pub record IsItemClose (l m : Listed DefNet) (mark : Place) : Type 0 where
  pub net : DefNet
  pub items : m.items ≡ l.items ++ net ∷ []
  pub place : mark.first ≡ net.close
  pub semicolon : mark.word ≡ codes ";"

ends_options : (total : ℕ) (net : OpenNet) → Ends IsNetClose (loop (more_net total) net)
ends_options total net = ends_loop IsNetClose (more_net total) (λ s front rest t h.
    let c = closes total s front rest t h in
    record { before = []; mark = c.mark; whole = c.whole; fits = (sym (ap (λ (y : OpenNet). y.close) c.net), c.semicolon) }) net

ends_pins : (total : ℕ) (l : Listed DefNet) (name : Place) (pins : List (List ℕ × List ℕ)) → Ends (IsItemClose l) (behind_pins total l name pins)
ends_pins total l name pins = ends_done IsNetClose (IsItemClose l) (loop (more_net total) (empty_net l)) (with_net l name pins) (ends_options total (empty_net l))
    (λ net mark h. record { net = net_of name pins net; items = refl; place = h.0; semicolon = h.1 })

ends_new : (total : ℕ) (l : Listed DefNet) (name : Place) → Ends (IsItemClose l) (behind_new total l name)
ends_new total l name = ends_bind (IsItemClose l) connections (behind_pins total l name) (ends_pins total l name)

ends_must : (total : ℕ) (l : Listed DefNet) (name : Place) → Ends (IsItemClose l) (behind_must total l name)
ends_must total l name = ends_bind (IsItemClose l) (check (new_name l.names name)) (λ x. behind_new total l name) (λ x. ends_new total l name)

ends_name : (total : ℕ) (l : Listed DefNet) (name : Place) → Ends (IsItemClose l) (behind_name total l name)
ends_name total l name = ends_bind (IsItemClose l) (check (joined_by_must name)) (λ x. behind_must total l name) (λ x. ends_must total l name)

pub ends_item : (total : ℕ) (l : Listed DefNet) → Ends (IsItemClose l) (net_item total l)
unfolding net_item
ends_item total l = ends_bind (IsItemClose l) a_name (behind_name total l) (ends_name total l)

-- ---- with words that are put in

-- lists that got a net each, the same but for what was put in
pub record IsItemGrown (old new : List Place) (added : List (List ℕ)) (l l' m m' : Listed DefNet) : Type 0 where
  pub net : DefNet
  pub net' : DefNet
  pub items : m.items ≡ l.items ++ net ∷ []
  pub items' : m'.items ≡ l'.items ++ net' ∷ []
  pub names : m'.names ≡ m.names
  pub skipped : m'.skipped ≡ m.skipped
  pub again : IsNetAgain old new added net net'

grown_wiring : (old new : List Place) (added : List (List ℕ)) (m n : OpenNet) → IsNetGrown (SameRange old new) new added m n → map (range_words new) n.wiring ≡ map (range_words old) m.wiring ++ range_behind added
grown_wiring old new added m n g =
    ap (map (range_words new)) g.wiring ∙ map-append (range_words new) g.moved g.behind ∙ ap (λ (v : List (List (List ℕ))). v ++ map (range_words new) g.behind) (ranges_words old new m.wiring g.moved g.same)
    ∙ ap (λ (v : List (List (List ℕ))). map (range_words old) m.wiring ++ v) g.words

fits_joined : (line first line' first' : ℕ) (word : List ℕ) → Fits (joined_by_must (record { line = line; first = first; word = word })) (joined_by_must (record { line = line'; first = first'; word = word }))
fits_joined line first line' first' word = search (fits_if, fits_self, fits_refused)

module _ (old new : List Place) (f : Frame) (added : List (List ℕ)) (holds : HoldsMoved f (SameRange old new)) (lax : f.lax ≡ true) (option : IsOption added) (all : f.total + f.more ≡ length new) (l l' : Listed DefNet) (names : l'.names ≡ l.names) (skipped : l'.skipped ≡ l.skipped) where
  opens_pins : (name name' : Place) (pins pins' : List (List ℕ × List ℕ)) → name'.word ≡ name.word → pins' ≡ pins → Opens new f added (IsItemGrown old new added l l') (behind_pins f.total l name pins) (behind_pins (f.total + f.more) l' name' pins')
  opens_pins name name' pins pins' w p =
      opens_done new f added (IsNetGrown (SameRange old new) new added) (IsItemGrown old new added l l') (loop (more_net f.total) (empty_net l)) (loop (more_net (f.total + f.more)) (empty_net l')) (with_net l name pins) (with_net l' name' pins')
      (opens_options new added holds lax option all (empty_net l) (empty_net l') (record { wiring = tt; skipped = skipped }))
      (λ m n g. record {
        net = net_of name pins m;
        net' = net_of name' pins' n;
        items = refl;
        items' = refl;
        names = cc;
        skipped = g.skipped;
        again = record { name = w; pins = p; wiring = grown_wiring old new added m n g };
      })

  opens_new : (name name' : Place) → name'.word ≡ name.word → Opens new f added (IsItemGrown old new added l l') (behind_new f.total l name) (behind_new (f.total + f.more) l' name')
  opens_new name name' w =
      opens_bind new f added Equal (IsItemGrown old new added l l') connections connections (behind_pins f.total l name) (behind_pins (f.total + f.more) l' name') lax option same_connections
      (λ pins. takes_ends (IsItemClose l) (behind_pins f.total l name pins) (ends_pins f.total l name pins)) (λ pins pins' p. opens_pins name name' pins pins' w p)

  opens_must : (name name' : Place) → name'.word ≡ name.word → Opens new f added (IsItemGrown old new added l l') (behind_must f.total l name) (behind_must (f.total + f.more) l' name')
  opens_must name name' w =
      opens_bind new f added Equal (IsItemGrown old new added l l') (check (new_name l.names name)) (check (new_name l'.names name')) (λ x. behind_new f.total l name) (λ x. behind_new (f.total + f.more) l' name') lax option
      (same_check _ _ (at_places (λ p q. Fits (new_name l.names p) (new_name l'.names q)) (λ line first line' first' word. fits_new_name l.names l'.names line first line' first' word names) name name' w))
      (λ x. takes_ends (IsItemClose l) (behind_new f.total l name) (ends_new f.total l name)) (λ x y e. opens_new name name' w)

  opens_name : (name name' : Place) → name'.word ≡ name.word → Opens new f added (IsItemGrown old new added l l') (behind_name f.total l name) (behind_name (f.total + f.more) l' name')
  opens_name name name' w =
      opens_bind new f added Equal (IsItemGrown old new added l l') (check (joined_by_must name)) (check (joined_by_must name')) (λ x. behind_must f.total l name) (λ x. behind_must (f.total + f.more) l' name') lax option
      (same_check _ _ (at_places (λ p q. Fits (joined_by_must p) (joined_by_must q)) fits_joined name name' w))
      (λ x. takes_ends (IsItemClose l) (behind_must f.total l name) (ends_must f.total l name)) (λ x y e. opens_must name name' w)

  pub opens_item : Opens new f added (IsItemGrown old new added l l') (net_item f.total l) (net_item (f.total + f.more) l')
  unfolding net_item
  opens_item =
      opens_bind new f added IsSameWord (IsItemGrown old new added l l') a_name a_name (behind_name f.total l) (behind_name (f.total + f.more) l') lax option same_name_word
      (λ name. takes_ends (IsItemClose l) (behind_name f.total l name) (ends_name f.total l name)) opens_name
