-- A text has no more layers, vias, macros and pins of a macro than it has words.
use Rattle.std.proofs.Common.{◌≡◌, ◌≤◌, ◌+◌, ◌^◌, sym, ap, subst, ℕ, Bool, true, false, List, [], ◌∷◌, ◌++◌, length, Ok, refl, arith, codes}
use Rattle.std.specs.Prelude.{All}
use Rattle.std.proofs.lemmas.List.{length_push, length-append, length-map}
use Rattle.std.proofs.lemmas.List.Elements.{All-push, All-weaker, All-nil}
use Rattle.rt_base.specs.Sides.{Sides}
use Rattle.rt_base.specs.declared.tech.LayerNo.{LayerNo}
use Rattle.rt_base.specs.declared.tech.Via.{Via}
use Rattle.rt_base.specs.declared.token.Token.{Token}
use Rattle.rt_base.specs.Parts.{Part, Blank, Comment, Quoted, Plain, spelled, spelling, is_token, tokens_after}
use Rattle.rt_base.specs.Scan.{IsCutInto}
use Rattle.rt_forms.specs.Lexeme.{Lexeme, End, Place, places, last_line}
use Rattle.rt_forms.specs.Form.{one, loop, text, Turn, More, Done, turn}
use Rattle.rt_forms.proofs.Laws.{length_put}
use Rattle.rt_forms.specs.Reading.{rest, the_word, up_to_word, up_to_pair}
use Rattle.rt_forms.specs.Clauses.{IsText}
use Rattle.lef_text.specs.declared.lef.Lef.{Lef}
use Rattle.lef_text.specs.declared.lef.Macro.{Macro}
use Rattle.lef_text.specs.declared.library.Library.{Library}
use Rattle.lef_text.specs.declared.library.LayerLines.{LayerLines}
use Rattle.lef_text.specs.declared.library.LayerType.{LayerType}
use Rattle.lef_text.specs.declared.library.LayerType.TheVariants as types
use Rattle.lef_text.specs.declared.macro_words.MacroLine.{MacroLine}
use Rattle.lef_text.specs.declared.macro_words.MacroLine.TheVariants as macro_lines
use Rattle.lef_text.specs.declared.statement_words.Statement.{Statement}
use Rattle.lef_text.specs.declared.statement_words.Statement.TheVariants as statements
use Rattle.lef_text.specs.Words.{macro_line_of, statement_of}
use Rattle.lef_text.specs.Layers as layers
use Rattle.lef_text.specs.Vias as vias
use Rattle.lef_text.specs.Shapes as shapes
use Rattle.lef_text.specs.Shapes.{drawn}
use Rattle.lef_text.specs.Macros as macros
use Rattle.lef_text.specs.Macros.{Cell, cell_of, IsNearShape}
use Rattle.lef_text.specs.Lef as lefs
use Rattle.lef_text.proofs.Yields.{Yields, yields_then, yields_done, yields_refused}
use Rattle.lef_text.proofs.Tallies.{Tallies, Rises, TurnAt, tallies_turn, tallies_bind, tallies_then, tallies_next, tallies_done, tallies_both, tallies_loop, tallies_text}
use Rattle.lef_text.specs.Counts.{HasFew, HasRoom}
use Rattle.lef_text.specs.Faults.{lef_faults}
use Rattle.lef_text.proofs.Grammar.{lawful_statement}
use Rattle.lef_text.proofs.SoundMacros.{IsCell, near_lines}

abbrev pub HasPins : ℕ → Macro → Type 0
HasPins n m = length m.pins ≤ n

pins_rise : (m n : ℕ) (ms : List Macro) → m ≤ n → All (HasPins m) ms → All (HasPins n) ms
pins_rise m n ms le h = All-weaker (HasPins m) (HasPins n) (λ k q. omega (arith, q, le)) ms h

few_rises : Rises HasFew
few_rises = record { more = λ m n lib le h. record { layers = omega (arith, h.layers, le); vias = omega (arith, h.vias, le); macros = omega (arith, h.macros, le); pins = pins_rise m n lib.macros le h.pins; sections = omega (arith, h.sections, le) } }

-- ---- a macro

-- so many pins at most
abbrev PinsAt : ℕ → Cell → Type 0
PinsAt n s = length s.lines.pins ≤ n

pins_at_rises : Rises PinsAt
pins_at_rises = record { more = λ m n s le h. omega (arith, h, le) }

yields_pins : (units : ℕ) (name : List ℕ) (n : ℕ) (s : Cell) (w : Place) (k : MacroLine) → PinsAt n s → Yields (macros.line_by units name s w k) (TurnAt PinsAt (1 + n))
unfolding macros.pin
yields_pins units name n s w macro_lines.Size h = yields_then (macros.size units) _ (TurnAt PinsAt (1 + n)) (λ z. yields_done _ (TurnAt PinsAt (1 + n)) (omega (arith, h)))
yields_pins units name n s w macro_lines.Origin h = yields_then (macros.origin units) _ (TurnAt PinsAt (1 + n)) (λ z. yields_done _ (TurnAt PinsAt (1 + n)) (omega (arith, h)))
yields_pins units name n s w macro_lines.Pin h =
    yields_then (one (layers.new_name s.lines.pin_names)) _ (TurnAt PinsAt (1 + n)) (λ p.
    yields_then (loop (macros.pin_line units p.word) (drawn s.lib [])) _ (TurnAt PinsAt (1 + n)) (λ t.
    yields_done _ (TurnAt PinsAt (1 + n)) (omega (arith, length_push s.lines.pins (p.word, t.shapes), h))))
yields_pins units name n s w macro_lines.Obs h = yields_then (shapes.more_shapes units s.lib s.lines.obs) _ (TurnAt PinsAt (1 + n)) (λ t. yields_done _ (TurnAt PinsAt (1 + n)) (omega (arith, h)))
yields_pins units name n s w macro_lines.Density h = yields_then (up_to_word (codes "END")) _ (TurnAt PinsAt (1 + n)) (λ u. yields_done (More s) (TurnAt PinsAt (1 + n)) (omega (arith, h)))
yields_pins units name n s w macro_lines.Timing h = yields_then (up_to_pair (codes "END") (codes "TIMING")) _ (TurnAt PinsAt (1 + n)) (λ u. yields_done (More s) (TurnAt PinsAt (1 + n)) (omega (arith, h)))
yields_pins units name n s w macro_lines.Unused h = yields_then rest _ (TurnAt PinsAt (1 + n)) (λ u. yields_done (More s) (TurnAt PinsAt (1 + n)) (omega (arith, h)))
yields_pins units name n s w macro_lines.End h = yields_then (the_word name) _ (TurnAt PinsAt (1 + n)) (λ u. yields_done (Done s) (TurnAt PinsAt (1 + n)) (omega (arith, h)))
yields_pins units name n s w macro_lines.Unknown h = yields_refused _ (TurnAt PinsAt (1 + n))

-- a count after the first word of a line or of a statement
shifted : {S : Type 0} (P : ℕ → S → Type 0) (n k : ℕ) (t : Turn S) → TurnAt P ((1 + n) + k) t → TurnAt P (n + (1 + k)) t
shifted P n k t h = subst (λ (m : ℕ). TurnAt P m t) (same n k) h
  where
    same : (n k : ℕ) → (1 + n) + k ≡ n + (1 + k)
    same n k = omega arith

tallies_pins : (units : ℕ) (name : List ℕ) (lib : Library) → Tallies (loop (macros.macro_line units name) (cell_of lib macros.no_macro_lines)) (λ n. PinsAt (0 + n))
unfolding macros.macro_line
tallies_pins units name lib =
    tallies_loop (macros.macro_line units name) (cell_of lib macros.no_macro_lines) PinsAt 0
    (λ n s h. tallies_next _ (λ k. TurnAt PinsAt (n + k)) (λ w.
    let y = tallies_turn (macros.line_by units name s w (macro_line_of w.word)) PinsAt (1 + n) pins_at_rises (yields_pins units name n s w (macro_line_of w.word) h) in
    record { all = λ words rest t q. shifted PinsAt n (length words) t (y.all words rest t q) }))
    (omega arith)

-- a macro that was added
macro_few : (n m : ℕ) (lib : Library) (skipped : List (List ℕ × ℕ)) (k : Macro) → HasFew n lib → length k.pins ≤ m → HasFew ((1 + n) + m) (macros.with_macro (record lib { skipped = skipped }) k)
macro_few n m lib skipped k h p = record {
  layers = omega (arith, h.layers);
  vias = omega (arith, h.vias);
  macros = omega (arith, length_push lib.macros k, h.macros);
  pins = All-push (HasPins ((1 + n) + m)) lib.macros k (pins_rise n ((1 + n) + m) lib.macros (omega arith) h.pins) (omega (arith, p));
  sections = omega (arith, h.sections);
}

tallies_body : (units n : ℕ) (lib : Library) (name : List ℕ) → HasFew n lib → Tallies (macros.macro_body units lib name) (λ k. TurnAt HasFew ((1 + n) + k))
unfolding macros.macro_body
tallies_body units n lib name h =
    tallies_bind (loop (macros.macro_line units name) (cell_of lib macros.no_macro_lines)) _ (λ m s. PinsAt (0 + m) s × IsCell lib IsNearShape s) (λ k. TurnAt HasFew ((1 + n) + k))
    (tallies_both _ (λ m. PinsAt (0 + m)) (IsCell lib IsNearShape) (tallies_pins units name lib) (near_lines units name lib))
    (λ m s q. tallies_done _ _ (λ k. few_rises.more ((1 + n) + m) ((1 + n) + (m + k)) _ (omega arith)
    (subst (λ (l : Library). HasFew ((1 + n) + m) (macros.with_macro l (macros.macro_of name s.lines))) (sym q.1.same)
    (macro_few n m lib s.lib.skipped (macros.macro_of name s.lines) h (omega (arith, q.0, length-map s.lines.pins (macros.moved_pin s.lines.origin)))))))

tallies_macro : (units n : ℕ) (lib : Library) → HasFew n lib → Tallies (macros.macro_statement units lib) (λ k. TurnAt HasFew ((1 + n) + k))
unfolding macros.macro_statement
tallies_macro units n lib h =
    tallies_then (one (layers.new_name lib.macro_names)) _ (λ k. TurnAt HasFew ((1 + n) + k)) (λ j p.
    let lib0 = macros.with_macro_name lib p.word in
    let y = tallies_body units n lib0 p.word (record { layers = h.layers; vias = h.vias; macros = h.macros; pins = h.pins; sections = h.sections }) in
    record { all = λ words rest t q. later j (length words) t (y.all words rest t q) })
  where
    later : (j k : ℕ) (t : Turn Library) → TurnAt HasFew ((1 + n) + k) t → TurnAt HasFew ((1 + n) + (j + k)) t
    later j k (More l) q = few_rises.more ((1 + n) + k) ((1 + n) + (j + k)) l (omega arith) q
    later j k (Done l) q = few_rises.more ((1 + n) + k) ((1 + n) + (j + k)) l (omega arith) q

-- ---- the other statements

abbrev FewTurn : ℕ → Turn Library → Type 0
FewTurn n t = TurnAt HasFew n t

layer_few : (n : ℕ) (lib : Library) (name : List ℕ) (s : LayerLines) → HasFew n lib → HasFew (1 + n) (layers.with_layer (layers.with_layer_name lib name) s)
layer_few n lib name s h = record {
  layers = omega (arith, length_push lib.layers (layers.layer_at_end s), h.layers);
  vias = omega (arith, h.vias);
  macros = omega (arith, h.macros);
  pins = pins_rise n (1 + n) lib.macros (omega arith) h.pins;
  sections = omega (arith, h.sections);
}

same_few : (n : ℕ) (lib new : Library) → HasFew n lib → new.layers ≡ lib.layers → new.vias ≡ lib.vias → new.macros ≡ lib.macros → new.sections ≤ 1 + n → HasFew (1 + n) new
same_few n lib new h l v m s = record {
  layers = omega (arith, ap length l, h.layers);
  vias = omega (arith, ap length v, h.vias);
  macros = omega (arith, ap length m, h.macros);
  pins = subst (All (HasPins (1 + n))) (sym m) (pins_rise n (1 + n) lib.macros (omega arith) h.pins);
  sections = s;
}

yields_layer_by : (units n : ℕ) (lib : Library) (name : List ℕ) (type : LayerType) → HasFew n lib → Yields (layers.layer_by units (layers.with_layer_name lib name) name type) (FewTurn (1 + n))
unfolding layers.used_layer layers.dropped_layer
yields_layer_by units n lib name types.Routing h = yields_then (loop (layers.layer_line units lib.top) (layers.no_lines name true)) _ (FewTurn (1 + n)) (λ s. yields_done _ (FewTurn (1 + n)) (layer_few n lib name s h))
yields_layer_by units n lib name types.Cut h = yields_then (loop (layers.layer_line units lib.top) (layers.no_lines name false)) _ (FewTurn (1 + n)) (λ s. yields_done _ (FewTurn (1 + n)) (layer_few n lib name s h))
yields_layer_by units n lib name types.Other h = yields_then (loop (layers.dropped_line name) tt) _ (FewTurn (1 + n)) (λ u. yields_done _ (FewTurn (1 + n)) (same_few n lib _ h refl refl refl (omega (arith, h.sections))))

yields_layer : (units n : ℕ) (lib : Library) → HasFew n lib → Yields (layers.layer_statement units lib) (FewTurn (1 + n))
unfolding layers.layer_statement
yields_layer units n lib h =
    yields_then (one (layers.new_name lib.layer_names)) _ (FewTurn (1 + n)) (λ p. yields_then layers.layer_type _ (FewTurn (1 + n)) (λ t. yields_layer_by units n lib p.word t h))

via_few : (n : ℕ) (lib : Library) (name : List ℕ) (usable : Bool) (rects : List (LayerNo × Sides)) → HasFew n lib → HasFew (1 + n) (vias.with_via (vias.with_via_name lib name) name usable rects)
via_few n lib name usable rects h =
    let v : Via = record { name = name; usable = usable; rects = rects } in
    record {
      layers = omega (arith, h.layers);
      vias = omega (arith, length_push lib.vias v, h.vias);
      macros = omega (arith, h.macros);
      pins = pins_rise n (1 + n) lib.macros (omega arith) h.pins;
      sections = omega (arith, h.sections);
    }

yields_via : (units n : ℕ) (lib : Library) → HasFew n lib → Yields (vias.via_statement units lib) (FewTurn (1 + n))
unfolding vias.via_statement
yields_via units n lib h =
    yields_then (one (vias.via_name lib.via_names)) _ (FewTurn (1 + n)) (λ p. yields_then (vias.optional (codes "DEFAULT")) _ (FewTurn (1 + n)) (λ usable. yields_then (vias.optional (codes "TOPOFSTACKONLY")) _ (FewTurn (1 + n)) (λ u.
    yields_then (vias.via_rects units (vias.with_via_name lib p.word) p.word) _ (FewTurn (1 + n)) (λ rects. yields_done _ (FewTurn (1 + n)) (via_few n lib p.word usable rects h)))))

yields_same : (n : ℕ) (lib : Library) → HasFew n lib → FewTurn (1 + n) (More lib)
yields_same n lib h = same_few n lib lib h refl refl refl (omega (arith, h.sections))

tallies_by : (units n : ℕ) (lib : Library) (w : Place) (k : Statement) → HasFew n lib → Tallies (lefs.statement_by units lib w k) (λ j. FewTurn ((1 + n) + j))
tallies_by units n lib w statements.Units h = tallies_turn _ HasFew (1 + n) few_rises (yields_then (loop lefs.units_line lib.units) _ (FewTurn (1 + n)) (λ u. yields_done _ (FewTurn (1 + n)) (same_few n lib _ h refl refl refl (omega (arith, h.sections)))))
tallies_by units n lib w statements.Unused h = tallies_turn _ HasFew (1 + n) few_rises (yields_then rest _ (FewTurn (1 + n)) (λ u. yields_done (More lib) (FewTurn (1 + n)) (yields_same n lib h)))
tallies_by units n lib w statements.Properties h = tallies_turn _ HasFew (1 + n) few_rises (yields_then (up_to_pair (codes "END") (codes "PROPERTYDEFINITIONS")) _ (FewTurn (1 + n)) (λ u. yields_done (More lib) (FewTurn (1 + n)) (yields_same n lib h)))
tallies_by units n lib w statements.Spacings h = tallies_turn _ HasFew (1 + n) few_rises (yields_then (up_to_pair (codes "END") (codes "SPACING")) _ (FewTurn (1 + n)) (λ u. yields_done (More lib) (FewTurn (1 + n)) (yields_same n lib h)))
tallies_by units n lib w statements.Extension h = tallies_turn _ HasFew (1 + n) few_rises (yields_then (up_to_word (codes "ENDEXT")) _ (FewTurn (1 + n)) (λ u. yields_done (More lib) (FewTurn (1 + n)) (yields_same n lib h)))
tallies_by units n lib w statements.Site h = tallies_turn _ HasFew (1 + n) few_rises (yields_then lefs.named_section _ (FewTurn (1 + n)) (λ u. yields_done (More lib) (FewTurn (1 + n)) (yields_same n lib h)))
tallies_by units n lib w statements.Rule h = tallies_turn _ HasFew (1 + n) few_rises (yields_then lefs.named_section _ (FewTurn (1 + n)) (λ u. yields_done _ (FewTurn (1 + n)) (same_few n lib _ h refl refl refl (omega (arith, h.sections)))))
tallies_by units n lib w statements.Layer h = tallies_turn _ HasFew (1 + n) few_rises (yields_layer units n lib h)
tallies_by units n lib w statements.Via h = tallies_turn _ HasFew (1 + n) few_rises (yields_via units n lib h)
tallies_by units n lib w statements.Macro h = tallies_macro units n lib h
tallies_by units n lib w statements.End h = tallies_turn _ HasFew (1 + n) few_rises (yields_then (the_word (codes "LIBRARY")) _ (FewTurn (1 + n)) (λ u. yields_done (Done lib) (FewTurn (1 + n)) (yields_same n lib h)))
tallies_by units n lib w statements.Unknown h = tallies_turn _ HasFew (1 + n) few_rises (yields_refused _ (FewTurn (1 + n)))

-- ---- the text

-- no more of anything in a LEF than so many words
pub record HasFewOf (n : ℕ) (l : Lef) : Type 0 where
  pub layers : length l.layers ≤ n
  pub vias : length l.vias ≤ n
  pub macros : length l.macros ≤ n
  pub pins : All (HasPins n) l.macros

tallies_statement : (units n : ℕ) (lib : Library) → HasFew n lib → Tallies (lefs.statement units lib) (λ k. FewTurn (n + k))
unfolding lefs.statement
tallies_statement units n lib h =
    tallies_next _ (λ k. FewTurn (n + k)) (λ w.
    let y = tallies_by units n lib w (statement_of w.word) h in
    record { all = λ words rest t q. shifted HasFew n (length words) t (y.all words rest t q) })

tallies_lef : (units : ℕ) → Tallies (lefs.lef units) HasFewOf
unfolding lefs.lef
tallies_lef units =
    tallies_bind (text (lefs.statement units) lefs.empty) _ HasFew HasFewOf
    (tallies_text (lefs.statement units) lefs.empty HasFew few_rises (λ n lib h. tallies_statement units n lib h)
    (record { layers = omega arith; vias = omega arith; macros = omega arith; pins = All-nil _; sections = omega arith }))
    (λ n lib h. tallies_done (lefs.lef_of lib) (λ k. HasFewOf (n + k)) (λ k. record { layers = omega (arith, h.layers); vias = omega (arith, h.vias); macros = omega (arith, h.macros); pins = pins_rise n (n + k) lib.macros (omega arith) h.pins }))

-- ---- a text has no more words than bytes

some_bytes : (p : Part) → is_token p ≡ true → 1 ≤ length (spelled p)
some_bytes (Blank b) h = absurd cc
some_bytes (Comment bs) h = absurd cc
some_bytes (Quoted bs) h = omega arith
some_bytes (Plain b bs) h = omega arith

few_parts : (text before : List ℕ) (ps : List Part) → length (places text (tokens_after before ps)) ≤ length (spelling ps)
few_parts text before [] = omega arith
few_parts text before (p ∷ ps) = at (is_token p) refl (few_parts text (before ++ spelled p) ps)
  where
    at : (b : Bool) → is_token p ≡ b → length (places text (tokens_after (before ++ spelled p) ps)) ≤ length (spelling ps) → length (places text (tokens_after before (p ∷ ps))) ≤ length (spelling (p ∷ ps))
    at true e h = let some = some_bytes p e in rw e (omega (arith, length-append (spelled p) (spelling ps), h, some))
    at false e h = rw e (omega (arith, length-append (spelled p) (spelling ps), h))

few_words : (text : List ℕ) (tokens : List Token) → IsCutInto text tokens → length (places text tokens) ≤ length text
few_words text tokens cut = rw cut.made.same (omega (arith, few_parts text [] cut.made.parts, ap length cut.made.whole))

-- so that it has as many tokens at most
pub few_tokens : (text : List ℕ) (tokens : List Token) → IsCutInto text tokens → length tokens ≤ length text
few_tokens text tokens cut = omega (arith, as_many text tokens, few_words text tokens cut)
  where
    as_many : (text : List ℕ) (ts : List Token) → length (places text ts) ≡ length ts
    as_many text [] = refl
    as_many text (t ∷ ts) = omega (arith, as_many text ts)

pub few_of : (units : ℕ) (text : List ℕ) (tokens : List Token) (l : Lef) → IsCutInto text tokens → IsText (lefs.lef units) text tokens l → HasFewOf (length text) l
few_of units text tokens l cut is =
    let h = (tallies_lef units).all (places text tokens) (End (last_line tokens) ∷ []) l is in
    let le = few_words text tokens cut in
    record { layers = omega (arith, h.layers); vias = omega (arith, h.vias); macros = omega (arith, h.macros); pins = pins_rise (length (places text tokens)) (length text) l.macros le h.pins }

-- ---- what there is room for

pub room_shorter : (lib : Library) (old new : List Lexeme) → HasRoom lib old → length new ≤ length old → HasRoom lib new
room_shorter lib old new h le = record { before = h.before; few = h.few; room = omega (arith, h.room, le) }

-- another name of a layer is none of what is counted
pub room_named : (lib : Library) (names : List (List ℕ)) (words : List Lexeme) → HasRoom lib words → HasRoom (record lib { layer_names = names }) words
room_named lib names words h = record { before = h.before; few = record { layers = h.few.layers; vias = h.few.vias; macros = h.few.macros; pins = h.few.pins; sections = h.few.sections }; room = h.room }

pub room_begins : (words : List Lexeme) → length words ≤ 2 ^ 32 → HasRoom lefs.empty words
room_begins words le = record {
  before = 0;
  few = record { layers = omega arith; vias = omega arith; macros = omega arith; pins = All-nil _; sections = omega arith };
  room = omega (arith, le);
}

of_turn : (b : Bool) (n : ℕ) (lib : Library) → FewTurn n (turn b lib) → HasFew n lib
of_turn true n lib h = h
of_turn false n lib h = h

-- after a statement
pub room_more : (units : ℕ) (lib new : Library) (old words : List Lexeme) (last : Bool) → HasRoom lib old → (lefs.statement units lib).read lef_faults old ≡ Ok (turn last new, words) → HasRoom new words
room_more units lib new old words last h e =
    let found = (lawful_statement units lib).found lef_faults old words (turn last new) e in
    let front : List Place = found.0 in
    let few : FewTurn (h.before + length front) (turn last new) = (tallies_statement units h.before lib h.few).all front words (turn last new) found.2 in
    record {
      before = h.before + length front;
      few = of_turn last (h.before + length front) new few;
      room = omega (arith, h.room, ap length found.1, length_put front words);
    }
