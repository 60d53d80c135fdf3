-- Statements but NETS, of both texts.
use Rattle.std.proofs.Common.{◌≡◌, ◌≢◌, ◌⊎◌, inl, inr, ℕ, ◌+◌, false, List, [], ◌∷◌, ◌++◌, length, Option, Some, None, refl, ap, sym, ◌∙◌, subst, arith, length-append}
use Rattle.rt_forms.specs.Lexeme.{Lexeme, Place, first_of}
use Rattle.rt_forms.specs.Form.{Turn, More, Done}
use Rattle.written.specs.Cuts.{bytes_of}
use Rattle.def_text.specs.declared.kinds.Statement.{Statement}
use Rattle.def_text.specs.declared.kinds.Statement.TheVariants.{Nets}
use Rattle.def_text.specs.declared.def.DefNet.{DefNet}
use Rattle.def_text.specs.declared.def.DefVia.{DefVia}
use Rattle.def_text.specs.declared.statements.Parsed.{Parsed}
use Rattle.def_text.specs.Kinds.{statement_of}
use Rattle.def_text.specs.Texts.{statement_by, statement}
use Rattle.same_words.specs.Same.{Frame, SameFirst, Same}
use Rattle.same_words.specs.Values.{TurnsBy, Pairwise, OptionBy}
use Rattle.same_words.specs.States.{HoldsMoved, IsViaBy, IsNetBy, IsParsedBy}
use Rattle.same_words.proofs.Combining.{at_places}
use Rattle.same_words.proofs.Statements.{same_statement_by}
use Rattle.def_again.proofs.Lists.{split_one, Lies, lies_second}
use Rattle.def_again.proofs.Items.{SameRange}
use Rattle.def_again.proofs.Frames.{frame_of, holds_moved, IsLonger, taken_again}

-- a statement by its first word
pub record IsStatement (s : Parsed) (words : List Place) (rest : List Lexeme) (t : Turn Parsed) : Type 0 where
  pub word : Place
  pub behind : List Place
  pub whole : words ≡ word ∷ behind
  pub taken : (statement_by (statement_of word.word) word s).takes behind rest t

pub statement_turn : (s : Parsed) (words : List Place) (rest : List Lexeme) (t : Turn Parsed) → (statement s).takes words rest t → IsStatement s words rest t
unfolding statement
statement_turn s words rest t h = record { word = h.0; behind = h.2; whole = h.3 ∙ ap (λ (v : List Place). v ++ h.2) h.4; taken = h.5 }

pub turn_of_statement : (s : Parsed) (word : Place) (behind : List Place) (rest : List Lexeme) (t : Turn Parsed) → (statement_by (statement_of word.word) word s).takes behind rest t → (statement s).takes (word ∷ behind) rest t
unfolding statement
turn_of_statement s word behind rest t h = (word, word ∷ [], behind, refl, refl, h)

pub is_nets : (kind : Statement) → (kind ≡ Nets) ⊎ (kind ≢ Nets)
is_nets Nets = inl refl
is_nets kind = inr (λ e. absurd cc)

same_other : (f : Frame) (R : ℕ × ℕ → ℕ × ℕ → Type 0) (N : Option (List DefNet) → Option (List DefNet) → Type 0) → HoldsMoved f R → (s s' : Parsed) → IsParsedBy f.total f.more R N s s' → (p q : Place) → q.word ≡ p.word → statement_of p.word ≢ Nets
    → Same f (TurnsBy (IsParsedBy f.total f.more R N)) (statement_by (statement_of p.word) p s) (statement_by (statement_of q.word) q s')
same_other f R N holds s s' h p q e other =
    at_places (λ p q. statement_of p.word ≢ Nets → Same f (TurnsBy (IsParsedBy f.total f.more R N)) (statement_by (statement_of p.word) p s) (statement_by (statement_of q.word) q s'))
    (λ line first line' first' word other. same_statement_by holds (statement_of word) other line first line' first' word s s' h) p q e other

-- with any relation that holds of moved ranges
by_any : (old new gone gone' front front' : List Place) (rest rest' : List Lexeme) (more before : ℕ) (R : ℕ × ℕ → ℕ × ℕ → Type 0) (N : Option (List DefNet) → Option (List DefNet) → Type 0) (s s' : Parsed) (t : Turn Parsed)
    → Lies old gone front rest → Lies new gone' front' rest' → bytes_of front' ≡ bytes_of front → IsLonger old new gone gone' more before → SameFirst false (first_of rest) (first_of rest') → IsParsedBy (length old) more R N s s'
    → ((gone gone' stretch stretch' : List Place) → Lies old gone stretch rest → Lies new gone' stretch' rest' → bytes_of stretch' ≡ bytes_of stretch → length gone' ≡ length gone + before → HoldsMoved (frame_of old gone stretch more before false) R)
    → (i : IsStatement s front rest t) → statement_of i.word.word ≢ Nets → (t' : Turn Parsed) × TurnsBy (IsParsedBy (length old) more R N) t t' × (statement s').takes front' rest' t'
by_any old new gone gone' front front' rest rest' more before R N s s' t lies lies' same longer first h holds i other =
    let w = split_one front' i.word.word (bytes_of i.behind) (same ∙ ap bytes_of i.whole) in
    let at = lies_second old gone (i.word ∷ []) i.behind rest (subst (λ (v : List Place). Lies old gone v rest) i.whole lies) in
    let at' = lies_second new gone' (w.place ∷ []) w.back rest' (subst (λ (v : List Place). Lies new gone' v rest') w.whole lies') in
    let behind : length (gone' ++ w.place ∷ []) ≡ length (gone ++ i.word ∷ []) + before = omega (arith, longer.behind, length-append gone (i.word ∷ []), length-append gone' (w.place ∷ [])) in
    let longer' : IsLonger old new (gone ++ i.word ∷ []) (gone' ++ w.place ∷ []) more before = record { long = longer.long; behind = behind } in
    let f = frame_of old (gone ++ i.word ∷ []) i.behind more before false in
    let moved = holds (gone ++ i.word ∷ []) (gone' ++ w.place ∷ []) i.behind w.back at at' w.second behind in
    let x = taken_again old new (gone ++ i.word ∷ []) (gone' ++ w.place ∷ []) i.behind w.back rest rest' more before (TurnsBy (IsParsedBy (length old) more R N)) (statement_by (statement_of i.word.word) i.word s) (statement_by (statement_of w.place.word) w.place s') t
    at at' w.second longer' first (same_other f R N moved s s' h i.word w.place w.first other) i.taken in
    let turn = turn_of_statement s' w.place w.back rest' x.0 x.2 in
    (x.0, x.1, subst (λ (v : List Place). (statement s').takes v rest' x.0) (sym w.whole) turn)

pub other_again : (old new gone gone' front front' : List Place) (rest rest' : List Lexeme) (more before : ℕ) (N : Option (List DefNet) → Option (List DefNet) → Type 0) (s s' : Parsed) (t : Turn Parsed)
    → Lies old gone front rest → Lies new gone' front' rest' → bytes_of front' ≡ bytes_of front → IsLonger old new gone gone' more before → SameFirst false (first_of rest) (first_of rest') → IsParsedBy (length old) more (SameRange old new) N s s'
    → (i : IsStatement s front rest t) → statement_of i.word.word ≢ Nets → (t' : Turn Parsed) × TurnsBy (IsParsedBy (length old) more (SameRange old new) N) t t' × (statement s').takes front' rest' t'
other_again old new gone gone' front front' rest rest' more before N s s' t lies lies' same longer first h i other =
    by_any old new gone gone' front front' rest rest' more before (SameRange old new) N s s' t lies lies' same longer first h
    (λ g g' stretch stretch' at at' words behind. holds_moved old new g g' stretch stretch' rest rest' more before false at at' words behind) i other

-- ---- what a statement but NETS keeps

any_vias : (vs : List DefVia) → Pairwise (IsViaBy (λ r q. Unit {0})) vs vs
any_vias [] = tt
any_vias (v ∷ vs) = (record { name = refl; tokens = tt }, any_vias vs)

any_ranges : (rs : List (ℕ × ℕ)) → Pairwise (λ (r q : ℕ × ℕ). Unit {0}) rs rs
any_ranges [] = tt
any_ranges (r ∷ rs) = (tt, any_ranges rs)

any_nets : (ns : List DefNet) → Pairwise (IsNetBy (λ r q. Unit {0})) ns ns
any_nets [] = tt
any_nets (n ∷ ns) = (record { name = refl; pins = refl; wiring = any_ranges n.wiring }, any_nets ns)

any_option : {A : Type 0} (R : A → A → Type 0) → ((a : A) → R a a) → (o : Option A) → OptionBy R o o
any_option R h None = tt
any_option R h (Some a) = h a

same_first_self : (o : Option Place) → SameFirst false o o
same_first_self None = tt
same_first_self (Some p) = inl refl

abbrev pub of_turn : Turn Parsed → Parsed
of_turn (More s) = s
of_turn (Done s) = s

-- the nets, and how many words the text has
pub record Keeps (total : ℕ) (s t : Parsed) : Type 0 where
  pub nets : t.nets ≡ s.nets
  pub all : t.total ≡ total

pub keeps : (old gone front : List Place) (rest : List Lexeme) (s : Parsed) (t : Turn Parsed) → Lies old gone front rest → s.total ≡ length old → (i : IsStatement s front rest t) → statement_of i.word.word ≢ Nets → Keeps (length old) s (of_turn t)
keeps old gone front rest s t lies all i other =
    let N = λ (o o' : Option (List DefNet)). o ≡ s.nets in
    let R = λ (r q : ℕ × ℕ). Unit {0} in
    let h : IsParsedBy (length old) 0 R N s s = record {
      all = all;
      all' = omega arith;
      units = refl;
      die = refl;
      tracks = refl;
      vias = any_option (Pairwise (IsViaBy R)) any_vias s.vias;
      components = refl;
      pins = refl;
      blockages = refl;
      special = any_option (Pairwise (IsNetBy R)) any_nets s.special;
      nets = refl;
      skipped = refl;
    } in
    let x = by_any old old gone gone front front rest rest 0 0 R N s s t lies lies refl (record { long = omega arith; behind = omega arith }) (same_first_self (first_of rest)) h (λ g g' stretch stretch' at at' words behind. record { moved = λ r q m. tt }) i other in
    go t x.0 x.1
  where
    go : (t t' : Turn Parsed) → TurnsBy (IsParsedBy (length old) 0 (λ r q. Unit {0}) (λ o o'. o ≡ s.nets)) t t' → Keeps (length old) s (of_turn t)
    go (More u) (More u') r = record { nets = r.nets; all = r.all }
    go (More u) (Done u') r = absurd r
    go (Done u) (More u') r = absurd r
    go (Done u) (Done u') r = record { nets = r.nets; all = r.all }
