-- Forms that take the same words of a second text, and further words of it before their last one.
use Rattle.std.proofs.Common.{◌≡◌, ℕ, zero, suc, ◌+◌, ◌<◌, inl, inr, Bool, true, List, [], ◌∷◌, ◌++◌, length, Some, Err, codes, refl, ap, sym, ◌∙◌, subst, arith, append_assoc, append-nil, length-append}
use Rattle.rt_forms.specs.Lexeme.{Lexeme, Place, put, first_of}
use Rattle.rt_forms.specs.Reading.{left_of}
use Rattle.rt_forms.specs.Form.{Form, done, ◌>>=◌, loop, Turn, More, Done, Turns}
use Rattle.rt_forms.proofs.Laws.{ok_is, Takes}
use Rattle.written.specs.Cuts.{bytes_of}
use Rattle.same_words.specs.Same.{Frame, SameFirst, SameRest, IsInFrame, Same}
use Rattle.same_words.specs.Values.{TurnsBy}
use Rattle.def_again.specs.Again.{IsOption}
use Rattle.same_words.proofs.Combining.{left_put}
use Rattle.def_again.proofs.Lists.{bytes_append, bytes_length, same_length, split, split_one, behind, Lies, lies_second}

-- ---- the last word

-- words with a last one, that fits the value
pub record Ended {A : Type 0} (P : A → Place → Type 0) (front : List Place) (a : A) : Type 0 where
  pub before : List Place
  pub mark : Place
  pub whole : front ≡ before ++ mark ∷ []
  pub fits : P a mark

-- a form whose words have a last one that fits the value
pub record Ends {E A : Type 0} (P : A → Place → Type 0) (F : Form E A) : Type 0 where
  pub last : (front : List Place) (rest : List Lexeme) (a : A) → F.takes front rest a → Ended P front a

pub takes_ends : {E A : Type 0} (P : A → Place → Type 0) (F : Form E A) → Ends P F → Takes F
takes_ends P F l = record {
  some = λ front rest a h.
      let e = l.last front rest a h in
      omega (arith, ap length e.whole, length-append e.before (e.mark ∷ []));
}

further : {A : Type 0} (P : A → Place → Type 0) (front back words : List Place) (a : A) → words ≡ front ++ back → Ended P back a → Ended P words a
further P front back words a e h = record {
  before = front ++ h.before;
  mark = h.mark;
  whole = e ∙ ap (λ (v : List Place). front ++ v) h.whole ∙ sym (append_assoc front h.before (h.mark ∷ []));
  fits = h.fits;
}

pub ends_bind : {E A B : Type 0} (P : B → Place → Type 0) (F : Form E A) (G : A → Form E B) → ((a : A) → Ends P (G a)) → Ends P (F >>= G)
ends_bind P F G l = record { last = λ words rest b h. further P h.1 h.2 words b h.3 ((l h.0).last h.2 rest b h.5) }

pub ends_done : {E A B : Type 0} (P : A → Place → Type 0) (Q : B → Place → Type 0) (F : Form E A) (g : A → B) → Ends P F → ((a : A) (p : Place) → P a p → Q (g a) p) → Ends Q (F >>= (λ a. done (g a)))
ends_done {E} {A} {B} P Q F g l k = record {
  last = λ words rest b h.
      let e = l.last h.1 (put h.2 rest) h.0 h.4 in
      let same : g h.0 ≡ b = ok_is {E = E} (g h.0) b h.5.1 in
      record {
        before = e.before;
        mark = e.mark;
        whole = h.3 ∙ ap (λ (v : List Place). h.1 ++ v) h.5.0 ∙ append-nil h.1 ∙ e.whole;
        fits = subst (λ (v : B). Q v e.mark) same (k h.0 e.mark e.fits);
      };
}

pub ends_loop : {E S : Type 0} (P : S → Place → Type 0) (body : S → Form E (Turn S)) → ((s : S) (front : List Place) (rest : List Lexeme) (t : S) → (body s).takes front rest (Done t) → Ended P front t) → (s : S) → Ends P (loop body s)
ends_loop {E} {S} P body l s = record { last = λ words rest t h. go h.0 s words rest t h.1 }
  where
    go : (n : ℕ) (s : S) (words : List Place) (rest : List Lexeme) (t : S) → Turns body n s words rest t → Ended P words t
    go zero s words rest t h = l s words rest t h
    go (suc n) s words rest t h = further P h.1 h.2 words t h.3 (go n h.0 h.2 rest t h.5)

-- ---- further words before the last one

pub record Opens {E A B : Type 0} (new : List Place) (f : Frame) (added : List (List ℕ)) (R : A → B → Type 0) (F : Form E A) (G : Form E B) : Type 0 where
  pub again : (gone' before front' : List Place) (mark : Place) (rest rest' : List Lexeme) (a : A) → mark.word ≡ codes ";" → bytes_of front' ≡ bytes_of before ++ added ++ mark.word ∷ []
      → IsInFrame f before (put (mark ∷ []) rest) → left_of rest' + (f.before + length added) ≡ left_of rest + f.more → Lies new gone' front' rest' → F.takes (before ++ mark ∷ []) rest a → (b : B) × R a b × G.takes front' rest' b

-- where a rest ends with the mark, and that of the second text has further words before it
opened_first : (added : List (List ℕ)) (before front' : List Place) (mark : Place) (rest rest' : List Lexeme) → IsOption added → mark.word ≡ codes ";" → bytes_of front' ≡ bytes_of before ++ added ++ mark.word ∷ []
    → SameFirst true (first_of (put (before ++ mark ∷ []) rest)) (first_of (put front' rest'))
opened_first added (p ∷ before) front' mark rest rest' option semicolon e =
    let s = split_one front' p.word (bytes_of before ++ added ++ mark.word ∷ []) e in
    subst (λ (v : List Place). SameFirst true (Some p) (first_of (put v rest'))) (sym s.whole) (inl s.first)
opened_first [] [] front' mark rest rest' option semicolon e =
    let s = split_one front' mark.word [] e in
    subst (λ (v : List Place). SameFirst true (Some mark) (first_of (put v rest'))) (sym s.whole) (inl s.first)
opened_first (plus ∷ []) [] front' mark rest rest' option semicolon e = absurd option
opened_first (plus ∷ routed ∷ []) [] front' mark rest rest' option semicolon e = absurd option
opened_first (plus ∷ routed ∷ word ∷ words) [] front' mark rest rest' option semicolon e =
    let s = split_one front' plus ((routed ∷ word ∷ words) ++ mark.word ∷ []) e in
    subst (λ (v : List Place). SameFirst true (Some mark) (first_of (put v rest'))) (sym s.whole) (inr (refl, semicolon, s.first ∙ option.0))

pub opened_rest : (f : Frame) (added : List (List ℕ)) (before front' : List Place) (mark : Place) (rest rest' : List Lexeme) → f.lax ≡ true → IsOption added → mark.word ≡ codes ";" → bytes_of front' ≡ bytes_of before ++ added ++ mark.word ∷ []
    → left_of rest' + (f.before + length added) ≡ left_of rest + f.more → SameRest f (put (before ++ mark ∷ []) rest) (put front' rest')
opened_rest f added before front' mark rest rest' lax option semicolon e left =
    let n = same_length front' _ e in
    record {
      first = subst (λ (b : Bool). SameFirst b (first_of (put (before ++ mark ∷ []) rest)) (first_of (put front' rest'))) (sym lax) (opened_first added before front' mark rest rest' option semicolon e);
      left = omega (arith, n, left_put (before ++ mark ∷ []) rest, left_put front' rest', length-append before (mark ∷ []), length-append (bytes_of before ++ added) (mark.word ∷ []), length-append (bytes_of before) added, bytes_length before);
    }

pub opens_bind : {E A A' B B' : Type 0} (new : List Place) (f : Frame) (added : List (List ℕ)) (Q : A → A' → Type 0) (R : B → B' → Type 0) (F : Form E A) (F' : Form E A') (G : A → Form E B) (G' : A' → Form E B')
    → f.lax ≡ true → IsOption added → Same f Q F F' → ((a : A) → Takes (G a)) → ((a : A) (a' : A') → Q a a' → Opens new f added R (G a) (G' a')) → Opens new f added R (F >>= G) (F' >>= G')
opens_bind {E} {A} {A'} {B} {B'} new f added Q R F F' G G' lax option same some k = record { again = go }
  where
    go : (gone' before front' : List Place) (mark : Place) (rest rest' : List Lexeme) (b : B) → mark.word ≡ codes ";" → bytes_of front' ≡ bytes_of before ++ added ++ mark.word ∷ []
        → IsInFrame f before (put (mark ∷ []) rest) → left_of rest' + (f.before + length added) ≡ left_of rest + f.more → Lies new gone' front' rest' → (F >>= G).takes (before ++ mark ∷ []) rest b → (b' : B') × R b b' × (F' >>= G').takes front' rest' b'
    go gone' before front' mark rest rest' b semicolon e within left lies h =
        let front = h.1 in
        let back = h.2 in
        let w = behind front back before mark h.3 ((some h.0).some back rest b h.5) in
        let e' : bytes_of front' ≡ bytes_of front ++ (bytes_of w.rest ++ added ++ mark.word ∷ []) =
        e ∙ ap (λ (v : List Place). bytes_of v ++ added ++ mark.word ∷ []) w.before_is ∙ ap (λ (v : List (List ℕ)). v ++ added ++ mark.word ∷ []) (bytes_append front w.rest)
        ∙ ap (λ (v : List (List ℕ)). v ++ mark.word ∷ []) (append_assoc (bytes_of front) (bytes_of w.rest) added) ∙ append_assoc (bytes_of front) (bytes_of w.rest ++ added) (mark.word ∷ []) in
        let s = split front' (bytes_of front) (bytes_of w.rest ++ added ++ mark.word ∷ []) e' in
        let lies' = subst (λ (v : List Place). Lies new gone' v rest') s.whole lies in
        let r = opened_rest f added w.rest s.back mark rest rest' lax option semicolon s.second left in
        let r' : SameRest f (put back rest) (put s.back rest') = subst (λ (v : List Place). SameRest f (put v rest) (put s.back rest')) (sym w.whole) r in
        let many = left_put before (put (mark ∷ []) rest) in
        let long : length before ≡ length front + length w.rest = ap length w.before_is ∙ length-append front w.rest in
        let long' : length back ≡ length w.rest + 1 = ap length w.whole ∙ length-append w.rest (mark ∷ []) in
        let in_first : IsInFrame f front (put back rest) = record {
          from_low = omega (arith, within.from_low, many, long, long', left_put front (put back rest), left_put back rest);
          to_high = omega (arith, within.to_high, long', left_put back rest);
        } in
        let in_second : IsInFrame f w.rest (put (mark ∷ []) rest) = record {
          from_low = omega (arith, within.from_low, many, long, left_put w.rest (put (mark ∷ []) rest));
          to_high = within.to_high;
        } in
        let x = same.again front s.front (put back rest) (put s.back rest') h.0 s.first in_first r' h.4 in
        let y = (k h.0 x.0 x.1).again (gone' ++ s.front) w.rest s.back mark rest rest' b semicolon s.second in_second left (lies_second new gone' s.front s.back rest' lies') (subst (λ (v : List Place). (G h.0).takes v rest b) w.whole h.5) in
        (y.0, y.1, (x.0, s.front, s.back, s.whole, x.2, y.2))

pub opens_done : {E A A' B B' : Type 0} (new : List Place) (f : Frame) (added : List (List ℕ)) (Q : A → A' → Type 0) (R : B → B' → Type 0) (F : Form E A) (F' : Form E A') (g : A → B) (g' : A' → B')
    → Opens new f added Q F F' → ((a : A) (a' : A') → Q a a' → R (g a) (g' a')) → Opens new f added R (F >>= (λ a. done (g a))) (F' >>= (λ a. done (g' a)))
opens_done {E} {A} {A'} {B} {B'} new f added Q R F F' g g' o k = record { again = go }
  where
    go : (gone' before front' : List Place) (mark : Place) (rest rest' : List Lexeme) (b : B) → mark.word ≡ codes ";" → bytes_of front' ≡ bytes_of before ++ added ++ mark.word ∷ []
        → IsInFrame f before (put (mark ∷ []) rest) → left_of rest' + (f.before + length added) ≡ left_of rest + f.more → Lies new gone' front' rest' → (F >>= (λ a. done (g a))).takes (before ++ mark ∷ []) rest b
        → (b' : B') × R b b' × (F' >>= (λ a. done (g' a))).takes front' rest' b'
    go gone' before front' mark rest rest' b semicolon e within left lies h =
        let whole : before ++ mark ∷ [] ≡ h.1 = h.3 ∙ ap (λ (v : List Place). h.1 ++ v) h.5.0 ∙ append-nil h.1 in
        let taken : F.takes h.1 rest h.0 = subst (λ (v : List Place). F.takes h.1 (put v rest) h.0) h.5.0 h.4 in
        let x = o.again gone' before front' mark rest rest' h.0 semicolon e within left lies (subst (λ (v : List Place). F.takes v rest h.0) (sym whole) taken) in
        let same : g h.0 ≡ b = ok_is {E = E} (g h.0) b h.5.1 in
        (g' x.0, subst (λ (v : B). R v (g' x.0)) same (k h.0 x.0 x.1), (x.0, front', [], sym (append-nil front'), x.2, (refl, refl)))

-- ---- loops

-- a turn that goes on
abbrev going : {E S : Type 0} → Form E (Turn S) → Form E S
going F = record { takes = λ words rest s. F.takes words rest (More s); refuses = λ f ws e. ⊥; read = λ f ws. Err f.memory }

-- so many turns that go on, and one that ends
abbrev counted : {E S : Type 0} → (S → Form E (Turn S)) → ℕ → S → Form E S
counted body n s = record { takes = λ words rest t. Turns body n s words rest t; refuses = λ f ws e. ⊥; read = λ f ws. Err f.memory }

same_going : {E S T : Type 0} {f : Frame} (R : S → T → Type 0) (F : Form E (Turn S)) (G : Form E (Turn T)) → Same f (TurnsBy R) F G → Same f R (going F) (going G)
same_going {E} {S} {T} R F G s = record { again = λ front front' rest rest' a e i r h. let x = s.again front front' rest rest' (More a) e i r h in goes_on a front' rest' x.0 x.1 x.2 }
  where
    goes_on : (a : S) (front' : List Place) (rest' : List Lexeme) (y : Turn T) → TurnsBy R (More a) y → G.takes front' rest' y → (b : T) × R a b × G.takes front' rest' (More b)
    goes_on a front' rest' (More b) r t = (b, r, t)
    goes_on a front' rest' (Done b) r t = absurd r

-- the last turn, which ends, as a loop that opens
pub record OpensLast {E S T : Type 0} (new : List Place) (f : Frame) (added : List (List ℕ)) (Q : S → T → Type 0) (F : Form E (Turn S)) (G : Form E T) : Type 0 where
  pub again : (gone' before front' : List Place) (mark : Place) (rest rest' : List Lexeme) (a : S) → mark.word ≡ codes ";" → bytes_of front' ≡ bytes_of before ++ added ++ mark.word ∷ []
      → Lies new gone' front' rest' → F.takes (before ++ mark ∷ []) rest (Done a) → (b : T) × Q a b × G.takes front' rest' b

pub opens_loop : {E S T : Type 0} (new : List Place) (f : Frame) (added : List (List ℕ)) (R Q : S → T → Type 0) (body : S → Form E (Turn S)) (body' : T → Form E (Turn T)) → f.lax ≡ true → IsOption added
    → ((s : S) (t : T) → R s t → Same f (TurnsBy R) (body s) (body' t)) → ((s : S) (front : List Place) (rest : List Lexeme) (t : S) → (body s).takes front rest (Done t) → 0 < length front)
    → ((s : S) (t : T) → R s t → OpensLast new f added Q (body s) (loop body' t)) → (s : S) (t : T) → R s t → Opens new f added Q (loop body s) (loop body' t)
opens_loop {E} {S} {T} new f added R Q body body' lax option same some last s t r = record {
  again = λ gone' before front' mark rest rest' a semicolon e within left lies h. (turns h.0 s t r).again gone' before front' mark rest rest' a semicolon e within left lies h.1;
}
  where
    takes : (n : ℕ) (s : S) → Takes (counted body n s)
    takes zero s = record { some = λ front rest a h. some s front rest a h }
    takes (suc n) s = record { some = λ front rest a h. let one = (takes n h.0).some h.2 rest a h.5 in omega (arith, ap length h.3, length-append h.1 h.2) }

    turns : (n : ℕ) (s : S) (t : T) → R s t → Opens new f added Q (counted body n s) (loop body' t)
    turns zero s t r = record { again = λ gone' before front' mark rest rest' a semicolon e within left lies h. (last s t r).again gone' before front' mark rest rest' a semicolon e lies h }
    turns (suc n) s t r =
        let o = opens_bind new f added R Q (going (body s)) (going (body' t)) (counted body n) (loop body') lax option (same_going R (body s) (body' t) (same s t r)) (takes n) (turns n) in
        record {
          again = λ gone' before front' mark rest rest' a semicolon e within left lies h.
              let x = o.again gone' before front' mark rest rest' a semicolon e within left lies h in
              let y = x.2 in
              (x.0, x.1, (suc y.5.0, (y.0, y.1, y.2, y.3, y.4, y.5.1)));
        }
