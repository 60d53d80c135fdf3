-- The steps of a scan, and that a text is read as one thing alone.
use Rattle.std.proofs.Common.{◌≡◌, ◌≤◌, ◌<◌, ℕ, zero, suc, ◌-◌, get_or, subst, ◌+◌, Bool, true, false, not, ◌||◌, ◌==◌, cond, List, [], ◌∷◌, ◌++◌, length, take, drop, Option, Some, None, Result, Ok, Err, count_by, if◌then◌else◌, refl, sym, ap, ◌∙◌, append_assoc, length-append, arith}
use Rattle.std.proofs.lemmas.Grind.{common_steps}
use Rattle.std.proofs.lemmas.Bool.{cases_lt}
use Rattle.std.proofs.lemmas.List.{take-append-drop, append-nil}
use Rattle.std.proofs.lemmas.List.Folds.{length-prefix_len, list_any-append}
use Rattle.std.proofs.lemmas.List.Sums.{sum_by-append, count_by-le-length}
use Rattle.std.proofs.lemmas.List.Prefix.{front_rest}
use Rattle.std.proofs.lemmas.Bool.{eqb-true}
use Rattle.std.proofs.lemmas.List.{length-drop, length-take, take_all}
use Rattle.std.proofs.Math.Seq.{take-length, take-append_seam}
use Rattle.std.specs.List.{list_any, position_or_len}
use Rattle.rt_base.specs.declared.token.Token.{Token}
use Rattle.rt_base.specs.declared.split.Piece.{Piece}
use Rattle.rt_base.specs.declared.scan.ScanError.{ScanError}
use Rattle.rt_base.specs.declared.scan.ScanError.TheVariants.{UnclosedQuote, NotText, Memory}
use Rattle.rt_base.specs.Parts.{is_blank, is_feed, is_quote, is_bad, Part, Blank, Comment, Quoted, Plain, spelled, spelling, Begins, Fits, AllFit, is_token, line_after, token_after, tokens_after}
use Rattle.rt_base.specs.Scan.{IsText, IsMadeOf, OpensAfter, IsBadAfter, IsCutInto, IsFirstUnclosed, IsFirstNotText, Reads}
use Rattle.rt_base.specs.Split.{IsPart}
use Rattle.rt_base.specs.Tokens.{AllInside}
use Rattle.rt_base.proofs.Parting.{none_before, begins_at, first_at, count_none, or_false, stops_end, stops_quote, same_parts}

-- ---- a part stands first

pub blank_part : (b : ℕ) (bs : List ℕ) (feeds : ℕ) → is_blank b ≡ true → feeds ≡ count_by is_feed (b ∷ []) → IsPart (b ∷ bs) (record { len = 1; feeds = feeds; is_token = false })
blank_part b bs feeds blank e = record { part = Blank b; rest = bs; whole = refl; fits = blank; len = refl; feeds = e; token = refl }

pub comment_part : (bs : List ℕ) → IsPart (35 ∷ bs) (record { len = position_or_len is_feed bs + 1; feeds = 0; is_token = false })
comment_part bs =
    let front = take (position_or_len is_feed bs) bs in
    let none : list_any is_feed front ≡ false = none_before is_feed bs in
    record {
      part = Comment front;
      rest = drop (position_or_len is_feed bs) bs;
      whole = ap (λ (x : List ℕ). 35 ∷ x) (take-append-drop (position_or_len is_feed bs) bs);
      fits = (none, begins_at is_feed bs);
      len = rw (length-prefix_len (λ (b : ℕ). not (is_feed b)) bs) (omega arith);
      feeds = sym (count_none is_feed front none);
      token = refl;
    }

quoted_from : (front back bs : List ℕ) (feeds : ℕ) → front ++ back ≡ bs → list_any is_quote front ≡ false → Begins is_quote back → 0 < length back → feeds ≡ count_by is_feed front
    → IsPart (34 ∷ bs) (record { len = length front + 2; feeds = feeds; is_token = true })
quoted_from front [] bs feeds whole none begins some count = absurd (omega arith)
quoted_from front (c ∷ back) bs feeds whole none begins some count =
    let quote : c ≡ 34 = eqb-true c 34 begins in
    let all : (front ++ 34 ∷ []) ++ back ≡ bs = append_assoc front (34 ∷ []) back ∙ ap (λ (x : ℕ). front ++ (x ∷ back)) (sym quote) ∙ whole in
    record {
      part = Quoted front;
      rest = back;
      whole = ap (λ (x : List ℕ). 34 ∷ x) all;
      fits = none;
      len = rw (length-append front (34 ∷ [])) (omega arith);
      feeds = rw (sum_by-append (λ (b : ℕ). cond (is_feed b) 1 0) front (34 ∷ [])) (omega (arith, count));
      token = refl;
    }

pub quoted_part : (bs : List ℕ) (feeds : ℕ) → position_or_len is_quote bs < length bs → feeds ≡ count_by is_feed (take (position_or_len is_quote bs) bs)
    → IsPart (34 ∷ bs) (record { len = position_or_len is_quote bs + 2; feeds = feeds; is_token = true })
quoted_part bs feeds within count =
    let len : length (take (position_or_len is_quote bs) bs) ≡ position_or_len is_quote bs = length-prefix_len (λ (b : ℕ). not (is_quote b)) bs in
    let some : 0 < length (drop (position_or_len is_quote bs) bs) = omega (arith, length-drop (position_or_len is_quote bs) bs) in
    rw len at (quoted_from (take (position_or_len is_quote bs) bs) (drop (position_or_len is_quote bs) bs) bs feeds (take-append-drop (position_or_len is_quote bs) bs) (none_before is_quote bs) (begins_at is_quote bs) some count)

feeds_none : (xs : List ℕ) → list_any is_blank xs ≡ false → count_by is_feed xs ≡ 0
feeds_none [] none = refl
feeds_none (x ∷ xs) none =
    let here = or_false (is_blank x) (list_any is_blank xs) none in
    let feed = or_false (x == 32 || x == 9 || x == 13) (x == 10) here.0 in
    rw (feed.1, feeds_none xs here.1) refl

pub plain_part : (b : ℕ) (bs : List ℕ) → is_blank b ≡ false → (b == 35) ≡ false → (b == 34) ≡ false → IsPart (b ∷ bs) (record { len = position_or_len is_blank bs + 1; feeds = 0; is_token = true })
plain_part b bs blank comment quote =
    let front = take (position_or_len is_blank bs) bs in
    let none : list_any is_blank front ≡ false = none_before is_blank bs in
    record {
      part = Plain b front;
      rest = drop (position_or_len is_blank bs) bs;
      whole = ap (λ (x : List ℕ). b ∷ x) (take-append-drop (position_or_len is_blank bs) bs);
      fits = (blank, comment, quote, none, begins_at is_blank bs);
      len = rw (length-prefix_len (λ (x : ℕ). not (is_blank x)) bs) (omega arith);
      feeds = sym (feeds_none (b ∷ front) (rw (blank, none) refl));
      token = refl;
    }

-- ---- one part after the other

-- the tokens so far are those of the parts before the rest
pub record Cut (text : List ℕ) (cut : List Token) (line at : ℕ) (rest : List ℕ) : Type 0 where
  pub parts : List Part
  pub fit : AllFit parts rest
  pub whole : spelling parts ++ rest ≡ text
  pub same : cut ≡ tokens_after [] parts
  pub on : line ≡ line_after (spelling parts)
  pub place : at ≡ length (spelling parts)

pub begins : (text : List ℕ) → Cut text [] 1 0 text
begins text = record { parts = []; fit = tt; whole = refl; same = refl; on = refl; place = refl }

spelling-more : (ps : List Part) (p : Part) → spelling (ps ++ p ∷ []) ≡ spelling ps ++ spelled p
spelling-more [] p = append-nil (spelled p)
spelling-more (q ∷ ps) p = rw (spelling-more ps p) (sym (append_assoc (spelled q) (spelling ps) (spelled p)))

fit_more : (ps : List Part) (p : Part) (rest : List ℕ) → AllFit ps (spelled p ++ rest) → Fits p rest → AllFit (ps ++ p ∷ []) rest
fit_more [] p rest f fits = (fits, tt)
fit_more (q ∷ ps) p rest f fits = (rw (spelling-more ps p, append_assoc (spelling ps) (spelled p) rest) f.0, fit_more ps p rest f.1 fits)

if_front : (b : Bool) (t : Token) (xs ys : List Token) → (if b then t ∷ (xs ++ ys) else xs ++ ys) ≡ (if b then t ∷ xs else xs) ++ ys
if_front true t xs ys = refl
if_front false t xs ys = refl

tokens-more : (before : List ℕ) (ps : List Part) (p : Part) → tokens_after before (ps ++ p ∷ []) ≡ tokens_after before ps ++ tokens_after (before ++ spelling ps) (p ∷ [])
tokens-more before [] p = rw (append-nil before) refl
tokens-more before (q ∷ ps) p =
    let more = rw (append_assoc before (spelled q) (spelling ps)) at (tokens-more (before ++ spelled q) ps p) in
    rw more (if_front (is_token q) (token_after before (length (spelled q))) (tokens_after (before ++ spelled q) ps) (tokens_after (before ++ (spelled q ++ spelling ps)) (p ∷ [])))

-- the token of a part, if it is one
abbrev pub token_of : Bool → Token → List Token
token_of b t = if b then t ∷ [] else []

pub cut_more : (text : List ℕ) (cut : List Token) (line at : ℕ) (bytes : List ℕ) (p : Piece) → Cut text cut line at bytes → IsPart bytes p
    → Cut text (cut ++ token_of p.is_token (record { line = line; first = at; past = at + p.len })) (line + p.feeds) (at + p.len) (drop p.len bytes)
cut_more text cut line at bytes p c h =
    let rest : drop p.len bytes ≡ h.rest = rw h.len (front_rest bytes (spelled h.part) h.rest (sym h.whole)) in
    let spells : spelling (c.parts ++ h.part ∷ []) ≡ spelling c.parts ++ spelled h.part = spelling-more c.parts h.part in
    let token : record { line = line; first = at; past = at + p.len } ≡ token_after (spelling c.parts) (length (spelled h.part)) = rw (c.on, c.place, h.len) refl in
    let lines : count_by is_feed (spelling c.parts ++ spelled h.part) ≡ count_by is_feed (spelling c.parts) + count_by is_feed (spelled h.part) = sum_by-append (λ (b : ℕ). cond (is_feed b) 1 0) (spelling c.parts) (spelled h.part) in
    record {
      parts = c.parts ++ h.part ∷ [];
      fit = rw rest (fit_more c.parts h.part h.rest (rw h.whole c.fit) h.fits);
      whole = rw (spells, rest, append_assoc (spelling c.parts) (spelled h.part) h.rest, h.whole) c.whole;
      same = rw (tokens-more [] c.parts h.part, ← c.same, h.token, token) refl;
      on = rw (spells, lines) (omega (arith, c.on, h.feeds));
      place = rw (spells, length-append (spelling c.parts) (spelled h.part)) (omega (arith, c.place, h.len));
    }

first_and_rest : (bytes : List ℕ) → 1 ≤ length bytes → get_or bytes 0 0 ∷ take (length bytes - 1) (drop 1 bytes) ≡ bytes
first_and_rest [] some = absurd (omega arith)
first_and_rest (b ∷ bytes) some = ap (λ (x : List ℕ). b ∷ x) (take_all (length (b ∷ bytes) - 1) bytes (omega arith))

-- as a step of a loop over slices shows it
pub step : (text : List ℕ) (cut more : List Token) (line at : ℕ) (bytes : List ℕ) (p : Piece) → Cut text cut line at bytes → 1 ≤ length bytes → IsPart (get_or bytes 0 0 ∷ take (length bytes - 1) (drop 1 bytes)) p
    → more ≡ cut ++ token_of p.is_token (record { line = line; first = at; past = at + p.len }) → Cut text more (line + p.feeds) (at + p.len) (take (length bytes - p.len) (drop p.len bytes))
step text cut more line at bytes p c some part e =
    let all : take (length bytes - p.len) (drop p.len bytes) ≡ drop p.len bytes = take_all (length bytes - p.len) (drop p.len bytes) (omega (arith, length-drop p.len bytes)) in
    rw (e, all) (cut_more text cut line at bytes p c (subst (λ (x : List ℕ). IsPart x p) (first_and_rest bytes some) part))

pub made : (text : List ℕ) (cut : List Token) (line at : ℕ) (rest : List ℕ) → Cut text cut line at rest → length rest ≡ 0 → IsMadeOf text cut
made text cut line at [] c e = record { parts = c.parts; whole = rw append-nil at c.whole; fit = c.fit; same = c.same }
made text cut line at (b ∷ rest) c e = absurd (omega arith)

pub place_within : (text : List ℕ) (cut : List Token) (line at : ℕ) (rest : List ℕ) → Cut text cut line at rest → (at + length rest ≡ length text) × (line ≤ at + 1)
place_within text cut line at rest c =
    let all : length (spelling c.parts) + length rest ≡ length text = sym (length-append (spelling c.parts) rest) ∙ ap length c.whole in
    let lines : count_by is_feed (spelling c.parts) ≤ length (spelling c.parts) = count_by-le-length is_feed (spelling c.parts) in
    (omega (arith, c.place), omega (arith, c.place, c.on))

-- ---- tokens lie in their text

inside_from : (before : List ℕ) (ps : List Part) (n : ℕ) → length before + length (spelling ps) ≤ n → AllInside n (tokens_after before ps)
inside_from before [] n le = tt
inside_from before (p ∷ ps) n le =
    let all : length (spelled p ++ spelling ps) ≡ length (spelled p) + length (spelling ps) = length-append (spelled p) (spelling ps) in
    let front : length (before ++ spelled p) ≡ length before + length (spelled p) = length-append before (spelled p) in
    at (is_token p) (inside_from (before ++ spelled p) ps n (omega arith)) (omega arith)
  where
    at : (b : Bool) → AllInside n (tokens_after (before ++ spelled p) ps) → length before + length (spelled p) ≤ n
        → AllInside n (if b then token_after before (length (spelled p)) ∷ tokens_after (before ++ spelled p) ps else tokens_after (before ++ spelled p) ps)
    at true h within = (omega arith, within, h)
    at false h within = h

pub made_inside : (text : List ℕ) (cut : List Token) → IsMadeOf text cut → AllInside (length text) cut
made_inside text cut m = rw m.same (inside_from [] m.parts (length text) (omega (arith, ap length m.whole)))

-- ---- a text is read as one thing alone

same_made : (text : List ℕ) (xs ys : List Token) → IsMadeOf text xs → IsMadeOf text ys → xs ≡ ys
same_made text xs ys a b =
    let both = same_parts a.parts b.parts [] [] a.fit b.fit stops_end stops_end (rw (append-nil (spelling a.parts), append-nil (spelling b.parts)) (a.whole ∙ sym b.whole)) in
    a.same ∙ ap (tokens_after []) both.0 ∙ sym b.same

never_opens : (text : List ℕ) (xs : List Token) (before : List ℕ) → IsMadeOf text xs → OpensAfter text before → ⊥
never_opens text xs before a b =
    let both = same_parts a.parts b.parts [] (34 ∷ b.within) a.fit b.fit stops_end (stops_quote b.within b.unclosed) (rw (append-nil, ← b.spelled) (a.whole ∙ sym b.whole)) in
    let none : [] ≡ 34 ∷ b.within = both.1 in
    cc

opens_once : (text before earlier : List ℕ) → OpensAfter text before → OpensAfter text earlier → before ≡ earlier
opens_once text before earlier a b =
    let both = same_parts a.parts b.parts (34 ∷ a.within) (34 ∷ b.within) a.fit b.fit (stops_quote a.within a.unclosed) (stops_quote b.within b.unclosed) (rw (← a.spelled, ← b.spelled) (a.whole ∙ sym b.whole)) in
    a.spelled ∙ ap spelling both.0 ∙ sym b.spelled

not_bad : (text before : List ℕ) → IsText text → IsBadAfter text before → ⊥
not_bad text before clean b =
    let all : (list_any is_bad before || list_any is_bad (b.byte ∷ b.rest)) ≡ false = sym (list_any-append is_bad before (b.byte ∷ b.rest)) ∙ ap (list_any is_bad) b.whole ∙ clean in
    let here = or_false (list_any is_bad before) (list_any is_bad (b.byte ∷ b.rest)) all in
    let byte : is_bad b.byte ≡ false = (or_false (is_bad b.byte) (list_any is_bad b.rest) here.1).0 in
    let bad : is_bad b.byte ≡ true = b.bad in
    cc

same_bad : (text before earlier : List ℕ) → IsBadAfter text before → IsBadAfter text earlier → IsText before → IsText earlier → before ≡ earlier
same_bad text before earlier a b clean tidy =
    let n : position_or_len is_bad text ≡ length before = rw a.whole at (first_at is_bad before (a.byte ∷ a.rest) clean a.bad) in
    let m : position_or_len is_bad text ≡ length earlier = rw b.whole at (first_at is_bad earlier (b.byte ∷ b.rest) tidy b.bad) in
    let front : take (length before) text ≡ before = rw a.whole at (take-append_seam before (a.byte ∷ a.rest)) in
    let other : take (length earlier) text ≡ earlier = rw b.whole at (take-append_seam earlier (b.byte ∷ b.rest)) in
    sym front ∙ ap (λ (k : ℕ). take k text) (sym n ∙ m) ∙ other

-- a byte that isn't text, no later than a quote, stands before it
bad_before : (bs qs : List ℕ) (x : ℕ) (rest within : List ℕ) → length bs ≤ length qs → bs ++ x ∷ rest ≡ qs ++ 34 ∷ within → is_bad x ≡ true → list_any is_bad qs ≡ false → ⊥
bad_before [] [] x rest within le e bad clean =
    let same : x ≡ 34 = cc in
    let quote : is_bad x ≡ false = ap is_bad same in
    cc
bad_before [] (q ∷ qs) x rest within le e bad clean =
    let same : x ≡ q = cc in
    let quote : is_bad q ≡ false = (or_false (is_bad q) (list_any is_bad qs) clean).0 in
    let here : is_bad q ≡ true = ap is_bad (sym same) ∙ bad in
    cc
bad_before (b ∷ bs) [] x rest within le e bad clean = absurd (omega arith)
bad_before (b ∷ bs) (q ∷ qs) x rest within le e bad clean =
    bad_before bs qs x rest within (omega arith) (cc) bad (or_false (is_bad q) (list_any is_bad qs) clean).1

one_fault : (text : List ℕ) (line other : ℕ) → IsFirstUnclosed text line → IsFirstNotText text other → ⊥
one_fault text line other a b =
    bad_before b.before a.before b.bad.byte b.bad.rest a.opens.within (b.closed_before a.before a.opens) (b.bad.whole ∙ sym a.opens.whole) b.bad.bad a.text_before

pub reads_same : (text : List ℕ) (o p : Result (List Token) ScanError) → Reads text o → Reads text p → o ≡ p
reads_same text (Ok xs) (Ok ys) a b = ap (λ (x : List Token). Ok x) (same_made text xs ys a.made b.made)
reads_same text (Ok xs) (Err (UnclosedQuote line)) a b = absurd (never_opens text xs b.before a.made b.opens)
reads_same text (Ok xs) (Err (NotText line)) a b = absurd (not_bad text b.before a.text_only b.bad)
reads_same text (Ok xs) (Err Memory) a b = absurd b
reads_same text (Err (UnclosedQuote line)) (Ok ys) a b = absurd (never_opens text ys a.before b.made a.opens)
reads_same text (Err (UnclosedQuote line)) (Err (UnclosedQuote other)) a b =
    ap (λ (n : ℕ). Err (UnclosedQuote n)) (a.on ∙ ap line_after (opens_once text a.before b.before a.opens b.opens) ∙ sym b.on)
reads_same text (Err (UnclosedQuote line)) (Err (NotText other)) a b = absurd (one_fault text line other a b)
reads_same text (Err (UnclosedQuote line)) (Err Memory) a b = absurd b
reads_same text (Err (NotText line)) (Ok ys) a b = absurd (not_bad text a.before b.text_only a.bad)
reads_same text (Err (NotText line)) (Err (UnclosedQuote other)) a b = absurd (one_fault text other line b a)
reads_same text (Err (NotText line)) (Err (NotText other)) a b =
    ap (λ (n : ℕ). Err (NotText n)) (a.on ∙ ap line_after (same_bad text a.before b.before a.bad b.bad a.text_before b.text_before) ∙ sym b.on)
reads_same text (Err (NotText line)) (Err Memory) a b = absurd b
reads_same text (Err Memory) p a b = absurd a

-- ---- which of two faults is the first

bad_at : (text : List ℕ) (n : ℕ) → n ≡ position_or_len is_bad text → n < length text → IsBadAfter text (take n text)
bad_at text n e within = from (drop n text) (take-append-drop n text) (rw e (begins_at is_bad text)) (omega (arith, length-drop n text))
  where
    from : (back : List ℕ) → take n text ++ back ≡ text → Begins is_bad back → 0 < length back → IsBadAfter text (take n text)
    from [] whole begins some = absurd (omega arith)
    from (c ∷ back) whole begins some = record { byte = c; rest = back; bad = begins; whole = whole }

pub not_text : (text : List ℕ) (n : ℕ) → n ≡ position_or_len is_bad text → n < length text → ((earlier : List ℕ) → OpensAfter text earlier → n ≤ length earlier) → IsFirstNotText text (line_after (take n text))
not_text text n e within closed = record {
  before = take n text;
  bad = bad_at text n e within;
  text_before = rw e (none_before is_bad text);
  closed_before = λ earlier opens. omega (arith, closed earlier opens, length-take n text);
  on = refl;
}

pub not_text_made : (text : List ℕ) (xs : List Token) (n : ℕ) → IsMadeOf text xs → n ≡ position_or_len is_bad text → n < length text → IsFirstNotText text (line_after (take n text))
not_text_made text xs n m e within = not_text text n e within (λ earlier opens. absurd (never_opens text xs earlier m opens))

pub not_text_opens : (text before : List ℕ) (n : ℕ) → OpensAfter text before → n ≡ position_or_len is_bad text → n ≤ length before → IsFirstNotText text (line_after (take n text))
not_text_opens text before n o e le =
    let all : length before + length (34 ∷ o.within) ≡ length text = sym (length-append before (34 ∷ o.within)) ∙ ap length o.whole in
    not_text text n e (omega arith) (λ earlier opens. omega (arith, le, ap length (opens_once text before earlier o opens)))

-- what stands before a place no later than the first byte that isn't text
text_until : (text : List ℕ) (before rest : List ℕ) → before ++ rest ≡ text → length before ≤ position_or_len is_bad text → IsText before
text_until text [] rest whole le = refl
text_until [] (b ∷ before) rest whole le = cc
text_until (c ∷ text) (b ∷ before) rest whole le = at (is_bad c) refl (cc) (text_until text before rest (cc))
  where
    at : (x : Bool) → is_bad c ≡ x → b ≡ c → (length before ≤ position_or_len is_bad text → IsText before) → IsText (b ∷ before)
    at true e same more = absurd (omega (arith, rw e at le))
    at false e same more = rw (same, e) (more (omega (arith, rw e at le)))

pub unclosed : (text before : List ℕ) (line : ℕ) → OpensAfter text before → line ≡ line_after before → length before < position_or_len is_bad text → IsFirstUnclosed text line
unclosed text before line o on less = record { before = before; opens = o; text_before = text_until text before (34 ∷ o.within) o.whole (omega arith); on = on }
