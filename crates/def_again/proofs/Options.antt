-- The options of a net, with wiring that is put in before its closing `;`.
use Rattle.std.proofs.Common.{◌≡◌, ℕ, zero, suc, ◌+◌, ◌-◌, true, false, List, [], ◌∷◌, ◌++◌, length, map, Err, codes, bytes_eq, refl, ap, sym, ◌∙◌, subst, arith, length-append, append-nil}
use Rattle.rt_forms.specs.Lexeme.{Lexeme, Place, put}
use Rattle.rt_forms.specs.Reading.{left_of, ends_option}
use Rattle.rt_forms.specs.Form.{Form, next, check, done, ◌>>=◌, choose, Turn, More, Done, loop}
use Rattle.written.specs.Cuts.{bytes_of}
use Rattle.def_text.specs.declared.error.DefError.{DefError}
use Rattle.def_text.specs.declared.error.DefError.TheVariants.{Expected}
use Rattle.def_text.specs.declared.nets.OpenNet.{OpenNet}
use Rattle.def_text.specs.Nets.{net_option, more_net}
use Rattle.same_words.specs.Same.{Frame, Same}
use Rattle.same_words.specs.Values.{TurnsBy, Pairwise}
use Rattle.same_words.specs.States.{HoldsMoved, IsOpenNetBy}
use Rattle.same_words.proofs.Combining.{same_then, same_next, same_choose, same_done, same_refused, left_put, no_words}
use Rattle.same_words.proofs.Skipping.{same_here}
use Rattle.same_words.proofs.Nets.{same_net_option}
use Rattle.def_again.specs.Again.{IsOption, range_words, range_behind}
use Rattle.std.proofs.lemmas.List.Elements.{All-head, All-tail}
use Rattle.def_again.proofs.Lists.{split, split_one, Lies, lies_first, lies_second, lies_left, whole_words}
use Rattle.def_again.proofs.Opening.{Opens, OpensLast, opens_loop}
use Rattle.def_again.proofs.Routed.{none_ends, routed_turn, closes, close_turn}

-- a turn at its first word
abbrev turn_at : ℕ → ℕ → OpenNet → Place → Form DefError (Turn OpenNet)
turn_at total at net w =
    choose (bytes_eq w.word (codes ";")) (done (Done (record net { close = w.first }))) (
    choose (bytes_eq w.word (codes "+")) (net_option total at net >>= (λ net'. done (More net'))) (
    check (Err (Expected w.line))))

pub same_more_net : {f : Frame} {R : ℕ × ℕ → ℕ × ℕ → Type 0} → HoldsMoved f R → (m n : OpenNet) → IsOpenNetBy R m n → Same f (TurnsBy (IsOpenNetBy R)) (more_net f.total m) (more_net (f.total + f.more) n)
unfolding more_net
same_more_net {f} {R} holds m n r =
    same_here (λ at. next >>= turn_at f.total at m) (λ at. next >>= turn_at (f.total + f.more) at n) (λ at at' moved.
    same_next (turn_at f.total at m) (turn_at (f.total + f.more) at' n) (λ line first line' first' word.
    same_choose _ _ _ _ _ (same_done _ _ (record { wiring = r.wiring; skipped = r.skipped })) (
    same_choose _ _ _ _ _ (same_then (IsOpenNetBy R) _ _ _ _ (same_net_option holds at at' m n moved r) (λ u v q. same_done _ _ q)) (
    same_refused (Expected line) (check (Err (Expected line')))))))

-- a net of the second text, whose options were read: its wiring is that of the first, and what was put in
pub record IsNetGrown (R : ℕ × ℕ → ℕ × ℕ → Type 0) (new : List Place) (added : List (List ℕ)) (m n : OpenNet) : Type 0 where
  pub moved : List (ℕ × ℕ)
  pub behind : List (ℕ × ℕ)
  pub wiring : n.wiring ≡ moved ++ behind
  pub same : Pairwise R m.wiring moved
  pub words : map (range_words new) behind ≡ range_behind added
  pub skipped : n.skipped ≡ m.skipped

-- the last turn of both, with a turn before in the second text where words are put in
last_of : (R : ℕ × ℕ → ℕ × ℕ → Type 0) (new : List Place) (total : ℕ) (added : List (List ℕ)) → IsOption added → total ≡ length new → (m n : OpenNet) → IsOpenNetBy R m n
    → (gone' front' : List Place) (mark : Place) (rest' : List Lexeme) → mark.word ≡ codes ";" → bytes_of front' ≡ added ++ mark.word ∷ [] → Lies new gone' front' rest'
    → (v : OpenNet) × IsNetGrown R new added m v × (loop (more_net total) n).takes front' rest' v
last_of R new total [] option all m n r gone' front' mark rest' semicolon e lies =
    let s = split_one front' mark.word [] e in
    let whole : front' ≡ s.place ∷ [] = s.whole ∙ ap (λ (v : List Place). s.place ∷ v) (no_words s.back s.second) in
    let v : OpenNet = record n { close = s.place.first } in
    let taken = close_turn total n s.place rest' (s.first ∙ semicolon) in (
      v,
      record { moved = n.wiring; behind = []; wiring = sym (append-nil n.wiring); same = r.wiring; words = refl; skipped = r.skipped },
      (zero, subst (λ (ws : List Place). (more_net total n).takes ws rest' (Done v)) (sym whole) taken),
    )
last_of R new total (plus ∷ []) option all m n r gone' front' mark rest' semicolon e lies = absurd option
last_of R new total (plus ∷ routed ∷ []) option all m n r gone' front' mark rest' semicolon e lies = absurd option
last_of R new total (plus ∷ routed ∷ word ∷ words) option all m n r gone' front' mark rest' semicolon e lies =
    let a = split_one front' plus (routed ∷ word ∷ (words ++ mark.word ∷ [])) e in
    let b = split_one a.back routed (word ∷ (words ++ mark.word ∷ [])) a.second in
    let c = split_one b.back word (words ++ mark.word ∷ []) b.second in
    let d = split c.back words (mark.word ∷ []) c.second in
    let k = split_one d.back mark.word [] d.second in
    let p = a.place in
    let q = b.place in
    let o = c.place in
    let os = d.front in
    let close = k.place in
    let ended : d.back ≡ close ∷ [] = k.whole ∙ ap (λ (v : List Place). close ∷ v) (no_words k.back k.second) in
    let tail : c.back ≡ os ++ close ∷ [] = d.whole ∙ ap (λ (v : List Place). os ++ v) ended in
    let whole : front' ≡ (p ∷ q ∷ o ∷ os) ++ close ∷ [] =
    a.whole ∙ ap (λ (v : List Place). p ∷ v) (b.whole ∙ ap (λ (v : List Place). q ∷ v) (c.whole ∙ ap (λ (v : List Place). o ∷ v) tail)) in
    let rest = put (close ∷ []) rest' in
    let stop : ends_option close.word ≡ true = ap ends_option (k.first ∙ semicolon) in
    let Free = λ (w : List ℕ). ends_option w ≡ false in
    let free : ends_option o.word ≡ false = ap ends_option c.first ∙ All-head Free word words option.2 in
    let stays = none_ends os words close rest' d.first (All-tail Free word words option.2) stop in
    let range : ℕ × ℕ = (total - left_of (put (o ∷ os) rest), total - left_of rest) in
    let n' : OpenNet = record n { wiring = n.wiring ++ range ∷ [] } in
    let v : OpenNet = record n' { close = close.first } in
    let one = routed_turn total n p q o os rest (a.first ∙ option.0) (b.first ∙ option.1) free (free, stays) in
    let two = close_turn total n' close rest' (k.first ∙ semicolon) in
    let lies' = lies_first new gone' (p ∷ q ∷ o ∷ os) (close ∷ []) rest' (subst (λ (ws : List Place). Lies new gone' ws rest') whole lies) in
    let wired = lies_second new gone' (p ∷ q ∷ []) (o ∷ os) rest lies' in
    let many = lies_left new (gone' ++ p ∷ q ∷ []) (o ∷ os) rest wired in
    let said : range_words new range ≡ bytes_of (o ∷ os) =
    whole_words new (gone' ++ p ∷ q ∷ []) (o ∷ os) rest range.0 range.1 wired (omega (arith, many, left_put (o ∷ os) rest)) (omega (arith, many, left_put (o ∷ os) rest)) in
    let first : o.word ≡ word = c.first in
    let others : bytes_of os ≡ words = d.first in
    let bytes : bytes_of (o ∷ os) ≡ word ∷ words = cc in (
      v,
      record { moved = n.wiring; behind = range ∷ []; wiring = refl; same = r.wiring; words = ap (λ (ws : List (List ℕ)). ws ∷ []) (said ∙ bytes); skipped = r.skipped },
      (suc zero, (n', p ∷ q ∷ o ∷ os, close ∷ [], whole, one, two)),
    )

opens_last : (R : ℕ × ℕ → ℕ × ℕ → Type 0) (new : List Place) (f : Frame) (added : List (List ℕ)) → IsOption added → f.total + f.more ≡ length new → (m n : OpenNet) → IsOpenNetBy R m n
    → OpensLast new f added (IsNetGrown R new added) (more_net f.total m) (loop (more_net (f.total + f.more)) n)
opens_last R new f added option all m n r = record {
  again = λ gone' before front' mark rest rest' u semicolon e lies h.
      let c = closes f.total m (before ++ mark ∷ []) rest u h in
      let short : length before ≡ 0 = omega (arith, ap length c.whole, length-append before (mark ∷ [])) in
      let empty : before ≡ [] = length_none before short in
      let e' : bytes_of front' ≡ added ++ mark.word ∷ [] = e ∙ ap (λ (v : List Place). bytes_of v ++ added ++ mark.word ∷ []) empty in
      let x = last_of R new (f.total + f.more) added option all m n r gone' front' mark rest' semicolon e' lies in
      let g = x.1 in
      let w : u.wiring ≡ m.wiring = ap (λ (y : OpenNet). y.wiring) c.net in
      let s : u.skipped ≡ m.skipped = ap (λ (y : OpenNet). y.skipped) c.net in
      (x.0, record { moved = g.moved; behind = g.behind; wiring = g.wiring; same = subst (λ (v : List (ℕ × ℕ)). Pairwise R v g.moved) (sym w) g.same; words = g.words; skipped = g.skipped ∙ sym s }, x.2);
}
  where
    length_none : (ws : List Place) → length ws ≡ 0 → ws ≡ []
    length_none [] h = refl
    length_none (w ∷ ws) h = absurd (omega arith)

-- all options of a net, and its closing `;`
pub opens_options : {f : Frame} {R : ℕ × ℕ → ℕ × ℕ → Type 0} (new : List Place) (added : List (List ℕ)) → HoldsMoved f R → f.lax ≡ true → IsOption added → f.total + f.more ≡ length new → (m n : OpenNet) → IsOpenNetBy R m n
    → Opens new f added (IsNetGrown R new added) (loop (more_net f.total) m) (loop (more_net (f.total + f.more)) n)
opens_options {f} {R} new added holds lax option all m n r =
    opens_loop new f added (IsOpenNetBy R) (IsNetGrown R new added) (more_net f.total) (more_net (f.total + f.more)) lax option
    (same_more_net holds)
    (λ s front rest t h. let c = closes f.total s front rest t h in omega (arith, ap length c.whole))
    (opens_last R new f added option all) m n r
