-- An option of wiring in words that are put in before the closing `;` of a net.
use Rattle.std.proofs.Common.{◌≡◌, ℕ, ◌-◌, Bool, true, false, List, [], ◌∷◌, ◌++◌, All, Ok, Some, codes, bytes_eq, Err, refl, ap, sym, ◌∙◌, subst, append-nil}
use Rattle.std.proofs.lemmas.Slice.Eq.{bytes_eq-Decides}
use Rattle.std.proofs.lemmas.List.Elements.{All-head, All-tail}
use Rattle.rt_forms.specs.Lexeme.{Lexeme, Place, put}
use Rattle.rt_forms.specs.Reading.{left_of, ends_option, IsBefore}
use Rattle.rt_forms.specs.Form.{check, done, choose, More, Done, ◌>>=◌}
use Rattle.written.specs.Cuts.{bytes_of}
use Rattle.def_text.specs.declared.error.DefError.{DefError}
use Rattle.def_text.specs.declared.error.DefError.TheVariants.{Expected}
use Rattle.def_text.specs.declared.nets.OpenNet.{OpenNet}
use Rattle.def_text.specs.Wiring.{wiring_range}
use Rattle.def_text.specs.Nets.{net_wiring, net_option, more_net}

-- words of which none ends an option, before one that does
pub none_ends : (words : List Place) (bytes : List (List ℕ)) (mark : Place) (rest : List Lexeme) → bytes_of words ≡ bytes → All (λ w. ends_option w ≡ false) bytes → ends_option mark.word ≡ true → IsBefore ends_option words (put (mark ∷ []) rest)
none_ends [] bytes mark rest e all stop = stop
none_ends (p ∷ words) [] mark rest e all stop = absurd cc
none_ends (p ∷ words) (b ∷ bytes) mark rest e all stop =
    let same : p.word ≡ b = cc in
    let others : bytes_of words ≡ bytes = cc in
    (ap ends_option same ∙ All-head (λ w. ends_option w ≡ false) b bytes all, none_ends words bytes mark rest others (All-tail (λ w. ends_option w ≡ false) b bytes all) stop)

-- a word by its bytes, wherever it stands
pub by_word : (P : Place → Type 0) (word : List ℕ) → ((line first : ℕ) → P (record { line = line; first = first; word = word })) → (p : Place) → p.word ≡ word → P p
by_word P word h p e = subst (λ (w : List ℕ). P (record { line = p.line; first = p.first; word = w })) (sym e) (h p.line p.first)

routed_at : (total : ℕ) (n : OpenNet) (line first line' first' : ℕ) (q : Place) (qs : List Place) (rest : List Lexeme) → ends_option q.word ≡ false → IsBefore ends_option (q ∷ qs) rest
    → (more_net total n).takes (record { line = line; first = first; word = codes "+" } ∷ record { line = line'; first = first'; word = codes "ROUTED" } ∷ q ∷ qs) rest
    (More (record n { wiring = n.wiring ++ (total - left_of (put (q ∷ qs) rest), total - left_of rest) ∷ [] }))
unfolding more_net net_option net_wiring wiring_range
routed_at total n line first line' first' q qs rest free stays =
    let plus : Place = record { line = line; first = first; word = codes "+" } in
    let routed : Place = record { line = line'; first = first'; word = codes "ROUTED" } in
    let range : ℕ × ℕ = (total - left_of (put (q ∷ qs) rest), total - left_of rest) in
    let net : OpenNet = record n { wiring = n.wiring ++ range ∷ [] } in
    let all = left_of (put (plus ∷ routed ∷ q ∷ qs) rest) in
    let back = left_of (put (q ∷ qs) rest) in (
      total - all,
      [],
      plus ∷ routed ∷ q ∷ qs,
      refl,
      (all, [], [], refl, (refl, refl), (refl, refl)),
      (
        plus,
        plus ∷ [],
        routed ∷ q ∷ qs,
        refl,
        refl,
        (
          net,
          routed ∷ q ∷ qs,
          [],
          sym (append-nil (routed ∷ q ∷ qs)),
          (
            Some routed,
            [],
            routed ∷ q ∷ qs,
            refl,
            (refl, refl),
            (
              range,
              routed ∷ q ∷ qs,
              [],
              sym (append-nil (routed ∷ q ∷ qs)),
              (
                routed,
                routed ∷ [],
                q ∷ qs,
                refl,
                refl,
                (
                  total - back,
                  [],
                  q ∷ qs,
                  refl,
                  (back, [], [], refl, (refl, refl), (refl, refl)),
                  (
                    false,
                    q ∷ qs,
                    [],
                    sym (append-nil (q ∷ qs)),
                    (Some q, [], q ∷ qs, refl, (refl, refl), (tt, q ∷ qs, [], sym (append-nil (q ∷ qs)), stays, (refl, ap Ok free))),
                    (total - left_of rest, [], [], refl, (left_of rest, [], [], refl, (refl, refl), (refl, refl)), (refl, refl)),
                  ),
                ),
              ),
              (refl, refl),
            ),
          ),
          (refl, refl),
        ),
      ),
    )

-- `+ ROUTED` and words of which none ends an option are an option of wiring
pub routed_turn : (total : ℕ) (n : OpenNet) (plus routed q : Place) (qs : List Place) (rest : List Lexeme) → plus.word ≡ codes "+" → routed.word ≡ codes "ROUTED" → ends_option q.word ≡ false → IsBefore ends_option (q ∷ qs) rest
    → (more_net total n).takes (plus ∷ routed ∷ q ∷ qs) rest (More (record n { wiring = n.wiring ++ (total - left_of (put (q ∷ qs) rest), total - left_of rest) ∷ [] }))
routed_turn total n plus routed q qs rest e e' free stays =
    let turn = More (record n { wiring = n.wiring ++ (total - left_of (put (q ∷ qs) rest), total - left_of rest) ∷ [] }) in
    by_word (λ (p : Place). (more_net total n).takes (p ∷ routed ∷ q ∷ qs) rest turn) (codes "+") (λ line first.
    by_word (λ (r : Place). (more_net total n).takes (record { line = line; first = first; word = codes "+" } ∷ r ∷ q ∷ qs) rest turn) (codes "ROUTED") (λ line' first'.
    routed_at total n line first line' first' q qs rest free stays) routed e') plus e

-- ---- the closing `;`

-- a turn that ends takes a `;` alone
pub record Closes (words : List Place) (m u : OpenNet) : Type 0 where
  pub mark : Place
  pub whole : words ≡ mark ∷ []
  pub semicolon : mark.word ≡ codes ";"
  pub net : u ≡ record m { close = mark.first }

closes_by : (total at : ℕ) (m u : OpenNet) (w : Place) (words : List Place) (rest : List Lexeme) (e : DefError) (b c : Bool) → bytes_eq w.word (codes ";") ≡ b
    → (choose b (done (Done (record m { close = w.first }))) (choose c (net_option total at m >>= (λ net. done (More net))) (check (Err e)))).takes words rest (Done u)
    → (words ≡ []) × (w.word ≡ codes ";") × (u ≡ record m { close = w.first })
closes_by total at m u w words rest e true c is h =
    let t = h.1 in
    (h.0, (bytes_eq-Decides w.word (codes ";")).0 is, cc)
closes_by total at m u w words rest e false true is h =
    let t = h.5.1 in
    absurd cc
closes_by total at m u w words rest e false false is h =
    let t = h.1 in
    absurd cc

pub closes : (total : ℕ) (m : OpenNet) (words : List Place) (rest : List Lexeme) (u : OpenNet) → (more_net total m).takes words rest (Done u) → Closes words m u
unfolding more_net
closes total m words rest u h =
    let w = h.5.0 in
    let c = closes_by total h.0 m u w h.5.2 rest (Expected w.line) (bytes_eq w.word (codes ";")) (bytes_eq w.word (codes "+")) refl h.5.5 in
    let empty : h.1 ≡ [] = h.4.3 ∙ ap (λ (v : List Place). v ++ h.4.2) h.4.4.0 ∙ h.4.5.0 in
    record {
      mark = w;
      whole = h.3 ∙ ap (λ (v : List Place). v ++ h.2) empty ∙ h.5.3 ∙ ap (λ (v : List Place). v ++ h.5.2) h.5.4 ∙ ap (λ (v : List Place). w ∷ v) c.0;
      semicolon = c.1;
      net = c.2;
    }

close_at : (total : ℕ) (n : OpenNet) (line first : ℕ) (rest : List Lexeme) → (more_net total n).takes (record { line = line; first = first; word = codes ";" } ∷ []) rest (Done (record n { close = first }))
unfolding more_net
close_at total n line first rest =
    let mark : Place = record { line = line; first = first; word = codes ";" } in
    let all = left_of (put (mark ∷ []) rest) in
    (total - all, [], mark ∷ [], refl, (all, [], [], refl, (refl, refl), (refl, refl)), (mark, mark ∷ [], [], refl, refl, (refl, refl)))

pub close_turn : (total : ℕ) (n : OpenNet) (mark : Place) (rest : List Lexeme) → mark.word ≡ codes ";" → (more_net total n).takes (mark ∷ []) rest (Done (record n { close = mark.first }))
close_turn total n mark rest e = by_word (λ (p : Place). (more_net total n).takes (p ∷ []) rest (Done (record n { close = p.first }))) (codes ";") (λ line first. close_at total n line first rest) mark e
