use Rattle.std.proofs.Common.{◌∙◌, ap, arith, refl, string_bytes}
use Rattle.router.specs.Words.{word_texts}
use Rattle.router.proofs.WordLemmas.{word_get, says_line}
use Rattle.router.proofs.words.read_words.Goals as goal

pub returns-clause-says : goal.returns-clause-says
returns-clause-says c =
    let words = c.args.words.now in
    let whole = c.in_default.ensures.whole refl in
    let lef = ap string_bytes c.index-words-1.is ∙ word_get words 1 2 c.index-words-1.result refl (omega (arith, whole)) in
    let def = ap string_bytes c.index-words-2.is ∙ word_get words 2 3 c.index-words-2.result refl (omega (arith, whole)) in
    let guide = ap string_bytes c.index-words-3.is ∙ word_get words 3 4 c.index-words-3.result refl (omega (arith, whole)) in
    let out = ap string_bytes c.index-words-4.is ∙ word_get words 4 5 c.index-words-4.result refl (omega (arith, whole)) in
    let journal = ap string_bytes c.index-words-5.is ∙ word_get words 5 6 c.index-words-5.result refl (omega (arith, whole)) in
    says_line (word_texts words) _ _ _ _ _ _ _ _ c.in_default.ensures.fault lef def guide out journal c.via_cost.ensures.value c.tile_side.ensures.value c.rip_limit.ensures.value
