use Rattle.std.proofs.Common.{◌≡◌, ◌∙◌, ℕ, List, [], ◌∷◌, ◌++◌, Bool, true, false, not, cond, refl, sym, ap, bytes_eq}
use Rattle.std.specs.List.{list_any}
use Rattle.cells.proofs.FirstLemmas.{beside, claim_new, claim_old}
use Rattle.cells.proofs.firsts.Firsts.claim.Goals as goal

not_false : (b : Bool) → not b ≡ false → b ≡ true
not_false true h = refl
not_false false h = sym h

pub returns-in_ok-push-clause-claimed : goal.returns-in_ok-push-clause-claimed
returns-in_ok-push-clause-claimed g c q =
    let old = c.args.self.now.names in
    let more : List (List ℕ) = c.args.self.now.names ++ c.args.name.now ∷ [] in
    let names : c.add.new.self ≡ more = c.in_ok-add.ensures.names ∙ ap (λ (b : Bool). cond b more old) c.if-branch.true in
    ap (λ (ns : List (List ℕ)). beside c.push.new.self ns q) names
    ∙ ap (λ (ws : List g.row.N.Denot). beside ws more q) c.in_ok-push.ensures.ok
    ∙ claim_new c.args.self.now.numbers old c.args.name.now c.args.number q c.requires

pub returns-else-branch-clause-claimed : goal.returns-else-branch-clause-claimed
returns-else-branch-clause-claimed g c q =
    let old = c.args.self.now.names in
    let more : List (List ℕ) = c.args.self.now.names ++ c.args.name.now ∷ [] in
    let names : c.add.new.self ≡ old = c.in_ok-add.ensures.names ∙ ap (λ (b : Bool). cond b more old) c.if-branch.false in
    let there : list_any (bytes_eq c.args.name.now) old ≡ true = not_false _ (sym c.in_ok-add.ensures.added ∙ c.if-branch.false) in
    ap (λ (ns : List (List ℕ)). beside c.args.self.now.numbers ns q) names
    ∙ claim_old c.args.self.now.numbers old c.args.name.now c.args.number q c.requires there
