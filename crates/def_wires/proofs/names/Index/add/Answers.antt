use Rattle.std.proofs.Common.{◌≡◌, ℕ, List, ◌++◌, ◌∷◌, [], bytes_eq, true, not, sym, ◌∙◌}
use Rattle.std.specs.List.{list_any}
use Rattle.def_wires.proofs.Naming.{find_is, found_push, found_again, not_false}
use Rattle.def_wires.proofs.names.Index.add.Goals as goal

pub returns-in_ok-push-clause-found : goal.returns-in_ok-push-clause-found
returns-in_ok-push-clause-found c = λ word.
    let old = c.args.self.now in
    let names : c.add.new.self ≡ old.names ++ c.args.name.now ∷ [] = rw c.if-branch.true at c.in_ok-add.ensures.names in
    let places : c.push.new.self ≡ old.places ++ c.args.place ∷ [] = c.in_ok-push.ensures.ok in
    rw (names, places) (find_is word (old.names ++ c.args.name.now ∷ []) (old.places ++ c.args.place ∷ []) ∙ rw (find_is word old.names old.places) (found_push word old.names old.places c.args.name.now c.args.place c.requires))

pub returns-else-branch-clause-found : goal.returns-else-branch-clause-found
returns-else-branch-clause-found c = λ word.
    let old = c.args.self.now in
    let names : c.add.new.self ≡ old.names = rw c.if-branch.false at c.in_ok-add.ensures.names in
    let there : list_any (bytes_eq c.args.name.now) old.names ≡ true = not_false _ (sym c.in_ok-add.ensures.added ∙ c.if-branch.false) in
    rw (names, find_is word old.names old.places) (sym (found_again word old.names old.places c.args.name.now c.args.place c.requires there))
