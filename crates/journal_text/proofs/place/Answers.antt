use Rattle.std.proofs.Common.{◌≡◌, ◌++◌, List, ℕ, rules, to_z, of_z, w64}
use Rattle.std.specs.Prelude.{codes}
use Rattle.std.specs.Fmt.{signed_decimal}
use Rattle.std.proofs.lemmas.Int.{to_z-of_z}
use Rattle.track_graph.proofs.PathLemmas.{joined}
use Rattle.journal_text.proofs.place.Goals as goal

pub returns : goal.returns
returns c =
    let t : List ℕ = c.args.text.now in
    let x : to_z w64 (of_z w64 c.args.point.x) ≡ c.args.point.x = to_z-of_z w64 _ (search rules) in
    let y : to_z w64 (of_z w64 c.args.point.y) ≡ c.args.point.y = to_z-of_z w64 _ (search rules) in
    let x_text : List ℕ = signed_decimal c.args.point.x in
    let space : List ℕ = codes " " in
    let y_text : List ℕ = signed_decimal c.args.point.y in
    joined t _ _ (x_text ++ space) y_text
    (joined t _ _ x_text space (rw x at c.in_ok-integer.ensures.ok) c.in_ok-bytes.ensures.ok)
    (rw y at c.in_ok-integer-2.ensures.ok)
