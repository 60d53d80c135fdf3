use Rattle.std.proofs.Common.{◌≡◌, ◌∙◌, ℕ, List, Bool, Option, Some, None, cond, sym, ap, take, bytes_eq}
use Rattle.std.specs.List.{list_any}
use Rattle.std.specs.Option.{option_or}
use Rattle.std.proofs.lemmas.List.{take_all}
use Rattle.cells.specs.Firsts.{first_in}
use Rattle.cells.specs.Owners.{same_pin}
use Rattle.cells.specs.Indexes.{key}
use Rattle.cells.proofs.FirstLemmas.{claimed_twice}
use Rattle.cells.proofs.KeyLemmas.{key_same}
use Rattle.cells.proofs.Lists.{any_more}
use Rattle.cells.proofs.owners.Owners.claim_all.Goals as goal

pub loop-connection-preserved : goal.loop-connection-preserved
loop-connection-preserved c = (
  c.in_ok-claim.ensures.paired,
  λ d.
      let item = c.connection-item.result in
      let all = c.args.connections.now in
      let i = c.loop-connection.connection-index in
      let q = key d.0 d.1 in
      let net = c.args.net in
      let name : c.deref.result.now ≡ key c.connection-item.result.0 c.connection-item.result.1 = c.deref.ensures.value ∙ c.in_ok-key.ensures ∙ ap (λ (a : List ℕ). key a c.bytes-in-loop-connection.result.now) c.bytes.ensures ∙ ap (key item.0) c.bytes-in-loop-connection.ensures in
      c.in_ok-claim.ensures.claimed q
      ∙ ap (λ (n : List ℕ). option_or (first_in c.loop-connection.self.nets q) (cond (bytes_eq q n) (Some net) None)) name
      ∙ ap (λ (b : Bool). option_or (first_in c.loop-connection.self.nets q) (cond b (Some net) None)) (key_same d.0 d.1 item.0 item.1)
      ∙ ap (λ (o : Option ℕ). option_or o (cond (same_pin d item) (Some net) None)) (c.loop-connection.invariant.1 d)
      ∙ claimed_twice (first_in c.args.self.now.nets q) (list_any (same_pin d) (take i all)) (same_pin d item) net
      ∙ sym (ap (λ (b : Bool). option_or (first_in c.args.self.now.nets q) (cond b (Some net) None)) (any_more (same_pin d) all i item c.loop-connection-test.true c.connection-item.is)),
)

pub returns-clause-claimed : goal.returns-clause-claimed
returns-clause-claimed c d =
    c.loop-connection.invariant.1 d
    ∙ ap (λ (cs : List (List ℕ × List ℕ)). option_or (first_in c.args.self.now.nets (key d.0 d.1)) (cond (list_any (same_pin d) cs) (Some c.args.net) None)) (take_all c.loop-connection.connection-index c.args.connections.now c.loop-connection-test.false)
