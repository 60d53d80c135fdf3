use Rattle.std.proofs.Common.{◌≡◌, ◌+◌, ◌^◌, ◌++◌, ◌∷◌, [], List, map, length, drop, get_or, Result, Ok, All, sym, ap, subst, ◌∙◌, append_assoc, arith}
use Rattle.std.proofs.lemmas.List.{length-append}
use Rattle.std.proofs.lemmas.List.Elements.{All-push}
use Rattle.rt_base.specs.declared.tech.Via.{Via}
use Rattle.def_text.specs.declared.def.DefVia.{DefVia}
use Rattle.def_wires.specs.Sound.{IsOn}
use Rattle.fixed_wires.specs.FixedWires.{values, via_said}
use Rattle.fixed_wires.proofs.Answering.{value_next, no_fault_next, values_few}
use Rattle.fixed_wires.proofs.vias.read_vias.Goals as goal

pub read_via-requires-clause-tokens : goal.read_via-requires-clause-tokens
read_via-requires-clause-tokens c = c.range_of-tokens.ensures.inside (length c.args.text.now) c.requires.tokens

pub items-preserved : goal.items-preserved
items-preserved c =
    let On : Via → Type 0 = λ v. All (IsOn (length c.args.tech.now.layers) (2 ^ 60 + 2 ^ 30)) v.rects in
    let said = via_said c.args.tech.now c.args.text.now c.args.tokens.now in
    let i = c.items.via-index in
    let d = c.via-item.result in
    let via = c.in_ok-read_via.field-0 in
    let here : said d ≡ Ok via = rw (c.bytes.ensures, c.range_of-tokens.ensures.value) at c.in_ok-read_via.ensures.says in
    let next : said (get_or c.args.vias.now i d) ≡ Ok via = subst (λ (v : DefVia). said v ≡ Ok via) c.via-item.is here in
    let rest = values (map said (drop (i + 1) c.args.vias.now)) in
    record {
      fault = c.items.invariant.fault ∙ no_fault_next said c.args.vias.now i d via c.items-test.true next;
      read = c.items.invariant.read
          ∙ ap (λ (vs : List Via). c.items.read ++ vs) (value_next said c.args.vias.now i d via c.items-test.true next)
          ∙ sym (append_assoc c.items.read (via ∷ []) rest)
          ∙ ap (λ (vs : List Via). vs ++ rest) (sym c.in_ok-push.ensures.ok);
      sound = subst (λ (vs : List Via). All On vs) (sym c.in_ok-push.ensures.ok) (All-push On c.items.read via c.items.invariant.sound c.in_ok-read_via.ensures.sound);
    }

pub returns-clause-count : goal.returns-clause-count
returns-clause-count c =
    let said = via_said c.args.tech.now c.args.text.now c.args.tokens.now in
    let rest = values (map said (drop c.items.via-index c.args.vias.now)) in
    omega (arith, ap length c.items.invariant.read, length-append c.items.read rest, values_few said c.args.vias.now)
