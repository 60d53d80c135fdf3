use Rattle.std.proofs.Common.{◌≡◌, ◌+◌, ◌^◌, ◌++◌, List, map, length, drop, get_or, Ok, All, sym, ap, subst, ◌∙◌, append_assoc}
use Rattle.std.specs.List.{flat_map}
use Rattle.std.proofs.lemmas.List.Elements.{All-append}
use Rattle.def_wires.specs.declared.wiring.Wiring.{Wiring}
use Rattle.def_wires.specs.Meaning.{Metal, wiring_metal}
use Rattle.def_wires.specs.Sound.{IsOn}
use Rattle.fixed_wires.specs.FixedWires.{values, wiring_said}
use Rattle.fixed_wires.proofs.Answering.{value_next, no_fault_next}
use Rattle.fixed_wires.proofs.wires.wires_metal.Goals as goal

pub read_wiring-requires-clause-tokens : goal.read_wiring-requires-clause-tokens
read_wiring-requires-clause-tokens c = c.range_of-tokens.ensures.inside (length c.args.text.now) c.requires.tokens

pub parts-preserved : goal.parts-preserved
parts-preserved c =
    let tech = c.args.on.now.tech in
    let ranges = c.args.ranges.now in
    let said = wiring_said tech c.args.text.now c.args.tokens.now c.args.special in
    let i = c.parts.range-index in
    let wiring = c.in_ok-wiring.wiring in
    let next : said (get_or ranges i (0, 0)) ≡ Ok wiring = rw c.range_of-tokens.ensures.value at c.in_ok-wiring.ensures.says in
    let rest = flat_map (wiring_metal tech) (values (map said (drop (i + 1) ranges))) in
    let added : c.append.new.items ≡ c.parts.metal ++ wiring_metal tech wiring = c.in_ok-append.ensures ∙ ap (λ (ms : List Metal). c.parts.metal ++ ms) c.in_ok-denote.ensures.value in
    record {
      fault = c.parts.invariant.fault ∙ no_fault_next said ranges i (0, 0) wiring c.parts-test.true next;
      metal = c.parts.invariant.metal
          ∙ ap (λ (ws : List Wiring). c.parts.metal ++ flat_map (wiring_metal tech) ws) (value_next said ranges i (0, 0) wiring c.parts-test.true next)
          ∙ sym (append_assoc c.parts.metal (wiring_metal tech wiring) rest)
          ∙ ap (λ (ms : List Metal). ms ++ rest) (sym added);
      within = subst (λ (ms : List Metal). All (IsOn (length tech.layers) (2 ^ 62)) ms) (sym c.in_ok-append.ensures) (All-append (IsOn (length tech.layers) (2 ^ 62)) c.parts.metal c.in_ok-denote.field-0 c.parts.invariant.within c.in_ok-denote.ensures.within);
    }
