-- A usable via of the design is LEF's.
use Rattle.std.proofs.Common.{◌≡◌, false, ℕ, zero, suc, List, [], ◌∷◌, ◌++◌, Some, Result, Ok, Err, All, IsTrue, refl, sym, ap, subst, ◌∙◌, map, slice_get}
use Rattle.std.proofs.lemmas.List.Elements.{All-nil, All-cons, All-weaker}
use Rattle.std.proofs.lemmas.Bool.{false≢true}
use Rattle.rt_base.proofs.Lists.{All-at}
use Rattle.rt_base.specs.declared.tech.Tech.{Tech}
use Rattle.rt_base.specs.declared.tech.Via.{Via}
use Rattle.rt_base.specs.declared.token.Token.{Token}
use Rattle.rt_forms.specs.Lexeme.{lexemes}
use Rattle.rt_forms.proofs.Laws.{bind_ok, ok_is}
use Rattle.def_text.specs.declared.def.DefVia.{DefVia}
use Rattle.def_wires.specs.declared.error.WireFault.{WireFault}
use Rattle.def_wires.specs.Faults.{wire_faults}
use Rattle.def_wires.specs.Vias.{named_via, via_form}
use Rattle.def_wires.proofs.ViaGrammar.{lawful_via_form}
use Rattle.fixed_wires.specs.FixedWires.{range_of, values, via_said}
use Rattle.build.specs.Built.{IsViaSaid, IsTechOf}
use Rattle.build.specs.Inputs.{Input}
use Rattle.build.specs.Wires.{tech_said, wiring_tech}
use Rattle.build.proofs.Zips.{AllZip-second}

-- no via of DEF is said to be usable
said_usable : (tech : Tech) (text : List ℕ) (tokens : List Token) (v : DefVia) (u : Via) → via_said tech text tokens v ≡ Ok u → u.usable ≡ false
unfolding named_via
said_usable tech text tokens v u h =
    let read = bind_ok ((via_form v.name tech).read wire_faults (lexemes text (range_of tokens v.tokens))) _ u h in
    let taken = (lawful_via_form v.name tech).found wire_faults (lexemes text (range_of tokens v.tokens)) read.0.1 read.0.0 read.1 in
    let whole = taken.2 in
    let named = whole.4 in
    let here : u ≡ read.0.0 = sym (ok_is {E = WireFault} read.0.0 u read.2) in
    let last : whole.0 ≡ read.0.0 = ok_is {E = WireFault} whole.0 read.0.0 whole.5.5.1 in
    ap (λ (x : Via). x.usable) (here ∙ sym last) ∙ sym (ap (λ (x : Via). x.usable) (ok_is {E = WireFault} (record { name = v.name; usable = false; rects = named.0 }) whole.0 named.5.1))

never_usable : (tech : Tech) (text : List ℕ) (tokens : List Token) (vias : List DefVia) → All (λ (u : Via). u.usable ≡ false) (values (map (via_said tech text tokens) vias))
never_usable tech text tokens [] = All-nil (λ (u : Via). u.usable ≡ false)
never_usable tech text tokens (v ∷ vias) = by_said (via_said tech text tokens v) (λ u e. said_usable tech text tokens v u e) (never_usable tech text tokens vias)
  where
    by_said : (r : Result Via WireFault) → ((u : Via) → r ≡ Ok u → u.usable ≡ false) → All (λ (u : Via). u.usable ≡ false) (values (map (via_said tech text tokens) vias)) → All (λ (u : Via). u.usable ≡ false) (values (r ∷ map (via_said tech text tokens) vias))
    by_said (Ok u) is others = All-cons (λ (x : Via). x.usable ≡ false) u _ (is u refl) others
    by_said (Err e) is others = others

-- one of two lists of which the second has none such is of the first
get_before : {A : Type 0} (P : A → Type 0) (xs ys : List A) (k : ℕ) (x : A) → All (λ y. P y → ⊥) ys → P x → slice_get (xs ++ ys) k ≡ Some x → slice_get xs k ≡ Some x
get_before P [] ys k x none p h = absurd (All-at (λ y. P y → ⊥) ys k x none h p)
get_before P (z ∷ xs) ys zero x none p h = h
get_before P (z ∷ xs) ys (suc k) x none p h = get_before P xs ys k x none p h

never : (u : Via) → u.usable ≡ false → IsTrue u.usable → ⊥
never u h t = false≢true (subst IsTrue h t)

-- a usable via of the design is LEF's, under its number
pub usable_said : (i : Input) (tech : Tech) → IsTechOf i tech → (k : ℕ) (v : Via) → slice_get tech.vias k ≡ Some v → IsTrue v.usable → (u : Via) × (slice_get i.lef.vias k ≡ Some u) × (u.name ≡ v.name) × (u.rects ≡ v.rects)
usable_said i tech h k v is usable =
    let said = AllZip-second (IsViaSaid tech) (wiring_tech i).vias tech.vias k v h.vias is in
    let further : List Via = values (map (via_said (tech_said i.lef) i.text i.tokens) i.def.vias) in
    let none : All (λ (u : Via). IsTrue u.usable → ⊥) further = All-weaker (λ (u : Via). u.usable ≡ false) (λ (u : Via). IsTrue u.usable → ⊥) never further (never_usable (tech_said i.lef) i.text i.tokens i.def.vias) in
    (said.0, get_before (λ (u : Via). IsTrue u.usable) i.lef.vias further k said.0 none (said.2.usable.0 usable).0 said.1, sym said.2.name, sym said.2.rects)
