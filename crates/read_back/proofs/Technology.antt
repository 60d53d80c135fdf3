-- The technology of wiring: LEF's layers and vias, and after these the vias of DEF.
use Rattle.std.proofs.Common.{◌≡◌, ◌≢◌, false, ℕ, zero, suc, List, [], ◌∷◌, ◌++◌, Some, Result, Ok, Err, All, IsTrue, Contains, refl, sym, ap, ◌∙◌, map, slice_get, arith}
use Rattle.std.proofs.lemmas.List.Elements.{All-nil, All-cons}
use Rattle.lef_text.specs.declared.lef.Lef.{Lef}
use Rattle.rt_base.specs.declared.tech.Tech.{Tech}
use Rattle.rt_base.specs.declared.tech.Via.{Via}
use Rattle.rt_base.specs.declared.token.Token.{Token}
use Rattle.rt_forms.specs.Lexeme.{lexemes}
use Rattle.rt_forms.proofs.Laws.{bind_ok, ok_is}
use Rattle.def_text.specs.declared.def.DefVia.{DefVia}
use Rattle.def_wires.specs.declared.error.WireFault.{WireFault}
use Rattle.def_wires.specs.Faults.{wire_faults}
use Rattle.def_wires.specs.Vias.{named_via, via_form}
use Rattle.def_wires.proofs.ViaGrammar.{lawful_via_form}
use Rattle.fixed_wires.specs.FixedWires.{range_of, values, via_said}
use Rattle.build.specs.Built.{IsTechOf}
use Rattle.build.specs.Inputs.{Input}
use Rattle.build.specs.Wires.{tech_said, wiring_tech}
use Rattle.build.proofs.UsableVias.{usable_said}

-- a via of DEF has the name that DEF gives it
said_name : (tech : Tech) (text : List ℕ) (tokens : List Token) (v : DefVia) (u : Via) → via_said tech text tokens v ≡ Ok u → u.name ≡ v.name
unfolding named_via
said_name tech text tokens v u h =
    let read = bind_ok ((via_form v.name tech).read wire_faults (lexemes text (range_of tokens v.tokens))) _ u h in
    let taken = (lawful_via_form v.name tech).found wire_faults (lexemes text (range_of tokens v.tokens)) read.0.1 read.0.0 read.1 in
    let whole = taken.2 in
    let named = whole.4 in
    let here : u ≡ read.0.0 = sym (ok_is {E = WireFault} read.0.0 u read.2) in
    let last : whole.0 ≡ read.0.0 = ok_is {E = WireFault} whole.0 read.0.0 whole.5.5.1 in
    ap (λ (x : Via). x.name) (here ∙ sym last) ∙ sym (ap (λ (x : Via). x.name) (ok_is {E = WireFault} (record { name = v.name; usable = false; rects = named.0 }) whole.0 named.5.1))

-- no via of DEF has a name that DEF doesn't give
pub none_named : (tech : Tech) (text : List ℕ) (tokens : List Token) (name : List ℕ) (vias : List DefVia) → (Contains (map (λ (v : DefVia). v.name) vias) name → ⊥) → All (λ (u : Via). u.name ≢ name) (values (map (via_said tech text tokens) vias))
none_named tech text tokens name [] not_there = All-nil (λ (u : Via). u.name ≢ name)
none_named tech text tokens name (v ∷ vias) not_there = by_said (via_said tech text tokens v) (λ u e. said_name tech text tokens v u e) (none_named tech text tokens name vias (λ h. not_there (suc h.0, omega (arith, h.1), h.2)))
  where
    by_said : (r : Result Via WireFault) → ((u : Via) → r ≡ Ok u → u.name ≡ v.name) → All (λ (u : Via). u.name ≢ name) (values (map (via_said tech text tokens) vias)) → All (λ (u : Via). u.name ≢ name) (values (r ∷ map (via_said tech text tokens) vias))
    by_said (Ok u) is others = All-cons (λ (x : Via). x.name ≢ name) u _ (λ e. not_there (0, omega arith, sym (is u refl) ∙ e)) others
    by_said (Err e) is others = others

get_first : {A : Type 0} (xs ys : List A) (k : ℕ) (x : A) → slice_get xs k ≡ Some x → slice_get (xs ++ ys) k ≡ Some x
get_first [] ys k x h = absurd cc
get_first (z ∷ xs) ys zero x h = h
get_first (z ∷ xs) ys (suc k) x h = get_first xs ys k x h

-- wiring means the design's usable vias by their numbers, with whatever further vias
pub via_stands : (i again : Input) (tech : Tech) → IsTechOf i tech → again.lef ≡ i.lef → (k : ℕ) (v : Via) → slice_get tech.vias k ≡ Some v → IsTrue v.usable → (u : Via) × (slice_get (wiring_tech again).vias k ≡ Some u) × (u.rects ≡ v.rects)
via_stands i again tech h same k v is usable =
    let said = usable_said i tech h k v is usable in
    let at : slice_get again.lef.vias k ≡ Some said.0 = ap (λ (l : Lef). slice_get l.vias k) same ∙ said.1 in
    (said.0, get_first again.lef.vias (values (map (via_said (tech_said again.lef) again.text again.tokens) again.def.vias)) k said.0 at, said.3)
