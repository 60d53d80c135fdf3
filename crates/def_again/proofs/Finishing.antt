-- What a text says at its end, of both texts.
use Rattle.std.proofs.Common.{length, ◌≡◌, ℕ, List, [], ◌∷◌, map, Option, Some, None, Ok, refl, ap, sym, ◌∙◌, subst, append-nil}
use Rattle.std.specs.List.{AllZip}
use Rattle.rt_base.specs.Sides.{Sides}
use Rattle.rt_forms.specs.Lexeme.{Place}
use Rattle.rt_forms.proofs.Laws.{ok_is}
use Rattle.def_text.specs.declared.error.DefError.{DefError}
use Rattle.def_text.specs.declared.def.Def.{Def}
use Rattle.def_text.specs.declared.def.DefNet.{DefNet}
use Rattle.def_text.specs.declared.def.DefVia.{DefVia}
use Rattle.def_text.specs.declared.statements.Parsed.{Parsed}
use Rattle.def_text.specs.Texts.{or_none, finished_of, finished}
use Rattle.same_words.specs.Values.{Pairwise, OptionBy}
use Rattle.same_words.specs.States.{IsViaBy, IsNetBy, IsParsedBy}
use Rattle.def_again.specs.Again.{range_words, IsViaAgain, IsNetAgain, IsAgain}
use Rattle.def_again.proofs.Items.{SameRange, ranges_words}
use Rattle.def_again.proofs.Loop.{AreGrownBy}

abbrev def_of : ℕ → Sides → Parsed → Def
def_of units die s = record {
  units = units;
  die = die;
  tracks = s.tracks;
  vias = or_none s.vias;
  components = or_none s.components;
  pins = or_none s.pins;
  blockages = or_none s.blockages;
  special = or_none s.special;
  nets = or_none s.nets;
  skipped = s.skipped;
}

-- what was read, where units and die are there
pub record IsFinished (s : Parsed) (d : Def) : Type 0 where
  pub units : ℕ
  pub die : Sides
  pub read_units : s.units ≡ Some units
  pub read_die : s.die ≡ Some die
  pub same : d ≡ def_of units die s

pub is_finished : (s : Parsed) (d : Def) → finished s ≡ Ok d → IsFinished s d
is_finished s d h = go s.units s.die refl refl h
  where
    go : (u : Option ℕ) (x : Option Sides) → s.units ≡ u → s.die ≡ x → finished_of u x s ≡ Ok d → IsFinished s d
    go None x eu ex q = absurd cc
    go (Some u) None eu ex q = absurd cc
    go (Some u) (Some x) eu ex q = record { units = u; die = x; read_units = eu; read_die = ex; same = sym (ok_is {E = DefError} (def_of u x s) d q) }

vias_again : (old new : List Place) (vs ws : List DefVia) → Pairwise (IsViaBy (SameRange old new)) vs ws → AllZip (IsViaAgain old new) vs ws
vias_again old new [] [] h = tt
vias_again old new [] (w ∷ ws) h = absurd h
vias_again old new (v ∷ vs) [] h = absurd h
vias_again old new (v ∷ vs) (w ∷ ws) h = (record { name = h.0.name; words = h.0.tokens }, vias_again old new vs ws h.1)

vias_or_none : (old new : List Place) (o p : Option (List DefVia)) → OptionBy (Pairwise (IsViaBy (SameRange old new))) o p → AllZip (IsViaAgain old new) (or_none o) (or_none p)
vias_or_none old new None None h = tt
vias_or_none old new None (Some ws) h = absurd h
vias_or_none old new (Some vs) None h = absurd h
vias_or_none old new (Some vs) (Some ws) h = vias_again old new vs ws h

nets_again : (old new : List Place) (ms ns : List DefNet) → Pairwise (IsNetBy (SameRange old new)) ms ns → AllZip (IsNetAgain old new []) ms ns
nets_again old new [] [] h = tt
nets_again old new [] (n ∷ ns) h = absurd h
nets_again old new (m ∷ ms) [] h = absurd h
nets_again old new (m ∷ ms) (n ∷ ns) h =
    (record { name = h.0.name; pins = h.0.pins; wiring = ranges_words old new m.wiring n.wiring h.0.wiring ∙ sym (append-nil (map (range_words old) m.wiring)) }, nets_again old new ms ns h.1)

nets_or_none : (old new : List Place) (o p : Option (List DefNet)) → OptionBy (Pairwise (IsNetBy (SameRange old new))) o p → AllZip (IsNetAgain old new []) (or_none o) (or_none p)
nets_or_none old new None None h = tt
nets_or_none old new None (Some ns) h = absurd h
nets_or_none old new (Some ms) None h = absurd h
nets_or_none old new (Some ms) (Some ns) h = nets_again old new ms ns h

-- the second text says it again, with what was put in
pub finish_again : (old new : List Place) (added : List (List (List ℕ))) (total more : ℕ) (t t' : Parsed) (d : Def) → IsParsedBy total more (SameRange old new) (AreGrownBy old new added) t t' → IsFinished t d → length added ≡ length d.nets → (e : Def) × (finished t' ≡ Ok e) × IsAgain old new added d e
finish_again old new added total more t t' d h f many =
    let e = def_of f.units f.die t' in
    let says : finished t' ≡ Ok e = ap (λ (o : Option ℕ). finished_of o t'.die t') (h.units ∙ f.read_units) ∙ ap (λ (o : Option Sides). finished_of (Some f.units) o t') (h.die ∙ f.read_die) in
    let again : IsAgain old new added (def_of f.units f.die t) e = record {
      count = many ∙ ap (λ (x : Def). length x.nets) f.same;
      units = refl;
      die = refl;
      tracks = h.tracks;
      vias = vias_or_none old new t.vias t'.vias h.vias;
      components = ap or_none h.components;
      pins = ap or_none h.pins;
      blockages = ap or_none h.blockages;
      special = nets_or_none old new t.special t'.special h.special;
      nets = h.nets;
      skipped = h.skipped;
    } in
    (e, says, subst (λ (v : Def). IsAgain old new added v e) (sym f.same) again)
