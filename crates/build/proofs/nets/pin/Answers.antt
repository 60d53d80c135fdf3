use Rattle.std.proofs.Common.{◌≡◌, ◌∙◌, ◌↔◌, List, AllPairs, Contains, sym, subst}
use Rattle.rt_base.specs.declared.walk.Entry.{Entry}
use Rattle.track_graph.specs.Entries.{IsEntry}
use Rattle.track_graph.specs.Metal.{Metal}
use Rattle.pin_access.specs.EntryOrder.{IsEntryBefore}
use Rattle.build.specs.Ground.{input_on, system_on}
use Rattle.build.specs.LookUps.{connected_rects}
use Rattle.build.proofs.PinRects.{are_metal, are_few, are_pin_metal}
use Rattle.build.proofs.nets.pin.Goals as goal

pub entries-requires : goal.entries-requires
entries-requires c =
    let on = c.args.on.now in
    let is : c.deref.result.now ≡ connected_rects (input_on on).lef (input_on on).def c.args.connection.now = c.deref.ensures.value ∙ c.in_ok-rects.ensures in
    record {
      tech = c.requires.is_tech;
      tracks = c.requires.are_tracks;
      rects = are_pin_metal on.tech.now c.deref.result.now (are_metal on c.args.connection.now c.deref.result.now c.requires is);
      count = are_few on c.args.connection.now c.deref.result.now c.requires is;
    }

pub returns-clause-said : goal.returns-clause-said
returns-clause-said c =
    let g = system_on c.args.on.now in
    let rects : c.deref.result.now ≡ c.from_vec.result = c.deref.ensures.value ∙ sym c.from_vec.ensures in
    record {
      comp = c.in_ok-copy_name.ensures;
      name = c.in_ok-copy_name-2.ensures;
      rects = c.from_vec.ensures ∙ c.in_ok-rects.ensures;
      entries = record {
        exactly = λ e.
            subst (λ (es : List Entry). Contains es e ↔ IsEntry g c.args.number c.from_vec.result e) (sym c.from_vec-2.ensures)
            (subst (λ (ms : List Metal). Contains c.in_ok-found.found.items e ↔ IsEntry g c.args.number ms e) rects (c.in_ok-found.ensures.exact e));
        ordered = subst (λ (es : List Entry). AllPairs IsEntryBefore es) (sym c.from_vec-2.ensures) c.in_ok-found.ensures.ordered;
      };
    }

pub returns-clause-fits : goal.returns-clause-fits
returns-clause-fits c =
    let on = c.args.on.now in
    let g = system_on c.args.on.now in
    let is : c.from_vec.result ≡ connected_rects (input_on on).lef (input_on on).def c.args.connection.now = c.from_vec.ensures ∙ c.in_ok-rects.ensures in
    let rects : c.deref.result.now ≡ c.from_vec.result = c.deref.ensures.value ∙ sym c.from_vec.ensures in
    record {
      rect_count = are_few on c.args.connection.now c.from_vec.result c.requires is;
      rects = are_metal on c.args.connection.now c.from_vec.result c.requires is;
      entries = λ e.
          subst (λ (es : List Entry). Contains es e ↔ IsEntry g c.args.number c.from_vec.result e) (sym c.from_vec-2.ensures)
          (subst (λ (ms : List Metal). Contains c.in_ok-found.found.items e ↔ IsEntry g c.args.number ms e) rects (c.in_ok-found.ensures.exact e));
    }
