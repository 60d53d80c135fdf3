use Rattle.std.proofs.Common.{◌∙◌, map, ap, bytes_eq}
use Rattle.std.specs.List.{list_any}
use Rattle.rt_base.specs.declared.tech.Layer.{Layer}
use Rattle.build.proofs.layer_names.LayerNames.new.Goals as goal

pub returns : goal.returns
returns c = record {
  shaped_names = c.in_ok-shaped_names.ensures ∙ ap (map (λ (l : Layer). l.name)) c.as_slice.ensures;
  dropped_names = λ q. c.in_ok-names_once.ensures q ∙ ap (list_any (bytes_eq q)) c.as_slice-2.ensures;
}
