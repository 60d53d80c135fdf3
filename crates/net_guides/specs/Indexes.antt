-- Look-ups of guides by name, as the code keeps them.
use Rattle.std.specs.Prelude.{◌≡◌, List, map}
use Rattle.rt_base.specs.declared.tech.Layer.{Layer}
use Rattle.guide_text.specs.IsGuides.{Guide}
use Rattle.net_guides.specs.declared.index.NetGuides.{NetGuides}
use Rattle.net_guides.specs.NetGuides.{level_names}

-- the names of these layers' levels and of these guides' nets, in order
pub record IsIndexOf (layers : List Layer) (guides : List Guide) (index : NetGuides) : Type 0 where
  pub level_names_are : index.levels ≡ level_names layers
  pub net_names_are : index.nets ≡ map (λ (g : Guide). g.0) guides
