-- Each form is lawful.
use Rattle.std.proofs.Common.{◌≡◌, ℕ, ℤ, List, []}
use Rattle.rt_base.specs.declared.geometry.Point.{Point}
use Rattle.rt_forms.specs.Lexeme.{put}
use Rattle.rt_forms.specs.Form.{loop, text}
use Rattle.rt_forms.proofs.Laws.{Lawful, lawful, consuming, lawful_loop, lawful_text}
use Rattle.rt_forms.proofs.Whole.{IsWhole, text_is}
use Rattle.guide_text.specs.declared.read.Listed.{Listed}
use Rattle.guide_text.specs.IsGuides.{Box}
use Rattle.guide_text.specs.Guides.{corner_from, corner_above, box_from, more_boxes, net, guides}

lawful_corner : (x : ℤ) → Lawful (corner_from x)
unfolding corner_from
lawful_corner x = search lawful

lawful_above : (low : Point) → Lawful (corner_above low)
unfolding corner_above
lawful_above low = search lawful

lawful_box : (xl : ℤ) → Lawful (box_from xl)
unfolding box_from
lawful_box xl = search (lawful, lawful_corner, lawful_above) depth 16

lawful_more : (boxes : List Box) → Lawful (more_boxes boxes)
unfolding more_boxes
lawful_more boxes = search (lawful, lawful_box) depth 16

lawful_boxes : (boxes : List Box) → Lawful (loop more_boxes boxes)
unfolding more_boxes
lawful_boxes boxes = lawful_loop more_boxes boxes lawful_more (λ u. search consuming)

lawful_net : (s : Listed) → Lawful (net s)
unfolding net
lawful_net s = search (lawful, lawful_boxes) depth 16

lawful_nets : (s : Listed) → Lawful (text net s)
unfolding net
lawful_nets s = lawful_text net s lawful_net (λ u. search consuming)

pub lawful_guides : Lawful guides
unfolding guides
lawful_guides = search (lawful, lawful_nets)

pub guides_is : IsWhole guides
unfolding guides
guides_is = record {
  at_end = λ front rest l h.
      let e = (text_is net (record { names = []; nets = [] })).at_end h.1 (put h.2 rest) h.0 h.4 in
      let none : h.2 ≡ [] = h.5.0 in
      rw none at e;
}
