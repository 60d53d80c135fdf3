use Rattle.std.proofs.Common.{◌↔◌, inl, inr, ⊎_elim, Contains}
use Rattle.pin_access.specs.EntryOrder.{system_of}
use Rattle.pin_access.specs.Nearby.{IsNear, IsNearMetal}
use Rattle.pin_access.proofs.EntryLemmas.{near_metal_exactly}
use Rattle.pin_access.proofs.listing.add_near.Goals as goal

pub returns-clause-adds : goal.returns-clause-adds
returns-clause-adds c = λ v.
    let g = system_of c.args.tech.now c.args.tracks.now c.args.die in
    let near : IsNear g c.in-Some.level c.reach_of.result c.args.metal.now.1 v ↔ IsNearMetal g c.args.steps c.args.metal.now v = near_metal_exactly g c.args.steps c.in-Some.level c.reach_of.result c.args.metal.now v c.in-Some.ensures.0 c.in-Some.ensures.1 c.reach_of.ensures.value in
    let is = c.in_ok-add_area.ensures v in (
      λ h. ⊎_elim (λ (old : Contains c.args.out.now.items v). inl old) (λ (n : IsNear g c.in-Some.level c.reach_of.result c.args.metal.now.1 v). inr (near.0 n)) (is.0 h),
      λ h. is.1 (⊎_elim (λ (old : Contains c.args.out.now.items v). inl old) (λ (n : IsNearMetal g c.args.steps c.args.metal.now v). inr (near.1 n)) h),
    )
