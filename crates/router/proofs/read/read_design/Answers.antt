use Rattle.std.proofs.Common.{◌∙◌, ap}
use Rattle.std.proofs.lemmas.Result.{err_from_is_err_and}
use Rattle.router.specs.Words.{asked_by, guide_of}
use Rattle.router.specs.Outputs.{shelf_at}
use Rattle.router.proofs.ReadLemmas.{lef_cause, def_cause, text_cause, guide_cause, build_cause, sources_of, grown, read_of, guides_read, lef_count, both_counts, guide_count}
use Rattle.router.proofs.read.read_design.Goals as goal

pub returns-in_err-lef-clause-refusal : goal.returns-in_err-lef-clause-refusal
returns-in_err-lef-clause-refusal g c =
    let p = err_from_is_err_and c.from_residual.result c.from_residual.ensures.1 in
    rw (p.1, p.2) (lef_cause (shelf_at g.F.Shelf.told g.F.Shelf.faults c.args.files.now) (shelf_at g.F.Shelf.told g.F.Shelf.faults c.take_lef.new.files) (asked_by c.args.command.now) _ _ c.as_str.ensures.value c.in_err-lef.ensures.refusal)

pub returns-in_err-def-clause-refusal : goal.returns-in_err-def-clause-refusal
returns-in_err-def-clause-refusal g c =
    let p = err_from_is_err_and c.from_residual-in_err-def.result c.from_residual-in_err-def.ensures.1 in
    rw (p.1, p.2) (def_cause (shelf_at g.F.Shelf.told g.F.Shelf.faults c.args.files.now) (shelf_at g.F.Shelf.told g.F.Shelf.faults c.take_lef.new.files) (shelf_at g.F.Shelf.told g.F.Shelf.faults c.take_def.new.files) (asked_by c.args.command.now) _ _ _ _ c.as_str.ensures.value c.as_str-2.ensures.value c.in_ok-lef.ensures.source c.in_ok-lef.ensures.same c.in_ok-lef.ensures.count c.in_err-def.ensures.refusal)

pub returns-in_err-said-clause-refusal : goal.returns-in_err-said-clause-refusal
returns-in_err-said-clause-refusal g c =
    let p = err_from_is_err_and c.from_residual-in_err-said.result c.from_residual-in_err-said.ensures.1 in
    rw (p.1, p.2) (text_cause (shelf_at g.F.Shelf.told g.F.Shelf.faults c.args.files.now) (shelf_at g.F.Shelf.told g.F.Shelf.faults c.take_def.new.files) (asked_by c.args.command.now) _ _ _ (sources_of (g.F.Shelf.told c.args.files.now) (g.F.Shelf.told c.take_lef.new.files) (asked_by c.args.command.now) _ _ _ _ c.as_str.ensures.value c.as_str-2.ensures.value c.in_ok-lef.ensures.source c.in_ok-lef.ensures.same c.in_ok-def.ensures.source) c.in_err-said.ensures.refusal)

pub returns-in_err-guides-clause-refusal : goal.returns-in_err-guides-clause-refusal
returns-in_err-guides-clause-refusal g c =
    let p = err_from_is_err_and c.from_residual-in_err-guides.result c.from_residual-in_err-guides.ensures.1 in
    rw (p.1, p.2) (guide_cause (shelf_at g.F.Shelf.told g.F.Shelf.faults c.args.files.now) (shelf_at g.F.Shelf.told g.F.Shelf.faults c.take_def.new.files) (shelf_at g.F.Shelf.told g.F.Shelf.faults c.read_guides.new.files) (asked_by c.args.command.now) _ _ _ (guide_of c.as_str-3.result.now) _ (ap guide_of c.as_str-3.ensures.value) (sources_of (g.F.Shelf.told c.args.files.now) (g.F.Shelf.told c.take_lef.new.files) (asked_by c.args.command.now) _ _ _ _ c.as_str.ensures.value c.as_str-2.ensures.value c.in_ok-lef.ensures.source c.in_ok-lef.ensures.same c.in_ok-def.ensures.source) c.in_ok-said.ensures.say (c.in_ok-def.ensures.same ∙ c.in_ok-lef.ensures.same) (grown _ _ _ c.in_ok-lef.ensures.count c.in_ok-def.ensures.count) c.in_err-guides.ensures.refusal)

pub returns-in_err-design-clause-refusal : goal.returns-in_err-design-clause-refusal
returns-in_err-design-clause-refusal g c =
    let p = err_from_is_err_and c.from_residual-in_err-design.result c.from_residual-in_err-design.ensures.1 in
    rw (p.1, p.2) (build_cause (shelf_at g.F.Shelf.told g.F.Shelf.faults c.args.files.now) (shelf_at g.F.Shelf.told g.F.Shelf.faults c.read_guides.new.files) (asked_by c.args.command.now) _ _ _ _ _ (sources_of (g.F.Shelf.told c.args.files.now) (g.F.Shelf.told c.take_lef.new.files) (asked_by c.args.command.now) _ _ _ _ c.as_str.ensures.value c.as_str-2.ensures.value c.in_ok-lef.ensures.source c.in_ok-lef.ensures.same c.in_ok-def.ensures.source) c.in_ok-said.ensures.say (guides_read (g.F.Shelf.told c.args.files.now) (g.F.Shelf.told c.take_def.new.files) _ _ (asked_by c.args.command.now) (ap guide_of c.as_str-3.ensures.value) (c.in_ok-def.ensures.same ∙ c.in_ok-lef.ensures.same) c.in_ok-guides.ensures.guides) (rw c.as_ref.ensures.value at c.in_err-design.ensures.refusal))

pub returns-clause-design : goal.returns-clause-design
returns-clause-design g c = read_of (g.F.Shelf.told c.args.files.now) (asked_by c.args.command.now) _ _ _ _ _ (sources_of (g.F.Shelf.told c.args.files.now) (g.F.Shelf.told c.take_lef.new.files) (asked_by c.args.command.now) _ _ _ _ c.as_str.ensures.value c.as_str-2.ensures.value c.in_ok-lef.ensures.source c.in_ok-lef.ensures.same c.in_ok-def.ensures.source) c.in_ok-said.ensures.say (guides_read (g.F.Shelf.told c.args.files.now) (g.F.Shelf.told c.take_def.new.files) _ _ (asked_by c.args.command.now) (ap guide_of c.as_str-3.ensures.value) (c.in_ok-def.ensures.same ∙ c.in_ok-lef.ensures.same) c.in_ok-guides.ensures.guides) (rw c.as_ref.ensures.value at c.in_ok-design.ensures.design) c.in_ok-said.ensures.fit (rw c.as_slice.ensures at c.vias_in_order.ensures)

pub returns-in_err-lef-clause-sure_count : goal.returns-in_err-lef-clause-sure_count
returns-in_err-lef-clause-sure_count g c = λ sure held. lef_count (g.F.Shelf.told c.args.files.now) (asked_by c.args.command.now) _ _ _ c.as_str.ensures.value held (c.in_err-lef.ensures.sure_count sure)

pub returns-in_err-def-clause-sure_count : goal.returns-in_err-def-clause-sure_count
returns-in_err-def-clause-sure_count g c = λ sure held. both_counts (g.F.Shelf.told c.args.files.now) (g.F.Shelf.told c.take_lef.new.files) (asked_by c.args.command.now) _ _ _ _ _ c.as_str.ensures.value c.as_str-2.ensures.value c.in_ok-lef.ensures.same held (c.in_ok-lef.ensures.sure_count sure) (c.in_err-def.ensures.sure_count (c.in_ok-lef.ensures.stays_sure sure))

pub returns-in_err-said-clause-sure_count : goal.returns-in_err-said-clause-sure_count
returns-in_err-said-clause-sure_count g c = λ sure held. both_counts (g.F.Shelf.told c.args.files.now) (g.F.Shelf.told c.take_lef.new.files) (asked_by c.args.command.now) _ _ _ _ _ c.as_str.ensures.value c.as_str-2.ensures.value c.in_ok-lef.ensures.same held (c.in_ok-lef.ensures.sure_count sure) (c.in_ok-def.ensures.sure_count (c.in_ok-lef.ensures.stays_sure sure))

pub returns-in_err-guides-clause-sure_count : goal.returns-in_err-guides-clause-sure_count
returns-in_err-guides-clause-sure_count g c = λ sure held. guide_count (g.F.Shelf.told c.args.files.now) (g.F.Shelf.told c.take_def.new.files) (asked_by c.args.command.now) (guide_of c.as_str-3.result.now) _ _ (ap guide_of c.as_str-3.ensures.value) (c.in_ok-def.ensures.same ∙ c.in_ok-lef.ensures.same) held (c.in_err-guides.ensures.sure_count (c.in_ok-def.ensures.stays_sure (c.in_ok-lef.ensures.stays_sure sure))) ∙ both_counts (g.F.Shelf.told c.args.files.now) (g.F.Shelf.told c.take_lef.new.files) (asked_by c.args.command.now) _ _ _ _ _ c.as_str.ensures.value c.as_str-2.ensures.value c.in_ok-lef.ensures.same held (c.in_ok-lef.ensures.sure_count sure) (c.in_ok-def.ensures.sure_count (c.in_ok-lef.ensures.stays_sure sure))

pub returns-in_err-design-clause-sure_count : goal.returns-in_err-design-clause-sure_count
returns-in_err-design-clause-sure_count g c = λ sure held. guide_count (g.F.Shelf.told c.args.files.now) (g.F.Shelf.told c.take_def.new.files) (asked_by c.args.command.now) (guide_of c.as_str-3.result.now) _ _ (ap guide_of c.as_str-3.ensures.value) (c.in_ok-def.ensures.same ∙ c.in_ok-lef.ensures.same) held (c.in_ok-guides.ensures.sure_count (c.in_ok-def.ensures.stays_sure (c.in_ok-lef.ensures.stays_sure sure))) ∙ both_counts (g.F.Shelf.told c.args.files.now) (g.F.Shelf.told c.take_lef.new.files) (asked_by c.args.command.now) _ _ _ _ _ c.as_str.ensures.value c.as_str-2.ensures.value c.in_ok-lef.ensures.same held (c.in_ok-lef.ensures.sure_count sure) (c.in_ok-def.ensures.sure_count (c.in_ok-lef.ensures.stays_sure sure))

pub returns-clause-sure_count : goal.returns-clause-sure_count
returns-clause-sure_count g c = λ sure held. guide_count (g.F.Shelf.told c.args.files.now) (g.F.Shelf.told c.take_def.new.files) (asked_by c.args.command.now) (guide_of c.as_str-3.result.now) _ _ (ap guide_of c.as_str-3.ensures.value) (c.in_ok-def.ensures.same ∙ c.in_ok-lef.ensures.same) held (c.in_ok-guides.ensures.sure_count (c.in_ok-def.ensures.stays_sure (c.in_ok-lef.ensures.stays_sure sure))) ∙ both_counts (g.F.Shelf.told c.args.files.now) (g.F.Shelf.told c.take_lef.new.files) (asked_by c.args.command.now) _ _ _ _ _ c.as_str.ensures.value c.as_str-2.ensures.value c.in_ok-lef.ensures.same held (c.in_ok-lef.ensures.sure_count sure) (c.in_ok-def.ensures.sure_count (c.in_ok-lef.ensures.stays_sure sure))
