use Rattle.std.proofs.Common.{ap, position, ◌∙◌}
use Rattle.std.specs.FinMap as finite
use Rattle.shelf.specs.MemShelf.{files_of}
use Rattle.shelf.proofs.FilesLemmas.{is_named, files_of-set, files_of-push}
use Rattle.shelf.proofs.mem_shelf.store.Goals as goal

pub returns-in-Some-clause-ok : goal.returns-in-Some-clause-ok
returns-in-Some-clause-ok c =
    files_of-set c.args.files.now.items c.args.name.now c.in-Some.place c.index_mut.result.now c.in_ok-copy.copy (c.in-Some.ensures ∙ ap (position (is_named c.args.name.now)) c.deref.ensures.value) c.index_mut.ensures.value
    ∙ ap (finite.insert (files_of c.args.files.now.items) c.args.name.now) c.in_ok-copy.ensures

pub returns-in_ok-push-in-None-clause-ok : goal.returns-in_ok-push-in-None-clause-ok
returns-in_ok-push-in-None-clause-ok c =
    ap files_of c.in_ok-push-in-None.ensures.items
    ∙ files_of-push c.args.files.now.items c.args.name.now (c.in_ok-from_str-in-None.field-0, c.in_ok-copy.copy) (c.in-None.ensures ∙ ap (position (is_named c.args.name.now)) c.deref.ensures.value) c.in_ok-from_str-in-None.ensures.ok
    ∙ ap (finite.insert (files_of c.args.files.now.items) c.args.name.now) c.in_ok-copy.ensures
