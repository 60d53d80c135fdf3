use Rattle.std.proofs.Common.{refl}
use Rattle.router.specs.Outputs.{shelf_at}
use Rattle.router.proofs.ReadLemmas.{unread_def}
use Rattle.router.proofs.read.take_def.Goals as goal

pub returns-in-Err-Failed-clause-refusal : goal.returns-in-Err-Failed-clause-refusal
returns-in-Err-Failed-clause-refusal g c = unread_def (shelf_at g.F.Shelf.told g.F.Shelf.faults c.args.files.now) (shelf_at g.F.Shelf.told g.F.Shelf.faults c.take_source.new.files) c.args.name.now _ c.unread.ensures (rw c.in-Err-Failed.field-0-is at c.in-Err-Failed.ensures).fault

pub returns-in-Err-Long-clause-refusal : goal.returns-in-Err-Long-clause-refusal
returns-in-Err-Long-clause-refusal g c = (rw c.in-Err-Long.field-0-is at c.in-Err-Long.ensures).fault

pub returns-in-Err-Scan-clause-refusal : goal.returns-in-Err-Scan-clause-refusal
returns-in-Err-Scan-clause-refusal g c = (_, (rw c.in-Err-Scan.field-0-is at c.in-Err-Scan.ensures).fault, refl)
