use Rattle.std.proofs.Common.{rules}
use Rattle.shelf.proofs.FilesLemmas.{get-files_of}
use Rattle.shelf.proofs.mem_shelf.bytes_of.Goals as goal

-- the map has what the first file of the name holds
pub returns : goal.returns
returns c = rw (get-files_of c.args.files.now c.args.name.now, ← c.file_of.ensures) (search rules)
