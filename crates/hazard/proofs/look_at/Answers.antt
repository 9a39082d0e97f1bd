-- `hazard::look_at` meets its contract: an accepted file's header holds. Assumes nothing.
use Rattle.wad.proofs.Listing.{file-header}
use Rattle.hazard.proofs.look_at.Goals as goal

pub directory_of-dir-requires : goal.directory_of-dir-requires
directory_of-dir-requires c = file-header c.args.wad.now c.requires.file

pub entry_count-requires : goal.entry_count-requires
entry_count-requires c = file-header c.args.wad.now c.requires.file
