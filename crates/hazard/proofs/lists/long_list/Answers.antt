-- `hazard::lists::long_list` meets its contract: at first no offset is noted. Assumes nothing.
use Rattle.hazard.proofs.ListLengths.{long-none}
use Rattle.hazard.proofs.lists.long_list.Goals as goal

pub note_long-requires : goal.note_long-requires
note_long-requires c = long-none _ _
