-- Answers on a file's directory. Assumes nothing.
use Rattle.std.specs.Prelude.{ℕ, Result, Ok, Err}
use Rattle.wad.specs.declared.entries.Directory.{Directory}
use Rattle.wad.specs.declared.lumps.Entry.{Entry}
use Rattle.refusal.specs.declared.Refusal.{Refusal}
use Rattle.wad.specs.declared.map.MarkerSearch.{MarkerSearch}
use Rattle.export_files.specs.declared.DirectoryAnswer.{DirectoryAnswer}
use Rattle.export_files.specs.declared.EntryAnswer.{EntryAnswer}
use Rattle.export_files.specs.declared.MarkerAnswer.{MarkerAnswer}
use Rattle.refusal.specs.Status.{accepted, refused}

-- count of lumps and start of the directory
abbrev pub directory_out : Result Directory Refusal → DirectoryAnswer
directory_out (Ok d) = record { status = accepted; count = d.count; start = d.start }
directory_out (Err r) = record { status = refused r; count = 0; start = 0 }

-- where an entry's part lies, and its size
abbrev pub entry_out : Result Entry Refusal → EntryAnswer
entry_out (Ok e) = record { status = accepted; offset = e.offset; size = e.size }
entry_out (Err r) = record { status = refused r; offset = 0; size = 0 }

-- a map's marker, and how many names were compared
abbrev pub marker_with : ℕ → Result ℕ Refusal → MarkerAnswer
marker_with compared (Ok marker) = record { status = accepted; marker = marker; compared = compared }
marker_with compared (Err r) = record { status = refused r; marker = 0; compared = compared }

abbrev pub marker_out : MarkerSearch → MarkerAnswer
marker_out search = marker_with search.compared search.marker
