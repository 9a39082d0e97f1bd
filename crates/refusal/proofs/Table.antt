-- No refusal has the number 0, which is that of an accepted answer. Assumes nothing.
use Prim.Native.Nat.{◌<◌}
use native.Mathlib.Omega.{arith}
use Rattle.refusal.specs.declared.Refusal.{Refusal}
use Rattle.refusal.specs.declared.Refusal.TheVariants.{FileLength, Mark, LumpCount, DirectoryBounds, EntryBounds, EntryName, EntryNumber, MapName, EntryMissing, MarkerRun, RecordSize, RecordCount, RejectLength, LinedefReference, SidedefReference, SegReference, SubsectorReference, NodeReference, Blockmap, WorkWords, NodeLoop, NodeShared, DescentNodes, DescentSubsectors, DescentChild, DescentLoop, OrderDepth, OrderWords, OrderLength, PictureLength, PictureSize, PictureOffsets, PostBounds, PostRows, PixelBuffer, EncodeSize, EncodeCover, EncodeRoom, RecordBounds, RecordFields, RenumberNodes, RenumberChild, RenumberRoot, RenumberLength, RenumberRoom, DifferenceRoom, DifferenceGames, StreamSectors, StreamLength, IndexHead, IndexVersion, IndexEntries, ReasonRoom, IndexRoom, TextGrammar, TextNumber, TextField, TextBlocks, TextMissing}
use Rattle.refusal.specs.Table.{number_of}

pub number-some : (r : Refusal) → 0 < number_of r
number-some FileLength = omega arith
number-some Mark = omega arith
number-some LumpCount = omega arith
number-some DirectoryBounds = omega arith
number-some (EntryBounds entry) = omega arith
number-some (EntryName entry) = omega arith
number-some EntryNumber = omega arith
number-some MapName = omega arith
number-some EntryMissing = omega arith
number-some (MarkerRun place) = omega arith
number-some (RecordSize place) = omega arith
number-some (RecordCount place) = omega arith
number-some RejectLength = omega arith
number-some (LinedefReference linedef) = omega arith
number-some (SidedefReference sidedef) = omega arith
number-some (SegReference seg) = omega arith
number-some (SubsectorReference subsector) = omega arith
number-some (NodeReference node) = omega arith
number-some (Blockmap cell) = omega arith
number-some WorkWords = omega arith
number-some NodeLoop = omega arith
number-some NodeShared = omega arith
number-some DescentNodes = omega arith
number-some DescentSubsectors = omega arith
number-some (DescentChild node) = omega arith
number-some DescentLoop = omega arith
number-some OrderDepth = omega arith
number-some OrderWords = omega arith
number-some OrderLength = omega arith
number-some PictureLength = omega arith
number-some PictureSize = omega arith
number-some PictureOffsets = omega arith
number-some (PostBounds column) = omega arith
number-some (PostRows column) = omega arith
number-some PixelBuffer = omega arith
number-some EncodeSize = omega arith
number-some EncodeCover = omega arith
number-some EncodeRoom = omega arith
number-some RecordBounds = omega arith
number-some RecordFields = omega arith
number-some RenumberNodes = omega arith
number-some RenumberChild = omega arith
number-some RenumberRoot = omega arith
number-some RenumberLength = omega arith
number-some RenumberRoom = omega arith
number-some DifferenceRoom = omega arith
number-some DifferenceGames = omega arith
number-some StreamSectors = omega arith
number-some StreamLength = omega arith
number-some IndexHead = omega arith
number-some IndexVersion = omega arith
number-some IndexEntries = omega arith
number-some ReasonRoom = omega arith
number-some IndexRoom = omega arith
number-some (TextGrammar byte) = omega arith
number-some (TextNumber byte) = omega arith
number-some (TextField byte) = omega arith
number-some (TextBlocks byte) = omega arith
number-some TextMissing = omega arith
