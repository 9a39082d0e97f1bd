-- The refusal table of 01, "Refusal numbers", as the requests change it: number, place and record of each refusal, in the
-- table's order. Unnamed parts are 0. Assumes nothing.
use Rattle.std.specs.Prelude.{ℕ}
use Rattle.refusal.specs.declared.Row.{Row}
use Rattle.refusal.specs.declared.Refusal.{Refusal}
use Rattle.refusal.specs.declared.Refusal.TheVariants.{FileLength, Mark, LumpCount, DirectoryBounds, EntryBounds, EntryName, EntryNumber, MapName, EntryMissing, MarkerRun, RecordSize, RecordCount, RejectLength, LinedefReference, SidedefReference, SegReference, SubsectorReference, NodeReference, Blockmap, WorkWords, NodeLoop, NodeShared, DescentNodes, DescentSubsectors, DescentChild, DescentLoop, OrderDepth, OrderWords, OrderLength, PictureLength, PictureSize, PictureOffsets, PostBounds, PostRows, PixelBuffer, EncodeSize, EncodeCover, EncodeRoom, RecordBounds, RecordFields, RenumberNodes, RenumberChild, RenumberRoot, RenumberLength, RenumberRoom, DifferenceRoom, DifferenceGames, StreamSectors, StreamLength, IndexHead, IndexVersion, IndexEntries, ReasonRoom, IndexRoom, TextGrammar, TextNumber, TextField, TextBlocks, TextMissing}

-- a row of the table: number, place, record
abbrev pub row : ℕ → ℕ → ℕ → Row
row number place «record» = record { 0 = number; 1 = place; 2 = «record» }

-- the table
abbrev pub row_of : Refusal → Row
row_of FileLength = row 1 0 0
row_of Mark = row 2 0 0
row_of LumpCount = row 3 0 0
row_of DirectoryBounds = row 4 0 0
row_of (EntryBounds entry) = row 5 0 entry
row_of (EntryName entry) = row 6 0 entry
row_of EntryNumber = row 7 0 0
row_of MapName = row 10 0 0
row_of EntryMissing = row 11 0 0
row_of (MarkerRun place) = row 12 place 0
row_of (RecordSize place) = row 20 place 0
row_of (RecordCount place) = row 21 place 0
row_of RejectLength = row 22 9 0
row_of (LinedefReference linedef) = row 23 2 linedef
row_of (SidedefReference sidedef) = row 24 3 sidedef
row_of (SegReference seg) = row 25 5 seg
row_of (SubsectorReference subsector) = row 26 6 subsector
row_of (NodeReference node) = row 27 7 node
row_of (Blockmap cell) = row 28 10 cell
row_of WorkWords = row 30 7 0
row_of NodeLoop = row 31 7 0
row_of NodeShared = row 32 7 0
row_of DescentNodes = row 40 0 0
row_of DescentSubsectors = row 41 0 0
row_of (DescentChild node) = row 42 0 node
row_of DescentLoop = row 43 0 0
row_of OrderDepth = row 44 0 0
row_of OrderWords = row 45 0 0
row_of OrderLength = row 46 0 0
row_of PictureLength = row 50 0 0
row_of PictureSize = row 51 0 0
row_of PictureOffsets = row 52 0 0
row_of (PostBounds column) = row 53 0 column
row_of (PostRows column) = row 54 0 column
row_of PixelBuffer = row 55 0 0
row_of EncodeSize = row 56 0 0
row_of EncodeCover = row 57 0 0
row_of EncodeRoom = row 58 0 0
row_of RecordBounds = row 60 0 0
row_of RecordFields = row 61 0 0
row_of RenumberNodes = row 70 0 0
row_of RenumberChild = row 71 0 0
row_of RenumberRoot = row 72 0 0
row_of RenumberLength = row 73 0 0
row_of RenumberRoom = row 74 0 0
row_of DifferenceRoom = row 75 0 0
row_of DifferenceGames = row 76 0 0
row_of StreamSectors = row 80 0 0
row_of StreamLength = row 81 0 0
row_of IndexHead = row 82 0 0
row_of IndexVersion = row 83 0 0
row_of IndexEntries = row 84 0 0
row_of ReasonRoom = row 85 0 0
row_of IndexRoom = row 86 0 0
row_of (TextGrammar byte) = row 90 0 byte
row_of (TextNumber byte) = row 91 0 byte
row_of (TextField byte) = row 92 0 byte
row_of (TextBlocks byte) = row 93 0 byte
row_of TextMissing = row 94 0 0

-- the paper's number of a refusal
abbrev pub number_of : Refusal → ℕ
number_of r = (row_of r).0

-- its place, 0 to 10
abbrev pub place_of : Refusal → ℕ
place_of r = (row_of r).1

-- its record: an entry, a record of a map's lump, a BLOCKMAP cell, a node, a picture's column or a text's byte
abbrev pub record_of : Refusal → ℕ
record_of r = (row_of r).2
