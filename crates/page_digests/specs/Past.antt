-- The reads that a `SourcePast` stands for, which is ghost data.
use Rattle.std.specs.Prelude.{ℕ, List, [], ◌∷◌, ◌++◌, Bool, true, false, length}
use Rattle.page_digests.specs.Sources.{SourceRead, gave, refused}
use Rattle.page_digests.specs.declared.past.Bytes.{Bytes}
use Rattle.page_digests.specs.declared.past.Bytes.TheVariants as bytes
use Rattle.page_digests.specs.declared.past.LastRead.{LastRead}
use Rattle.page_digests.specs.declared.past.LastRead.TheVariants as reads

-- the bytes of a `ByteList` as a list
abbrev pub listed_bytes : Bytes → List ℕ
listed_bytes bytes.Nothing = []
listed_bytes (bytes.After before byte) = before.value.value ++ byte ∷ []

-- a read of a buffer that holds these bytes now, done or refused
abbrev pub read_event : (offset : ℕ) → List ℕ → (failed : Bool) → SourceRead
read_event offset bytes true = refused offset (length bytes)
read_event offset bytes false = gave offset bytes

-- a ghost past as a list of reads, the oldest first
abbrev pub reads_of : LastRead → List SourceRead
reads_of reads.Nothing = []
reads_of (reads.After before offset bytes failed) =
    before.value.value ++ read_event offset bytes.value failed ∷ []
