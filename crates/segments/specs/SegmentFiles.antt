-- What a closed segment or its list is read from.
use Rattle.std.specs.Prelude.{List}
use Rattle.page_digests.specs.Sources.{SourceRead}
use Rattle.segments.specs.declared.segment_file.Kind.{Kind}
use Rattle.segments.specs.declared.segment_file.Kind.TheVariants.{Folder, Memory}

-- the reads so far, of the folder's file or of the bytes in memory
abbrev pub reads_from : {S : Type 0} → (S → List SourceRead) → Kind S → List SourceRead
reads_from reads (Folder source) = reads source
reads_from reads (Memory reads_so_far) = reads_so_far
