-- What a journal's calls leave to readers, and what a reader's reads do.
use Rattle.std.proofs.Common.{inl, inr, ◌≡◌, ℕ, ◌+◌, ◌^◌, ◌<◌, ◌≤◌, List, [], ◌∷◌, ◌++◌, length, drop, refl, sym, ap, ◌∙◌, subst, append-nil, arith, Ok, Err, Result}
use Rattle.std.specs.Prelude.{Bool, Option, Some, None, is_some, false, true}
use Rattle.std.specs.Result.{IsErrAnd}
use Rattle.std.proofs.lemmas.List.{drop_all}
use Rattle.disk.specs.Disk.{Disk, Life, IsImage}
use Rattle.disk.specs.History.{begun}
use Rattle.disk.specs.Torn.{torn}
use Rattle.disk.specs.declared.error.Error.{Error}
use Rattle.disk.specs.declared.error.Error.TheVariants.{ReadFailed, WriteFailed, ResizeFailed, SyncFailed, InvalidChecksum, BlobInsufficientLength, OffsetOverflow, OutOfMemory, IdsExhausted}
use Rattle.cache.specs.CacheState.{CacheState}
use Rattle.cache.specs.Pages.{IsFresh}
use Rattle.crash.specs.Guard.{IsChanceFree}
use Rattle.crash.proofs.DistinctLaws.{vouched_alike}
use Rattle.crash.proofs.Moments.{keeps_alike}
use Rattle.crash.specs.Kept.{AllKeep, AllOnly}
use Rattle.crash.specs.Looks.{Looked, SameButLog, looked_start, looked_joins}
use Rattle.crash.specs.Moments.{through_start, through_then}
use Rattle.writer_state.specs.Sound.{IsSound, content}
use Rattle.crash.specs.Stays.{KeepsAllFloors, LeavesOnly}
use Rattle.writer_state.specs.WriterState.{WriterState}
use Rattle.paged_read.proofs.FullReads.{full_of_tail, no_fault}
use Rattle.paged_read.proofs.Outliving.{look_leaves_writers}
use Rattle.paged_read.specs.Failures.{NoneFailed}
use Rattle.paged_read.specs.Ranges.{Reads}
use Rattle.paged_read.specs.Reads.{ReadIntoGoes, ReadLeaves}
use Rattle.paged_read.specs.Snapshots.{LeavesAllTails, LeavesOthers, LeavesReads, LeavesTails, SnapshotReads}
use Rattle.paged_read.specs.Tail.{Tail, HasFullPages, logical_bytes, tail_size}
use Rattle.paged.specs.Caches.{tail_of}
use Rattle.paged.specs.Goes.{SnapshotGoes}
use Rattle.paged.specs.Owes.{Owes, OwesWaiting, owed_floors, owed_only}
use Rattle.paged.specs.Ready.{IsReady}
use Rattle.paged.specs.RecoveryCalls.{OwesRecovering}
use Rattle.paged.specs.Truncate.{KeepsFloorsWithin}
use Rattle.page.specs.Page.{text}
use Rattle.std.specs.Prelude.{Vec}
use Rattle.std.specs.declared.alloc.Global.{Global}
use Rattle.journal.specs.Calls.{CrashRecoversJournal, JournalCallLeaves, JournalCrashGoes, JournalCrashLeaves, RecordReadLeaves, ReaderLeaves, JournalRecoverGoes, JournalRecoveryLeaves}
use Rattle.journal.specs.declared.frame.Found.{Found}
use Rattle.journal.specs.Frame.{AreWholeFrames, IsPrefix, listed, records, whole_frames}
use Rattle.journal.specs.Journal.{BringsRecordsBack, Commits, JournalHasRecovered, RecoversJournal, IsBetweenCalls, IsFound, IsJournal, StartsStay, OnlyReads, ReadContentGoes, RecordReadRefused, records_in}
use Rattle.journal.specs.Reader.{ReaderState, AllReadersStay, EachReaderStays, FindsNext, IsNewToReaders, IsNext, IsOpenSnapshot, HasReader, IsReader, JournalsStay, LeavesTheirRecords, OnlyLooks, ViewLeaves, OtherReadersStay, ReadersStay, read_over}
use Rattle.journal.proofs.Frames.{records-none}
use Rattle.journal.proofs.Starts.{starts_looked}
use Rattle.journal.proofs.Journals.{all_stay, brings_back, commits_through, new_id, recovered_keeps, recovered_leaves, recovery_stays, trim_commits, between_of, held_on, is_journal, keeps_committed, leaves_records, leaves_still, others_stay, prefix_of_itself, refused_later, whole_of}

-- a reader's snapshot can be read
pub opened_by : (sum : List ℕ → ℕ) (r : ReaderState) (cache : CacheState) (life : Life) → IsReader sum r cache life → IsOpenSnapshot sum r.tail cache life
unfolding IsReader
opened_by sum r cache life reader = reader

pub is_reader : (sum : List ℕ → ℕ) (r : ReaderState) (cache : CacheState) (life : Life) → IsOpenSnapshot sum r.tail cache life → IsReader sum r cache life
unfolding IsReader
is_reader sum r cache life opened = opened

-- ---- what stays

-- a snapshot that is left gives what it gave
module _ (sum : List ℕ → ℕ) (t : Tail) (cache after : CacheState) (old new : Life) (opened : IsOpenSnapshot sum t cache old)
    (stands : SnapshotReads sum t (logical_bytes t old.present.readable) after new.present) where
  pub still_tells : logical_bytes t new.present.readable ≡ logical_bytes t old.present.readable
  still_tells = stands.tail.is

  pub still_open : IsOpenSnapshot sum t after new
  still_open = record {
    stands = subst (λ (l : List ℕ). SnapshotReads sum t l after new.present) (sym still_tells) stands;
    size = opened.size ∙ sym (ap length still_tells);
  }

-- a call of a journal leaves the readers of its blob
pub readers_stay : (sum : List ℕ → ℕ) (w : WriterState) (cache after : CacheState) (old new : Life) → LeavesTails sum w.full_pages cache after old new → ReadersStay sum w cache after old new
readers_stay sum w cache after old new leaves = λ r below reader.
    let opened = opened_by sum r cache old reader in
    let stands = leaves r.tail (read_over r old) below opened.stands in
    record {
      reader = is_reader sum r after new (still_open sum r.tail cache after old new opened stands);
      holds = still_tells sum r.tail cache after old new opened stands;
    }

-- a read leaves all readers of the blob
pub all_readers_stay : (sum : List ℕ → ℕ) (cache after : CacheState) (old new : Life) → LeavesAllTails sum cache after old new → AllReadersStay sum cache after old new
all_readers_stay sum cache after old new leaves = λ r reader.
    let opened = opened_by sum r cache old reader in
    let stands = leaves r.tail (read_over r old) opened.stands in
    record {
      reader = is_reader sum r after new (still_open sum r.tail cache after old new opened stands);
      holds = still_tells sum r.tail cache after old new opened stands;
    }

-- a call of another blob leaves a reader
pub other_readers_stay : (id : ℕ) (cache after : CacheState) → LeavesOthers id cache after → OtherReadersStay id cache after
unfolding IsReader
other_readers_stay id cache after leaves = λ sum r life apart reader. record {
  stands = record { tail = reader.stands.tail; can = leaves r.tail life.present apart reader.stands.can };
  size = reader.size;
}

-- a call that leaves the reads of each blob leaves each reader
pub each_reader_stays : (cache after : CacheState) → LeavesReads cache after → EachReaderStays cache after
unfolding IsReader
each_reader_stays cache after leaves = λ sum r life reader. record {
  stands = record { tail = reader.stands.tail; can = leaves r.tail life.present reader.stands.can };
  size = reader.size;
}

-- no reader is of a blob whose id is still to come
pub new_to_readers : (id : ℕ) (cache : CacheState) → id ≡ cache.ids_given → IsNewToReaders id cache
new_to_readers id cache is = λ sum r life reader same. omega (arith, is, same, (opened_by sum r cache life reader).stands.can.given)

-- what follows a recovery leaves each reader: none is of its blob
pub each_reader_still : (id : ℕ) (cache mid after : CacheState) → id ≡ cache.ids_given → EachReaderStays cache mid → OtherReadersStay id mid after → EachReaderStays cache after
each_reader_still id cache mid after is first second = λ sum r life reader.
    second sum r life (new_to_readers id cache is sum r life reader) (first sum r life reader)

-- ---- recovery

-- what a recovery leaves, by what that of the blob holds at each of its moments
pub owed_recovery : (sum own : List ℕ → ℕ) (cache after : CacheState) (old new : Life) → IsFresh cache → OwesRecovering sum cache.page_size cache after old new → JournalRecoveryLeaves sum own cache after old new
owed_recovery sum own cache after old new fresh owes =
    let P = cache.page_size in
    let T = text sum P old.present.readable in
    let itself = prefix_of_itself (records own T) in
    record {
      fresh = owes.fresh fresh;
      others = recovery_stays cache after owes.others owes.fresh;
      readers = each_reader_stays cache after owes.others;
      kept = keeps_committed sum own P old new owes.floors;
      all = λ durable. commits_through sum own P T old new (owes.kept durable);
      only = λ durable. leaves_records sum own P T T (records own T) old new itself itself (owes.only durable);
    }

-- what a recovery and the trim after it leave
pub trim_leaves_all : (sum own : List ℕ → ℕ) (cache between after : CacheState) (old mid new : Life) (w : WriterState) → IsFresh cache → IsImage old.present old.present.readable → OwesRecovering sum cache.page_size cache between old mid
    → w.id ≡ cache.ids_given → w.page_size ≡ cache.page_size → content w mid.present.readable ≡ text sum cache.page_size old.present.readable → IsFresh after → LeavesOthers w.id between after
    → KeepsFloorsWithin (length (whole_frames (text sum cache.page_size old.present.readable))) sum cache.page_size mid new → LeavesOnly sum w.page_size (content w mid.present.readable) (whole_frames (content w mid.present.readable)) mid new
    → JournalRecoveryLeaves sum own cache after old new
trim_leaves_all sum own cache between after old mid new w fresh is_image owes id size holds fresh_after others keeps only =
    let P = cache.page_size in
    let T = text sum P old.present.readable in
    record {
      fresh = fresh_after;
      others = all_stay w.id cache between after id (recovery_stays cache between owes.others owes.fresh) (others_stay w.id between after others (λ was. fresh_after));
      readers = each_reader_still w.id cache between after id (each_reader_stays cache between owes.others) (other_readers_stay w.id between after others);
      kept = trim_commits sum own P T old mid new is_image refl owes.floors keeps;
      all = λ durable. recovered_keeps sum own P T old mid new (owes.kept durable) keeps;
      only = λ durable. recovered_leaves sum own P T old mid new w size holds (owes.only durable) only;
    }

-- a recovery, by its answer
pub recovers_so : (sum own : List ℕ → ℕ) (cache after : CacheState) (capacity : ℕ) (old new : Life) (w : WriterState) (found : Vec (List ℕ) Global) → IsImage old.present old.present.readable → JournalHasRecovered sum own cache after old new w found.items
    → JournalRecoverGoes sum own cache after capacity old new (Ok (w, found))
recovers_so sum own cache after capacity old new w found is_image has =
    let P = cache.page_size in
    let d = old.present in
    record {
      answers = has;
      apart = new_id w.id cache has.id;
      readers_apart = new_to_readers w.id cache has.id;
      back = subst (λ (rs : List (List ℕ)). BringsRecordsBack sum own P d rs) (sym has.given) (brings_back sum own P d d.readable is_image);
    }

pub recovers_not : (sum own : List ℕ → ℕ) (cache after : CacheState) (capacity : ℕ) (old new : Life) (e : Error) (result : Result (WriterState × Vec (List ℕ) Global) Error) → IsErrAnd result (λ x. x ≡ e) → RecoversJournal sum own cache after capacity old new result
    → JournalRecoverGoes sum own cache after capacity old new result
recovers_not sum own cache after capacity old new e (Ok r) is answers = absurd is
recovers_not sum own cache after capacity old new e (Err x) is answers = record { answers = answers; apart = tt; readers_apart = tt; back = tt }

-- memory for a crash was refused: nothing changed
pub crash_refused : (sum own : List ℕ → ℕ) (cache : CacheState) (capacity : ℕ) (keep : List Bool) (old new : Life) (e : Error) (result : Result (WriterState × Vec (List ℕ) Global) Error) → IsErrAnd result (λ x. x ≡ e) → e ≡ OutOfMemory → new ≡ old
    → JournalCrashGoes sum own cache cache capacity keep old new result
crash_refused sum own cache capacity keep old new e (Ok r) is out same = absurd is
crash_refused sum own cache capacity keep old new e (Err x) is out same = record { answers = inl (is ∙ out, refl, same); back = tt; only = tt }

-- a recovery of what a crash left
pub crash_recovers : (sum own : List ℕ → ℕ) (cache after : CacheState) (capacity : ℕ) (keep : List Bool) (old new : Life) (result : Result (WriterState × Vec (List ℕ) Global) Error)
    → RecoversJournal sum own cache after capacity (begun (torn keep old.present.since old.present.base) old.present.log) new result → CrashRecoversJournal sum own cache after capacity keep old new result
crash_recovers sum own cache after capacity keep old new (Ok r) recovers = recovers
crash_recovers sum own cache after capacity keep old new (Err e) recovers = inr recovers

-- what no crash leaves
pub nothing_crashed : (sum own : List ℕ → ℕ) (cache : CacheState) (d : Disk) → IsFresh cache → JournalCrashLeaves sum own cache cache d d
nothing_crashed sum own cache d fresh = record {
  fresh = fresh;
  others = λ other v now stays. stays;
  readers = λ other r now reader. reader;
  stays = λ content n commits. commits;
}

-- ---- reads through a view

-- what a read through a view leaves
pub read_views : (sum : List ℕ → ℕ) (t : Tail) (cache after : CacheState) (old new : Life) → IsOpenSnapshot sum t cache old → ReadLeaves sum t cache after old new → ViewLeaves sum t cache after old new
read_views sum t cache after old new opened leaves =
    let stands = leaves.tails t (logical_bytes t old.present.readable) opened.stands in
    record {
      opened = still_open sum t cache after old new opened stands;
      holds = still_tells sum t cache after old new opened stands;
      looked = leaves.looked;
      tails = λ u held below. leaves.tails u held;
      all_tails = λ short. leaves.tails;
      others = leaves.others;
      fresh = leaves.fresh;
    }

-- what no read through a view leaves
pub views_start : (sum : List ℕ → ℕ) (t : Tail) (cache : CacheState) (life : Life) → IsOpenSnapshot sum t cache life → ViewLeaves sum t cache cache life life
views_start sum t cache life opened = record {
  opened = opened;
  holds = refl;
  looked = looked_start life;
  tails = λ u held below stands. stands;
  all_tails = λ short u held stands. stands;
  others = λ u d apart can. can;
  fresh = λ fresh. fresh;
}

-- what two reads leave, one after another
pub views_join : (sum : List ℕ → ℕ) (t : Tail) (cache between after : CacheState) (old mid new : Life) → ViewLeaves sum t cache between old mid → ViewLeaves sum t between after mid new → ViewLeaves sum t cache after old new
views_join sum t cache between after old mid new first second = record {
  opened = second.opened;
  holds = second.holds ∙ first.holds;
  looked = looked_joins old mid new first.looked second.looked;
  tails = λ u held below stands. second.tails u held below (first.tails u held below stands);
  all_tails = λ short u held stands. second.all_tails short u held (first.all_tails short u held stands);
  others = λ u d apart can. second.others u d apart (first.others u d apart can);
  fresh = λ fresh. second.fresh (first.fresh fresh);
}

-- a read within the content is refused neither for its range nor for a page
pub view_refused : {A : Type 0} (sum : List ℕ → ℕ) (t : Tail) (cache : CacheState) (offset len : ℕ) (bytes : A → List ℕ) (old new : Life) (e : Error) → Reads sum t cache (offset, len) bytes old new (Err e) → IsOpenSnapshot sum t cache old
    → offset + len ≤ tail_size t → offset + len < 2 ^ 64 → RecordReadRefused old new e
view_refused sum t cache offset len bytes old new ReadFailed refused opened within fits = refused
view_refused sum t cache offset len bytes old new OutOfMemory refused opened within fits = refused
view_refused sum t cache offset len bytes old new InvalidChecksum refused opened within fits =
    no_fault sum t cache old new (full_of_tail sum t old.present opened.stands.can.there opened.stands.tail.full) ((offset, len) ∷ []) refused
view_refused sum t cache offset len bytes old new OffsetOverflow (same, passes) opened within fits = absurd (omega (arith, passes, fits))
view_refused sum t cache offset len bytes old new BlobInsufficientLength (same, below, passes) opened within fits = absurd (omega (arith, passes, within))
view_refused sum t cache offset len bytes old new WriteFailed refused opened within fits = refused
view_refused sum t cache offset len bytes old new ResizeFailed refused opened within fits = refused
view_refused sum t cache offset len bytes old new SyncFailed refused opened within fits = refused
view_refused sum t cache offset len bytes old new IdsExhausted refused opened within fits = refused

-- a read into a buffer fills it from the content
pub content_filled : (sum : List ℕ → ℕ) (t : Tail) (cache : CacheState) (offset : ℕ) (before after : List ℕ) (old new : Life) (result : Result (Unit {0}) Error) → ReadIntoGoes sum t cache offset before after old new result
    → IsOpenSnapshot sum t cache old → offset + length before ≤ tail_size t → offset + length before < 2 ^ 64 → ReadContentGoes (logical_bytes t old.present.readable) offset before after old new result
content_filled sum t cache offset before after old new (Ok u) goes opened within fits = record { answers = (goes.answers.1, goes.answers.3); size = goes.size }
content_filled sum t cache offset before after old new (Err e) goes opened within fits = record {
  answers = view_refused sum t cache offset (length before) (λ (u : Unit {0}). after) old new e goes.answers opened within fits;
  size = goes.size;
}

-- ---- reads of a snapshot

-- what reads of a snapshot leave, through its view, whose own bytes are less than a page
pub views_look : (sum : List ℕ → ℕ) (t : Tail) (cache after : CacheState) (old new : Life) → length t.bytes < t.page_size → ViewLeaves sum t cache after old new → OnlyLooks sum t cache after old new
views_look sum t cache after old new short views = record {
  opened = views.opened;
  holds = views.holds;
  looked = views.looked;
  sound = λ w sound. (look_leaves_writers sum old new views.looked w sound).sound;
  tails = views.all_tails short;
  others = views.others;
  fresh = views.fresh;
}

-- what no read of a snapshot leaves
pub looks_start : (sum : List ℕ → ℕ) (t : Tail) (cache : CacheState) (life : Life) → IsOpenSnapshot sum t cache life → OnlyLooks sum t cache cache life life
looks_start sum t cache life opened = record {
  opened = opened;
  holds = refl;
  looked = looked_start life;
  sound = λ w sound. sound;
  tails = λ u held stands. stands;
  others = λ u d apart can. can;
  fresh = λ fresh. fresh;
}

-- what two such reads leave, one after another
pub looks_join : (sum : List ℕ → ℕ) (t : Tail) (cache between after : CacheState) (old mid new : Life) → OnlyLooks sum t cache between old mid → OnlyLooks sum t between after mid new → OnlyLooks sum t cache after old new
looks_join sum t cache between after old mid new first second = record {
  opened = second.opened;
  holds = second.holds ∙ first.holds;
  looked = looked_joins old mid new first.looked second.looked;
  sound = λ w sound. second.sound w (first.sound w sound);
  tails = λ u held stands. second.tails u held (first.tails u held stands);
  others = λ u d apart can. second.others u d apart (first.others u d apart can);
  fresh = λ fresh. second.fresh (first.fresh fresh);
}

-- ---- a crash after such reads

-- a disk that is the same except for its log has the same images
image_before : (d e : Disk) (image : List ℕ) → SameButLog d e → IsImage e image → IsImage d image
image_before d e image same is =
    let i : IsImage (record d { log = e.log }) image = subst (λ (x : Disk). IsImage x image) same is in
    record { no_shorter = i.no_shorter; no_longer = i.no_longer; each = i.each }

pub looked_keeps : (sum : List ℕ → ℕ) (P : ℕ) (old new : Life) → Looked old new → KeepsAllFloors sum P old new
looked_keeps sum P old new looked = λ content floor enough kept.
    through_then (SameButLog old.present) (AllKeep sum P content floor) old new
    (λ d same. keeps_alike sum P content floor old.present d (ap (λ (x : Disk). x.base) same) (ap (λ (x : Disk). x.since) same) kept) looked.through

-- no other texts are left by such a disk
only_later : (sum : List ℕ → ℕ) (P : ℕ) (held : List ℕ) (d e : Disk) → SameButLog d e → AllOnly sum P held held d → AllOnly sum P held held e
only_later sum P held d e same only = record {
  only = λ image is free. only.only image (image_before d e image same is) (subst (λ (x : Disk). IsChanceFree sum P x image) same free);
  vouched = vouched_alike sum P d e (ap (λ (x : Disk). x.base) same) (ap (λ (x : Disk). x.since) same) only.vouched;
}

pub looked_leaves : (sum : List ℕ → ℕ) (P : ℕ) (held : List ℕ) (old new : Life) → Looked old new → AllOnly sum P held held old.present → LeavesOnly sum P held held old new
looked_leaves sum P held old new looked only =
    through_then (SameButLog old.present) (AllOnly sum P held held) old new (λ d same. only_later sum P held old.present d same only) looked.through

-- so only the first records of the blob's journal are left
pub looked_records : (sum own : List ℕ → ℕ) (cache : CacheState) (old new : Life) → Looked old new → LeavesTheirRecords sum own cache old new
looked_records sum own cache old new looked = λ w journal.
    let held = content w old.present.readable in
    let itself = prefix_of_itself (records own held) in
    leaves_records sum own w.page_size held held (records own held) old new itself itself
    (looked_leaves sum w.page_size held old new looked (between_of sum w cache old journal).only)

-- ---- the blob's journal

-- the pages of a sound writer's blob are full
pages_full : (sum : List ℕ → ℕ) (w : WriterState) (d : Disk) → IsSound sum w d → HasFullPages sum (tail_of w) d
unfolding IsSound
pages_full sum w d sound = sound.full

-- the pages of a writer between two calls can be read
pub opened_writer : (sum : List ℕ → ℕ) (w : WriterState) (cache : CacheState) (life : Life) → IsBetweenCalls sum w cache life → IsOpenSnapshot sum (tail_of w) cache life
opened_writer sum w cache life between = record {
  stands = record {
    tail = record { there = between.ready.can.there; full = pages_full sum w life.present between.ready.sound; is = refl };
    can = between.ready.can;
  };
  size = between.size;
}

-- the writer's own reads, through its view
pub views_read : (sum : List ℕ → ℕ) (w : WriterState) (cache after : CacheState) (old new : Life) → IsBetweenCalls sum w cache old → ViewLeaves sum (tail_of w) cache after old new → OnlyReads sum w cache after old new
views_read sum w cache after old new between views =
    let held = content w old.present.readable in
    let same : content w new.present.readable ≡ held = views.holds in
    let left_only : AllOnly sum w.page_size held held new.present = only_later sum w.page_size held old.present new.present views.looked.same between.only in
    record {
      between = record {
        ready = record {
          sound = (look_leaves_writers sum old new views.looked w between.ready.sound).sound;
          can = views.opened.stands.can;
          fresh = views.fresh between.ready.fresh;
        };
        size = between.size ∙ sym (ap length same);
        only = subst (λ (l : List ℕ). AllOnly sum w.page_size l l new.present) (sym same) left_only;
      };
      tails = views.tails;
      others = views.others;
      holds = same;
      looked = views.looked;
      kept = looked_keeps sum w.page_size old new views.looked;
      only = looked_leaves sum w.page_size held old new views.looked between.only;
    }

-- so a journal of the blob stays one
pub journals_stay : (sum : List ℕ → ℕ) (t : Tail) (cache after : CacheState) (old new : Life) → OnlyLooks sum t cache after old new → JournalsStay sum cache after old new
journals_stay sum t cache after old new looks = λ w journal.
    let between = between_of sum w cache old journal in
    let held = content w old.present.readable in
    let stands = looks.tails (tail_of w) held (opened_writer sum w cache old between).stands in
    let same : content w new.present.readable ≡ held = stands.tail.is in
    let left_only : AllOnly sum w.page_size held held new.present = only_later sum w.page_size held old.present new.present looks.looked.same between.only in
    record {
      journal = is_journal sum w after new (record {
        ready = record { sound = looks.sound w between.ready.sound; can = stands.can; fresh = looks.fresh between.ready.fresh };
        size = between.size ∙ sym (ap length same);
        only = subst (λ (l : List ℕ). AllOnly sum w.page_size l l new.present) (sym same) left_only;
      }) (subst (λ (l : List ℕ). AreWholeFrames l) (sym same) (whole_of sum w cache old journal));
      holds = same;
    }

-- ---- what calls leave

-- what a call of a journal leaves, by what the writer's call holds at each of its moments
pub owed_leaves : (sum own : List ℕ → ℕ) (w : WriterState) (all : List (List ℕ)) (next : List ℕ) (cache after : CacheState) (old new : Life) → IsPrefix (records_in own w old) all → IsPrefix (records own next) all → Owes sum w next cache after old new
    → JournalCallLeaves sum own w all cache after old new
owed_leaves sum own w all next cache after old new first second owes =
    let P = w.page_size in
    let held = content w old.present.readable in
    record {
      fresh = owes.fresh;
      readers = readers_stay sum w cache after old new owes.tails;
      others = others_stay w.id cache after owes.others (λ fresh. owes.fresh);
      their_readers = other_readers_stay w.id cache after owes.others;
      kept = keeps_committed sum own P old new (owed_floors sum P w.full_pages held next old new owes.through);
      only = leaves_records sum own P held next all old new first second (owed_only sum P w.full_pages held next old new owes.through);
    }

-- what a call leaves that appends nothing
pub owed_same : (sum own : List ℕ → ℕ) (w : WriterState) (cache after : CacheState) (old new : Life) → Owes sum w (content w old.present.readable) cache after old new → JournalCallLeaves sum own w (records_in own w old) cache after old new
owed_same sum own w cache after old new owes =
    let itself = prefix_of_itself (records_in own w old) in
    owed_leaves sum own w (records_in own w old) (content w old.present.readable) cache after old new itself itself owes

-- what a wait leaves, with each cache with which the journal was one
pub waiting_leaves : (sum own : List ℕ → ℕ) (w : WriterState) (cache : CacheState) (old new : Life) → OwesWaiting sum w old new → IsJournal sum w cache old → JournalCallLeaves sum own w (records_in own w old) cache cache old new
waiting_leaves sum own w cache old new owes journal =
    let P = w.page_size in
    let held = content w old.present.readable in
    let ready = (between_of sum w cache old journal).ready in
    let itself = prefix_of_itself (records_in own w old) in
    record {
      fresh = ready.fresh;
      readers = readers_stay sum w cache cache old new (owes.tails cache ready.can.page_size);
      others = λ other v now apart stays. stays;
      their_readers = λ other r now apart reader. reader;
      kept = keeps_committed sum own P old new (owed_floors sum P w.full_pages held held old new owes.through);
      only = leaves_records sum own P held held (records_in own w old) old new itself itself (owed_only sum P w.full_pages held held old new owes.through);
    }

-- what no call leaves
pub nothing_leaves : (sum own : List ℕ → ℕ) (w : WriterState) (all : List (List ℕ)) (cache : CacheState) (life : Life) → IsJournal sum w cache life → IsPrefix (records_in own w life) all → JournalCallLeaves sum own w all cache cache life life
nothing_leaves sum own w all cache life journal first = record {
  fresh = (between_of sum w cache life journal).ready.fresh;
  readers = λ r below reader. record { reader = reader; holds = refl };
  others = λ other v now apart stays. stays;
  their_readers = λ other r now apart reader. reader;
  kept = λ held n commits. through_start (Commits sum own w.page_size held n) life commits;
  only = leaves_still sum own w all life (between_of sum w cache life journal).only first;
}

-- reads through the journal's writer
pub reads_leave : (sum own : List ℕ → ℕ) (w : WriterState) (cache after : CacheState) (old new : Life) → OnlyReads sum w cache after old new → RecordReadLeaves sum own w cache after old new
reads_leave sum own w cache after old new reads =
    let held = content w old.present.readable in
    let itself = prefix_of_itself (records own held) in
    record {
      looked = reads.looked;
      call = record {
        fresh = reads.between.ready.fresh;
        readers = readers_stay sum w cache after old new reads.tails;
        others = others_stay w.id cache after reads.others (λ fresh. reads.between.ready.fresh);
        their_readers = other_readers_stay w.id cache after reads.others;
        kept = keeps_committed sum own w.page_size old new reads.kept;
        only = leaves_records sum own w.page_size held held (records own held) old new itself itself reads.only;
      };
    }

-- what a reader's reads leave
pub looks_leave : (sum own : List ℕ → ℕ) (r : ReaderState) (cache after : CacheState) (old new : Life) → OnlyLooks sum r.tail cache after old new → ReaderLeaves sum own r cache after old new
looks_leave sum own r cache after old new looks = record {
  looked = looks.looked;
  fresh = looks.fresh;
  journals = journals_stay sum r.tail cache after old new looks;
  readers = all_readers_stay sum cache after old new looks.tails;
  others = others_stay r.tail.id cache after looks.others looks.fresh;
  their_readers = other_readers_stay r.tail.id cache after looks.others;
  kept = keeps_committed sum own r.tail.page_size old new (looked_keeps sum r.tail.page_size old new looks.looked);
  only = looked_records sum own cache old new looks.looked;
  starts = λ w. starts_looked sum own w old new looks.looked;
}

-- ---- the next record

-- no record is left at the end
pub next_none : (own : List ℕ → ℕ) (held : List ℕ) (from offset : ℕ) → records own (drop from held) ≡ records own (drop offset held) → length held ≤ offset → IsNext own held from None offset
next_none own held from offset so_far end =
    record { goes = so_far; ends = λ none. ap (λ (l : List ℕ). records own l) (drop_all offset held end) ∙ records-none own }

-- the frame is no record, and is passed over
pub next_later : (own : List ℕ → ℕ) (held : List ℕ) (from offset : ℕ) (bytes : Option (List ℕ)) (end : ℕ) → records own (drop from held) ≡ records own (drop offset held)
    → IsFound own held offset bytes end → bytes ≡ None → records own (drop from held) ≡ records own (drop end held)
next_later own held from offset bytes end so_far found none =
    so_far ∙ found.rest ∙ ap (λ (b : Option (List ℕ)). listed b ++ records own (drop end held)) none

-- the frame is a record
pub next_found : (own : List ℕ → ℕ) (held : List ℕ) (from offset : ℕ) (bytes : Option (List ℕ)) (end : ℕ) → records own (drop from held) ≡ records own (drop offset held)
    → IsFound own held offset bytes end → is_some bytes ≡ true → IsNext own held from bytes end
next_found own held from offset bytes end so_far found some = record {
  goes = so_far ∙ found.rest;
  ends = λ none. let e : false ≡ true = ap (λ (o : Option (List ℕ)). is_some o) (sym none) ∙ some in absurd (cc e);
}

-- the frame wasn't read
pub next_refused : (own : List ℕ → ℕ) (held : List ℕ) (offset : ℕ) (old mid new : Life) (e : Error) (result : Result Found Error) → IsErrAnd result (λ x. x ≡ e) → Looked old mid → NoneFailed old.present mid.present → RecordReadRefused mid new e
    → FindsNext own held offset old new result
next_refused own held offset old mid new e (Ok f) is looked none refused = absurd is
next_refused own held offset old mid new e (Err x) is looked none refused = refused_later old mid new x looked none (subst (λ (y : Error). RecordReadRefused mid new y) (sym is) refused)

-- an option that isn't some is none
pub not_some : (o : Option (List ℕ)) → is_some o ≡ false → o ≡ None
not_some None is = refl
not_some (Some bytes) is = cc

-- ---- a reader that was made

pub reader_made : (sum own : List ℕ → ℕ) (w : WriterState) (after : CacheState) (old new : Life) (now : WriterState) (t : Tail) → IsSound sum w old.present → AreWholeFrames (content w old.present.readable) → SnapshotGoes sum w after old new (Ok (now, t)) → IsReady sum now after new
    → StartsStay sum own w now old new → HasReader sum own w after old new now (record { tail = t; offset = 0 })
reader_made sum own w after old new now t sound whole goes ready starts =
    let held = content w old.present.readable in
    let holds = goes.holds in
    let same : content now new.present.readable ≡ held = holds.content ∙ append-nil held in
    let over : logical_bytes t new.present.readable ≡ held = (goes.stands sound).tail.is in
    let long : tail_size t ≡ length (logical_bytes t new.present.readable) =
    ap (λ (u : Tail). tail_size u) goes.tail ∙ holds.size ∙ ap length same ∙ sym (ap length over) in
    record {
      journal = is_journal sum now after new (held_on sum w old [] now after new holds ready) (subst (λ (l : List ℕ). AreWholeFrames l) (sym same) whole);
      holds = same;
      same = holds.same;
      reader = is_reader sum (record { tail = t; offset = 0 }) after new
          (record { stands = subst (λ (l : List ℕ). SnapshotReads sum t l after new.present) (sym over) (goes.stands sound); size = long });
      id = ap (λ (u : Tail). u.id) goes.tail ∙ holds.same.id;
      below = (let pages : t.full_pages ≡ now.full_pages = ap (λ (u : Tail). u.full_pages) goes.tail in omega arith);
      over = over;
      all = ap (λ (l : List ℕ). records own l) over;
      starts = starts;
    }
