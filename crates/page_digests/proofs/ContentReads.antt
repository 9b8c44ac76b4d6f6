-- Reads of a content in its file.
use Rattle.std.proofs.Common.{◌≡◌, ◌≢◌, ◌<◌, ◌≤◌, ◌*◌, ◌+◌, ◌-◌, ◌/◌, ◌%◌, ◌++◌, ◌∷◌, [], ◌∙◌, ℕ, List, length, take, drop, min}
use Rattle.std.proofs.Common.{ap, refl, sym, subst, inl, inr, arith, append-nil, append_assoc, Bool, true, false, true≢false}
use Rattle.std.specs.Prelude.{Option, None, Some, IfSome, Result, Ok, Err, OnOk, Vec, slice_range}
use Rattle.std.specs.declared.alloc.Global.{Global}
use Rattle.std.proofs.Math.Nat.{div-eq_of_lt-le, mod-lt, suc-mul}
use Rattle.std.proofs.lemmas.Bool.{cases_lt}
use Rattle.std.proofs.lemmas.List.{length-drop, length-take-le}
use Rattle.std.proofs.lemmas.Nat.{div-add-mod'}
use Rattle.page_digests.specs.declared.error.Error.{Error}
use Rattle.page_digests.specs.declared.error.Error.TheVariants.{Damaged, OutOfMemory, System}
use Rattle.page_digests.specs.declared.seal.Seal.{Seal}
use Rattle.page_digests.specs.Contents.{AppendsRange, HoldsFrom, IsInCached, IsSameContent, PagedState, PageFails}
use Rattle.page_digests.specs.Steps.{AsksForPage, AsksForRange, IsAppending, IsContentPage, IsPaged, LoadGoes, PieceGoes}
use Rattle.page_digests.specs.Contents.{RangeFails, PagedReadGoes, SoundGoes}
use Rattle.page_digests.specs.Steps.{RangeAppendGoes}
use Rattle.page_digests.specs.Lists.{DigestGoes, IsSameList, ListState}
use Rattle.page_digests.specs.Pages.{list_len, content_page, pages_of_len, page_len, range_at, top_len, top_of}
use Rattle.page_digests.specs.Reads.{DigestFails, IsReadOn, IsTouched, PageIsRefused, PageIsWrong, ReadsDigestOn, page_offset, pages_touched}
use Rattle.page_digests.specs.Buffers.{ComparesGoes}
use Rattle.page_digests.specs.Seals.{EachIsByte, IsVerified}
use Rattle.page_digests.specs.Sources.{EndsWithRead, SourceRead, gave, refused}
use Rattle.page_digests.proofs.Costs.{last-in, touched_more}
use Rattle.page_digests.proofs.BytesReads.{one_more, one_read, read_after}
use Rattle.page_digests.proofs.Paging.{page_within}
use Rattle.page_digests.proofs.Pieces.{none_verified, piece_verified, ranges_joined}
use Rattle.page_digests.proofs.RangeCosts.{asks_still, content_on, fails, gives, list_on, on_any}
use Rattle.page_digests.proofs.Verified.{page_verified, part_wrong, top_verified}

-- the top was read
pub top_read : (d : List ℕ → List ℕ) → ((b : List ℕ) → length (d b) ≡ 32) → (P : ℕ) (seal : Seal) (offset len : ℕ) (top : List ℕ) (old new : List SourceRead)
    → offset ≡ list_len P seal.len → len ≡ top_len P seal.len → new ≡ old ++ gave offset top ∷ [] → length top ≡ len → EachIsByte top → d top ≡ seal.root
    → (top : List ℕ) × (new ≡ old ++ gave (list_len P seal.len) top ∷ []) × IsVerified d P seal (top_of d P) top
top_read d sized P seal offset len top old new place count read long small root = (
  top,
  read ∙ ap (λ (k : ℕ). old ++ gave k top ∷ []) place,
  top_verified d sized P seal top small root (long ∙ count),
)

-- ---- whether a page is sound

-- a content as contracts see it, by its parts
abbrev pub seen : Seal → (P : ℕ) → Option ℕ → ListState → List SourceRead → PagedState
seen seal P cached list reads = record {
  seal = seal;
  page_size = P;
  cached = cached;
  cached_list = list.cached;
  reads = reads;
  list_reads = list.reads;
}

-- the digest of a page
digest_had : (d : List ℕ → List ℕ) (l m : ListState) (seal : Seal) (P i : ℕ) (cached : Option ℕ) (page digest : List ℕ) → IsPaged d l seal P cached page → DigestGoes d i l m (Ok digest)
    → IsVerified d P seal (λ content. d (content_page P i content)) digest
digest_had d l m seal P i cached page digest is goes =
    subst (λ (k : ℕ). IsVerified d k seal (λ content. d (content_page k i content)) digest) is.list_page_size
    (subst (λ (kept : Seal). IsVerified d l.page_size kept (λ content. d (content_page l.page_size i content)) digest) is.list_seal goes.answers)

-- or it can't be had
pub digest_lost : (d : List ℕ → List ℕ) (l m : ListState) (seal : Seal) (P i : ℕ) (cached : Option ℕ) (page : List ℕ) (e : Error) → IsPaged d l seal P cached page → DigestGoes d i l m (Err e)
    → DigestFails d P seal i l.reads m.reads e
digest_lost d l m seal P i cached page e is goes =
    subst (λ (k : ℕ). DigestFails d k seal i l.reads m.reads e) is.list_page_size
    (subst (λ (kept : Seal). DigestFails d l.page_size kept i l.reads m.reads e) is.list_seal goes.answers)

-- what is read of the list for it
digest_on : {T : Type 0} (d : List ℕ → List ℕ) (l m : ListState) (seal : Seal) (P i : ℕ) (cached : Option ℕ) (page digest : List ℕ) (result : Result T Error) → IsPaged d l seal P cached page
    → DigestGoes d i l m (Ok digest) → ReadsDigestOn P i l.reads m.reads l.cached m.cached result
digest_on d l m seal P i cached page digest result is goes from len base begin first =
    let size : l.page_size ≡ P = is.list_page_size in
    let both = goes.reads_on from len base begin (subst (λ (k : ℕ). IsReadOn k from len base (length l.reads) l.cached) (sym size) first) in (
      subst (λ (k : ℕ). length m.reads ≤ base + pages_touched k from (len + 32)) size both.0,
      on_any result _ (subst (λ (k : ℕ). IsReadOn k from (len + 32) base (length m.reads) m.cached) size both.1),
    )

lost_on : (d : List ℕ → List ℕ) (l m : ListState) (seal : Seal) (P i : ℕ) (cached : Option ℕ) (page : List ℕ) (e : Error) → IsPaged d l seal P cached page
    → DigestGoes d i l m (Err e) → ReadsDigestOn P i l.reads m.reads l.cached m.cached (fails Bool e)
lost_on d l m seal P i cached page e is goes from len base begin first =
    let size : l.page_size ≡ P = is.list_page_size in
    let both = goes.reads_on from len base begin (subst (λ (k : ℕ). IsReadOn k from len base (length l.reads) l.cached) (sym size) first) in
    (subst (λ (k : ℕ). length m.reads ≤ base + pages_touched k from (len + 32)) size both.0, tt)

-- the content is the same
same_content : (l m : ListState) (seal : Seal) (P : ℕ) (before after : Option ℕ) (old new more : List SourceRead) → IsSameList l m → new ≡ old ++ more
    → IsSameContent (seen seal P before l old) (seen seal P after m new)
same_content l m seal P before after old new more same read = record { seal = refl; page_size = refl; reads = (more, read); list_reads = same.reads }

sound_lost_by : (d : List ℕ → List ℕ) (u v : PagedState) (i : ℕ) (e : Error) → IsSameContent u v → length v.reads ≤ length u.reads + 1
    → ReadsDigestOn u.page_size i u.list_reads v.list_reads u.cached_list v.cached_list (fails Bool e) → DigestFails d u.page_size u.seal i u.list_reads v.list_reads e → SoundGoes d i u v (Err e)
sound_lost_by d u v i Damaged same calls on fails = record { same = same; calls = calls; list_calls = on; answers = fails }
sound_lost_by d u v i (System x) same calls on fails = record { same = same; calls = calls; list_calls = on; answers = inr fails }
sound_lost_by d u v i OutOfMemory same calls on fails = record { same = same; calls = calls; list_calls = on; answers = tt }

-- its digest can't be had
pub sound_lost : (d : List ℕ → List ℕ) (l m : ListState) (seal : Seal) (P i : ℕ) (cached : Option ℕ) (page : List ℕ) (reads : List SourceRead) (s : PagedState) (e : Error) → seen seal P cached l reads ≡ s
    → IsPaged d l seal P cached page → DigestGoes d i l m (Err e) → SoundGoes d i s (seen seal P None m reads) (Err e)
sound_lost d l m seal P i cached page reads s e same is goes =
    subst (λ (u : PagedState). SoundGoes d i u (seen seal P None m reads) (Err e)) same
    (sound_lost_by d (seen seal P cached l reads) (seen seal P None m reads) i e
    (same_content l m seal P cached None reads reads [] goes.same (sym (append-nil reads))) (omega arith) (lost_on d l m seal P i cached page e is goes) (digest_lost d l m seal P i cached page e is goes))

-- it is as it was
pub sound_page : (d : List ℕ → List ℕ) (l m : ListState) (seal : Seal) (P i n : ℕ) (cached : Option ℕ) (page digest bytes : List ℕ) (old new : List SourceRead) (s : PagedState) → seen seal P cached l old ≡ s
    → IsPaged d l seal P cached page → DigestGoes d i l m (Ok digest) → i < pages_of_len s.page_size s.seal.len → n ≡ page_len P seal.len i
    → ComparesGoes d (page_offset P i) n digest old new bytes (Ok true) → IsContentPage d P seal i bytes
sound_page d l m seal P i n cached page digest bytes old new s same is goes below count (read, long, small, compared) = record {
  within = within;
  len = long ∙ count;
  verified = page_verified d P seal digest bytes i small within (long ∙ count) (digest_had d l m seal P i cached page digest is goes) (compared.0 refl);
}
  where
    within : i * P < seal.len
    within = page_within P seal.len i is.positive (subst (λ (u : PagedState). i < pages_of_len u.page_size u.seal.len) (sym same) below)

pub sound_paged : (d : List ℕ → List ℕ) (l m : ListState) (seal : Seal) (P i : ℕ) (cached : Option ℕ) (page bytes : List ℕ) → IsPaged d l seal P cached page → IsSameList l m → IsContentPage d P seal i bytes
    → IsPaged d m seal P (Some i) bytes
sound_paged d l m seal P i cached page bytes is same its = record {
  positive = is.positive;
  small = is.small;
  fits = is.fits;
  list_seal = same.seal ∙ is.list_seal;
  list_page_size = same.page_size ∙ is.list_page_size;
  page = its;
}

pub sound_yes : (d : List ℕ → List ℕ) (l m : ListState) (seal : Seal) (P i : ℕ) (cached : Option ℕ) (page digest bytes : List ℕ) (old new : List SourceRead) (s : PagedState) → seen seal P cached l old ≡ s
    → IsPaged d l seal P cached page → DigestGoes d i l m (Ok digest) → IsContentPage d P seal i bytes → new ≡ old ++ gave (page_offset P i) bytes ∷ [] → SoundGoes d i s (seen seal P (Some i) m new) (Ok true)
sound_yes d l m seal P i cached page digest bytes old new s same is goes its read =
    subst (λ (u : PagedState). SoundGoes d i u (seen seal P (Some i) m new) (Ok true)) same (record {
      same = same_content l m seal P cached (Some i) old new _ goes.same read;
      calls = one_more old new _ read;
      list_calls = digest_on {T = Bool} d l m seal P i cached page digest (Ok true) is goes;
      answers = (refl, (bytes, one_read old new _ read, its.verified));
    })

-- it isn't
pub sound_no : (d : List ℕ → List ℕ) (l m : ListState) (seal : Seal) (P i n : ℕ) (cached : Option ℕ) (page digest bytes : List ℕ) (old new : List SourceRead) (s : PagedState) → seen seal P cached l old ≡ s
    → IsPaged d l seal P cached page → DigestGoes d i l m (Ok digest) → n ≡ page_len P seal.len i
    → ComparesGoes d (page_offset P i) n digest old new bytes (Ok false) → SoundGoes d i s (seen seal P None m new) (Ok false)
sound_no d l m seal P i n cached page digest bytes old new s same is goes count (read, long, small, compared) =
    subst (λ (u : PagedState). SoundGoes d i u (seen seal P None m new) (Ok false)) same (record {
      same = same_content l m seal P cached None old new _ goes.same read;
      calls = one_more old new _ read;
      list_calls = digest_on {T = Bool} d l m seal P i cached page digest (Ok false) is goes;
      answers = (
        bytes,
        one_read old new _ read,
        long ∙ count,
        part_wrong d P seal (content_page P i) digest bytes (digest_had d l m seal P i cached page digest is goes) (λ e. true≢false (sym (compared.1 e))),
      );
    })

-- or it can't be read
pub sound_refused : (d : List ℕ → List ℕ) (l m : ListState) (seal : Seal) (P i n : ℕ) (cached : Option ℕ) (page digest bytes : List ℕ) (old new : List SourceRead) (s : PagedState) (e : Error) → seen seal P cached l old ≡ s
    → IsPaged d l seal P cached page → DigestGoes d i l m (Ok digest) → n ≡ page_len P seal.len i
    → ComparesGoes d (page_offset P i) n digest old new bytes (Err e) → SoundGoes d i s (seen seal P None m new) (Err e)
sound_refused d l m seal P i n cached page digest bytes old new s e same is goes count compared =
    subst (λ (u : PagedState). SoundGoes d i u (seen seal P None m new) (Err e)) same (by_error e compared)
  where
    by_error : (e : Error) → ComparesGoes d (page_offset P i) n digest old new bytes (Err e) → SoundGoes d i (seen seal P cached l old) (seen seal P None m new) (Err e)
    by_error Damaged none = absurd none
    by_error (System x) read = record {
      same = same_content l m seal P cached None old new _ goes.same read;
      calls = one_more old new _ read;
      list_calls = digest_on {T = Bool} d l m seal P i cached page digest (Err (System x)) is goes;
      answers = inl (subst (λ (k : ℕ). EndsWithRead old new (refused (page_offset P i) k)) count (one_read old new _ read));
    }
    by_error OutOfMemory none = record {
      same = same_content l m seal P cached None old new [] goes.same (none ∙ sym (append-nil old));
      calls = let e : length new ≡ length old = ap length none in omega arith;
      list_calls = digest_on {T = Bool} d l m seal P i cached page digest (Err OutOfMemory) is goes;
      answers = tt;
    }

-- ---- a page

-- the page is as it was
pub page_loaded : (d : List ℕ → List ℕ) (i : ℕ) (s t : PagedState) → s.cached ≢ Some i → SoundGoes d i s t (Ok true) → LoadGoes d i s t (Ok tt)
page_loaded d i s t fresh goes = record { same = goes.same; asks = inr (fresh, goes.calls, goes.list_calls); answers = goes.answers.0 }

-- it isn't
pub page_wrong : (d : List ℕ → List ℕ) (i : ℕ) (s t : PagedState) → s.cached ≢ Some i → SoundGoes d i s t (Ok false) → LoadGoes d i s t (Err Damaged)
page_wrong d i s t fresh goes = record {
  same = goes.same;
  asks = inr (fresh, goes.calls, λ from len base begin first. ((goes.list_calls from len base begin first).0, tt));
  answers = inl goes.answers;
}

-- nobody knows
pub page_lost : (d : List ℕ → List ℕ) (i : ℕ) (s t : PagedState) (e : Error) → s.cached ≢ Some i → SoundGoes d i s t (Err e) → LoadGoes d i s t (Err e)
page_lost d i s t Damaged fresh goes = record { same = goes.same; asks = inr (fresh, goes.calls, goes.list_calls); answers = inr goes.answers }
page_lost d i s t (System x) fresh goes = record { same = goes.same; asks = inr (fresh, goes.calls, goes.list_calls); answers = goes.answers }
page_lost d i s t OutOfMemory fresh goes = record { same = goes.same; asks = inr (fresh, goes.calls, goes.list_calls); answers = tt }

-- ---- ranges

-- the page that was read last is the content's
cached_page : (d : List ℕ → List ℕ) (l : ListState) (seal : Seal) (P i : ℕ) (cached : Option ℕ) (page : List ℕ) → IsPaged d l seal P cached page → cached ≡ Some i → IsContentPage d P seal i page
cached_page d l seal P i cached page is there = subst (λ (o : Option ℕ). IfSome o (λ k. IsContentPage d P seal k page)) there is.page

-- a piece of it is appended
pub piece_appended : (d : List ℕ → List ℕ) (l : ListState) (seal : Seal) (P : ℕ) (cached : Option ℕ) (page : List ℕ) (reads : List SourceRead) (s t : PagedState) (at most n z : ℕ) (before after : List ℕ)
    → seen seal P cached l reads ≡ t → IsPaged d l seal P cached page → z ≡ s.page_size → LoadGoes d (at / z) s t (Ok tt) → 0 < n → n ≡ min most (z - at % z) → at % z < z
    → after ≡ before ++ slice_range page (at % z) (at % z + n) → PieceGoes d at most s t before after (Ok n)
piece_appended d l seal P cached page reads s t at most n z before after same is size goes some least small its = record {
  same = goes.same;
  asks = subst (λ (k : ℕ). AsksForPage (at / k) s t (gives ℕ n)) size (asks_still {T = Unit {0}} (at / z) s t tt (gives ℕ n) goes.asks);
  answers = (
    some,
    omega (arith, least),
    subst (λ (k : ℕ). at % k + n ≤ k) size room,
    goes.answers ∙ ap (λ (k : ℕ). Some (at / k)) size,
    subst (λ (k : ℕ). at % k + most ≤ k → n ≡ most) size (λ all. omega (arith, least, all)),
    (slice_range page (at % z) (at % z + n), its, piece),
  );
}
  where
    room : at % z + n ≤ z
    room = omega (arith, least, small)

    there : cached ≡ Some (at / z)
    there = ap (λ (v : PagedState). v.cached) same ∙ goes.answers

    verified : IsVerified d s.page_size s.seal (content_page s.page_size (at / z)) page
    verified =
        let here = (cached_page d l seal P (at / z) cached page is there).verified in
        let P_is : P ≡ s.page_size = ap (λ (v : PagedState). v.page_size) same ∙ goes.same.page_size in
        let seal_is : seal ≡ s.seal = ap (λ (v : PagedState). v.seal) same ∙ goes.same.seal in
        subst (λ (k : ℕ). IsVerified d k s.seal (content_page k (at / z)) page) P_is (subst (λ (kept : Seal). IsVerified d P kept (content_page P (at / z)) page) seal_is here)

    piece : IsVerified d s.page_size s.seal (range_at at n) (slice_range page (at % z) (at % z + n))
    piece =
        let span : n ≡ at % z + n - at % z = omega arith in
        let fits : at % z + n ≤ s.page_size = omega (arith, room) in
        let place : at / z * s.page_size + at % z ≡ at = ap (λ (k : ℕ). at / z * k + at % z) (sym size) ∙ div-add-mod' at z in
        subst (λ (k : ℕ). IsVerified d s.page_size s.seal (range_at at n) (take k (drop (at % z) page))) span
        (piece_verified d s.page_size s.seal at n (at / z) (at % z) page fits place verified)

-- its page can't be had
pub piece_lost : (d : List ℕ → List ℕ) (s t : PagedState) (at most z : ℕ) (before : List ℕ) (e : Error) → z ≡ s.page_size → LoadGoes d (at / z) s t (Err e) → PieceGoes d at most s t before before (Err e)
piece_lost d s t at most z before e size goes = record {
  same = goes.same;
  asks = subst (λ (k : ℕ). AsksForPage (at / k) s t (fails ℕ e)) size goes.asks;
  answers = (refl, subst (λ (k : ℕ). PageFails d (at / k) s t e) size goes.answers);
}

-- or memory is refused
pub piece_refused : (d : List ℕ → List ℕ) (s t : PagedState) (at most z : ℕ) (before after : List ℕ) → z ≡ s.page_size → LoadGoes d (at / z) s t (Ok tt) → after ≡ before
    → PieceGoes d at most s t before after (Err OutOfMemory)
piece_refused d s t at most z before after size goes same = record {
  same = goes.same;
  asks = subst (λ (k : ℕ). AsksForPage (at / k) s t (fails ℕ OutOfMemory)) size (asks_still {T = Unit {0}} (at / z) s t tt (fails ℕ OutOfMemory) goes.asks);
  answers = (same, tt);
}

joined_reads : (old mid new : List SourceRead) → (more : List SourceRead) × (mid ≡ old ++ more) → (more : List SourceRead) × (new ≡ mid ++ more) → (more : List SourceRead) × (new ≡ old ++ more)
joined_reads old mid new (one, first) (other, second) = (one ++ other, second ∙ ap (λ (l : List SourceRead). l ++ other) first ∙ append_assoc old one other)

same_itself : (s : PagedState) → IsSameContent s s
same_itself s = record { seal = refl; page_size = refl; reads = ([], sym (append-nil s.reads)); list_reads = ([], sym (append-nil s.list_reads)) }

pub content_after : (s t u : PagedState) → IsSameContent s t → IsSameContent t u → IsSameContent s u
content_after s t u one other = record {
  seal = other.seal ∙ one.seal;
  page_size = other.page_size ∙ one.page_size;
  reads = joined_reads s.reads t.reads u.reads one.reads other.reads;
  list_reads = joined_reads s.list_reads t.list_reads u.list_reads one.list_reads other.list_reads;
}

wrong_before : (d : List ℕ → List ℕ) (P Q : ℕ) (seal kept : Seal) (i : ℕ) (old mid new : List SourceRead) → Q ≡ P → kept ≡ seal → (more : List SourceRead) × (mid ≡ old ++ more)
    → PageIsWrong d Q kept i mid new → PageIsWrong d P seal i old new
wrong_before d P Q seal kept i old mid new size same (more, since) (bytes, last, len, wrong) =
    subst (λ (k : ℕ). PageIsWrong d k seal i old new) size (subst (λ (x : Seal). PageIsWrong d Q x i old new) same (bytes, read_after old mid new more _ since last, len, wrong))

refused_before : (P Q : ℕ) (seal kept : Seal) (i : ℕ) (old mid new : List SourceRead) → Q ≡ P → kept ≡ seal → (more : List SourceRead) × (mid ≡ old ++ more)
    → PageIsRefused Q kept i mid new → PageIsRefused P seal i old new
refused_before P Q seal kept i old mid new size same (more, since) last =
    subst (λ (k : ℕ). PageIsRefused k seal i old new) size (subst (λ (x : Seal). PageIsRefused Q x i old new) same (read_after old mid new more _ since last))

digest_fails_before : (d : List ℕ → List ℕ) (P Q : ℕ) (seal kept : Seal) (i : ℕ) (old mid new : List SourceRead) (e : Error) → Q ≡ P → kept ≡ seal → (more : List SourceRead) × (mid ≡ old ++ more)
    → DigestFails d Q kept i mid new e → DigestFails d P seal i old new e
digest_fails_before d P Q seal kept i old mid new e size same (more, since) fails =
    subst (λ (k : ℕ). DigestFails d k seal i old new e) size (subst (λ (x : Seal). DigestFails d Q x i old new e) same (by_error e fails))
  where
    by_error : (e : Error) → DigestFails d Q kept i mid new e → DigestFails d Q kept i old new e
    by_error Damaged (j, touched, (bytes, last, len, wrong)) = (j, touched, (bytes, read_after old mid new more _ since last, len, wrong))
    by_error (System x) (j, touched, last) = (j, touched, read_after old mid new more _ since last)
    by_error OutOfMemory none = tt

-- what failed since a call began failed in it
pub fails_before : (d : List ℕ → List ℕ) (i : ℕ) (s t u : PagedState) (e : Error) → IsSameContent s t → PageFails d i t u e → PageFails d i s u e
fails_before d i s t u Damaged same (inl wrong) = inl (wrong_before d s.page_size t.page_size s.seal t.seal i s.reads t.reads u.reads same.page_size same.seal same.reads wrong)
fails_before d i s t u Damaged same (inr fails) = inr (digest_fails_before d s.page_size t.page_size s.seal t.seal i s.list_reads t.list_reads u.list_reads Damaged same.page_size same.seal same.list_reads fails)
fails_before d i s t u (System x) same (inl last) = inl (refused_before s.page_size t.page_size s.seal t.seal i s.reads t.reads u.reads same.page_size same.seal same.reads last)
fails_before d i s t u (System x) same (inr fails) = inr (digest_fails_before d s.page_size t.page_size s.seal t.seal i s.list_reads t.list_reads u.list_reads (System x) same.page_size same.seal same.list_reads fails)
fails_before d i s t u OutOfMemory same fails = tt

-- no byte is appended yet
pub range_begins : (d : List ℕ → List ℕ) (offset len : ℕ) (s : PagedState) (before : List ℕ) → IsAppending d offset len s s 0 before before
range_begins d offset len s before = record {
  within = omega arith;
  same = same_itself s;
  asks = record {
    calls = record { calls = omega arith; last = λ more. absurd (omega arith) };
    list_calls = record { calls = omega arith; last = λ more. absurd (omega arith) };
    last = λ some. absurd (omega arith);
  };
  cached = λ is. (refl, λ some. absurd (omega arith));
  adds = ([], sym (append-nil before), none_verified d s.page_size s.seal (λ content. content) offset);
}

-- what a piece asks for, in the range's words
piece_asks : {T : Type 0} (i j : ℕ) (t u : PagedState) (result : Result T Error) → i ≡ j → AsksForPage i t u result → AsksForPage j t u result
piece_asks i j t u result same asks = subst (λ (k : ℕ). AsksForPage k t u result) same asks

-- more is asked for
asks_on : (offset done n : ℕ) (s t u : PagedState) → 0 < s.page_size → 0 < n → (offset + done) % s.page_size + n ≤ s.page_size → IsSameContent s t → AsksForRange offset done s t
    → u.cached ≡ Some ((offset + done) / s.page_size) → AsksForPage ((offset + done) / s.page_size) t u (gives ℕ n) → AsksForRange offset (done + n) s u
asks_on offset done n s t u positive some fits same is held asks = record {
  calls = content_on s.page_size offset done n (length s.reads) t u (gives ℕ n) u.cached positive some fits is.calls held asks;
  list_calls = (list_on s.page_size offset done n (length s.list_reads) t u (gives ℕ n) positive some fits same.page_size is.list_calls is.last asks).1;
  last = λ more.
      let e : offset + done + n - 1 ≡ offset + (done + n) - 1 = omega arith in
      held ∙ ap Some (sym (last-in s.page_size (offset + done) n positive some fits) ∙ ap (λ (k : ℕ). k / s.page_size) e);
}

-- the page of a range that lies in one
in_cached_at : (offset len : ℕ) (s : PagedState) → 0 < s.page_size → 0 < len → (is : IsInCached offset len s) → (offset / s.page_size ≡ is.page) × (offset % s.page_size + len ≤ s.page_size)
in_cached_at offset len s positive some is =
    let step : (is.page + 1) * s.page_size ≡ is.page * s.page_size + s.page_size = ap (λ (k : ℕ). k * s.page_size) (omega arith) ∙ suc-mul is.page s.page_size in
    let low : is.page * s.page_size ≤ offset = is.begins in
    let end : offset + len ≤ is.page * s.page_size + s.page_size = is.ends in
    let high : offset < (is.page + 1) * s.page_size = omega arith in
    let here : offset / s.page_size ≡ is.page = div-eq_of_lt-le s.page_size low high in
    let split : offset / s.page_size * s.page_size + offset % s.page_size ≡ offset = div-add-mod' offset s.page_size in
    let place : offset / s.page_size * s.page_size ≡ is.page * s.page_size = ap (λ (k : ℕ). k * s.page_size) here in
    (here, omega arith)

-- a range in the page that was read last asks for nothing
stays_cached : {T : Type 0} (d : List ℕ → List ℕ) (offset len done : ℕ) (s t u : PagedState) (before mid : List ℕ) (result : Result T Error) → 0 < s.page_size → done < len
    → IsAppending d offset len s t done before mid → AsksForPage ((offset + done) / s.page_size) t u result → IsInCached offset len s
    → (u ≡ s) × (done ≡ 0) × (offset % s.page_size + len ≤ s.page_size)
stays_cached {T = T} d offset len done s t u before mid result positive below is asks here = (by_asks asks, first, (in_cached_at offset len s positive some here).1)
  where
    some : 0 < len
    some = omega arith

    first : done ≡ 0
    first = elim (cases_lt 0 done) [
      | inl more ↦ let all : done ≡ len = (is.cached here).1 more in absurd (omega (arith, all))
      | inr none ↦ omega (arith, none)
    ]

    page : (offset + done) / s.page_size ≡ here.page
    page = let e : offset + done ≡ offset = omega (arith, first) in ap (λ (k : ℕ). k / s.page_size) e ∙ (in_cached_at offset len s positive some here).0

    by_asks : AsksForPage ((offset + done) / s.page_size) t u result → u ≡ s
    by_asks (inl (held, same)) = same ∙ (is.cached here).0
    by_asks (inr (fresh, calls, on)) = absurd (fresh (ap (λ (v : PagedState). v.cached) (is.cached here).0 ∙ here.cached ∙ ap Some (sym page)))

-- a piece more
pub range_goes_on : (d : List ℕ → List ℕ) (offset len : ℕ) (s t u : PagedState) (done n : ℕ) (before mid after : List ℕ) → 0 < s.page_size → done < len → IsAppending d offset len s t done before mid
    → PieceGoes d (offset + done) (len - done) t u mid after (Ok n) → IsAppending d offset len s u (done + n) before after
range_goes_on d offset len s t u done n before mid after positive more is goes = record {
  within = omega (arith, few);
  same = content_after s t u is.same goes.same;
  asks = asks_on offset done n s t u positive some fits is.same is.asks held asks;
  cached = λ here.
      let still = stays_cached d offset len done s t u before mid (gives ℕ n) positive more is asks here in
      (still.0, λ some_more. all still.1 still.2);
  adds = (
    is.adds.0 ++ piece,
    goes.answers.5.1 ∙ ap (λ (l : List ℕ). l ++ piece) is.adds.1 ∙ append_assoc before is.adds.0 piece,
    ranges_joined d s.page_size s.seal offset done n is.adds.0 piece is.adds.2 verified,
  );
}
  where
    some : 0 < n
    some = goes.answers.0

    few : n ≤ len - done
    few = goes.answers.1

    fits : (offset + done) % s.page_size + n ≤ s.page_size
    fits = subst (λ (P : ℕ). (offset + done) % P + n ≤ P) is.same.page_size goes.answers.2

    held : u.cached ≡ Some ((offset + done) / s.page_size)
    held = goes.answers.3 ∙ ap (λ (P : ℕ). Some ((offset + done) / P)) is.same.page_size

    asks : AsksForPage ((offset + done) / s.page_size) t u (gives ℕ n)
    asks = piece_asks ((offset + done) / t.page_size) ((offset + done) / s.page_size) t u (gives ℕ n) (ap (λ (P : ℕ). (offset + done) / P) is.same.page_size) goes.asks

    all : done ≡ 0 → offset % s.page_size + len ≤ s.page_size → done + n ≡ len
    all first room =
        let e : offset + done ≡ offset = omega (arith, first) in
        let rest : len ≡ len - done = omega (arith, first) in
        let here : (offset + done) % t.page_size + (len - done) ≤ t.page_size =
        subst (λ (P : ℕ). (offset + done) % P + (len - done) ≤ P) (sym is.same.page_size)
        (subst (λ (k : ℕ). k % s.page_size + (len - done) ≤ s.page_size) (sym e) (subst (λ (k : ℕ). offset % s.page_size + k ≤ s.page_size) rest room)) in
        let whole : n ≡ len - done = goes.answers.4 here in
        omega (arith, whole)

    piece : List ℕ
    piece = goes.answers.5.0

    verified : IsVerified d s.page_size s.seal (range_at (offset + done) n) goes.answers.5.0
    verified = subst (λ (k : ℕ). IsVerified d k s.seal (range_at (offset + done) n) goes.answers.5.0) is.same.page_size
        (subst (λ (kept : Seal). IsVerified d t.page_size kept (range_at (offset + done) n) goes.answers.5.0) is.same.seal goes.answers.5.2)

-- all of them are appended
pub range_done : (d : List ℕ → List ℕ) (offset len : ℕ) (s t : PagedState) (done : ℕ) (before after : List ℕ) → len ≤ done → IsAppending d offset len s t done before after
    → RangeAppendGoes d offset len s t before after (Ok tt)
range_done d offset len s t done before after all is = record {
  same = is.same;
  asks = record { calls = asks.calls.calls; list_calls = asks.list_calls.calls; cached = λ here. (is.cached here).0 };
  answers = (
    λ some. asks.last some ∙ ap (λ (P : ℕ). Some ((offset + len - 1) / P)) (sym is.same.page_size),
    subst (λ (n : ℕ). AppendsRange d s.page_size s.seal offset n before after) whole is.adds,
  );
}
  where
    whole : done ≡ len
    whole = omega (arith, is.within)

    asks : AsksForRange offset len s t
    asks = subst (λ (n : ℕ). AsksForRange offset n s t) whole is.asks

-- the page of a place in a range has bytes of it
range_touches : (P offset len done : ℕ) → 0 < P → done < len → IsTouched P offset len ((offset + done) / P)
range_touches P offset len done positive below =
    let split : (offset + done) / P * P + (offset + done) % P ≡ offset + done = div-add-mod' (offset + done) P in
    let small : (offset + done) % P < P = mod-lt (offset + done) positive in
    (omega arith, omega arith)

-- a page can't be had
pub range_failed : (d : List ℕ → List ℕ) (offset len : ℕ) (s t u : PagedState) (done : ℕ) (before mid after : List ℕ) (e : Error) → 0 < s.page_size → done < len
    → IsAppending d offset len s t done before mid → PieceGoes d (offset + done) (len - done) t u mid after (Err e) → RangeAppendGoes d offset len s u before after (Err e)
range_failed d offset len s t u done before mid after e positive below is goes = record {
  same = content_after s t u is.same goes.same;
  asks = record {
    calls = omega (arith, content.calls, more);
    list_calls = omega (arith, list.0, list_more);
    cached = λ here. (stays_cached d offset len done s t u before mid (fails ℕ e) positive below is asks here).0;
  };
  answers = ((is.adds.0, goes.answers.0 ∙ is.adds.1), by_error e goes.answers.1);
}
  where
    one : 0 < 1
    one = omega arith

    small : (offset + done) % s.page_size + 1 ≤ s.page_size
    small = let less : (offset + done) % s.page_size < s.page_size = mod-lt (offset + done) positive in omega arith

    asks : AsksForPage ((offset + done) / s.page_size) t u (fails ℕ e)
    asks = piece_asks ((offset + done) / t.page_size) ((offset + done) / s.page_size) t u (fails ℕ e) (ap (λ (P : ℕ). (offset + done) / P) is.same.page_size) goes.asks

    more : pages_touched s.page_size offset (done + 1) ≤ pages_touched s.page_size offset len
    more = touched_more s.page_size offset (done + 1) len positive (omega arith)

    list_more : pages_touched s.page_size (offset / s.page_size * 32) (pages_touched s.page_size offset (done + 1) * 32)
        ≤ pages_touched s.page_size (offset / s.page_size * 32) (pages_touched s.page_size offset len * 32)
    list_more = touched_more s.page_size (offset / s.page_size * 32) (pages_touched s.page_size offset (done + 1) * 32) (pages_touched s.page_size offset len * 32) positive (omega (arith, more))

    content : IsReadOn s.page_size offset (done + 1) (length s.reads) (length u.reads) (Some ((offset + done) / s.page_size))
    content = content_on s.page_size offset done 1 (length s.reads) t u (fails ℕ e) (Some ((offset + done) / s.page_size)) positive one small is.asks.calls refl asks

    list : (length u.list_reads ≤ length s.list_reads + pages_touched s.page_size (offset / s.page_size * 32) (pages_touched s.page_size offset (done + 1) * 32))
        × OnOk (fails ℕ e)
        (IsReadOn s.page_size (offset / s.page_size * 32) (pages_touched s.page_size offset (done + 1) * 32) (length s.list_reads) (length u.list_reads) u.cached_list)
    list = list_on s.page_size offset done 1 (length s.list_reads) t u (fails ℕ e) positive one small is.same.page_size is.asks.list_calls is.asks.last asks

    touched : IsTouched s.page_size offset len ((offset + done) / t.page_size)
    touched = subst (λ (P : ℕ). IsTouched s.page_size offset len ((offset + done) / P)) (sym is.same.page_size) (range_touches s.page_size offset len done positive below)

    by_error : (e : Error) → PageFails d ((offset + done) / t.page_size) t u e → RangeFails d offset len s u e
    by_error Damaged lost = ((offset + done) / t.page_size, touched, fails_before d ((offset + done) / t.page_size) s t u Damaged is.same lost)
    by_error (System x) lost = ((offset + done) / t.page_size, touched, fails_before d ((offset + done) / t.page_size) s t u (System x) is.same lost)
    by_error OutOfMemory none = tt

-- a range that is appended to no bytes
pub range_read : (d : List ℕ → List ℕ) (offset len : ℕ) (s t : PagedState) (before : List ℕ) (bytes : Vec ℕ Global) → before ≡ [] → RangeAppendGoes d offset len s t before bytes.items (Ok tt)
    → PagedReadGoes d offset len s t (Ok bytes)
range_read d offset len s t before bytes empty goes = record {
  same = goes.same;
  asks = goes.asks;
  answers = (
    goes.answers.0,
    subst (IsVerified d s.page_size s.seal (range_at offset len)) (sym (goes.answers.1.1 ∙ ap (λ (l : List ℕ). l ++ goes.answers.1.0) empty)) goes.answers.1.2,
  );
}

-- ---- of the page that is held

abbrev number_of : Option ℕ → ℕ
number_of None = 0
number_of (Some i) = i

-- the bytes of the page that is held from an offset on
pub held_from : (d : List ℕ → List ℕ) (l : ListState) (seal : Seal) (P : ℕ) (cached : Option ℕ) (page : List ℕ) (reads : List SourceRead) (s : PagedState) (offset i skip : ℕ)
    → seen seal P cached l reads ≡ s → IsPaged d l seal P cached page → cached ≡ Some i → i * P + skip ≡ offset → skip < length page
    → HoldsFrom d offset s (take (length page - skip) (drop skip page))
held_from d l seal P cached page reads s offset i skip same is there place within =
    subst (λ (v : PagedState). HoldsFrom d offset v bytes) same (record {
      verified = subst (λ (k : ℕ). IsVerified d P seal (range_at offset k) bytes) (sym count) (piece_verified d P seal offset n i skip page fits place its.verified);
      cached = λ some. record { page = i; cached = there; begins = omega (arith, place); ends = omega (arith, place, count, fits) };
      all = λ other held begins ends.
          let one : i ≡ other = ap number_of (sym there ∙ held) in
          subst (λ (k : ℕ). offset + length bytes ≡ min (k * P + P) seal.len) one (omega (arith, count, its.len, its.within, place, within));
    })
  where
    n : ℕ
    n = length page - skip

    bytes : List ℕ
    bytes = take (length page - skip) (drop skip page)

    its : IsContentPage d P seal i page
    its = cached_page d l seal P i cached page is there

    fits : skip + n ≤ P
    fits = omega (arith, its.len, within)

    count : length bytes ≡ n
    count =
        let rest : length (drop skip page) ≡ n = length-drop skip page in
        length-take-le n (drop skip page) (omega (arith, rest))
