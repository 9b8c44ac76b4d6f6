-- One part of an append after another.
use Rattle.std.proofs.Common.{◌≡◌, ℕ, ◌+◌, ◌-◌, ◌*◌, ◌/◌, ◌%◌, ◌<◌, ◌≤◌, inl, inr, List, [], ◌∷◌, ◌++◌, length, take, refl, sym, ap, ◌∙◌, subst, arith, append_assoc, length-append, Result, Ok, Err}
use Rattle.std.proofs.Math.Nat.{div-add-mod', mod-lt, mod-eq_of_lt, mod_self, mul-mod_left, add-mul}
use Rattle.std.proofs.lemmas.Bool.{cases_lt}
use Rattle.std.proofs.lemmas.Nat.{mod-mul-add}
use Rattle.std.specs.Prelude.{OnOk}
use Rattle.disk.specs.Disk.{Life}
use Rattle.disk.specs.declared.error.Error.{Error}
use Rattle.disk.specs.declared.error.Error.TheVariants.{ReadFailed, WriteFailed, ResizeFailed, SyncFailed, InvalidChecksum, BlobInsufficientLength, OffsetOverflow, OutOfMemory, IdsExhausted}
use Rattle.disk.proofs.Logs.{grows_joins}
use Rattle.writer_state.specs.WriterState.{WriterState}
use Rattle.writer_state.specs.Sound.{IsConsistent, Consistency, content}
use Rattle.crash.specs.Stays.{StaysThrough}
use Rattle.crash.specs.Started.{CoversThrough}
use Rattle.writer_state.proofs.CoverLaws.{covers_through_join, covers_shorter}
use Rattle.writer_state.proofs.FlushLaws.{length-content, tip_reach}
use Rattle.crash.proofs.Moments.{stays_through_joins, stays_through_longer}
use Rattle.paged.specs.Writer.{FitsBlob}
use Rattle.paged.specs.Calls.{CarriesOn, Fails, AppendsOver}
use Rattle.paged.specs.Direct.{fill_of, IsDirect}
use Rattle.paged.specs.Flush.{with_value}
use Rattle.paged.specs.Reads.{size_of}
use Rattle.paged.proofs.Appends.{append_fails}
use Rattle.paged.proofs.Bypass.{IsCut}
use Rattle.paged.proofs.Causes.{cause_later, none_refused_joins}
use Rattle.paged.proofs.Flushes.{begins, size_holds}
use Rattle.paged.proofs.Sizes.{fits_by_size}

-- fewer bytes need no more offsets
pub fits_fewer : (P full n m : ℕ) → 0 < P → n ≤ m → FitsBlob P full m → FitsBlob P full n
fits_fewer P full n m some less fits = (fits_by_size P full n some).1 (omega (arith, (fits_by_size P full m some).0 fits, less))

-- the bytes after more pages need no more offsets
pub fits_after : (P full n ahead m : ℕ) → 0 < P → ahead * P + m ≡ full * P + n → FitsBlob P full n → FitsBlob P ahead m
fits_after P full n ahead m some same fits = (fits_by_size P ahead m some).1 (omega (arith, (fits_by_size P full n some).0 fits, same))

-- what is refused over a content is refused over a longer one
pub refuses_longer : (sum : List ℕ → ℕ) (w : WriterState) (held more : List ℕ) (old new : Life) (e : Error) → Fails sum w held old new e → Fails sum w (held ++ more) old new e
refuses_longer sum w held more old new e refused = record {
  cause = refused.cause;
  log = refused.log;
  stays = stays_through_longer sum w.page_size held (held ++ more) old new (begins held more) refused.stays;
}

-- an append whose first part is refused
pub appends_refused : (sum : List ℕ → ℕ) (w : WriterState) (xs ys : List ℕ) (old new : Life) (e : Error) → 0 < w.page_size → FitsBlob w.page_size w.full_pages (length w.tip + length (xs ++ ys))
    → AppendsOver sum w xs old new (Err e) → AppendsOver sum w (xs ++ ys) old new (Err e)
appends_refused sum w xs ys old new e some fits = by_error e
  where
    longer : (e : Error) → Fails sum w (content w old.present.readable ++ xs) old new e → AppendsOver sum w (xs ++ ys) old new (Err e)
    longer e refused =
        append_fails sum w (xs ++ ys) old new e (subst (λ c. Fails sum w c old new e) (append_assoc (content w old.present.readable) xs ys)
        (refuses_longer sum w (content w old.present.readable ++ xs) ys old new e refused))

    by_error : (e : Error) → AppendsOver sum w xs old new (Err e) → AppendsOver sum w (xs ++ ys) old new (Err e)
    by_error ReadFailed refused = longer ReadFailed refused
    by_error WriteFailed refused = longer WriteFailed refused
    by_error ResizeFailed refused = longer ResizeFailed refused
    by_error SyncFailed refused = longer SyncFailed refused
    by_error InvalidChecksum refused = longer InvalidChecksum refused
    by_error BlobInsufficientLength refused = longer BlobInsufficientLength refused
    by_error OffsetOverflow refused =
        absurd (omega (arith, refused.1, fits_fewer w.page_size w.full_pages (length w.tip + length xs) (length w.tip + length (xs ++ ys)) some (omega (arith, length-append xs ys)) fits))
    by_error OutOfMemory refused = longer OutOfMemory refused
    by_error IdsExhausted refused = longer IdsExhausted refused

module _ (sum : List ℕ → ℕ) (w m : WriterState) (old mid new : Life) (xs ys : List ℕ) (first : CarriesOn sum w old xs m mid) where
  joined_content : content m mid.present.readable ++ ys ≡ content w old.present.readable ++ (xs ++ ys)
  joined_content = ap (λ c. c ++ ys) first.content ∙ append_assoc (content w old.present.readable) xs ys

  joined_stays : StaysThrough sum m.page_size (content m mid.present.readable ++ ys) mid new → StaysThrough sum w.page_size (content w old.present.readable ++ (xs ++ ys)) old new
  joined_stays second =
      let held = content w old.present.readable in
      let all = held ++ (xs ++ ys) in
      let begins_all : held ++ xs ≡ take (length (held ++ xs)) all = begins (held ++ xs) ys ∙ ap (λ c. take (length (held ++ xs)) c) (append_assoc held xs ys) in
      stays_through_joins sum w.page_size all old mid new (stays_through_longer sum w.page_size (held ++ xs) all old mid begins_all first.stays)
      (subst (λ P. StaysThrough sum P all mid new) first.same.page_size (subst (λ c. StaysThrough sum m.page_size c mid new) joined_content second))

  pub goes_on_join : (n : WriterState) → CarriesOn sum m mid ys n new → CarriesOn sum w old (xs ++ ys) n new
  goes_on_join n second = record {
    holds = second.holds;
    intact = λ full. second.intact (first.intact full);
    size = second.size;
    only = second.only;
    content = second.content ∙ joined_content;
    same = record { page_size = second.same.page_size ∙ first.same.page_size; id = second.same.id ∙ first.same.id; capacity = second.same.capacity ∙ first.same.capacity; full_pages = omega (arith, second.same.full_pages, first.same.full_pages) };
    log = grows_joins old.present mid.present new.present first.log second.log;
    stays = joined_stays second.stays;
    waits = λ had. cause_later w.sync m.sync old mid new SyncFailed first.log second.log first.served first.waits (second.waits had);
    served = none_refused_joins old.present mid.present new.present first.served second.served;
  }

  refuses_join : (e : Error) → Fails sum m (content m mid.present.readable ++ ys) mid new e → Fails sum w (content w old.present.readable ++ (xs ++ ys)) old new e
  refuses_join e second = record {
    cause = cause_later w.sync m.sync old mid new e first.log second.log first.served first.waits second.cause;
    log = grows_joins old.present mid.present new.present first.log second.log;
    stays = joined_stays second.stays;
  }

  -- memory is refused between the two
  pub appends_stopped : (e : Error) → e ≡ OutOfMemory → AppendsOver sum w (xs ++ ys) old mid (Err e)
  appends_stopped e is =
      let held = content w old.present.readable in
      subst (λ e. AppendsOver sum w (xs ++ ys) old mid (Err e)) (sym is) (record {
        cause = first.served;
        log = first.log;
        stays = subst (λ c. StaysThrough sum w.page_size c old mid) (append_assoc held xs ys) (stays_through_longer sum w.page_size (held ++ xs) (held ++ xs ++ ys) old mid (begins (held ++ xs) ys) first.stays);
      })

  later_refused : (e : Error) → FitsBlob m.page_size m.full_pages (length m.tip + length ys) → AppendsOver sum m ys mid new (Err e) → AppendsOver sum w (xs ++ ys) old new (Err e)
  later_refused ReadFailed fits refused = refuses_join ReadFailed refused
  later_refused WriteFailed fits refused = refuses_join WriteFailed refused
  later_refused ResizeFailed fits refused = refuses_join ResizeFailed refused
  later_refused SyncFailed fits refused = refuses_join SyncFailed refused
  later_refused InvalidChecksum fits refused = refuses_join InvalidChecksum refused
  later_refused BlobInsufficientLength fits refused = refuses_join BlobInsufficientLength refused
  later_refused OffsetOverflow fits refused = absurd (omega (arith, refused.1, fits))
  later_refused OutOfMemory fits refused = refuses_join OutOfMemory refused
  later_refused IdsExhausted fits refused = refuses_join IdsExhausted refused

  -- whatever the later part answers
  pub appends_join : (n : WriterState) (result : Result (Unit {0}) Error) → IsConsistent sum w old.present → FitsBlob m.page_size m.full_pages (length m.tip + length ys) → AppendsOver sum m ys mid new (with_value (n, size_of m) result)
      → AppendsOver sum w (xs ++ ys) old new (with_value (n, size_of w) result)
  appends_join n (Ok done) sound fits goes = (size_holds sum w old sound, goes_on_join n goes.1)
  appends_join n (Err e) sound fits refused = later_refused e fits refused

  -- and what started syncs cover through both parts
  pub covers_join : CoversThrough sum w.page_size (content w old.present.readable) old mid → CoversThrough sum m.page_size (content m mid.present.readable) mid new → CoversThrough sum w.page_size (content w old.present.readable) old new
  covers_join one two =
      let held = content w old.present.readable in
      covers_through_join sum w.page_size held old mid new one
      (covers_shorter sum w.page_size held (held ++ xs) mid new (begins held xs)
      (subst (λ (c : List ℕ). CoversThrough sum w.page_size c mid new) first.content
      (subst (λ (P : ℕ). CoversThrough sum P (content m mid.present.readable) mid new) first.same.page_size two)))

-- ---- filling the tip

no_bytes : (xs : List ℕ) → length xs ≡ 0 → xs ≡ []
no_bytes [] none = refl
no_bytes (x ∷ xs) none = absurd (omega (arith, none))

-- filling takes the tip to a page boundary
filled_whole : (P n : ℕ) → 0 < P → (k : ℕ) × (n + (P - n % P) % P ≡ k * P)
filled_whole P n some = elim (cases_lt 0 (n % P)) [
  | inl part ↦
      let left : (P - n % P) % P ≡ P - n % P = mod-eq_of_lt (omega (arith, part, some)) in
      (n / P + 1, omega (arith, left, div-add-mod' n P, mod-lt n some, add-mul (n / P) 1 P))
  | inr none ↦
      let left : (P - n % P) % P ≡ 0 = ap (λ r. r % P) (omega (arith, none)) ∙ mod_self P in
      (n / P, omega (arith, left, none, div-add-mod' n P))
]

-- so after filling and a flush nothing is left in the tip
module _ (sum : List ℕ → ℕ) (w m : WriterState) (old mid : Life) (xs : List ℕ) (sound : Consistency sum w old.present) (first : CarriesOn sum w old xs m mid) where
  pub filled_size : m.full_pages * w.page_size + length m.tip ≡ w.full_pages * w.page_size + (length w.tip + length xs)
  filled_size =
      let held : length (content w old.present.readable) ≡ w.full_pages * w.page_size + length w.tip = length-content w old.present.readable ((tip_reach sum w.page_size w.full_pages w.tip old.present.readable w.flushed sound.stands.tip_page).0) in
      omega (arith, first.size, ap (λ P. m.full_pages * P) first.same.page_size, ap length first.content, length-append (content w old.present.readable) xs, held)

  module _ (fill : length xs ≡ fill_of w) (short : length m.tip < w.page_size) where
    filled_none : length m.tip ≡ 0
    filled_none =
        let whole = filled_whole w.page_size (length w.tip) sound.stands.some in
        let k = w.full_pages + whole.0 in
        let at : m.full_pages * w.page_size + length m.tip ≡ k * w.page_size = omega (arith, filled_size, fill, whole.1, add-mul w.full_pages whole.0 w.page_size) in
        sym (mod-mul-add m.full_pages w.page_size (length m.tip) short) ∙ ap (λ n. n % w.page_size) at ∙ mul-mod_left k w.page_size

    pub filled_empty : m.tip ≡ []
    filled_empty = no_bytes m.tip filled_none

-- where the flush of a writer that buffered them ends well
module _ (sum : List ℕ → ℕ) (w v now : WriterState) (old new : Life) (xs : List ℕ) where
  pub filled_ok : (result : Result (Unit {0}) Error) → IsConsistent sum w old.present → length xs ≡ fill_of w → v ≡ record w { tip = w.tip ++ xs } → AppendsOver sum w xs old new (with_value (now, size_of w) result) → OnOk result (length now.tip < v.page_size) → OnOk result (now.tip ≡ [])
  unfolding IsConsistent
  filled_ok (Ok done) sound fill is appends short = filled_empty sum w now old new xs sound appends.1 fill (subst (λ (u : WriterState). length now.tip < u.page_size) is short)
  filled_ok (Err e) sound fill is refused short = tt

-- ---- whole pages after it

module _ (sum : List ℕ → ℕ) (w m : WriterState) (old mid : Life) (bytes first whole rest : List ℕ) (sound : IsConsistent sum w old.present) (fits : FitsBlob w.page_size w.full_pages (length w.tip + length bytes)) (goes : CarriesOn sum w old first m mid) where
  pub direct_after : m.tip ≡ [] → IsCut w.page_size (fill_of w) bytes first whole rest → IsDirect m whole rest
  unfolding IsConsistent
  direct_after empty cut = record {
    empty = empty;
    some = cut.some;
    pages = subst (λ P. length whole % P ≡ 0) (sym goes.same.page_size) cut.pages;
    short = omega (arith, cut.short, goes.same.page_size);
    fits = subst (λ P. FitsBlob P m.full_pages (length whole + length rest)) (sym goes.same.page_size)
        (fits_after w.page_size w.full_pages (length w.tip + length bytes) m.full_pages (length whole + length rest) sound.stands.some
        (omega (arith, filled_size sum w m old mid first sound goes, ap length empty, ap length cut.joined, length-append first (whole ++ rest), length-append whole rest)) fits);
  }
