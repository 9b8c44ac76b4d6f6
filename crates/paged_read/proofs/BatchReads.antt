-- Pages that are read together.
use Rattle.std.proofs.Common.{eqb-true, ◌≡◌, inl, inr, ℕ, suc, ◌+◌, ◌*◌, ◌<◌, ◌≤◌, List, [], ◌∷◌, length, take, map, refl, sym, ap, ◌∙◌, subst, arith, Bool, true, false, Ok, Err, Result}
use Rattle.std.specs.Prelude.{All, nat_eq, ◌==◌}
use Rattle.std.specs.List.{IsDistinct}
use Rattle.std.proofs.lemmas.List.{take_all}
use Rattle.std.proofs.lemmas.List.Elements.{All-nil, All-cons}
use Rattle.std.proofs.Math.Nat.{suc-mul}
use Rattle.disk.specs.Disk.Request.{ReadMany}
use Rattle.disk.specs.Disk.{Life, AskedOnce, DeviceReadManyGoes, Delivers, IsWithin}
use Rattle.disk.specs.declared.error.Error.{Error}
use Rattle.disk.specs.declared.error.Error.TheVariants.{ReadFailed, WriteFailed, ResizeFailed, SyncFailed, InvalidChecksum, BlobInsufficientLength, OffsetOverflow, OutOfMemory, IdsExhausted}
use Rattle.disk.proofs.Logs.{failed_once}
use Rattle.crash.specs.Looks.{Looked}
use Rattle.crash.proofs.LookLaws.{looked_asked, looked_none}
use Rattle.paged_read.specs.Ranges.{AsksTogether, page_ranges}
use Rattle.paged_read.specs.Batch.{DeliversPages}
use Rattle.paged_read.proofs.Failing.{none_failed_same}

-- a read of many ranges, whatever it answers
pub looked_many : (ranges : List (ℕ × ℕ)) (old new : Life) (out : List (ℕ × List ℕ)) (result : Result (Unit {0}) Error) → DeviceReadManyGoes ranges old new out result → Looked old new
looked_many ranges old new out (Ok u) goes = looked_asked (ReadMany ranges) false old new goes.2
looked_many ranges old new out (Err ReadFailed) goes = looked_asked (ReadMany ranges) true old new goes
looked_many ranges old new out (Err WriteFailed) goes = absurd goes
looked_many ranges old new out (Err ResizeFailed) goes = absurd goes
looked_many ranges old new out (Err SyncFailed) goes = absurd goes
looked_many ranges old new out (Err InvalidChecksum) goes = absurd goes
looked_many ranges old new out (Err BlobInsufficientLength) goes = looked_none old new goes.0
looked_many ranges old new out (Err OffsetOverflow) goes = absurd goes
looked_many ranges old new out (Err OutOfMemory) goes = looked_none old new goes.0
looked_many ranges old new out (Err IdsExhausted) goes = absurd goes

asked_together : (ranges : List (ℕ × ℕ)) (failed : Bool) (old new : Life) → 0 < length ranges → AskedOnce (ReadMany ranges) failed old new → AsksTogether ranges old new
asked_together [] failed old new some asked = absurd (omega arith)
asked_together (range ∷ ranges) failed old new some asked = inr (failed, asked)

pub not_asked : (ranges : List (ℕ × ℕ)) (old new : Life) → new ≡ old → AsksTogether ranges old new
not_asked [] old new is = is
not_asked (range ∷ ranges) old new is = inl is

pub asks_many : (ranges : List (ℕ × ℕ)) (old new : Life) (out : List (ℕ × List ℕ)) (result : Result (Unit {0}) Error) → 0 < length ranges → DeviceReadManyGoes ranges old new out result → AsksTogether ranges old new
asks_many ranges old new out (Ok u) some goes = asked_together ranges false old new some goes.2
asks_many ranges old new out (Err ReadFailed) some goes = asked_together ranges true old new some goes
asks_many ranges old new out (Err WriteFailed) some goes = absurd goes
asks_many ranges old new out (Err ResizeFailed) some goes = absurd goes
asks_many ranges old new out (Err SyncFailed) some goes = absurd goes
asks_many ranges old new out (Err InvalidChecksum) some goes = absurd goes
asks_many ranges old new out (Err BlobInsufficientLength) some goes = not_asked ranges old new goes.0
asks_many ranges old new out (Err OffsetOverflow) some goes = absurd goes
asks_many ranges old new out (Err OutOfMemory) some goes = not_asked ranges old new goes.0
asks_many ranges old new out (Err IdsExhausted) some goes = absurd goes

-- the offsets of pages that are there are within the blob
pub page_ranges_within : (P : ℕ) (pages readable : List ℕ) → All (λ page. (page + 1) * (P + 12) ≤ length readable) pages → IsWithin (page_ranges P pages) readable
page_ranges_within P [] readable there = All-nil (λ (r : ℕ × ℕ). r.0 + r.1 ≤ length readable)
page_ranges_within P (page ∷ pages) readable there =
    All-cons (λ (r : ℕ × ℕ). r.0 + r.1 ≤ length readable) (page * (P + 12), P + 12) (page_ranges P pages) (omega (arith, there 0 page (omega arith), suc-mul page (P + 12)))
    (page_ranges_within P pages readable (λ k d less. there (suc k) d (omega arith)))

-- why a read of many ranges answers an error
pub many_fault : (P : ℕ) (pages : List ℕ) (old new : Life) (out : List (ℕ × List ℕ)) (e : Error) → All (λ page. (page + 1) * (P + 12) ≤ length old.present.readable) pages → DeviceReadManyGoes (page_ranges P pages) old new out (Err e) → DeliversPages P pages old new (Err e)
many_fault P pages old new out ReadFailed there goes = failed_once (ReadMany (page_ranges P pages)) old.present new.present (ap (λ l. l.present.log) goes)
many_fault P pages old new out WriteFailed there goes = goes
many_fault P pages old new out ResizeFailed there goes = goes
many_fault P pages old new out SyncFailed there goes = goes
many_fault P pages old new out InvalidChecksum there goes = goes
many_fault P pages old new out BlobInsufficientLength there goes = absurd (goes.1 (page_ranges_within P pages old.present.readable there))
many_fault P pages old new out OffsetOverflow there goes = goes
many_fault P pages old new out OutOfMemory there goes = none_failed_same old new goes.0
many_fault P pages old new out IdsExhausted there goes = goes

distinct_none : IsDistinct nat_eq []
unfolding IsDistinct
distinct_none = tt

-- nothing is delivered of no pages
pub delivers_none : (P : ℕ) (pages : List ℕ) (readable : List ℕ) (out : List (ℕ × List ℕ)) → length pages ≡ 0 → out ≡ [] → Delivers (page_ranges P pages) readable out
delivers_none P [] readable out none no_out =
    let nothing : Delivers [] readable [] = record {
      count = refl;
      each = λ k d less. absurd (omega arith);
      all = λ index less. absurd (omega arith);
      once = distinct_none;
    } in
    subst (λ (l : List (ℕ × List ℕ)). Delivers [] readable l) (sym no_out) nothing
delivers_none P (page ∷ pages) readable out none no_out = absurd (omega arith)

-- the ranges of all pages
pub page_ranges_all : (P size : ℕ) (pages : List ℕ) (n : ℕ) (ranges : List (ℕ × ℕ)) → size ≡ P + 12 → length pages ≤ n → ranges ≡ map (λ (page : ℕ). (page * size, size)) (take n pages) → ranges ≡ page_ranges P pages
page_ranges_all P size pages n ranges is enough made =
    made ∙ ap (λ (l : List ℕ). map (λ (page : ℕ). (page * size, size)) l) (take_all n pages enough)
    ∙ ap (λ (s : ℕ). map (λ (page : ℕ). (page * s, s)) pages) is

pub some_from_test : (pages : List ℕ) → (length pages == 0) ≡ false → 0 < length pages
some_from_test [] is = cc
some_from_test (page ∷ pages) is = omega arith

-- whether there are any pages
pub no_pages : (slice pages : List ℕ) → (length slice == 0) ≡ true → slice ≡ pages → pages ≡ []
no_pages [] pages empty is = sym is
no_pages (page ∷ slice) pages empty is = let none : length (page ∷ slice) ≡ 0 = eqb-true (length (page ∷ slice)) 0 empty in absurd (omega (arith, none))

pub some_pages : (slice pages : List ℕ) → (length slice == 0) ≡ false → slice ≡ pages → pages ≡ [] → ⊥
some_pages slice pages some is none = let more = some_from_test slice some in omega (arith, more, ap length (is ∙ none))

pub length-page_ranges : (P : ℕ) (pages : List ℕ) → length (page_ranges P pages) ≡ length pages
length-page_ranges P [] = refl
length-page_ranges P (page ∷ pages) = ap suc (length-page_ranges P pages)
