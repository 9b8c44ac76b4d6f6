-- What items are, and what a crash keeps of them, from what it keeps of their bytes.
use Rattle.std.proofs.Common.{◌≡◌, inl, inr, ℕ, ◌+◌, ◌*◌, ◌/◌, ◌<◌, ◌≤◌, List, [], ◌∷◌, ◌++◌, length, take, drop, slice_get, Some, refl, sym, ap, ◌∙◌, arith, length-take, length-append, le_trans}
use Rattle.std.proofs.lemmas.List.{take_all, take_at, take-take, take-append-le}
use Rattle.std.proofs.lemmas.Nat.{le-div}
use Rattle.std.proofs.Math.Nat.{div-mul-le_self, mul-div_cancel}
use Rattle.disk.specs.Disk.{Disk, Life, IsImage, disk_settled_to}
use Rattle.page.specs.Page.{pieces, text}
use Rattle.crash.specs.Kept.{AllKeep, AllOnly}
use Rattle.crash.specs.Started.{CoversStay, CoversThrough}
use Rattle.crash.specs.Stays.{KeepsAllFloors, LeavesOnly}
use Rattle.crash.specs.Moments.{through_then}
use Rattle.crash.proofs.Lists.{take_same, same_reach}
use Rattle.crash.proofs.Pages.{length-pieces, pieces_at, pieces_same, pieces-append, take-pieces}
use Rattle.crash.proofs.Promise.{keeps_less, keeps_same, keeps_settle}
use Rattle.crash.proofs.DistinctLaws.{distinct_is_chance_free}
use Rattle.items.specs.Items.{items, item_floor, AreFirst, AreDurable, AreOnly, WouldBeDurable, KeepsItems, KeepsStarted, LeavesItems, BringsItemsBack, BringsOnlyItems}

-- ---- items of bytes

-- how many items there are, and each by its number
pub length-items : (s : ℕ) (content : List ℕ) → length (items s content) ≡ length content / s
length-items s content = length-pieces (length content / s) s content

pub item_at : (s i : ℕ) (content : List ℕ) → i < length content / s → slice_get (items s content) i ≡ Some (take s (drop (i * s) content))
item_at s i content lt = pieces_at (length content / s) s i content lt

-- so many items stand in so many bytes
pub items_within : (s n : ℕ) (content : List ℕ) → 0 < s → n * s ≤ length content → n ≤ length content / s
items_within s n content some within = le-div n (length content) s some within

-- the first n items are of the bytes that they cover
pub items_same : (s n : ℕ) (xs ys : List ℕ) → 0 < s → n * s ≤ length xs → take (n * s) xs ≡ take (n * s) ys → take n (items s xs) ≡ take n (items s ys)
items_same s n xs ys some there same =
    take-pieces n (length xs / s) s xs (items_within s n xs some there)
    ∙ pieces_same n s xs ys same
    ∙ sym (take-pieces n (length ys / s) s ys (items_within s n ys some (same_reach (n * s) xs ys same there)))

-- items are the first of themselves, and of longer ones; and the first of the first are the first
pub first_of_itself : (xs : List (List ℕ)) → AreFirst xs xs
first_of_itself xs = sym (take_all (length xs) xs (omega arith))

pub first_of_more : (xs ys : List (List ℕ)) → AreFirst xs (xs ++ ys)
first_of_more xs ys = sym (take_at xs ys (length xs) refl)

pub first_trans : (xs ys zs : List (List ℕ)) → AreFirst xs ys → AreFirst ys zs → AreFirst xs zs
first_trans xs ys zs first second =
    let le : length xs ≤ length ys = omega (arith, ap length first, length-take (length xs) ys) in
    first ∙ ap (λ l. take (length xs) l) second ∙ take-take (length xs) (length ys) zs le

-- a prefix of some bytes has the first of their items
pub items_first : (s : ℕ) (xs ys : List ℕ) → 0 < s → xs ≡ take (length xs) ys → AreFirst (items s xs) (items s ys)
items_first s xs ys some begins =
    let n = length xs / s in
    let all : length (items s xs) ≡ n = length-items s xs in
    let fits : n * s ≤ length xs = div-mul-le_self (length xs) s in
    let same : take (n * s) xs ≡ take (n * s) ys = take_same (n * s) (length xs) xs ys fits (take_all (length xs) xs (omega arith) ∙ begins) in
    sym (take_all n (items s xs) (omega (arith, all)))
    ∙ items_same s n xs ys some fits same
    ∙ ap (λ (k : ℕ). take k (items s ys)) (sym all)

-- one item more, after whole ones
pub items_more : (s : ℕ) (content item : List ℕ) → 0 < s → length content ≡ length content / s * s → length item ≡ s → items s (content ++ item) ≡ items s content ++ item ∷ []
items_more s content item some whole size =
    let n = length content / s in
    let long : length (content ++ item) ≡ (n + 1) * s = omega (arith, length-append content item, whole, size) in
    let count : length (content ++ item) / s ≡ n + 1 = ap (λ (k : ℕ). k / s) long ∙ mul-div_cancel (n + 1) some in
    ap (λ (k : ℕ). pieces k s (content ++ item)) count
    ∙ pieces-append n 1 s content item whole
    ∙ ap (λ (l : List ℕ). items s content ++ l ∷ []) (take_all s item (omega (arith, size)))

-- the whole items of some bytes are all of theirs
pub items_whole : (s : ℕ) (content : List ℕ) → 0 < s → items s (take (length content / s * s) content) ≡ items s content
items_whole s content some =
    let n = length content / s in
    let fits : n * s ≤ length content = div-mul-le_self (length content) s in
    let cut = take (n * s) content in
    let long : length cut ≡ n * s = omega (arith, length-take (n * s) content) in
    let count : length cut / s ≡ n = ap (λ (k : ℕ). k / s) long ∙ mul-div_cancel n some in
    ap (λ (k : ℕ). pieces k s cut) count ∙ pieces_same n s cut content (take-take (n * s) (n * s) content (omega arith))

-- ---- what a crash keeps

-- where every image keeps the bytes of n items they are durable
pub durable_of : (sum : List ℕ → ℕ) (P s : ℕ) (content : List ℕ) (n : ℕ) (d : Disk) → 0 < s → n * s ≤ length content → AllKeep sum P content (n * s) d → AreDurable sum P s content n d
durable_of sum P s content n d some within keeps = record {
  within = within;
  bytes = keeps;
  items = λ image is_image. sym (items_same s n content (text sum P image) some within (sym (keeps.kept image is_image)));
}

-- so where the first bytes are kept, the items that these hold whole are durable
pub floor_durable : (sum : List ℕ → ℕ) (P s : ℕ) (content : List ℕ) (floor : ℕ) (d : Disk) → 0 < s → floor ≤ length content → AllKeep sum P content floor d → AreDurable sum P s content (item_floor s floor) d
floor_durable sum P s content floor d some within keeps =
    let n = floor / s in
    let fits : n * s ≤ floor = div-mul-le_self floor s in
    durable_of sum P s content n d some (le_trans fits within) (keeps_less sum P content floor (n * s) d fits keeps)

-- floors that are kept keep items
pub keeps_items : (sum : List ℕ → ℕ) (P s : ℕ) (old new : Life) → 0 < s → KeepsAllFloors sum P old new → KeepsItems sum P s old new
keeps_items sum P s old new some keeps = λ content n durable.
    through_then (AllKeep sum P content (n * s)) (AreDurable sum P s content n) old new
    (λ d kept. durable_of sum P s content n d some durable.within kept)
    (keeps content (n * s) durable.within durable.bytes)

-- what is durable of some items is durable of these and more
pub durable_longer : (sum : List ℕ → ℕ) (P s : ℕ) (content more : List ℕ) (n : ℕ) (d : Disk) → 0 < s → AreDurable sum P s content n d → AreDurable sum P s (content ++ more) n d
durable_longer sum P s content more n d some durable =
    durable_of sum P s (content ++ more) n d some (omega (arith, durable.within, length-append content more))
    (keeps_same sum P content (content ++ more) (n * s) d (sym (take-append-le (n * s) content more durable.within)) durable.bytes)

-- where a crash leaves only prefixes of contents, it leaves only the first of their items
pub only_items : (sum : List ℕ → ℕ) (P s : ℕ) (before after : List ℕ) (all : List (List ℕ)) (d : Disk) → 0 < s → AreFirst (items s before) all → AreFirst (items s after) all → AllOnly sum P before after d → AreOnly sum P s all d
only_items sum P s before after all d some first second only = record {
  only = λ image is_image free. elim (only.only image is_image free) [
    | inl is ↦ first_trans (items s (text sum P image)) (items s before) all (items_first s (text sum P image) before some is) first
    | inr is ↦ first_trans (items s (text sum P image)) (items s after) all (items_first s (text sum P image) after some is) second
  ];
  vouched = only.vouched;
}

pub leaves_items : (sum : List ℕ → ℕ) (P s : ℕ) (before after : List ℕ) (all : List (List ℕ)) (old new : Life) → 0 < s → AreFirst (items s before) all → AreFirst (items s after) all → LeavesOnly sum P before after old new → LeavesItems sum P s all old new
leaves_items sum P s before after all old new some first second leaves =
    through_then (AllOnly sum P before after) (AreOnly sum P s all) old new (λ d only. only_items sum P s before after all d some first second only) leaves

-- what comes back begins with what was durable
pub brings_back : (sum : List ℕ → ℕ) (P s : ℕ) (d : Disk) (image : List ℕ) → 0 < s → IsImage d image → BringsItemsBack sum P s d (items s (text sum P image))
brings_back sum P s d image some is_image = λ content n durable.
    let T = text sum P image in
    let same : take (n * s) content ≡ take (n * s) T = sym (durable.bytes.kept image is_image) in
    let there : n ≤ length T / s = items_within s n T some (same_reach (n * s) content T same durable.within) in
    (omega (arith, there, length-items s T), durable.items image is_image)

pub brings_only : (sum : List ℕ → ℕ) (P s : ℕ) (d : Disk) (image : List ℕ) → IsImage d image → BringsOnlyItems sum P s d image (items s (text sum P image))
brings_only sum P s d image is_image = λ distinct all only.
    only.only image is_image (distinct_is_chance_free sum P d image only.vouched is_image distinct)

-- what was durable as a blob crashed still is: a crash of what it left leaves nothing else
pub durable_left : (sum : List ℕ → ℕ) (P s : ℕ) (content : List ℕ) (n : ℕ) (d e : Disk) → 0 < s → IsImage d e.base → e.since ≡ [] → AreDurable sum P s content n d → AreDurable sum P s content n e
durable_left sum P s content n d e some is_image at_rest durable =
    durable_of sum P s content n e some durable.within (keeps_settle sum P content (n * s) d e is_image at_rest durable.bytes)

-- ---- what started syncs cover

-- covers that stay keep what a started sync would make durable
pub keeps_started : (sum : List ℕ → ℕ) (P s : ℕ) (content : List ℕ) (old new : Life) → CoversThrough sum P content old new → KeepsStarted sum P s content old new
keeps_started sum P s content old new covers = λ n name would.
    through_then (CoversStay sum P content old.present) (WouldBeDurable sum P s content n name) old new
    (λ d stay. record { within = would.within; keeps = stay name (n * s) would.within would.keeps }) covers

-- what a started sync would make durable of some items it would make durable of these and more
pub would_longer : (sum : List ℕ → ℕ) (P s : ℕ) (content more : List ℕ) (n name : ℕ) (d : Disk) → WouldBeDurable sum P s content n name d → WouldBeDurable sum P s (content ++ more) n name d
would_longer sum P s content more n name d would = record {
  within = omega (arith, would.within, length-append content more);
  keeps = record {
    covers = would.keeps.covers;
    named = would.keeps.named;
    keeps = keeps_same sum P content (content ++ more) (n * s) (disk_settled_to would.keeps.covers d) (sym (take-append-le (n * s) content more would.within)) would.keeps.keeps;
  };
}
