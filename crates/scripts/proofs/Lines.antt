-- Lines as words.
use Rattle.std.proofs.Common.{◌≡◌, ◌≢◌, ◌<◌, ◌==◌, ℕ, List, [], ◌∷◌, length, map, vec_len, codes, Result, Ok, Err, Vec, Global, Bor, ap, arith}
use Rattle.std.specs.Prelude.{IfOk}
use Rattle.std.proofs.lemmas.List.{length-map}
use Rattle.std.proofs.lemmas.List.Splits.{length-slice_split}
use Rattle.scripts.specs.declared.script.Line.{Line}
use Rattle.scripts.specs.declared.script.Line.TheVariants.{Step, Fail, Crash, Recover, Dump}
use Rattle.session.specs.declared.steps.Step.TheVariants.{Append, Owned, TryAppend, Sync, StartSync, Wait, WaitSync, Needs, Size, Read, ReadUpTo, TryRead, ReadRanges, TryReadRanges, Begin, Truncate, Snapshot, TrySnapshot, Snap, Replay, Ensure, Take, Seek, DropSnapshot, DropReplay, Scan, Seal}
use Rattle.scripts.specs.Script.{IsLine, AreRangesOfU64, line_words, parts_of, ranges_words}

-- the name of ranges isn't all of a line
no_name_alone : (ranges : List (ℕ × ℕ)) (name other : List ℕ) → AreRangesOfU64 ranges → name ∷ [] ≢ other ∷ ranges_words ranges
no_name_alone [] name other are same = absurd (omega (arith, are.0))
no_name_alone (range ∷ ranges) name other are same = cc

-- a line of one word is one of these
pub no_one_word : (name : List ℕ) → name ≢ codes "sync" → name ≢ codes "start-sync" → name ≢ codes "wait" → name ≢ codes "needs" → name ≢ codes "size" → name ≢ codes "begin" → name ≢ codes "recover" → name ≢ codes "dump"
    → name ≢ codes "snapshot" → name ≢ codes "try-snapshot" → name ≢ codes "seal" → (v : Line) → IsLine v → name ∷ [] ≢ line_words v
no_one_word name a b c d e f g h i j k (Step Sync) is same = a cc
no_one_word name a b c d e f g h i j k (Step StartSync) is same = b cc
no_one_word name a b c d e f g h i j k (Step Wait) is same = c cc
no_one_word name a b c d e f g h i j k (Step Needs) is same = d cc
no_one_word name a b c d e f g h i j k (Step Size) is same = e cc
no_one_word name a b c d e f g h i j k (Step Begin) is same = f cc
no_one_word name a b c d e f g h i j k Recover is same = g cc
no_one_word name a b c d e f g h i j k Dump is same = h cc
no_one_word name a b c d e f g h i j k (Step Snapshot) is same = i cc
no_one_word name a b c d e f g h i j k (Step TrySnapshot) is same = j cc
no_one_word name a b c d e f g h i j k (Step (Replay size)) is same = cc
no_one_word name a b c d e f g h i j k (Step (Ensure index count)) is same = cc
no_one_word name a b c d e f g h i j k (Step (Take index count)) is same = cc
no_one_word name a b c d e f g h i j k (Step (Seek index offset)) is same = cc
no_one_word name a b c d e f g h i j k (Step (Scan proven most size)) is same = cc
no_one_word name a b c d e f g h i j k (Step Seal) is same = k cc
no_one_word name a b c d e f g h i j k (Step (DropSnapshot index)) is same = absurd is
no_one_word name a b c d e f g h i j k (Step (DropReplay index)) is same = absurd is
no_one_word name a b c d e f g h i j k (Step (Append bytes)) is same = cc
no_one_word name a b c d e f g h i j k (Step (Owned bytes)) is same = cc
no_one_word name a b c d e f g h i j k (Step (TryAppend bytes)) is same = cc
no_one_word name a b c d e f g h i j k (Step (WaitSync n)) is same = cc
no_one_word name a b c d e f g h i j k (Step (Truncate n)) is same = cc
no_one_word name a b c d e f g h i j k (Fail n) is same = cc
no_one_word name a b c d e f g h i j k (Crash keep) is same = cc
no_one_word name a b c d e f g h i j k (Step (Read offset len)) is same = cc
no_one_word name a b c d e f g h i j k (Step (ReadUpTo offset len)) is same = cc
no_one_word name a b c d e f g h i j k (Step (TryRead offset len)) is same = cc
no_one_word name a b c d e f g h i j k (Step (Snap index offset len)) is same = cc
no_one_word name a b c d e f g h i j k (Step (ReadRanges ranges)) is same = no_name_alone ranges.items _ _ is same
no_one_word name a b c d e f g h i j k (Step (TryReadRanges ranges)) is same = no_name_alone ranges.items _ _ is same

-- a line of two words begins with one of these
pub no_two_words : (name word : List ℕ) → name ≢ codes "ranges" → name ≢ codes "cached-ranges" → name ≢ codes "append" → name ≢ codes "owned" → name ≢ codes "try" → name ≢ codes "wait-sync" → name ≢ codes "truncate" → name ≢ codes "fail" → name ≢ codes "crash" → name ≢ codes "replay"
    → (v : Line) → IsLine v → name ∷ word ∷ [] ≢ line_words v
no_two_words name word x y a b c d e f g h (Step (Append bytes)) is same = a cc
no_two_words name word x y a b c d e f g h (Step (Owned bytes)) is same = b cc
no_two_words name word x y a b c d e f g h (Step (TryAppend bytes)) is same = c cc
no_two_words name word x y a b c d e f g h (Step (WaitSync n)) is same = d cc
no_two_words name word x y a b c d e f g h (Step (Truncate n)) is same = e cc
no_two_words name word x y a b c d e f g h (Fail n) is same = f cc
no_two_words name word x y a b c d e f g h (Crash keep) is same = g cc
no_two_words name word x y a b c d e f g h (Step Sync) is same = cc
no_two_words name word x y a b c d e f g h (Step StartSync) is same = cc
no_two_words name word x y a b c d e f g h (Step Wait) is same = cc
no_two_words name word x y a b c d e f g h (Step Needs) is same = cc
no_two_words name word x y a b c d e f g h (Step Size) is same = cc
no_two_words name word x y a b c d e f g h (Step Begin) is same = cc
no_two_words name word x y a b c d e f g h Recover is same = cc
no_two_words name word x y a b c d e f g h Dump is same = cc
no_two_words name word x y a b c d e f g h (Step (Read offset len)) is same = cc
no_two_words name word x y a b c d e f g h (Step (ReadUpTo offset len)) is same = cc
no_two_words name word x y a b c d e f g h (Step (TryRead offset len)) is same = cc
no_two_words name word x y a b c d e f g h (Step (ReadRanges ranges)) is same = x cc
no_two_words name word x y a b c d e f g h (Step (TryReadRanges ranges)) is same = y cc
no_two_words name word x y a b c d e f g h (Step Snapshot) is same = cc
no_two_words name word x y a b c d e f g h (Step TrySnapshot) is same = cc
no_two_words name word x y a b c d e f g h (Step (Snap index offset len)) is same = cc
no_two_words name word x y a b c d e f g h (Step (Replay size)) is same = h cc
no_two_words name word x y a b c d e f g h (Step (Ensure index count)) is same = cc
no_two_words name word x y a b c d e f g h (Step (Take index count)) is same = cc
no_two_words name word x y a b c d e f g h (Step (Seek index offset)) is same = cc
no_two_words name word x y a b c d e f g h (Step (Scan proven most size)) is same = cc
no_two_words name word x y a b c d e f g h (Step Seal) is same = cc
no_two_words name word x y a b c d e f g h (Step (DropSnapshot index)) is same = absurd is
no_two_words name word x y a b c d e f g h (Step (DropReplay index)) is same = absurd is

-- a line of three words begins with one of these
pub no_three_words : (name first second : List ℕ) → name ≢ codes "ranges" → name ≢ codes "cached-ranges" → name ≢ codes "read" → name ≢ codes "upto" → name ≢ codes "cached" → name ≢ codes "ensure" → name ≢ codes "take" → name ≢ codes "seek"
    → (v : Line) → IsLine v → name ∷ first ∷ second ∷ [] ≢ line_words v
no_three_words name first second x y a b c d e f (Step (Read offset len)) is same = a cc
no_three_words name first second x y a b c d e f (Step (ReadUpTo offset len)) is same = b cc
no_three_words name first second x y a b c d e f (Step (TryRead offset len)) is same = c cc
no_three_words name first second x y a b c d e f (Step (ReadRanges ranges)) is same = x cc
no_three_words name first second x y a b c d e f (Step (TryReadRanges ranges)) is same = y cc
no_three_words name first second x y a b c d e f (Step (Append bytes)) is same = cc
no_three_words name first second x y a b c d e f (Step (Owned bytes)) is same = cc
no_three_words name first second x y a b c d e f (Step (TryAppend bytes)) is same = cc
no_three_words name first second x y a b c d e f (Step (WaitSync n)) is same = cc
no_three_words name first second x y a b c d e f (Step (Truncate n)) is same = cc
no_three_words name first second x y a b c d e f (Fail n) is same = cc
no_three_words name first second x y a b c d e f (Crash keep) is same = cc
no_three_words name first second x y a b c d e f (Step Sync) is same = cc
no_three_words name first second x y a b c d e f (Step StartSync) is same = cc
no_three_words name first second x y a b c d e f (Step Wait) is same = cc
no_three_words name first second x y a b c d e f (Step Needs) is same = cc
no_three_words name first second x y a b c d e f (Step Size) is same = cc
no_three_words name first second x y a b c d e f (Step Begin) is same = cc
no_three_words name first second x y a b c d e f Recover is same = cc
no_three_words name first second x y a b c d e f Dump is same = cc
no_three_words name first second x y a b c d e f (Step Snapshot) is same = cc
no_three_words name first second x y a b c d e f (Step TrySnapshot) is same = cc
no_three_words name first second x y a b c d e f (Step (Snap index offset len)) is same = cc
no_three_words name first second x y a b c d e f (Step (Replay size)) is same = cc
no_three_words name first second x y a b c d e f (Step (Ensure index count)) is same = d cc
no_three_words name first second x y a b c d e f (Step (Take index count)) is same = e cc
no_three_words name first second x y a b c d e f (Step (Seek index offset)) is same = f cc
no_three_words name first second x y a b c d e f (Step (Scan proven most size)) is same = cc
no_three_words name first second x y a b c d e f (Step Seal) is same = cc
no_three_words name first second x y a b c d e f (Step (DropSnapshot index)) is same = absurd is
no_three_words name first second x y a b c d e f (Step (DropReplay index)) is same = absurd is

-- a line of four words begins with one of these
pub no_four_words : (name first second third : List ℕ) → name ≢ codes "ranges" → name ≢ codes "cached-ranges" → name ≢ codes "snap" → name ≢ codes "scan" → (v : Line) → IsLine v → name ∷ first ∷ second ∷ third ∷ [] ≢ line_words v
no_four_words name first second third x y a b (Step (Snap index offset len)) is same = a cc
no_four_words name first second third x y a b (Step (ReadRanges ranges)) is same = x cc
no_four_words name first second third x y a b (Step (TryReadRanges ranges)) is same = y cc
no_four_words name first second third x y a b (Step (Append bytes)) is same = cc
no_four_words name first second third x y a b (Step (Owned bytes)) is same = cc
no_four_words name first second third x y a b (Step (TryAppend bytes)) is same = cc
no_four_words name first second third x y a b (Step (WaitSync n)) is same = cc
no_four_words name first second third x y a b (Step (Truncate n)) is same = cc
no_four_words name first second third x y a b (Fail n) is same = cc
no_four_words name first second third x y a b (Crash keep) is same = cc
no_four_words name first second third x y a b (Step (Read offset len)) is same = cc
no_four_words name first second third x y a b (Step (ReadUpTo offset len)) is same = cc
no_four_words name first second third x y a b (Step (TryRead offset len)) is same = cc
no_four_words name first second third x y a b (Step Sync) is same = cc
no_four_words name first second third x y a b (Step StartSync) is same = cc
no_four_words name first second third x y a b (Step Wait) is same = cc
no_four_words name first second third x y a b (Step Needs) is same = cc
no_four_words name first second third x y a b (Step Size) is same = cc
no_four_words name first second third x y a b (Step Begin) is same = cc
no_four_words name first second third x y a b (Step Snapshot) is same = cc
no_four_words name first second third x y a b (Step TrySnapshot) is same = cc
no_four_words name first second third x y a b (Step (Replay size)) is same = cc
no_four_words name first second third x y a b (Step (Ensure index count)) is same = cc
no_four_words name first second third x y a b (Step (Take index count)) is same = cc
no_four_words name first second third x y a b (Step (Seek index offset)) is same = cc
no_four_words name first second third x y a b (Step (Scan proven most size)) is same = b cc
no_four_words name first second third x y a b (Step Seal) is same = cc
no_four_words name first second third x y a b (Step (DropSnapshot index)) is same = absurd is
no_four_words name first second third x y a b (Step (DropReplay index)) is same = absurd is
no_four_words name first second third x y a b Recover is same = cc
no_four_words name first second third x y a b Dump is same = cc

-- there is a part, if only an empty one
pub some_parts : {E : Type 0} (at : ℕ) (bytes : List ℕ) (r : Result (Vec (Bor (List ℕ)) Global) E) → IfOk r (λ parts. map (λ part. part.now) parts.items ≡ parts_of at bytes) → IfOk r (λ parts. 0 < vec_len parts)
some_parts at bytes (Ok parts) are =
    let counted = ap (λ (l : List (List ℕ)). length l) are in
    omega (arith, length-map parts.items (λ (part : Bor (List ℕ)). part.now), length-slice_split (λ byte. byte == at) bytes, counted, parts.ok.0)
some_parts at bytes (Err e) are = tt
