use Rattle.std.proofs.Common.{rules}
use Rattle.scripts.proofs.Ranges.{IsFirstColon, offset-unread, length-unread, no_colon-unread, passed-on}
use Rattle.scripts.specs.Script.{IsRangeOfU64, range_word}
use Rattle.scripts.proofs.word.parse_range.Goals as goal

pub returns-in_err-offset : goal.returns-in_err-offset
returns-in_err-offset c =
    let first : IsFirstColon c.args.word.now c.in-Some.colon = (search rules, search rules, λ k below same. search rules) in
    record { reads = passed-on range_word IsRangeOfU64 _ _ _ c.from_residual.ensures.1 (offset-unread _ _ _ first c.in_err-offset.ensures.reads) }

pub returns-in_err-len : goal.returns-in_err-len
returns-in_err-len c =
    let first : IsFirstColon c.args.word.now c.in-Some.colon = (search rules, search rules, λ k below same. search rules) in
    record { reads = passed-on range_word IsRangeOfU64 _ _ _ c.from_residual-in_err-len.ensures.1 (length-unread _ _ _ first c.in_err-len.ensures.reads) }

pub returns-in_default : goal.returns-in_default
returns-in_default c = record { reads = no_colon-unread c.args.word.now (λ k below same. search rules) }
