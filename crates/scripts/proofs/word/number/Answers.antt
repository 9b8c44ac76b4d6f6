use Rattle.std.proofs.Common.{rules, subst}
use Rattle.std.specs.Str.Parse.{ParsesUnsigned}
use Rattle.scripts.proofs.Numbers.{decimal-no_lead, decimal-text, parsed-is_decimal, unparsed-is_no_decimal}
use Rattle.scripts.proofs.word.number.Goals as goal

pub returns-then-has_lead-clause-none : goal.returns-then-has_lead-clause-none
returns-then-has_lead-clause-none c = λ n small same. decimal-no_lead _ n small same (c.has_lead.ensures.0 c.if-has_lead.true)

pub returns-in-Ok-clause-value : goal.returns-in-Ok-clause-value
returns-in-Ok-clause-value c =
    let parses = subst (λ word. ParsesUnsigned 64 10 word c.parse.result) c.in-Ok.ensures.cases.0 c.parse.ensures.value.0 in
    rw c.ok.ensures.value (parsed-is_decimal _ c.parse.result parses (search rules))

pub returns-in-Ok-clause-none : goal.returns-in-Ok-clause-none
returns-in-Ok-clause-none c =
    let parses = subst (λ word. ParsesUnsigned 64 10 word c.parse.result) c.in-Ok.ensures.cases.0 c.parse.ensures.value.0 in
    rw c.ok.ensures.value (unparsed-is_no_decimal _ c.parse.result parses)

pub returns-in-Err-clause-none : goal.returns-in-Err-clause-none
returns-in-Err-clause-none c = λ n small same. c.in-Err.ensures.cases.0 (decimal-text _ n small same)
