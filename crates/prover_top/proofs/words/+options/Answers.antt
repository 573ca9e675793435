use Rattle.std.proofs.Common.{sym, ◌∙◌}
use Rattle.prover_top.proofs.WordLemmas.{options_at}
use Rattle.prover_top.proofs.words.+options.Goals as goal

pub returns-in-Some : goal.returns-in-Some
returns-in-Some t c =
    options_at c.args.given c.in-Some.next c.args.words.now c.option-item.result c.value-item.result c.as_str.result.now c.as_str-in-len1-up-rest.result.now c.options.result
    c.in-len1-up.len_at_least c.in-len1-up-rest.len_at_least c.option-item.is c.value-item.is c.as_str.ensures.value c.as_str-in-len1-up-rest.ensures.value (sym c.with_option.ensures ∙ c.in-Some.is) c.options.ensures
