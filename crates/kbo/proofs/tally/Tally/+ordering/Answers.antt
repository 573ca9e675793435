use Rattle.std.proofs.Common.{◌-◌, nat_lt, length, take, drop, arith}
use Rattle.std.specs.List.{flat_map}
use Rattle.spl_terms.specs.Terms.{term_variables}
use Rattle.spl_terms.specs.SizeLaws.{few_in_terms}
use Rattle.kbo.proofs.CompareLemmas.{is_compared, is_equal_below, variable_compared, compared_with_variable, variables_compared, first_decides_lists}
use Rattle.kbo.proofs.TallyLemmas.{put_before, deficit_test, surplus_test, told_known, known_before}
use Rattle.kbo.proofs.OrderingLemmas.{opened, more_counted, tally_lists, tally_terms, room_in}
use Rattle.kbo.proofs.tally.Tally.+ordering.Goals as goal

pub order_applications-returns-clause-order : goal.order_applications-returns-clause-order
order_applications-returns-clause-order g t c known =
    let self = c.order_below-lower.new.self in
    let tally = c.order_below-lower.ensures.tally in
    is_compared c.args.symbol c.args.args.now c.args.head c.args.others.now _ _ _ _ _ c.judge.ensures
    (told_known self.beyond (nat_lt 64 g.row.N) _ self.deficit known (λ h. deficit_test g.row.N _ _ _ _ _ _ _ _ tally self.size_is h _ self.deficit_is))
    (told_known self.beyond (nat_lt 64 g.row.N) _ self.surplus known (λ h. surplus_test g.row.N _ _ _ _ _ _ _ _ tally self.size_is h _ self.surplus_is))
    c.compare_heads-heads.ensures (c.order_below-lower.ensures.order known)

pub order_applications-returns-clause-even : goal.order_applications-returns-clause-even
order_applications-returns-clause-even g t c e = c.order_below-lower.ensures.even (is_equal_below c.args.symbol c.args.args.now c.args.head c.args.others.now _ _ c.compare_heads-heads.result _ _ c.judge.ensures e)

pub order_lists-returns-in-Equal-clause-tally : goal.order_lists-returns-in-Equal-clause-tally
order_lists-returns-in-Equal-clause-tally g t c =
    let ss = c.args.terms.now in
    let ts = c.args.others.now in
    tally_lists g.row.N _ _ _ _ ss ts c.first-item.result c.other-item.result (take (length ss - 1) (drop 1 ss)) (take (length ts - 1) (drop 1 ts))
    (opened ss _ (omega arith) c.first-item.is) (opened ts _ (omega arith) c.other-item.is)
    (put_before g.row.N _ _ _ _ _ _ _ _ c.order_terms.ensures.tally (c.order_terms.ensures.even c.in-Equal.is) _ _ _ _ _ _ _ _ c.order_lists.ensures.tally)

pub order_lists-returns-in_default : goal.order_lists-returns-in_default
order_lists-returns-in_default g t c =
    let ss = c.args.terms.now in
    let ts = c.args.others.now in
    let rest = take (length ss - 1) (drop 1 ss) in
    let more = take (length ts - 1) (drop 1 ts) in
    let e = opened ss c.first-item.result (omega arith) c.first-item.is in
    let h = opened ts c.other-item.result (omega arith) c.other-item.is in
    record {
      order = λ known. first_decides_lists ss ts c.first-item.result c.other-item.result rest more _ e h (c.order_terms.ensures.order (known_before g.row.N (nat_lt 64 g.row.N) _ _ _ (flat_map term_variables rest) (flat_map term_variables more) c.count_all.ensures.beyond c.count_all-in_default.ensures.beyond known)) c.in_default.not-Equal;
      even = λ k. elim (c.in_default.not-Equal k) [ ];
      tally =
          tally_lists g.row.N _ _ _ _ ss ts c.first-item.result c.other-item.result rest more e h
          (more_counted g.row.N _ _ _ _ _ _ _ _ c.order_terms.ensures.tally c.order_terms.new.self.size_is _ _ _ _
          (few_in_terms rest) (few_in_terms more) (room_in c.other-item.result more ts h c.requires.others_size)
          _ _ _ _ c.count_all.new.self.size_is c.count_all.ensures.balances c.count_all.ensures.beyond c.count_all.ensures.left c.count_all.ensures.right
          _ _ _ _ c.count_all-in_default.ensures.balances c.count_all-in_default.ensures.beyond c.count_all-in_default.ensures.left c.count_all-in_default.ensures.right);
    }

pub order_terms-returns-in-App-App-clause-tally : goal.order_terms-returns-in-App-App-clause-tally
order_terms-returns-in-App-App-clause-tally g t c = tally_terms g.row.N _ _ _ _ c.in-App-App.symbol c.in-App-App.head c.in-App-App.args c.in-App-App.others _ _ _ _ c.in-App-App.is-0 c.in-App-App.is-1 c.as_slice.ensures c.as_slice-in-App-App.ensures c.order_applications.ensures.tally

pub order_terms-returns-in-App-Var-clause-order : goal.order_terms-returns-in-App-Var-clause-order
order_terms-returns-in-App-Var-clause-order g t c known = compared_with_variable c.in-App-Var.variable c.in-App-Var.field-0-0 c.in-App-Var.args _ _ _ _ c.as_slice-in-App-Var.ensures c.in-App-Var.is-0 c.in-App-Var.is-1 c.compare_with_variable.ensures

pub order_terms-returns-else-variable-second-clause-order : goal.order_terms-returns-else-variable-second-clause-order
order_terms-returns-else-variable-second-clause-order g t c known = variables_compared c.in-Var-Var.variable c.in-Var-Var.second _ _ c.in-Var-Var.is-0 c.in-Var-Var.is-1 c.if-variable-second.false

pub order_terms-returns-in-Var-App-clause-order : goal.order_terms-returns-in-Var-App-clause-order
order_terms-returns-in-Var-App-clause-order g t c known = variable_compared c.in-Var-App.variable c.in-Var-App.field-0-1 c.in-Var-App.others _ _ _ _ c.as_slice-in-Var-App.ensures c.in-Var-App.is-0 c.in-Var-App.is-1 c.compare_variable.ensures
