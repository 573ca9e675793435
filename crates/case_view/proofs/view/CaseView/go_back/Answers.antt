use Rattle.std.proofs.Common.{◌≡◌, refl, sym, ap, subst}
use Rattle.case_view.specs.declared.kept.Case.{Case}
use Rattle.case_view.specs.Views.{IsOrdered}
use Rattle.case_view.specs.Marks.{HasGrown}
use Rattle.case_view.proofs.Backward.{IsCut, went_back, filed_back, under_back}
use Rattle.case_view.proofs.view.CaseView.go_back.Goals as goal

pub invariant_of-self : goal.invariant_of-self
invariant_of-self c =
    let mark = c.args.mark in
    let v = c.requires.0 in
    let m = c.requires.1 in
    let w = c.self.inside.case in
    let same : w ≡ c.args.self.now = c.self.view_is in
    let g = subst (HasGrown v) (sym same) c.requires.2 in
    let now : Case = record {
      worker = w.worker;
      node = mark.node;
      events = mark.events;
      base = mark.base;
      splits = mark.splits;
      nodes = c.truncate.new.self;
      path = c.truncate-2.new.self;
      given = mark.given;
      worked = c.truncate-3.new.self;
      listed = c.truncate-4.new.self;
    } in
    let cut : IsCut mark w now = record {
      worker = refl;
      node = refl;
      events = refl;
      base = refl;
      splits = refl;
      given = refl;
      nodes = c.truncate.ensures;
      path = c.truncate-2.ensures;
      worked = c.truncate-3.ensures;
      listed = c.truncate-4.ensures;
    } in
    let back : now ≡ v = went_back mark v w now m g cut in
    record {
      ordered = subst IsOrdered (sym back) m.ordered;
      clauses = filed_back mark.listed v.listed w.listed now.listed c.self.inside.clauses c.drop_from.new.self m.listed g.listed (ap (λ x. x.listed) back) c.self.invariant.clauses c.drop_from.ensures;
      literals = under_back mark.worked v.worked w.worked now.worked c.self.inside.literals c.drop_from-2.new.self m.worked g.worked (ap (λ x. x.worked) back) c.self.invariant.literals c.drop_from-2.ensures;
    }
