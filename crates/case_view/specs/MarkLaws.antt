-- Laws with their proofs, not definitions that a reader must believe: a view that grows twice has grown.
use Rattle.std.proofs.Common.{List, [], ◌++◌, sym, ap, ◌∙◌, refl, append_assoc}
use Rattle.std.proofs.lemmas.List.{append-nil}
use Rattle.case_view.specs.declared.kept.Case.{Case}
use Rattle.case_view.specs.Marks.{Begins, HasGrown}

pub begins_self : {A : Type 0} (list : List A) → Begins list list
begins_self list = ([], sym (append-nil list))

pub begins_more : {A : Type 0} (a b c : List A) → Begins a b → Begins b c → Begins a c
begins_more a b c f g = (f.0 ++ g.0, g.1 ∙ (ap (λ xs. xs ++ g.0) f.1 ∙ append_assoc a f.0 g.0))

pub grown_self : (v : Case) → HasGrown v v
grown_self v = record {
  worker = refl;
  nodes = begins_self v.nodes;
  path = begins_self v.path;
  worked = begins_self v.worked;
  listed = begins_self v.listed;
}

pub grown_more : (a b c : Case) → HasGrown a b → HasGrown b c → HasGrown a c
grown_more a b c f g = record {
  worker = g.worker ∙ f.worker;
  nodes = begins_more a.nodes b.nodes c.nodes f.nodes g.nodes;
  path = begins_more a.path b.path c.path f.path g.path;
  worked = begins_more a.worked b.worked c.worked f.worked g.worked;
  listed = begins_more a.listed b.listed c.listed f.listed g.listed;
}
