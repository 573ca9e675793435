use Rattle.std.proofs.Common.{◌≡◌, ◌<◌, ◌∙◌, sym, ap, subst, arith, List, None, length, length-append, [], ◌∷◌}
use Rattle.spl_symbols.specs.Symbols.{Declared, declared, found, HasOwnNames}
use Rattle.spl_symbols.proofs.Found.{length-entries}
use Rattle.std.specs.List.{list_all}
use Rattle.dfg_tokens.specs.Names.{is_name}
use Rattle.spl_symbols.specs.NameLaws.{one_more_name}
use Rattle.spl_symbols.proofs.OwnNames.{one_more_named}
use Rattle.spl_symbols.proofs.table.Signature.declare.Goals as goal
use Rattle.spl_symbols.proofs.table.Signature.declare.Goals.{in-Ok, in-Err}

pub invariant_of-self : goal.invariant_of-self
invariant_of-self c =
    let old = c.self.inside.names.entries in
    let new = c.insert_new.new.names.entries in
    let more : Declared = record { name = c.args.name.now; arity = c.args.arity; kind = c.args.kind } in
    let room : length (declared old) < 65536 = omega (arith, ap length c.self.view_is) in
    let none : found c.args.name.now (declared old) ≡ None = ap (found c.args.name.now) c.self.view_is ∙ sym c.find.ensures ∙ c.in_default.is in
    elim c.match-insert_new.branch [
      | in-Ok w ↦ (
        omega (arith, length-entries new, ap length w.in-Ok.ensures.ok, length-append (declared old) (more ∷ []), room),
        subst (λ (ds : List Declared). HasOwnNames ds) (sym w.in-Ok.ensures.ok) (one_more_name (declared old) more c.self.invariant.1 none),
        ap (list_all (λ d. is_name d.name)) w.in-Ok.ensures.ok ∙ one_more_named (declared old) more c.self.invariant.2 c.requires,
      )
      | in-Err w ↦ (
        omega (arith, length-entries new, ap length w.in-Err.ensures.err, room),
        subst (λ (ds : List Declared). HasOwnNames ds) (sym w.in-Err.ensures.err) c.self.invariant.1,
        ap (list_all (λ d. is_name d.name)) w.in-Err.ensures.err ∙ c.self.invariant.2,
      )
    ]
