-- Names in a list that is empty, or has one more name.
use Rattle.std.proofs.Common.{◌≡◌, true, ◌&&◌, List, [], ◌∷◌, ◌++◌, ap, ◌∙◌}
use Rattle.std.proofs.lemmas.Bool.{and_parts}
use Rattle.std.specs.List.{list_all}
use Rattle.std.proofs.lemmas.Option.{none-some}
use Rattle.dfg_tokens.specs.Names.{is_name}
use Rattle.spl_symbols.specs.Symbols.{Declared, HasOwnNames, AreNamed}

pub no_names : HasOwnNames []
no_names i d e = absurd (none-some d e)

-- one more name that may be one
pub one_more_named : (ds : List Declared) (d : Declared) → AreNamed ds → is_name d.name ≡ true → AreNamed (ds ++ d ∷ [])
one_more_named [] d all e = ap (λ b. b && true) e
one_more_named (x ∷ ds) d all e =
    let rest = and_parts (is_name x.name) (list_all (λ y. is_name y.name) ds) all in
    ap (λ b. b && list_all (λ y. is_name y.name) (ds ++ d ∷ [])) rest.0 ∙ one_more_named ds d rest.1 e
