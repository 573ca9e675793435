-- Atoms that are filed under their hashes.
use Rattle.std.specs.Prelude.{◌≡◌, true, nat_eq, List, is_some}
use Rattle.std.specs.List.{AllByRecursion}
use Rattle.std.specs.HashMap.{get}
use Rattle.spl_terms.specs.declared.atom.Atom.{Atom}
use Rattle.spl_terms.specs.Hashes.{atom_hash, Places}

-- each atom has a place under its hash
abbrev pub AllFiled : Places → List Atom → Type 0
AllFiled places = AllByRecursion (λ a. is_some (get nat_eq places (atom_hash a)) ≡ true)
